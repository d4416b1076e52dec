-- Digests (docs/CONFORMANCE.md, "Numbers" and "What is lent").
use Rattle.std.specs.Prelude.{ℕ, ◌+◌, ◌*◌, ◌/◌, ◌%◌, List, [], ◌∷◌, ◌++◌}
use Rattle.machine.specs.declared.State.{State}
use Rattle.player.specs.declared.lent.Lent.{Lent}

-- taking in x (under 2^32) makes h into (h · 16,777,619 + x + 1) mod 2^32
abbrev pub taken_in : ℕ → ℕ → ℕ
taken_in h x = (h * 16777619 + x + 1) % 4294967296

-- h, with each number of a list taken in
abbrev pub digest_from : ℕ → List ℕ → ℕ
digest_from h [] = h
digest_from h (x ∷ xs) = digest_from (taken_in h x) xs

-- of every place of the log the value mod 2^32, then the value / 2^32
abbrev pub halves : List ℕ → List ℕ
halves [] = []
halves (x ∷ xs) = x % 4294967296 ∷ x / 4294967296 ∷ halves xs

-- R0 to R7, PC, n
abbrev pub state_numbers : State → List ℕ
state_numbers state = state.r ++ state.pc ∷ state.n ∷ []

-- every byte of program, then of memory; every word of inputs, then of outputs; of every place of the log its halves
abbrev pub lent_numbers : List ℕ → List ℕ → List ℕ → List ℕ → List ℕ → List ℕ
lent_numbers program memory inputs outputs log = program ++ memory ++ inputs ++ outputs ++ halves log

-- The digest of what is left takes in the numbers of the state, then those of what is lent.
abbrev pub digest_of_left : State → Lent → ℕ
digest_of_left state lent =
    digest_from 0 (state_numbers state ++ lent_numbers lent.program lent.memory lent.inputs lent.outputs lent.log)
