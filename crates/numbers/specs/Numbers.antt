-- The pseudo-random numbers (docs/CONFORMANCE.md, "Numbers").
use Rattle.std.specs.Prelude.{ℕ, ◌+◌, ◌*◌, ◌/◌, ◌%◌}
use Rattle.std.specs.Int.Bits.{bit_xor}

-- u, from t
abbrev pub mixed : ℕ → ℕ
mixed t = bit_xor t (t / 65536)

-- number(c, k)
unfoldable pub number_of : ℕ → ℕ → ℕ
number_of c k = mixed (((c * 65536 + k) * 2654435761 + 97) % 4294967296) * 73244475 % 4294967296 / 65536
