-- A run (01, "Runs"), over what steps the machine and what writes a port.
use Rattle.std.specs.Prelude.{ℕ, zero, suc, ◌+◌, Bool, true, false, not, ◌&&◌, List, [], ◌∷◌, eqb, leb, length}
use Rattle.word.specs.Fields.{opcode, e_of}
use Rattle.machine.specs.Machine.{Machine, takes_line}
use Rattle.machine.specs.Step.{Next, cannot, to, fetched, step}

-- What a run goes by: what a machine steps to, and whether that step writes a port.
pub record Stepper : Type 0 where
  pub steps : Machine → Next
  pub port_write : Machine → Bool

-- w is OUT
abbrev pub is_out : ℕ → Bool
is_out w = eqb (opcode w) 10 && eqb (e_of w) 1

-- m fetches a word of which the test holds. A machine that takes a line (02, L12) fetches nothing: it writes no port. (A fetch that touches a
-- locked byte is the step's own test, which comes first.)
abbrev pub fetches_a : (ℕ → Bool) → Machine → Bool
fetches_a test m = not (takes_line m.state) && test (fetched m)

-- by the rules, as the plain machine goes
abbrev pub by_rules : Stepper
by_rules = record { steps = step; port_write = fetches_a is_out }

-- the step writes a port (the word is OUT), and L, which may grow to `full` entries, has no free place
unfoldable pub no_place_at : Stepper → ℕ → Machine → Bool
no_place_at v full m = v.port_write m && leb full (length m.L)

-- a step that has no place for its log entry can't be made, stop 2; where the machine can't step anyway, that reason comes first
abbrev pub unless : Bool → Next → Next
unless full (cannot q) = cannot q
unless true (to next) = cannot 2
unless false (to next) = to next

-- why a run stopped, and the machine it left
pub record Outcome : Type 0 where
  pub reason : ℕ
  pub after : Machine

-- Before each step, in this order: budget used, stop 0; the fetch touches a locked byte, stop 4; word unassigned, stop 1; the divisor is zero,
-- stop 3; a load or store touches a locked byte, stop 4; word is OUT and the log has no free place, stop 2. (A line that is taken has none but the first.)
unfoldable pub run_from : Stepper → ℕ → ℕ → Machine → Outcome
run_from v zero full m = record { reason = 0; after = m }
run_from v (suc budget) full m =
    elim (unless (no_place_at v full m) (v.steps m)) [
      | cannot q ↦ record { reason = q; after = m }
      | to next ↦ run_from v budget full next
    ]

-- a run with a budget and a log of so many places
abbrev pub run : Stepper → ℕ → ℕ → Machine → Outcome
run v budget places m = run_from v budget (length m.L + places) m

-- ---- The trace of a run: the machines before each step that it takes

unfoldable pub trace_from : Stepper → ℕ → ℕ → Machine → List Machine
trace_from v zero full m = []
trace_from v (suc budget) full m =
    elim (unless (no_place_at v full m) (v.steps m)) [
      | cannot q ↦ []
      | to next ↦ m ∷ trace_from v budget full next
    ]

abbrev pub trace : Stepper → ℕ → ℕ → Machine → List Machine
trace v budget places m = trace_from v budget (length m.L + places) m
