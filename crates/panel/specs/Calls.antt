-- What setting an input, raising a line and the window reply and leave, of what they are given (01, "Set", "The window", "Refusal table").
use Rattle.std.specs.Prelude.{ℕ, zero, suc, ◌+◌, Bool, false, ◌&&◌, ◌||◌, List, [], eqb, leb, ltb, length, set, take, drop}
use Rattle.refusal.specs.Refusals.{Verdict, accepted, refused}
use Rattle.word.specs.Word.{pick}
use Rattle.machine.specs.declared.State.{State}
use Rattle.machine.specs.Machine.{with_line, put_pending, is_locked}

-- ---- Setting an input

pub record SetGiven : Type 0 where
  pub I : List ℕ
  pub port : ℕ
  pub value : ℕ

pub record SetLeft : Type 0 where
  pub reply : Verdict
  pub I : List ℕ

-- Set (p, v): I[p] becomes v. 1: I not 256 words (set looks at I only).
unfoldable pub set_left : SetGiven → SetLeft
set_left g =
    pick (eqb (length g.I) 256)
    (record { reply = accepted; I = set g.I g.port g.value })
    (record { reply = refused 1; I = g.I })

-- ---- Raising a line (02, L12)

pub record RaiseLeft : Type 0 where
  pub reply : Verdict
  pub state : State

-- Raising a line sets its bit. 16: line over 7; then the state is as handed.
unfoldable pub raise_left : State → ℕ → RaiseLeft
raise_left s line =
    pick (ltb line 8)
    (record { reply = accepted; state = put_pending (with_line line s.pending) s })
    (record { reply = refused 16; state = s })

-- ---- The window

-- A part of the program or of the data memory, as chosen, by start and length: exactly those bytes, or the empty part
-- where the window's end is beyond the memory lent.
abbrev pub part_of : List ℕ → ℕ → ℕ → List ℕ
part_of M start count = pick (leb (start + count) (length M)) (take count (drop start M)) []

-- one of the `count` bytes from `start` on is locked (02, L14)
unfoldable pub holds_locked : State → ℕ → ℕ → Bool
holds_locked s start zero = false
holds_locked s start (suc count) = is_locked start s || holds_locked s (suc start) count

-- It also gets the state, and gives a data span holding a locked byte as the empty part.
unfoldable pub window_of : State → List ℕ → List ℕ → Bool → ℕ → ℕ → List ℕ
window_of s P D ofData start count = pick (ofData && holds_locked s start count) [] (part_of (pick ofData D P) start count)
