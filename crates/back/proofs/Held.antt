-- The steps a journal holds.
-- Assumes nothing.
use mathlib.Core.Path.{◌≡◌, refl}
use mathlib.Core.Bool.{Bool, true, false}
use mathlib.Core.List.{List}
use Prim.Native.Nat.{ℕ, ◌<◌, ◌≤◌, min}
use native.Mathlib.Omega.{arith}
use lib.Dec.{leb}
use lib.ListN.{length}
use borrow.Author.Tests.{leb-true, le-leb}
use Rattle.word.specs.Word.{pick}
use Rattle.machine.specs.declared.State.{State}
use Rattle.back.specs.Backs.{steps_held}

module _ (s : State) (journal : List ℕ) where
  -- the count and n, where the journal is as long as the count
  pub holds_all : s.journaled ≤ length journal → steps_held s journal ≡ min s.journaled s.n
  holds_all h = rw (le-leb _ _ h)

  module _ {k : ℕ} (h : k ≤ steps_held s journal) where
    -- k is within the count, and the journal is as long as the count where k is not 0
    within : (b : Bool) → leb s.journaled (length journal) ≡ b → k ≤ pick b (min s.journaled s.n) 0
        → (k ≤ s.journaled) × (0 < k → s.journaled ≤ length journal)
    within true e h = (omega arith, λ some. leb-true _ _ e)
    within false e h = (omega arith, λ some. absurd (omega arith))

    pub held_counted : k ≤ s.journaled
    held_counted = (within (leb s.journaled (length journal)) refl h).0

    pub held_within : 0 < k → s.journaled ≤ length journal
    held_within = (within (leb s.journaled (length journal)) refl h).1
