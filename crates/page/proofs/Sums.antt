-- The loop that adds counts stores their sums (`Filled`).
-- Assumes nothing.
use mathlib.Core.Path.{◌≡◌, refl, ap, ◌∙◌}
use mathlib.Core.List.{List, [], ◌∷◌, ◌++◌}
use Prim.Native.Nat.{ℕ, zero, suc, ◌+◌, ◌<◌}
use native.Mathlib.Nat.{le_of_suc-le-suc, not-suc-le-zero}
use native.Mathlib.Omega.{arith}
use lib.ListN.{length, get_or, take, drop, set}
use Rattle.block.proofs.Filling.{Filled, start, turn}
use Rattle.usage.specs.Usage.{plus_counts}
use Rattle.page.specs.Parts.{Addable}

plus_length : (xs ys : List ℕ) → length ys ≡ length xs → length (plus_counts xs ys) ≡ length xs
unfolding plus_counts
plus_length [] ys e = refl
plus_length (x ∷ xs) [] e = absurd (omega arith)
plus_length (x ∷ xs) (y ∷ ys) e = ap suc (plus_length xs ys (omega arith))

plus_at : (xs ys : List ℕ) (i : ℕ) → i < length xs → length ys ≡ length xs → get_or xs i 0 + get_or ys i 0 ≡ get_or (plus_counts xs ys) i 0
unfolding plus_counts
plus_at [] ys i h e = absurd (not-suc-le-zero h)
plus_at (x ∷ xs) [] i h e = absurd (omega arith)
plus_at (x ∷ xs) (y ∷ ys) zero h e = refl
plus_at (x ∷ xs) (y ∷ ys) (suc i) h e = plus_at xs ys i (le_of_suc-le-suc h) (omega arith)

-- a place that the loop did not reach
not_yet : (list old : List ℕ) (i : ℕ) → i < length list → i < length old → get_or (take i list ++ drop i old) i 0 ≡ get_or old i 0
not_yet [] old i h k = absurd (not-suc-le-zero h)
not_yet (x ∷ xs) [] i h k = absurd (not-suc-le-zero k)
not_yet (x ∷ xs) (y ∷ ys) zero h k = refl
not_yet (x ∷ xs) (y ∷ ys) (suc i) h k = not_yet xs ys i (le_of_suc-le-suc h) (le_of_suc-le-suc k)

-- the target is the counts with `more` added at the first i places
pub record Added (counts more target : List ℕ) (i : ℕ) : Type 0 where
  pub can : Addable counts more
  pub filled : Filled (plus_counts counts more) counts target i

pub add_start : {counts more : List ℕ} → Addable counts more → Added counts more counts 0
add_start {counts} {more} a = record { can = a; filled = start (plus_length counts more a.alike) }

module _ {counts more target : List ℕ} {i : ℕ} (a : Added counts more target i) (h : i < length counts) where
  old : get_or target i 0 ≡ get_or counts i 0
  old =
      ap (λ (l : List ℕ). get_or l i 0) a.filled.stored
      ∙ not_yet (plus_counts counts more) counts i (omega (arith, a.filled)) (omega (arith, a.filled))

  pub add_turn : {v : ℕ} → v ≡ get_or target i 0 + get_or more i 0 → Added counts more (set target i v) (i + 1)
  add_turn e =
      record {
        can = a.can;
        filled = turn a.filled (omega (arith, a.filled)) (e ∙ rw old (plus_at counts more i (omega (arith, a.filled)) a.can.alike));
      }
