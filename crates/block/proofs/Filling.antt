-- A loop that stores the elements of a list, place after place, over a list of the same length.
-- Assumes nothing.
use Prim.Native.Nat.{ℕ, zero, suc, ◌+◌, ◌≤◌, ◌<◌}
use mathlib.Core.Path.{◌≡◌, refl, ap, ◌∙◌}
use mathlib.Core.List.{List, [], ◌∷◌, ◌++◌, append-nil}
use native.Mathlib.Nat.{le_of_suc-le-suc, not-suc-le-zero}
use native.Mathlib.Numerals.{add-one}
use native.Mathlib.Omega.{arith}
use lib.ListN.{length, get_or, take, drop, set, length-set}
use lib.Seq.{take-length, drop-length}

-- the target is `old` with the first i elements of `list` stored
pub record Filled (list old target : List ℕ) (i : ℕ) : Type 0 where
  pub lengths : length list ≡ length old
  pub place : i ≤ length old
  pub length_kept : length target ≡ length old
  pub stored : target ≡ take i list ++ drop i old

pub start : {list old : List ℕ} → length list ≡ length old → Filled list old old 0
start e = record { lengths = e; place = omega arith; length_kept = refl; stored = refl }

stored_more : (list old : List ℕ) (i : ℕ) → i < length list → i < length old
    → set (take i list ++ drop i old) i (get_or list i 0) ≡ take (suc i) list ++ drop (suc i) old
stored_more [] old i h k = absurd (not-suc-le-zero h)
stored_more (x ∷ xs) [] i h k = absurd (not-suc-le-zero k)
stored_more (x ∷ xs) (y ∷ ys) zero h k = refl
stored_more (x ∷ xs) (y ∷ ys) (suc i) h k =
    ap (λ (l : List ℕ). x ∷ l) (stored_more xs ys i (le_of_suc-le-suc h) (le_of_suc-le-suc k))

module _ {list old target : List ℕ} {i : ℕ} (f : Filled list old target i) where
  pub turn : {v : ℕ} → i < length target → v ≡ get_or list i 0 → Filled list old (set target i v) (i + 1)
  turn h e =
      record {
        lengths = f.lengths;
        place = omega (arith, f);
        length_kept = simp (length-set, f.length_kept);
        stored = rw (f.stored, e, add-one i) (stored_more list old i (omega (arith, f)) (omega (arith, f)));
      }

  pub whole : length target ≤ i → target ≡ list
  whole h =
      let e : i ≡ length old = omega (arith, f) in
      f.stored ∙ rw (e, drop-length, ← f.lengths, take-length) (append-nil list)
