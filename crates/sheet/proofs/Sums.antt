-- The loop that adds counts stores their sums (`Filled`).
-- Assumes nothing.
use Rattle.std.proofs.Common.{◌≡◌, ℕ, zero, suc, ◌+◌, ◌%◌, ◌^◌, ◌<◌, List, [], ◌∷◌, ◌++◌, length, get_or, take, drop, set, refl, ap, ◌∙◌, le_of_suc-le-suc, not-suc-le-zero, arith}
use Rattle.block.proofs.Filling.{Filled, start, turn}
use Rattle.sheet.specs.Sheet.{sums}

pub sums_length : (xs ys : List ℕ) → length (sums xs ys) ≡ length xs
unfolding sums
sums_length [] ys = refl
sums_length (x ∷ xs) [] = refl
sums_length (x ∷ xs) (y ∷ ys) = ap suc (sums_length xs ys)

sums_at : (xs ys : List ℕ) (i : ℕ) → i < length xs → length ys ≡ length xs → (get_or xs i 0 + get_or ys i 0) % 2 ^ 64 ≡ get_or (sums xs ys) i 0
unfolding sums
sums_at [] ys i h e = absurd (not-suc-le-zero h)
sums_at (x ∷ xs) [] i h e = absurd (omega arith)
sums_at (x ∷ xs) (y ∷ ys) zero h e = refl
sums_at (x ∷ xs) (y ∷ ys) (suc i) h e = sums_at xs ys i (le_of_suc-le-suc h) (omega arith)

-- a place that the loop did not reach
not_yet : (list old : List ℕ) (i : ℕ) → i < length list → i < length old → get_or (take i list ++ drop i old) i 0 ≡ get_or old i 0
not_yet [] old i h k = absurd (not-suc-le-zero h)
not_yet (x ∷ xs) [] i h k = absurd (not-suc-le-zero k)
not_yet (x ∷ xs) (y ∷ ys) zero h k = refl
not_yet (x ∷ xs) (y ∷ ys) (suc i) h k = not_yet xs ys i (le_of_suc-le-suc h) (le_of_suc-le-suc k)

-- the target is the counts with `more` added at the first i places
pub record Added (counts more target : List ℕ) (i : ℕ) : Type 0 where
  pub alike : length more ≡ length counts
  pub filled : Filled (sums counts more) counts target i

pub add_start : {counts more : List ℕ} → length more ≡ length counts → Added counts more counts 0
add_start {counts} {more} e = record { alike = e; filled = start (sums_length counts more) }

pub add_turn : {counts more target : List ℕ} {i v : ℕ} → Added counts more target i → i < length target
    → v ≡ (get_or target i 0 + get_or more i 0) % 2 ^ 64 → Added counts more (set target i v) (i + 1)
add_turn {counts} {more} {target} {i} a h e =
    let old : get_or target i 0 ≡ get_or counts i 0 = ap (λ (l : List ℕ). get_or l i 0) a.filled.stored ∙ not_yet (sums counts more) counts i (omega arith) (omega arith) in
    record {
      alike = a.alike;
      filled = turn a.filled (omega arith) (e ∙ rw old (sums_at counts more i (omega arith) a.alike));
    }
