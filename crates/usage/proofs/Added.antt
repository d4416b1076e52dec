-- Laws of `added`, which is one more (`raised`).
-- Assumes nothing.
use mathlib.Core.Path.{◌≡◌, sym, ◌∙◌, ap}
use mathlib.Core.Bool.{Bool, false}
use mathlib.Core.List.{List}
use Prim.Native.Nat.{ℕ, ◌+◌, ◌≤◌}
use lib.Dec.{eqb}
use lib.ListN.{length, get_or, set}
use Rattle.usage.specs.Usage.{added_from, added}
use Rattle.usage.specs.Counting.{either_of, raised}
use Rattle.usage.proofs.Raised.{raised_length, raised_once, raised_nowhere, raised_one, raised_either, raised_same, raised_other}

pub added_length : (n : ℕ) (t : ℕ → Bool) (xs : List ℕ) → length (added_from n t xs) ≡ length xs
added_length n t xs = ap length (sym (raised_once n t xs)) ∙ raised_length 1 n t xs

-- no place from n on
pub added_nowhere : (n : ℕ) (t : ℕ → Bool) (xs : List ℕ) → ((j : ℕ) → n ≤ j → t j ≡ false) → added_from n t xs ≡ xs
added_nowhere n t xs h = sym (raised_once n t xs) ∙ raised_nowhere 1 n t xs h

-- one place
pub added_one : (k : ℕ) (xs : List ℕ) → added (eqb k) xs ≡ set xs k (get_or xs k 0 + 1)
added_one k xs = sym (raised_once 0 (eqb k) xs) ∙ raised_one 1 k xs

-- a, and b where it is another
module _ {a b : ℕ} (xs : List ℕ) where
  pub added_either : (b ≡ a → ⊥) → added (eqb b) (added (eqb a) xs) ≡ added (either_of a b) xs
  added_either n =
      sym (raised_once 0 (eqb b) (added (eqb a) xs))
      ∙ ap (λ ys. raised 1 (eqb b) ys) (sym (raised_once 0 (eqb a) xs))
      ∙ raised_either 1 xs n
      ∙ raised_once 0 (either_of a b) xs

  pub added_same : b ≡ a → added (eqb a) xs ≡ added (either_of a b) xs
  added_same p = sym (raised_once 0 (eqb a) xs) ∙ raised_same 1 xs p ∙ raised_once 0 (either_of a b) xs

  -- what stands at b is as it was
  pub added_other : (b ≡ a → ⊥) → get_or (added (eqb a) xs) b 0 ≡ get_or xs b 0
  added_other n = ap (λ ys. get_or ys b 0) (sym (raised_once 0 (eqb a) xs)) ∙ raised_other 1 xs n
