-- Laws of `raised`, from any number k on.
-- Assumes nothing.
use mathlib.Core.Path.{◌≡◌, refl, sym, ◌∙◌, ap}
use mathlib.Core.Bool.{Bool, true, false}
use mathlib.Core.List.{List, [], ◌∷◌}
use Prim.Native.Nat.{ℕ, zero, suc, ◌+◌, ◌≤◌}
use native.Mathlib.Nat.{zero-add, add-zero, add-suc, suc-add}
use native.Mathlib.Omega.{arith}
use borrow.Author.Tests.{eq-eqb, ne_eqb, eqb-true}
use lib.Dec.{eqb}
use lib.ListN.{length, get_or, set}
use lib.Seq.{get_or-set_other}
use Rattle.word.specs.Word.{pick, flag}
use Rattle.usage.specs.Usage.{added_from}
use Rattle.usage.specs.Counting.{either_of, raised_from, raised}

pub raised_length : (n k : ℕ) (t : ℕ → Bool) (xs : List ℕ) → length (raised_from n k t xs) ≡ length xs
unfolding raised_from
raised_length n k t [] = refl
raised_length n k t (x ∷ xs) = ap suc (raised_length n (suc k) t xs)

-- `added` is one more
pub raised_once : (k : ℕ) (t : ℕ → Bool) (xs : List ℕ) → raised_from 1 k t xs ≡ added_from k t xs
unfolding raised_from added_from
raised_once k t [] = refl
raised_once k t (x ∷ xs) = λ i. (x + one (t k) i) ∷ raised_once (suc k) t xs i
  where
    one : (b : Bool) → pick b 1 0 ≡ flag b
    one true = refl
    one false = refl

-- no place from k on
pub raised_nowhere : (n k : ℕ) (t : ℕ → Bool) (xs : List ℕ) → ((j : ℕ) → k ≤ j → t j ≡ false) → raised_from n k t xs ≡ xs
unfolding raised_from
raised_nowhere n k t [] h = refl
raised_nowhere n k t (x ∷ xs) h = simp (h k (omega arith), add-zero) (ap (λ ys. x ∷ ys) (raised_nowhere n (suc k) t xs (λ j l. h j (omega arith))))

raised_place : (n k m : ℕ) (xs : List ℕ) → raised_from n k (eqb (k + m)) xs ≡ set xs m (get_or xs m 0 + n)
unfolding raised_from
raised_place n k m [] = refl
raised_place n k zero (x ∷ xs) = simp (eq-eqb (k + 0) k (omega arith)) (ap (λ ys. (x + n) ∷ ys) (raised_nowhere n (suc k) _ xs (λ j l. ne_eqb (k + 0) j (λ e. omega arith))))
raised_place n k (suc m) (x ∷ xs) = simp (ne_eqb (k + suc m) k (λ e. omega arith), add-zero) (ap (λ ys. x ∷ ys) (rw (add-suc k m, ← suc-add k m) (raised_place n (suc k) m xs)))

-- one place
pub raised_one : (n k : ℕ) (xs : List ℕ) → raised n (eqb k) xs ≡ set xs k (get_or xs k 0 + n)
raised_one n k xs = rw zero-add at (raised_place n 0 k xs)

-- two tests, one after the other, that are one test together
pub raised_both : (n k : ℕ) (s t u : ℕ → Bool) (xs : List ℕ) → ((j : ℕ) → pick (s j) n 0 + pick (t j) n 0 ≡ pick (u j) n 0)
    → raised_from n k t (raised_from n k s xs) ≡ raised_from n k u xs
unfolding raised_from
raised_both n k s t u [] h = refl
raised_both n k s t u (x ∷ xs) h =
    let e : (x + pick (s k) n 0) + pick (t k) n 0 ≡ x + pick (u k) n 0 = omega (arith, h k) in
    λ i. e i ∷ raised_both n (suc k) s t u xs h i

-- a, and b where it is another
module _ (n : ℕ) {a b : ℕ} (xs : List ℕ) where
  pub raised_either : (b ≡ a → ⊥) → raised n (eqb b) (raised n (eqb a) xs) ≡ raised n (either_of a b) xs
  raised_either h = raised_both n 0 (eqb a) (eqb b) (either_of a b) xs (λ j. go j (eqb b j) refl)
    where
      go : (j : ℕ) (t : Bool) → eqb b j ≡ t → pick (eqb a j) n 0 + pick t n 0 ≡ pick (pick t true (eqb a j)) n 0
      go j true e = rw (ne_eqb a j (λ p. h (eqb-true b j e ∙ sym p))) (zero-add n)
      go j false e = add-zero _

  pub raised_same : b ≡ a → raised n (eqb a) xs ≡ raised n (either_of a b) xs
  raised_same p = rw p (λ i. raised n (λ j. sym (one (eqb a j)) i) xs)
    where
      one : (t : Bool) → pick t true t ≡ t
      one true = refl
      one false = refl

  -- what stands at b is as it was
  pub raised_other : (b ≡ a → ⊥) → get_or (raised n (eqb a) xs) b 0 ≡ get_or xs b 0
  raised_other h = rw (raised_one n a xs) (get_or-set_other xs a b _ 0 h)
