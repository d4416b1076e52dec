-- n steps of a word more: steps of several words may be counted in any order.
-- Assumes nothing.
use mathlib.Core.Path.{◌≡◌, refl, ◌∙◌}
use mathlib.Core.Bool.{Bool, true, false}
use mathlib.Core.List.{List, [], ◌∷◌}
use Prim.Native.Nat.{ℕ, zero, suc, ◌+◌, ◌≤◌, ◌<◌}
use native.Mathlib.Nat.{add-zero}
use native.Mathlib.Omega.{arith}
use lib.ListN.{get_or}
use Rattle.word.specs.Word.{pick}
use Rattle.usage.specs.declared.Usage.{Usage}
use Rattle.usage.specs.Counting.{usage_with, raised_from, counted_steps, Room}
use Rattle.usage.proofs.Raised.{raised_length}
use Rattle.usage.proofs.Sums.{Sized, AtMost}

together : {t : ℕ} {k k' r r' w w' : List ℕ} → k ≡ k' → r ≡ r' → w ≡ w' → usage_with t k r w ≡ usage_with t k' r' w'
together {t} p q s = λ i. usage_with t (p i) (q i) (s i)

raised_zero : (k : ℕ) (t : ℕ → Bool) (xs : List ℕ) → raised_from 0 k t xs ≡ xs
unfolding raised_from
raised_zero k t [] = refl
raised_zero k t (x ∷ xs) = λ i. none (t k) i ∷ raised_zero (suc k) t xs i
  where
    none : (b : Bool) → x + pick b 0 0 ≡ x
    none true = add-zero x
    none false = add-zero x

pub steps_none : (w : ℕ) (u : Usage) → counted_steps 0 w u ≡ u
steps_none w u = together (raised_zero 0 _ u.kinds) (raised_zero 0 _ u.reads) (raised_zero 0 _ u.writes)

raised_swap : (m n k : ℕ) (s t : ℕ → Bool) (xs : List ℕ) → raised_from m k s (raised_from n k t xs) ≡ raised_from n k t (raised_from m k s xs)
unfolding raised_from
raised_swap m n k s t [] = refl
raised_swap m n k s t (x ∷ xs) =
    let e : (x + pick (t k) n 0) + pick (s k) m 0 ≡ (x + pick (s k) m 0) + pick (t k) n 0 = omega arith in
    λ i. e i ∷ raised_swap m n (suc k) s t xs i

pub steps_swap : (m v n w : ℕ) (u : Usage) → counted_steps m v (counted_steps n w u) ≡ counted_steps n w (counted_steps m v u)
steps_swap m v n w u = together (raised_swap m n 0 _ _ u.kinds) (raised_swap m n 0 _ _ u.reads) (raised_swap m n 0 _ _ u.writes)

raised_more : (n k : ℕ) (t : ℕ → Bool) (xs : List ℕ) → raised_from (n + 1) k t xs ≡ raised_from 1 k t (raised_from n k t xs)
unfolding raised_from
raised_more n k t [] = refl
raised_more n k t (x ∷ xs) = λ i. more (t k) i ∷ raised_more n (suc k) t xs i
  where
    more : (b : Bool) → x + pick b (n + 1) 0 ≡ (x + pick b n 0) + pick b 1 0
    more true = omega arith
    more false = omega arith

pub steps_more : (n w : ℕ) (u : Usage) → counted_steps (n + 1) w u ≡ counted_steps 1 w (counted_steps n w u)
steps_more n w u = together (raised_more n 0 _ u.kinds) (raised_more n 0 _ u.reads) (raised_more n 0 _ u.writes)

-- ---- Lengths, and a bound

pub steps_sized : (n w : ℕ) {u : Usage} → Sized u → Sized (counted_steps n w u)
steps_sized n w s =
    record { kinds = raised_length n 0 _ _ ∙ s.kinds; reads = raised_length n 0 _ _ ∙ s.reads; writes = raised_length n 0 _ _ ∙ s.writes }

raised_most : (n k m : ℕ) (t : ℕ → Bool) (xs : List ℕ) → ((j : ℕ) → get_or xs j 0 ≤ m) → (j : ℕ) → get_or (raised_from n k t xs) j 0 ≤ m + n
unfolding raised_from
raised_most n k m t [] h j = omega arith
raised_most n k m t (x ∷ xs) h zero = omega (arith, h 0, few (t k))
  where
    few : (b : Bool) → pick b n 0 ≤ n
    few true = omega arith
    few false = omega arith
raised_most n k m t (x ∷ xs) h (suc j) = raised_most n (suc k) m t xs (λ j. h (suc j)) j

pub steps_most : (n w : ℕ) {m : ℕ} {u : Usage} → AtMost m u → AtMost (m + n) (counted_steps n w u)
steps_most n w a = record { taken = omega (arith, a.taken); kinds = raised_most n 0 _ _ _ a.kinds; reads = raised_most n 0 _ _ _ a.reads; writes = raised_most n 0 _ _ _ a.writes }

pub room : {m n : ℕ} {u : Usage} → m + n < 18446744073709551616 → AtMost m u → Room n u
room l a = record { kinds = λ k. omega (arith, a.kinds k); reads = λ k. omega (arith, a.reads k); writes = λ k. omega (arith, a.writes k) }
