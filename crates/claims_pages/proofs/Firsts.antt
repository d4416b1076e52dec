-- The first refusal of many verdicts: none where all accept, and otherwise that of the first that refuses.
-- Assumes nothing.
use mathlib.Core.Path.{◌≡◌, refl, sym, ap, subst, ◌∙◌}
use mathlib.Core.Bool.{Bool, true, false}
use mathlib.Core.Logic.{◌↔◌}
use mathlib.Core.List.{◌∷◌, map}
use Prim.Native.Nat.{ℕ, zero, suc, ◌+◌, ◌<◌, ◌≤◌}
use native.Mathlib.Omega.{arith}
use borrow.Author.Tests.{eqb-true, eqb-false}
use lib.Dec.{eqb}
use Rattle.refusal.specs.Refusals.{Verdict, accepted, refused}
use Rattle.word.proofs.Tests.{clash}
use Rattle.page.specs.Pages.{up_from, first_refusal}

-- of the numbers from i on, i and those after it
from_first : (Q : ℕ → Type 0) (i n : ℕ) → Q i → ((j : ℕ) → suc i ≤ j → j < n → Q j) → (j : ℕ) → i ≤ j → j < n → Q j
from_first Q i n q r j a b = by_test (eqb j i) refl
  where
    by_test : (t : Bool) → eqb j i ≡ t → Q j
    by_test true e = subst Q (sym (eqb-true j i e)) q
    by_test false e = r j (omega (arith, eqb-false j i e)) b

module _ (test : ℕ → Verdict) where
  abbrev decided : ℕ → ℕ → Verdict
  decided i m = first_refusal (map test (up_from i m))

  -- all of m from i on accept
  abbrev AllAccept : ℕ → ℕ → Type 0
  AllAccept i m = (j : ℕ) → i ≤ j → j < i + m → test j ≡ accepted

  pub none_refused : (i m : ℕ) → (decided i m ≡ accepted) ↔ AllAccept i m
  unfolding first_refusal up_from
  none_refused i zero = (λ e j a b. absurd (omega arith), λ h. refl)
  none_refused i (suc m) = by_verdict (none_refused (suc i) m) (test i) refl
    where
      by_verdict : (decided (suc i) m ≡ accepted) ↔ AllAccept (suc i) m → (v : Verdict) → test i ≡ v
          → (first_refusal (v ∷ map test (up_from (suc i) m)) ≡ accepted) ↔ AllAccept i (suc m)
      by_verdict r accepted e = (
        λ f. from_first (λ j. test j ≡ accepted) i (i + suc m) e (λ j a b. r.0 f j a (omega arith)),
        λ h. r.1 (λ j a b. h j (omega arith) (omega arith)),
      )
      by_verdict r (refused k) e = (λ f. clash (cc), λ h. let z = h i (omega arith) (omega arith) in clash (cc))

  -- one of them refuses with x, and those before it accept
  abbrev OneRefuses : ℕ → ℕ → ℕ → Type 0
  OneRefuses x i m = (k : ℕ) × (i ≤ k) × (k < i + m) × ((j : ℕ) → i ≤ j → j < k → test j ≡ accepted) × (test k ≡ refused x)

  pub first_refused : (x i m : ℕ) → (decided i m ≡ refused x) ↔ OneRefuses x i m
  unfolding first_refusal up_from
  first_refused x i zero = (λ e. clash (cc), λ f. absurd (omega (arith, f.1, f.2)))
  first_refused x i (suc m) = by_verdict (first_refused x (suc i) m) (test i) refl
    where
      here : (f : OneRefuses x i (suc m)) {k : ℕ} → test i ≡ refused k → f.0 ≡ i
      here f e = by_test (eqb f.0 i) refl
        where
          by_test : (t : Bool) → eqb f.0 i ≡ t → f.0 ≡ i
          by_test true z = eqb-true f.0 i z
          by_test false z = let y = f.3 i (omega arith) (omega (arith, eqb-false f.0 i z, f.1)) in clash (cc)

      later : (f : OneRefuses x i (suc m)) → test i ≡ accepted → suc i ≤ f.0
      later f e = by_test (eqb f.0 i) refl
        where
          by_test : (t : Bool) → eqb f.0 i ≡ t → suc i ≤ f.0
          by_test true z = let y : test i ≡ refused x = ap test (sym (eqb-true f.0 i z)) ∙ f.4 in clash (cc)
          by_test false z = omega (arith, eqb-false f.0 i z, f.1)

      by_verdict : (decided (suc i) m ≡ refused x) ↔ OneRefuses x (suc i) m → (v : Verdict) → test i ≡ v
          → (first_refusal (v ∷ map test (up_from (suc i) m)) ≡ refused x) ↔ OneRefuses x i (suc m)
      by_verdict r accepted e = (
        λ d. let f = r.0 d in
            (f.0, omega (arith, f.1), omega (arith, f.2), from_first (λ j. test j ≡ accepted) i f.0 e f.3, f.4),
        λ f. r.1 (f.0, later f e, omega (arith, f.2), λ j a b. f.3 j (omega arith) b, f.4),
      )
      by_verdict r (refused k) e = (
        λ d. (i, omega arith, omega arith, λ j a b. absurd (omega arith), e ∙ d),
        λ f. sym e ∙ ap test (sym (here f e)) ∙ f.4,
      )
