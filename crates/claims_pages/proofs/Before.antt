-- The tests before all trims, 17 and 1, where x is what the trims come to.
-- Assumes nothing.
use mathlib.Core.Path.{◌≡◌, refl, sym}
use mathlib.Core.Bool.{Bool, true, false}
use mathlib.Core.Logic.{◌⊎◌, inl, inr, ⊎_elim, ◌↔◌}
use Prim.Native.Nat.{ℕ}
use native.Mathlib.Omega.{arith}
use Rattle.refusal.specs.Refusals.{Verdict, refused}
use Rattle.word.specs.Word.{pick}
use Rattle.word.proofs.Tests.{never}
use Rattle.claims_words.proofs.Decides.{Fails}

pub number_of : {j k : ℕ} → refused j ≡ refused k → j ≡ k
number_of e = cc

passing : {A : Type 0} → Fails true A → A → ⊥
passing f h = never (sym (f.1 h))

-- no other number than 5 and 6
abbrev pub Small : Verdict → Type 0
Small x = (k : ℕ) → x ≡ refused k → (k ≡ 5) ⊎ (k ≡ 6)

abbrev chosen : Bool → Bool → Verdict → Verdict
chosen a b x = pick a (pick b x (refused 1)) (refused 17)

module _ {A B : Type 0} (x : Verdict) (small : (A → ⊥) → (B → ⊥) → Small x) where
  pub is_17 : (a b : Bool) → Fails a A → Fails b B → (chosen a b x ≡ refused 17) ↔ A
  is_17 false b p q = (λ e. p.0 refl, λ h. refl)
  is_17 true false p q = (λ e. absurd (omega (arith, number_of e)), λ h. absurd (passing p h))
  is_17 true true p q = (
    λ e. ⊎_elim (λ z. absurd (omega arith)) (λ z. absurd (omega arith)) (small (passing p) (passing q) 17 e),
    λ h. absurd (passing p h),
  )

  pub is_1 : (a b : Bool) → Fails a A → Fails b B → (chosen a b x ≡ refused 1) ↔ ((A → ⊥) × B)
  is_1 false b p q = (λ e. absurd (omega (arith, number_of e)), λ h. absurd (h.0 (p.0 refl)))
  is_1 true false p q = (λ e. (passing p, q.0 refl), λ h. refl)
  is_1 true true p q = (
    λ e. ⊎_elim (λ z. absurd (omega arith)) (λ z. absurd (omega arith)) (small (passing p) (passing q) 1 e),
    λ h. absurd (passing q h.1),
  )

  pub one_of_4 : (a b : Bool) → Fails a A → Fails b B → (k : ℕ) → chosen a b x ≡ refused k → (k ≡ 17) ⊎ (k ≡ 1) ⊎ (k ≡ 5) ⊎ (k ≡ 6)
  one_of_4 false b p q k e = inl (cc)
  one_of_4 true false p q k e = inr (inl (cc))
  one_of_4 true true p q k e = inr (inr (small (passing p) (passing q) k e))

-- what comes of the trims
pub of_trims : {A B C : Type 0} (x z : Verdict) → (z ≡ refused 17 → ⊥) → (z ≡ refused 1 → ⊥) → (a b : Bool) → Fails a A → Fails b B
    → ((A → ⊥) → (B → ⊥) → (x ≡ z) ↔ C) → (chosen a b x ≡ z) ↔ ((A → ⊥) × (B → ⊥) × C)
of_trims x z n m false b p q r = (λ e. absurd (n (sym e)), λ h. absurd (h.0 (p.0 refl)))
of_trims x z n m true false p q r = (λ e. absurd (m (sym e)), λ h. absurd (h.1 (q.0 refl)))
of_trims x z n m true true p q r = (
  λ e. (passing p, passing q, (r (passing p) (passing q)).0 e),
  λ h. (r h.0 h.1).1 h.2,
)
