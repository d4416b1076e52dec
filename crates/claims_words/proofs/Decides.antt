-- Tests that decide a proposition: `test ≡ true` says the same as it.
-- Assumes nothing.
use mathlib.Core.Path.{◌≡◌, refl, subst, sym}
use mathlib.Core.Bool.{Bool, true, false, ◌&&◌, ◌||◌}
use mathlib.Core.Logic.{◌⊎◌, inl, inr, ⊎_elim, ◌↔◌}
use Prim.Native.Nat.{ℕ, ◌<◌, ◌≤◌}
use borrow.Author.Tests.{eqb-true, leb-true, ltb-true, eq-eqb, le-leb, lt-ltb, leb-false, eqb-false, lt-leb, ne_eqb}
use lib.Dec.{T, eqb, leb, ltb}
use lib.IntN.{ℤ}
use lib.Signed.{le_z, lt_z, ◌≤ℤ◌, ◌<ℤ◌}
use Rattle.word.proofs.Tests.{never, is_true}

abbrev pub Decides : Bool → Type 0 → Type 0
Decides b A = (b ≡ true) ↔ A

pub decides_eq : (m n : ℕ) → Decides (eqb m n) (m ≡ n)
decides_eq m n = (eqb-true m n, eq-eqb m n)

pub decides_le : (m n : ℕ) → Decides (leb m n) (m ≤ n)
decides_le m n = (leb-true m n, le-leb m n)

pub decides_lt : (m n : ℕ) → Decides (ltb m n) (m < n)
decides_lt m n = (ltb-true m n, lt-ltb m n)

pub decides-T : (b : Bool) → Decides b (T b)
decides-T b = (λ e. subst (λ (b : Bool). T b) (sym e) tt, is_true b)

pub decides_le_z : (x y : ℤ) → Decides (le_z x y) (x ≤ℤ y)
decides_le_z x y = (λ e. record { le = (decides-T (le_z x y)).0 e }, λ h. is_true (le_z x y) h.le)

pub decides_lt_z : (x y : ℤ) → Decides (lt_z x y) (x <ℤ y)
decides_lt_z x y = (λ e. record { lt = (decides-T (lt_z x y)).0 e }, λ h. is_true (lt_z x y) h.lt)

pub decides_and : {a b : Bool} {A B : Type 0} → Decides a A → Decides b B → Decides (a && b) (A × B)
decides_and {a = true} p q = (λ e. (p.0 refl, q.0 e), λ h. q.1 h.1)
decides_and {a = false} p q = (never, λ h. p.1 h.0)

pub decides_or : {a b : Bool} {A B : Type 0} → Decides a A → Decides b B → Decides (a || b) (A ⊎ B)
decides_or {a = true} p q = (λ e. inl (p.0 refl), λ h. refl)
decides_or {a = false} p q = (λ e. inr (q.0 e), ⊎_elim (λ h. never (p.1 h)) (λ h. q.1 h))

-- ---- Tests that fail exactly where a proposition holds

abbrev pub Fails : Bool → Type 0 → Type 0
Fails b A = (b ≡ false) ↔ A

pub fails_eq : (m n : ℕ) → Fails (eqb m n) (m ≡ n → ⊥)
fails_eq m n = (eqb-false m n, ne_eqb m n)

pub fails_le : (m n : ℕ) → Fails (leb m n) (n < m)
fails_le m n = (leb-false m n, lt-leb m n)

pub fails_and : {a b : Bool} {A B : Type 0} → Fails a A → Fails b B → Fails (a && b) (A ⊎ B)
fails_and {a = true} p q = (λ e. inr (q.0 e), ⊎_elim (λ h. never (sym (p.1 h))) (λ h. q.1 h))
fails_and {a = false} p q = (λ e. inl (p.0 refl), λ h. refl)

-- what a test decides holds where it can't fail
pub decides_stable : {b : Bool} {A : Type 0} → Decides b A → ((A → ⊥) → ⊥) → A
decides_stable {b = true} d n = d.0 refl
decides_stable {b = false} d n = absurd (n (λ a. never (d.1 a)))
