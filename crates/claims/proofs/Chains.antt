-- A reply that hangs on tests in order: number k is given exactly when its condition holds and no earlier one does.
-- Assumes nothing.
use mathlib.Core.Path.{◌≡◌, refl, sym}
use mathlib.Core.Bool.{Bool, true, false, ◌&&◌}
use mathlib.Core.Logic.{◌⊎◌, inl, inr, ⊎_elim, ◌↔◌}
use Prim.Native.Nat.{ℕ, ◌<◌}
use native.Mathlib.Omega.{arith}
use borrow.Author.Tests.{eqb-true, eqb-false}
use lib.Dec.{eqb, ltb}
use Rattle.word.specs.Word.{pick}
use Rattle.word.proofs.Tests.{never}
use Rattle.claims_words.proofs.Decides.{Fails, decides_and, decides_lt}

-- ---- The replies of a call, and what they say

pub record Reply (X : Type 0) : Type 1 where
  pub accepted : X
  pub refused : ℕ → X
  -- what is claimed of a reply: that it accepts, that it gives number k
  pub Accepts : X → Type 0
  pub Gives : X → ℕ → Type 0
  pub accepts : Accepts accepted
  pub gives : (k : ℕ) → Gives (refused k) k
  pub no_number : (k : ℕ) → Gives accepted k → ⊥
  pub one_number : (j k : ℕ) → Gives (refused j) k → k ≡ j
  pub not_both : (k : ℕ) → Accepts (refused k) → ⊥

-- ---- Tests in order, each with its number and with the condition for that number

pub record Test : Type 1 where
  pub number : ℕ
  pub test : Bool
  pub Holds : Type 0
  pub fails : Fails test Holds

abbrev pub at : {b : Bool} {A : Type 0} → ℕ → Fails b A → Test
at {b} {A} k f = record { number = k; test = b; Holds = A; fails = f }

infixr 50 ◌then◌
pub data Tests : Type 1 where
  last : Test → Tests
  ◌then◌ : Test → Tests → Tests

abbrev pub answer : {X : Type 0} → Reply X → Tests → X
answer r (last t) = pick t.test r.accepted (r.refused t.number)
answer r (t then ts) = pick t.test (answer r ts) (r.refused t.number)

-- the condition of number k holds and no earlier one does
abbrev pub First : ℕ → Tests → Type 0
First k (last t) = pick (eqb k t.number) t.Holds ((t.Holds → ⊥) × ⊥)
First k (t then ts) = pick (eqb k t.number) t.Holds ((t.Holds → ⊥) × First k ts)

abbrev pub None : Tests → Type 0
None (last t) = t.Holds → ⊥
None (t then ts) = (t.Holds → ⊥) × None ts

abbrev pub OneOf : ℕ → Tests → Type 0
OneOf k (last t) = k ≡ t.number
OneOf k (t then ts) = (k ≡ t.number) ⊎ OneOf k ts

-- the numbers rise, from above i
abbrev pub rise : ℕ → Tests → Bool
rise i (last t) = ltb i t.number
rise i (t then ts) = ltb i t.number && rise t.number ts

rising : (i : ℕ) (t : Test) (ts : Tests) → rise i (t then ts) ≡ true → (i < t.number) × (rise t.number ts ≡ true)
rising i t ts = (decides_and (decides_lt i t.number) (λ e. e, λ e. e)).0

above : (i k : ℕ) (ts : Tests) → rise i ts ≡ true → OneOf k ts → i < k
above i k (last t) h e = omega (arith, (decides_lt i t.number).0 h)
above i k (t then ts) h o =
    let p = rising i t ts h in
    ⊎_elim (λ e. omega (arith, p.0)) (λ o. omega (arith, p.0, above t.number k ts p.1 o)) o

module _ {X : Type 0} (r : Reply X) where
  -- ---- One test, where x is what the later ones reply

  -- it gives k: by this test, if k is its number, and otherwise by a later one
  first : (b : Bool) {A B : Type 0} → Fails b A → (j k : ℕ) {x : X} → (k ≡ j → r.Gives x k → ⊥) → r.Gives x k ↔ B → (e : Bool) → eqb k j ≡ e → r.Gives (pick b x (r.refused j)) k ↔ pick e A ((A → ⊥) × B)
  first true f j k n g true e = (λ s. absurd (n (eqb-true k j e) s), λ a. never (sym (f.1 a)))
  first true f j k n g false e = (λ s. (λ a. never (sym (f.1 a)), g.0 s), λ h. g.1 h.1)
  first false f j k n g true e = (λ s. f.0 refl, λ a. rw (eqb-true k j e) (r.gives j))
  first false f j k n g false e = (λ s. absurd (eqb-false k j e (r.one_number j k s)), λ h. absurd (h.0 (f.0 refl)))

  -- it accepts
  passes : (b : Bool) {A B : Type 0} → Fails b A → (j : ℕ) {x : X} → r.Accepts x ↔ B → r.Accepts (pick b x (r.refused j)) ↔ ((A → ⊥) × B)
  passes true f j g = (λ s. (λ a. never (sym (f.1 a)), g.0 s), λ h. g.1 h.1)
  passes false f j g = (λ s. absurd (r.not_both j s), λ h. absurd (h.0 (f.0 refl)))

  -- which numbers it gives, and that it is then that refusal
  told : (b : Bool) (j k : ℕ) {x : X} {B : Type 0} → (r.Gives x k → B × (x ≡ r.refused k)) → r.Gives (pick b x (r.refused j)) k → ((k ≡ j) ⊎ B) × (pick b x (r.refused j) ≡ r.refused k)
  told true j k g s = (inr (g s).0, (g s).1)
  told false j k g s = (inl (r.one_number j k s), rw (r.one_number j k s) refl)

  -- ---- All tests

  pub one_of : (ts : Tests) (k : ℕ) → r.Gives (answer r ts) k → OneOf k ts × (answer r ts ≡ r.refused k)
  one_of (last t) k s =
      let h = told t.test t.number k {B = ⊥} (λ s. absurd (r.no_number k s)) s in
      (⊎_elim (λ e. e) absurd h.0, h.1)
  one_of (t then ts) k s = told t.test t.number k (one_of ts k) s

  pub number : (ts : Tests) (i k : ℕ) → rise i ts ≡ true → r.Gives (answer r ts) k ↔ First k ts
  number (last t) i k h = first t.test t.fails t.number k (λ e. r.no_number k) (r.no_number k, absurd) (eqb k t.number) refl
  number (t then ts) i k h =
      let l = (rising i t ts h).1 in
      first t.test t.fails t.number k (λ e s. omega (arith, above t.number k ts l (one_of ts k s).0)) (number ts t.number k l) (eqb k t.number) refl

  pub none : (ts : Tests) → r.Accepts (answer r ts) ↔ None ts
  none (last t) =
      let h = passes t.test {B = Unit {0}} t.fails t.number (λ a. tt, λ u. r.accepts) in
      (λ s. (h.0 s).0, λ n. h.1 (n, tt))
  none (t then ts) = passes t.test t.fails t.number (none ts)
