-- Laws on tests that every crate above uses: constructors that clash, and what a test that passed says.
-- Assumes nothing.
use Rattle.std.proofs.Common.{◌≡◌, ℕ, Bool, true, false, T, refl, arith}
use mathlib.Core.Bool.{beq, false≢true}
use Rattle.word.specs.Word.{pick}

-- 0 is not 1: `clash (cc)` is any proof where the equations in scope make two constructors equal
pub clash : {A : Type 0} → ◌≡◌ {A = ℕ} 0 1 → A
clash e = absurd (omega arith)

pub never : {A : Type 0} → false ≡ true → A
never e = absurd (false≢true e)

pub is_true : (b : Bool) → T b → b ≡ true
is_true true t = refl
is_true false t = absurd t

-- two tests that a computed test finds alike
pub same_test : (a b : Bool) → T (beq a b) → a ≡ b
same_test true true t = refl
same_test true false t = absurd t
same_test false true t = absurd t
same_test false false t = refl

-- a choice that came to x and not to what stands last
pub passed : {A : Type 0} (t : Bool) {next last x : A} → (last ≡ x → ⊥) → pick t next last ≡ x → (t ≡ true) × (next ≡ x)
passed true n e = (refl, e)
passed false n e = absurd (n e)

-- what holds of both holds of the one chosen
pub either : {A : Type 0} (Q : A → Type 0) (t : Bool) {x y : A} → Q x → Q y → Q (pick t x y)
either Q true p q = p
either Q false p q = q
