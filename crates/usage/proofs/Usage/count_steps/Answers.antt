-- Each arm counts what the sheet's lines of its opcode say.
use mathlib.Core.Path.{◌≡◌, refl, sym, ◌∙◌}
use mathlib.Core.Logic.{inl, inr}
use Prim.Native.Nat.{◌/◌}
use native.Mathlib.Omega.{arith}
use Rattle.isa.specs.Sheet.{kind_at}
use Rattle.usage.proofs.Words.{of_word, operation, by_f, interrupt, past_12}
use Rattle.usage.proofs.Usage.count_steps.Goals as goal
use Rattle.usage.proofs.Usage.count_steps.Goals.{then-e-eq0, else-e-eq0}

pub returns-then-f-eq3 : goal.returns-then-f-eq3
unfolding kind_at
returns-then-f-eq3 c = c.compute_one.ensures ∙ of_word _ _ 0 _ 3 _ (omega arith) refl (omega arith)

pub returns-in-Some : goal.returns-in-Some
returns-in-Some c =
    let a = c.args in
    c.compute_two.ensures ∙ operation a.n a.w a.self.now (sym c.in-Some.is ∙ c.kind_of.ensures) (omega arith) (λ e. c.if-f-eq3.false (omega (arith, e)))

pub returns-in_default-kind_of : goal.returns-in_default-kind_of
returns-in_default-kind_of c =
    let a = c.args in
    operation a.n a.w a.self.now (sym c.in_default-kind_of.is ∙ c.kind_of.ensures) (omega arith) (λ e. c.if-f-eq3.false (omega (arith, e)))

pub returns-in-2 : goal.returns-in-2
unfolding kind_at
returns-in-2 c = c.compute_one-in-2.ensures ∙ of_word _ _ 2 _ _ _ (omega arith) refl refl

pub returns-in-3 : goal.returns-in-3
unfolding kind_at
returns-in-3 c = c.compute_one-in-3.ensures ∙ of_word _ _ 3 _ _ _ (omega arith) refl refl

pub returns-in-4 : goal.returns-in-4
unfolding kind_at
returns-in-4 c = c.read_two.ensures ∙ of_word _ _ 4 _ _ _ (omega arith) refl refl

pub returns-in-5 : goal.returns-in-5
unfolding kind_at
returns-in-5 c = c.compute_one-in-5.ensures ∙ of_word _ _ 5 _ _ _ (omega arith) refl refl

pub returns-in-6 : goal.returns-in-6
unfolding kind_at
returns-in-6 c = c.read_two-in-6.ensures ∙ of_word _ _ 6 _ _ _ (omega arith) refl refl

pub returns-in-7 : goal.returns-in-7
unfolding kind_at
returns-in-7 c = c.compute_one-in-7.ensures ∙ of_word _ _ 7 _ _ _ (omega arith) refl refl

pub returns-in-Some-kind_of : goal.returns-in-Some-kind_of
returns-in-Some-kind_of c =
    let a = c.args in
    c.compute_two-in-Some-kind_of.ensures ∙ by_f a.n a.w a.self.now (sym c.in-Some-kind_of.is ∙ c.kind_of-in-1.ensures) c.in-1.is

pub returns-in_default-kind_of-2 : goal.returns-in_default-kind_of-2
returns-in_default-kind_of-2 c =
    let a = c.args in
    by_f a.n a.w a.self.now (sym c.in_default-kind_of-2.is ∙ c.kind_of-in-1.ensures) c.in-1.is

pub returns-after-e-eq0 : goal.returns-after-e-eq0
unfolding kind_at
returns-after-e-eq0 c =
    c.read_one.ensures
    ∙ elim c.if-e-eq0.branch [
      | then-e-eq0 w ↦ rw w.kind-is (of_word _ _ 8 0 _ _ (omega arith) (omega arith) refl)
      | else-e-eq0 w ↦ rw w.kind-is (of_word _ _ 8 1 _ _ (omega arith) (omega arith) refl)
    ]

pub returns-then-e-eq0-2 : goal.returns-then-e-eq0-2
unfolding kind_at
returns-then-e-eq0-2 c = c.write_one.ensures ∙ of_word _ _ 9 0 _ _ (omega arith) (omega arith) refl

pub returns-else-e-eq0-2 : goal.returns-else-e-eq0-2
unfolding kind_at
returns-else-e-eq0-2 c = c.compute_one-else-e-eq0-2.ensures ∙ of_word _ _ 9 1 _ _ (omega arith) (omega arith) refl

pub returns-then-e-eq0-3 : goal.returns-then-e-eq0-3
unfolding kind_at
returns-then-e-eq0-3 c = c.write_one-then-e-eq0-3.ensures ∙ of_word _ _ 10 0 _ _ (omega arith) (omega arith) refl

pub returns-else-e-eq0-3 : goal.returns-else-e-eq0-3
unfolding kind_at
returns-else-e-eq0-3 c = c.read_one-else-e-eq0-3.ensures ∙ of_word _ _ 10 1 _ _ (omega arith) (omega arith) refl

pub returns-then-f-eq3-2 : goal.returns-then-f-eq3-2
unfolding kind_at
returns-then-f-eq3-2 c = c.write_one-then-f-eq3-2.ensures ∙ of_word _ _ 12 _ 3 _ (omega arith) refl (omega arith)

pub returns-in-Some-kind_of-2 : goal.returns-in-Some-kind_of-2
returns-in-Some-kind_of-2 c =
    let a = c.args in
    c.touch_none.ensures ∙ interrupt a.n a.w a.self.now (sym c.in-Some-kind_of-2.is ∙ c.kind_of-else-f-eq3-2.ensures) (omega arith) (λ e. c.if-f-eq3-2.false (omega (arith, e)))

pub returns-in_default-kind_of-3 : goal.returns-in_default-kind_of-3
returns-in_default-kind_of-3 c =
    let a = c.args in
    interrupt a.n a.w a.self.now (sym c.in_default-kind_of-3.is ∙ c.kind_of-else-f-eq3-2.ensures) (omega arith) (λ e. c.if-f-eq3-2.false (omega (arith, e)))

pub returns-in_default : goal.returns-in_default
returns-in_default c =
    let w = c.args.w in
    let others = c.in_default.in_default-own.rest in
    let by_f = others.0.0.0.0.0.0.0.0.0.0.1 in
    let not_1 : w / 4096 ≡ 1 → ⊥ = λ e. by_f (inl e) in
    let not_11 : w / 4096 ≡ 11 → ⊥ = λ e. by_f (inr e) in
    past_12 _ w _ (omega (arith, not_1, not_11, others))
