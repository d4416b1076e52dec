-- `rules::product` meets its contract: f chooses between the rule and stop 1, and a zero divisor is stop 3.
use mathlib.Core.Path.{refl, sym, ◌∙◌}
use Rattle.word.specs.Codes.{below6_but}
use Rattle.word.specs.Fields.{f_of}
use Rattle.muldiv.specs.Muldiv.{muldiv}
use Rattle.machine.specs.Step.{d5_3, multiply_divide}
use Rattle.rules.specs.Parts.{is_division, ra_of, rb_of}
use Rattle.rules.proofs.Choices.{by_its_f}
use Rattle.rules.proofs.Effects.{stopped, divided_by_zero, divided}
use Rattle.rules.proofs.product.Goals as goal

pub returns-then-divides_by_zero : goal.returns-then-divides_by_zero
returns-then-divides_by_zero c =
    λ D.
    divided_by_zero multiply_divide (is_division c.args.w) (by_its_f 11 (below6_but 3) _ _ c.ranges.w.fits c.requires.opcode (sym c.is_below_6_but.ensures ∙ c.if-is_below_6_but.true) refl)
    (sym c.divides_by_zero.ensures ∙ c.if-divides_by_zero.true) refl

pub returns-else-divides_by_zero : goal.returns-else-divides_by_zero
unfolding multiply_divide
returns-else-divides_by_zero c =
    λ D.
    divided multiply_divide (is_division c.args.w) (by_its_f 11 (below6_but 3) _ _ c.ranges.w.fits c.requires.opcode (sym c.is_below_6_but.ensures ∙ c.if-is_below_6_but.true) refl)
    (sym c.divides_by_zero.ensures ∙ c.if-divides_by_zero.false) c.requires.advanced
    (d5_3 c.args.w) (λ s D. muldiv (f_of c.args.w) (ra_of c.args.w s) (rb_of c.args.w s)) (λ m. refl) c.multiplied.ensures refl

pub returns-else-is_below_6_but : goal.returns-else-is_below_6_but
returns-else-is_below_6_but c =
    λ D.
    stopped (by_its_f 11 (below6_but 3) _ _ c.ranges.w.fits c.requires.opcode (sym c.is_below_6_but.ensures ∙ c.if-is_below_6_but.false) refl) refl
