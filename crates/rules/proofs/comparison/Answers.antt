-- `rules::comparison` meets its contract: f chooses between the rule and stop 1.
use mathlib.Core.Path.{refl, sym, ◌∙◌}
use Rattle.word.specs.Codes.{below6_but}
use Rattle.word.specs.Fields.{f_of}
use Rattle.word.specs.Word.{comparison}
use Rattle.machine.specs.Step.{d5_3, rule, compare}
use Rattle.rules.specs.Parts.{ra_of, rb_of}
use Rattle.rules.proofs.Choices.{by_its_f}
use Rattle.rules.proofs.Effects.{wrote, stopped}
use Rattle.rules.proofs.comparison.Goals as goal

pub returns-then-is_below_6_but : goal.returns-then-is_below_6_but
unfolding compare
returns-then-is_below_6_but c =
    λ D.
    wrote compare (by_its_f 1 (below6_but 2) _ (rule compare) c.ranges.w.fits c.requires.opcode (sym c.is_below_6_but.ensures ∙ c.if-is_below_6_but.true) refl) c.requires.advanced
    (d5_3 c.args.w) (λ s D. comparison (f_of c.args.w) (ra_of c.args.w s) (rb_of c.args.w s)) (λ m. refl) c.compared.ensures refl

pub returns-else-is_below_6_but : goal.returns-else-is_below_6_but
returns-else-is_below_6_but c =
    λ D.
    stopped (by_its_f 1 (below6_but 2) _ (rule compare) c.ranges.w.fits c.requires.opcode (sym c.is_below_6_but.ensures ∙ c.if-is_below_6_but.false) refl) refl
