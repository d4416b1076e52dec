-- `rules::arithmetic` meets its contract: the opcode chooses.
use mathlib.Core.Path.{refl}
use Rattle.word.specs.Fields.{f_of}
use Rattle.word.specs.Word.{operation}
use Rattle.machine.specs.Step.{d5_3, compute}
use Rattle.rules.specs.Parts.{ra_of, rb_of}
use Rattle.rules.proofs.Choices.{chosen}
use Rattle.rules.proofs.Effects.{wrote}
use Rattle.rules.proofs.arithmetic.Goals as goal

pub returns-then-w-eq0 : goal.returns-then-w-eq0
unfolding compute
returns-then-w-eq0 c =
    λ D.
    let w = c.args.w in
    wrote compute (chosen 0 w c.ranges.w.fits c.if-w-eq0.true) c.requires.begun.advanced
    (d5_3 w) (λ s D. operation (f_of w) (ra_of w s) (rb_of w s)) (λ m. refl) c.operated.ensures refl
