-- `rules::interrupt` meets its contract: f chooses between the rule and stop 1.
use mathlib.Core.Path.{refl}
use borrow.Author.Tests.{lt-ltb, le-ltb}
use lib.Dec.{ltb}
use Rattle.machine.specs.Step.{rule, interrupt}
use Rattle.rules.specs.Parts.{interrupt_of}
use Rattle.rules.proofs.Choices.{by_its_f}
use Rattle.rules.proofs.Effects.{jumped, stopped, interrupts}
use Rattle.rules.proofs.interrupt.Goals as goal

pub returns-then-w-lt4 : goal.returns-then-w-lt4
returns-then-w-lt4 c =
    λ D.
    let w = c.args.w in
    jumped interrupt (by_its_f 12 (λ f. ltb f 4) w (rule interrupt) c.ranges.w.fits c.requires.opcode (lt-ltb _ _ c.if-w-lt4.true) refl) c.requires.advanced
    (λ s next. interrupt_of w next) (interrupts w) c.interrupted.ensures refl

pub returns-else-w-lt4 : goal.returns-else-w-lt4
returns-else-w-lt4 c =
    λ D.
    stopped (by_its_f 12 (λ f. ltb f 4) _ (rule interrupt) c.ranges.w.fits c.requires.opcode (le-ltb _ _ c.if-w-lt4.false) refl) refl
