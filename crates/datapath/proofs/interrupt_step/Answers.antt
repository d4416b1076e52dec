-- By the test.
use mathlib.Core.Path.{sym, ap, ◌∙◌}
use Rattle.std.specs.declared.result.Result.TheVariants.{Ok}
use Rattle.datapath.specs.Parts.{interrupt_of}
use Rattle.datapath.proofs.interrupt_step.Goals as goal

pub returns-then-is_interrupt_assigned : goal.returns-then-is_interrupt_assigned
returns-then-is_interrupt_assigned c =
    let a = c.args in
    rw (sym c.is_interrupt_assigned.ensures ∙ c.if-is_interrupt_assigned.true)
    (ap (λ s. Ok s) (c.interrupted.ensures ∙ ap (interrupt_of a.control a.w) c.advanced.ensures))
