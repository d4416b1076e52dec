-- By bit 15, and without it by the stop.
use mathlib.Core.Path.{sym, ap, ◌∙◌}
use Rattle.datapath.specs.Parts.{stop_of}
use Rattle.datapath.proofs.Done.{stopped, interrupt_done}
use Rattle.datapath.proofs.field_step.Goals as goal

pub performed-requires : goal.performed-requires
performed-requires c =
    let a = c.args in
    let stop = sym c.stop_of.ensures ∙ c.in-None.is in
    record {
      counts = c.requires.counts;
      control_value = (sym c.by_interrupt.ensures ∙ c.if-by_interrupt.false, ap (stop_of a.control a.w a.state) (sym c.is_full.ensures) ∙ stop, c.requires.tests_lock);
    }

pub returns-then-by_interrupt-clause-steps : goal.returns-then-by_interrupt-clause-steps
returns-then-by_interrupt-clause-steps c = interrupt_done c.args.control c.args.w _ (sym c.by_interrupt.ensures ∙ c.if-by_interrupt.true) c.args.log.now.filled c.interrupt_step.result c.interrupt_step.ensures

pub returns-in-Some-clause-steps : goal.returns-in-Some-clause-steps
returns-in-Some-clause-steps c =
    let a = c.args in
    let stop = sym c.stop_of.ensures ∙ c.in-Some.is in
    stopped a.control a.w _ (sym c.by_interrupt.ensures ∙ c.if-by_interrupt.false) c.requires.tests_lock _ a.log.now.filled
    (ap (stop_of a.control a.w a.state) (sym c.is_full.ensures) ∙ stop)
