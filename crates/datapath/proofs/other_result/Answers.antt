-- By whether the word is assigned, and divides by zero.
use mathlib.Core.Path.{sym, ap, ap₂, ◌∙◌}
use Rattle.std.specs.declared.result.Result.TheVariants.{Ok}
use Rattle.control.specs.Control.{unit, result_of}
use Rattle.datapath.specs.Parts.{done_with, with_inputs}
use Rattle.datapath.proofs.other_result.Goals as goal

pub returns-else-divides_by_zero-clause-answer : goal.returns-else-divides_by_zero-clause-answer
returns-else-divides_by_zero-clause-answer c =
    let p = c.sources-p.ensures in
    let a = c.args in
    rw (sym c.is_assigned.ensures ∙ c.if-is_assigned.true, sym c.divides_by_zero.ensures ∙ c.if-divides_by_zero.false)
    (ap₂ with_inputs
    (ap (λ s. Ok s)
    (c.result_done.ensures
    ∙ ap (λ v. done_with a.control a.w v a.state)
    (c.chosen_result-v.ensures.value
    ∙ ap (λ u. result_of a.control a.w u a.state.pc a.bus.now.memory.now a.bus.now.inputs.now) (c.unit_result-u.ensures ∙ ap₂ (unit a.control a.w) p.0 p.1))))
    c.chosen_result-v.ensures.holds.inputs)
