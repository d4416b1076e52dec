-- By the group.
use mathlib.Core.Path.{sym, ◌∙◌}
use Rattle.datapath.proofs.Done.{result_done}
use Rattle.datapath.proofs.Together.{result_group}
use Rattle.datapath.proofs.step.Goals as goal

pub result_step-requires : goal.result_step-requires
result_step-requires c =
    (c.requires.counts, sym c.is_result.ensures ∙ c.if-is_result.true)

pub returns-then-is_result-clause-steps : goal.returns-then-is_result-clause-steps
returns-then-is_result-clause-steps c =
    let a = c.args in
    let g = result_group a.control a.w a.state (sym c.is_result.ensures ∙ c.if-is_result.true) in
    let r = c.result_step.ensures in
    rw (r.rest.0, r.rest.1)
    (result_done a.control a.w _ g.by_fields c.requires.tests_lock a.log.now.filled g.no_port (g.no_store _) g.on c.result_step.result r.answer)
