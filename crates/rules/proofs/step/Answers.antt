-- `rules::step` meets its contract: the opcode chooses.
use native.Mathlib.Omega.{arith}
use Rattle.rules.proofs.Choices.{at_no_port}
use Rattle.rules.proofs.Steps.{by_rule_done}
use Rattle.rules.proofs.step.Goals as goal

pub returns-then-op-lt2-clause-steps : goal.returns-then-op-lt2-clause-steps
returns-then-op-lt2-clause-steps c = by_rule_done c.args.w _ c.args.log.now.filled (at_no_port c.args.w c.ranges.w.fits (λ e. omega arith)) (c.arithmetic.ensures _)

pub returns-else-op-eq10-clause-steps : goal.returns-else-op-eq10-clause-steps
returns-else-op-eq10-clause-steps c = by_rule_done c.args.w _ c.args.log.now.filled (at_no_port c.args.w c.ranges.w.fits c.if-op-eq10.false) c.by_rule.ensures
