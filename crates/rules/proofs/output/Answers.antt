-- `rules::output` meets its contract: whether the log has a free place chooses.
use mathlib.Core.Path.{refl}
use borrow.Author.Rules.{rules}
use Rattle.rules.proofs.Steps.{out_full, out_done}
use Rattle.rules.proofs.output.Goals as goal

pub returns-then-is_full-clause-steps : goal.returns-then-is_full-clause-steps
returns-then-is_full-clause-steps c = out_full c.args.w _ c.args.log.now.filled (search rules) refl

pub returns-else-is_full-clause-steps : goal.returns-else-is_full-clause-steps
returns-else-is_full-clause-steps c =
    rw (c.push.ensures.places, c.push.ensures.entries)
    (out_done c.args.w _ c.args.log.now.filled c.requires.begun.advanced (search rules) c.ra-x.ensures c.write_port.ensures c.entry_of.ensures refl)
