-- `rules::at_port` meets its contract: e chooses between IN and OUT.
use mathlib.Core.Path.{refl}
use Rattle.rules.proofs.Choices.{in_word, out_word_lem}
use Rattle.rules.proofs.Steps.{in_done}
use Rattle.rules.proofs.at_port.Goals as goal

pub returns-then-w-eq0-clause-steps : goal.returns-then-w-eq0-clause-steps
returns-then-w-eq0-clause-steps c =
    let w = c.args.w in
    let word = in_word w c.ranges.w.fits c.requires.opcode c.if-w-eq0.true in
    rw (word.0, word.1) (in_done w _ c.args.log.now.filled c.requires.advanced c.input.ensures refl)

pub returns-else-w-eq0-clause-steps : goal.returns-else-w-eq0-clause-steps
returns-else-w-eq0-clause-steps c =
    let word = out_word_lem c.args.w c.ranges.w.fits c.requires.opcode c.if-w-eq0.false in
    rw (word.0, word.1) c.output.ensures.steps
