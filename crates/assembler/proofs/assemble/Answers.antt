-- By the length of the program, and of the text.
use Rattle.assembler.proofs.Replying.{wrong_length, long_text, short_text}
use Rattle.assembler.proofs.assemble.Goals as goal

pub returns-then-program-ne-PROGRAM_BYTES : goal.returns-then-program-ne-PROGRAM_BYTES
returns-then-program-ne-PROGRAM_BYTES c = wrong_length _ _ c.if-program-ne-PROGRAM_BYTES.true

pub returns-then-text-gt-TEXT_BYTES : goal.returns-then-text-gt-TEXT_BYTES
returns-then-text-gt-TEXT_BYTES c = long_text c.args.text.now c.args.program.now _ c.assembled.result c.if-program-ne-PROGRAM_BYTES.false c.if-text-gt-TEXT_BYTES.true c.assembled.ensures

pub returns : goal.returns
returns c = short_text c.args.text.now c.args.program.now _ c.assembled-2.result c.if-program-ne-PROGRAM_BYTES.false c.if-text-gt-TEXT_BYTES.false c.assembled-2.ensures
