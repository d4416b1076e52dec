-- What the code answers by a layout is what the sheet's line says (`write_is`).
use Rattle.isa.specs.Instructions.{write_of}
use Rattle.isa.proofs.Lines.{write_is}
use Rattle.isa.proofs.write.Goals as goal

pub returns : goal.returns
unfolding write_of
returns c = rw (c.word_of.ensures, c.of.ensures.is) (write_is c.args.i)
