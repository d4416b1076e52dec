-- The program part, and the data part over the zeros after it.
use Rattle.image.proofs.Left.{both_left}
use Rattle.image.proofs.place_both.Goals as goal

pub returns : goal.returns
returns c =
    both_left c.requires.0 c.requires.1 c.requires.2 c.program_part-program.ensures c.data_part.ensures
    c.place.ensures c.place-2.ensures
