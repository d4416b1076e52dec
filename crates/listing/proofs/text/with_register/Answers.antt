-- Byte after byte.
use Rattle.printing.proofs.Writing.{◌then◌}
use Rattle.listing.proofs.text.with_register.Goals as goal

pub returns : goal.returns
returns c = c.with_byte.ensures then c.with_byte-2.ensures
