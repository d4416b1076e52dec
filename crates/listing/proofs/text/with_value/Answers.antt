-- `0x` and the digits.
use Rattle.printing.proofs.Writing.{◌then◌}
use Rattle.listing.proofs.text.with_value.Goals as goal

pub returns : goal.returns
returns c = c.with_word.ensures then c.with_hex.ensures
