-- Digit after digit.
use Rattle.printing.specs.Text.{hex4}
use Rattle.printing.proofs.Writing.{◌then◌}
use Rattle.printing.proofs.Printed.with_hex.Goals as goal

pub returns : goal.returns
unfolding hex4
returns c =
    c.with_digit.ensures
    then c.with_digit-2.ensures
    then c.with_digit-3.ensures
    then c.with_digit-4.ensures
