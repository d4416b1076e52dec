-- The digits are std's.
use mathlib.Core.Path.{◌≡◌, sym, ◌∙◌}
use Rattle.printing.specs.Text.{decimal}
use Rattle.printing.proofs.Decimal.{decimal_is, decimal_short}
use Rattle.printing.proofs.Writing.{at_most}
use Rattle.printing.proofs.Printed.with_decimal.Goals as goal

pub returns : goal.returns
returns c =
    let e : c.as_bytes.result.now ≡ decimal c.args.n = c.as_bytes.ensures.value ∙ c.format.ensures.text ∙ sym (decimal_is c.args.n c.ranges.n.fits) in
    at_most (decimal_short c.args.n c.ranges.n.fits) (rw e at c.with_word.ensures)
