-- The digits are std's.
use mathlib.Core.Path.{◌≡◌, ap, ◌∙◌}
use native.Mathlib.Omega.{arith}
use lib.ListN.{length}
use mir.Facts.{to_z-of_z}
use Rattle.std.proofs.Common.{◌≤◌}
use Rattle.std.specs.Fmt.{signed_decimal}
use Rattle.printing.proofs.Writing.{at_most}
use Rattle.listing.proofs.Numbers.{text_is, text_short}
use Rattle.listing.proofs.text.with_number.Goals as goal

pub returns : goal.returns
returns c =
    let e : c.as_bytes.result.now ≡ signed_decimal c.args.n = c.as_bytes.ensures.value ∙ c.format.ensures.text ∙ ap signed_decimal (to_z-of_z c.ranges.n) in
    let short : length (signed_decimal c.args.n) ≤ 21 = omega (arith, text_short c.args.n c.ranges.n) in
    rw (text_is c.args.n c.ranges.n) (at_most short (rw e at c.with_word.ensures))
