-- Part after part, for which there is room.
use native.Mathlib.Omega.{arith}
use Rattle.printing.proofs.Writing.{◌then◌, at_most, wrote_held}
use Rattle.diagnostic.specs.Diagnostic.{diagnostic_of}
use Rattle.diagnostic.proofs.diagnostic.Goals as goal

pub returns : goal.returns
unfolding diagnostic_of
returns c =
    let number = c.from.ensures in
    wrote_held c.empty.ensures
    (c.with_word.ensures
    then c.with_decimal.ensures
    then c.with_word-2.ensures
    then (rw number at c.with_decimal-2.ensures)
    then (rw c.reason.ensures.reason at (at_most c.reason.ensures.short c.with_word-3.ensures))
    then c.with_byte-message.ensures
    then c.with_source.ensures)
    (omega arith)
