-- Part after part of the line; there are eight registers.
use native.Mathlib.Omega.{arith}
use lib.ListN.{length}
use mathlib.Core.Path.{◌≡◌}
use borrow.Author.Rules.{rules}
use Rattle.std.proofs.lemmas.Iterator.{YieldsList-from_slice}
use Rattle.report.specs.Printed.{register, registers_line}
use Rattle.printing.proofs.Writing.{◌then◌, at_most, folded}
use Rattle.report.proofs.lines.with_registers.Goals as goal

pub returns : goal.returns
unfolding registers_line
returns c =
    let eight : length c.args.state.r ≡ 8 = search rules in
    at_most (omega (arith, eight))
    (c.with_byte.ensures
    then folded _ register 5 (YieldsList-from_slice _ c.iter.ensures.rest) (λ t x r f' k. search rules) c.fold.ensures.ran
    then c.with_byte-2.ensures)
