-- By whether the value is known, by the operation, by whether the distance is odd, and by what writing gives.
use Rattle.std.proofs.Common.{◌≡◌, sym, ◌∙◌, rules}
use borrow.Author.Tests.{not-true, not-false}
use Rattle.isa.specs.Instructions.{shown_writing}
use Rattle.encoding.specs.Words.{written, encoded, stated}
use Rattle.encoding.specs.Numbers.{given_word}
use Rattle.encoding.proofs.Encoding.{odd_row, written_row}
use Rattle.encoding.proofs.Fields.{handed_on}
use Rattle.encoding.proofs.encoded.Goals as goal

pub returns-then-not-parts : goal.returns-then-not-parts
unfolding stated
returns-then-not-parts c = rw (not-true _ c.if-not-parts.true)

pub returns-in_default : goal.returns-in_default
unfolding stated encoded
returns-in_default c = rw (not-false _ c.if-not-parts.false, c.in_default.is)

pub returns-then-is_odd : goal.returns-then-is_odd
returns-then-is_odd c =
    let field = rw c.in-Instruction.is at c.field_of-field.ensures in
    rw c.in-Instruction.is (odd_row _ _ _ field (not-false _ c.if-not-parts.false) (sym c.is_odd.ensures ∙ c.if-is_odd.true))

pub returns : goal.returns
unfolding written
returns c =
    let field = rw c.in-Instruction.is at c.field_of-field.ensures in
    let m : given_word c.map_err.result ≡ written (shown_writing c.write-written.result) = search rules in
    rw c.in-Instruction.is
    (m ∙ written_row _ _ _ field (not-false _ c.if-not-parts.false) (sym c.is_odd.ensures ∙ c.if-is_odd.false)
    (handed_on c.number_of.type_inv c.number_of.ensures) c.write-written.ensures)
