-- By the first token: none, no mnemonic, or that of a row.
use Rattle.std.proofs.Common.{◌≡◌, ◌+◌, ◌-◌, ◌*◌, arith}
use Rattle.statement.specs.Table.{cell}
use Rattle.statement.specs.Parts.{shown_line, shown_content}
use Rattle.statement.specs.Reading.{statement_of}
use Rattle.statement.proofs.Statements.{no_mnemonic, no_operands, more_follows, nothing_follows}
use Rattle.statement.proofs.line.statement_at.Goals as goal

pub returns-in_default : goal.returns-in_default
unfolding shown_line shown_content statement_of
returns-in_default c = rw c.in_default.ensures

pub returns-in_err-row : goal.returns-in_err-row
unfolding shown_line
returns-in_err-row c = rw c.from_residual.ensures (no_mnemonic _ _ _ c.in-Some.ensures c.in_err-row.ensures)

pub returns-in_err-taken : goal.returns-in_err-taken
unfolding shown_line cell
returns-in_err-taken c =
    let e : 12 * c.in_ok-row.row + 6 + 6 - (12 * c.in_ok-row.row + 6) ≡ 6 = omega arith in
    rw c.from_residual-in_err-taken.ensures
    (no_operands _ _ _ c.in-Some.ensures c.in_ok-row.ensures (rw (e, c.table-table.ensures) at c.in_err-taken.ensures))

pub returns-in-Some-token_at : goal.returns-in-Some-token_at
unfolding shown_line cell
returns-in-Some-token_at c =
    let e : 12 * c.in_ok-row.row + 6 + 6 - (12 * c.in_ok-row.row + 6) ≡ 6 = omega arith in
    more_follows _ _ _ c.in-Some.ensures c.in_ok-row.ensures _ (rw (e, c.table-table.ensures) at c.in_ok-taken.ensures)
    c.in-Some-token_at.ensures

pub returns-in-None : goal.returns-in-None
unfolding shown_line shown_content cell
returns-in-None c =
    let e : 12 * c.in_ok-row.row + 6 + 6 - (12 * c.in_ok-row.row + 6) ≡ 6 = omega arith in
    rw c.operation_at.ensures
    (nothing_follows _ _ _ c.in-Some.ensures c.in_ok-row.ensures _ (rw (e, c.table-table.ensures) at c.in_ok-taken.ensures)
    c.in-None.ensures)
