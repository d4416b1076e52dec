-- The mnemonic; and a space and the operands, where it has some.
use Prim.Native.Nat.{◌<◌}
use mathlib.Core.Path.{ap, sym, ◌∙◌}
use native.Mathlib.Omega.{arith}
use borrow.Author.Rules.{rules}
use lib.ListN.{length}
use Rattle.statement.specs.Syntax.{table, row_at}
use Rattle.listing.proofs.Rows.{row_small, name_short, bare_written, operands_written}
use Rattle.listing.proofs.text.with_instruction.Goals as goal

pub mnemonic_length-requires : goal.mnemonic_length-requires
mnemonic_length-requires c = row_small c.args.i.kind c.from-row.ensures

pub overflow_add-to : goal.overflow_add-to
overflow_add-to c = omega (arith, name_short (row_small c.args.i.kind c.from-row.ensures) c.mnemonic_length.ensures)

pub slice_bounds-with_word-end : goal.slice_bounds-with_word-end
slice_bounds-with_word-end c =
    let few : c.from-row.result < length table = row_small c.args.i.kind c.from-row.ensures in
    let short = name_short few c.mnemonic_length.ensures in
    search rules

pub bounds-table-operands : goal.bounds-table-operands
bounds-table-operands c =
    let few : c.from-row.result < length table = row_small c.args.i.kind c.from-row.ensures in
    search rules

pub returns-then-table-operands-eq32 : goal.returns-then-table-operands-eq32
returns-then-table-operands-eq32 c =
    bare_written _ c.args.i c.from-row.ensures c.mnemonic_length.ensures c.table-table.ensures c.with_word-named.ensures
    c.if-table-operands-eq32.true

pub with_items-requires : goal.with_items-requires
with_items-requires c = (omega (arith, row_small c.args.i.kind c.from-row.ensures, ap length c.table-table.ensures), c.requires)

pub returns : goal.returns
returns c =
    operands_written _ c.args.i c.from-row.ensures c.mnemonic_length.ensures c.table-table.ensures c.with_word-named.ensures
    (c.field_of.ensures ∙ ap (λ n. (row_at n).field) (sym c.from-row.ensures)) c.if-table-operands-eq32.false c.with_byte.ensures c.with_items.ensures
