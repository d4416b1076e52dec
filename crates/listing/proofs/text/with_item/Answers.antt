-- By the item.
use native.Mathlib.Omega.{arith}
use borrow.Author.Rules.{rules}
use borrow.Author.Tests.{ne_eqb}
use mathlib.Core.Path.{◌≡◌}
use mir.Syntax.{w16}
use mir.Val.{to_z, of_z}
use Rattle.printing.proofs.Writing.{at_most}
use Rattle.statement.specs.Table.{item_of}
use Rattle.listing.proofs.text.with_item.Goals as goal

pub returns-in-97 : goal.returns-in-97
unfolding item_of
returns-in-97 c = rw c.in-97.is (at_most (omega arith) c.with_register.ensures)

pub returns-in-98 : goal.returns-in-98
unfolding item_of
returns-in-98 c = rw c.in-98.is (at_most (omega arith) c.with_register-in-98.ensures)

pub returns-in-100 : goal.returns-in-100
unfolding item_of
returns-in-100 c = rw c.in-100.is (at_most (omega arith) c.with_register-in-100.ensures)

pub returns-in-110 : goal.returns-in-110
unfolding item_of
returns-in-110 c =
    let n = c.args.i.n in
    -- the number is handed on as it is
    let same : to_z w16 (of_z w16 n) ≡ n = search rules in
    rw c.in-110.is (rw same at c.with_operand.ensures)

pub returns-in-44 : goal.returns-in-44
unfolding item_of
returns-in-44 c = rw c.in-44.is (at_most (omega arith) c.with_word.ensures)

pub returns-in_default : goal.returns-in_default
unfolding item_of
returns-in_default c =
    let n = c.args.item in
    rw (ne_eqb n 97 (omega arith), ne_eqb n 98 (omega arith), ne_eqb n 100 (omega arith), ne_eqb n 110 (omega arith), ne_eqb n 44 (omega arith))
    (at_most (omega arith) c.with_byte.ensures)
