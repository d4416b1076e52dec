-- `word::shift` meets its contract, by the laws of shifts by a signed amount: `left` and `right`.
use Rattle.std.proofs.Common.{arith}
use Rattle.word.proofs.Shifts.{left, right}
use Rattle.word.proofs.shift.Goals as goal

pub returns-then-t-lt16 : goal.returns-then-t-lt16
returns-then-t-lt16 c =
    let a = c.args in
    left a.fill a.x a.y (omega arith)

pub returns-else-t-lt16 : goal.returns-else-t-lt16
returns-else-t-lt16 c =
    let a = c.args in
    right a.fill a.x a.y c.requires (omega arith) (omega arith)
