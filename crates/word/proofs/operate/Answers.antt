-- `word::operate` meets its contract: each arm is the place of the list that its number names, and past the list stands 0.
use Rattle.std.proofs.Common.{sym, arith}
use lib.ListN.{get_or-eq_default}
use Rattle.word.specs.Word.{operations, operation}
use Rattle.word.proofs.operate.Goals as goal

pub returns-in_default : goal.returns-in_default
unfolding operation
returns-in_default c =
    let a = c.args in
    sym (get_or-eq_default (operations a.x a.y) 0 (omega arith))
