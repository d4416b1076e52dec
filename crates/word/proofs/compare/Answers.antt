-- `word::compare` meets its contract: each arm is the place of the list that its number names, and at 2 and past the list stands 0.
use Rattle.std.proofs.Common.{refl, arith}
use Rattle.word.specs.Word.{comparisons, comparison}
use Rattle.word.proofs.Tables.{vacant}
use Rattle.word.proofs.compare.Goals as goal

pub returns-in_default : goal.returns-in_default
unfolding comparison
returns-in_default c =
    let a = c.args in
    vacant (comparisons a.x a.y) 2 0 a.f refl (λ n. omega arith)
