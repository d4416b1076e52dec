-- The places are cleared before the run and folded after it.
use borrow.Author.Rules.{rules}
use Rattle.engine.proofs.Refusals.{counts_long, zeros}
use Rattle.engine.proofs.long.Goals as goal

pub tallied-ran-requires : goal.tallied-ran-requires
tallied-ran-requires g c = zeros 17408

pub returns : goal.returns
returns g c = counts_long _ _ c.tallied-ran.new.counts c.tallied-ran.result.usage c.tallied-ran.ensures (search rules) c.fold.ensures
