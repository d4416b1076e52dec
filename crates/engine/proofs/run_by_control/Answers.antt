-- What the run leaves besides its counts (`uncounted`).
use Rattle.run.proofs.Uncounted.{uncounted}
use Rattle.engine.proofs.run_by_control.Goals as goal

pub returns : goal.returns
returns c = uncounted _ _ c.tallied-ran.ensures
