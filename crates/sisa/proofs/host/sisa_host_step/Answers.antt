-- By `run_meets`.
-- Assumes nothing.
use Rattle.sisa.proofs.Numbers.{run_meets}
use Rattle.sisa.proofs.host.sisa_host_step.Goals as goal

pub returns : goal.returns
returns c = run_meets _ _ c.run_by_table-counted.ensures c.from-ran.ensures
