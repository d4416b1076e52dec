-- By `run_meets`.
use Rattle.sisa.proofs.Numbers.{run_meets}
use Rattle.sisa.proofs.sisa_run_by_table.Goals as goal

pub returns : goal.returns
returns c = run_meets _ _ c.run_by_table-ran.ensures c.from.ensures
