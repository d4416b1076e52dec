-- By `run_meets`.
use Rattle.sisa.proofs.Numbers.{run_meets}
use Rattle.sisa.proofs.sisa_run_by_rules_with_journal.Goals as goal

pub returns : goal.returns
returns c = run_meets _ _ c.run_by_rules_with_journal-ran.ensures c.from.ensures
