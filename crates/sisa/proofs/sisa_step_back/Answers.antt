-- By `back_meets`.
use Rattle.sisa.proofs.Numbers.{back_meets}
use Rattle.sisa.proofs.sisa_step_back.Goals as goal

pub returns : goal.returns
returns c = back_meets _ c.step_back-backed.ensures c.from.ensures
