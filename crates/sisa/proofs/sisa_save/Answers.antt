-- By `save_meets`.
use Rattle.sisa.proofs.Numbers.{save_meets}
use Rattle.sisa.proofs.sisa_save.Goals as goal

pub returns : goal.returns
returns c = save_meets _ c.save-saved.ensures c.from.ensures
