-- By `set_meets`.
use Rattle.sisa.proofs.Numbers.{set_meets}
use Rattle.sisa.proofs.sisa_set_input.Goals as goal

pub returns : goal.returns
returns c = set_meets _ c.set_input-setting.ensures c.number.ensures
