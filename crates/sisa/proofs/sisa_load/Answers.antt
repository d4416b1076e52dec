-- By `load_meets`.
use Rattle.sisa.proofs.Numbers.{board_load, load_meets}
use Rattle.sisa.proofs.sisa_load.Goals as goal

pub returns : goal.returns
returns c = load_meets _ (board_load _ _ _ _ _ _ c.from.ensures c.load-loaded.ensures) c.from-2.ensures
