-- By `assembly_meets`.
use Rattle.sisa.proofs.Numbers.{assembly_meets}
use Rattle.sisa.proofs.sisa_assemble.Goals as goal

pub returns : goal.returns
returns c = assembly_meets _ _ c.assemble-assembly.ensures c.from.ensures
