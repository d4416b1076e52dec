-- What is read, then Rd.
use native.Mathlib.Omega.{arith}
use Rattle.usage.proofs.Methods.{write_room, written}
use Rattle.usage.proofs.Usage.compute_one.Goals as goal

pub add-requires : goal.add-requires
add-requires c = write_room c.args.n _ _ c.args.self.now c.read_one.ensures c.args.d (omega arith) c.requires.2

pub returns : goal.returns
returns c = written c.args.n _ _ c.args.self.now c.read_one.ensures c.args.d c.add.ensures
