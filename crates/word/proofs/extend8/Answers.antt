-- `word::extend8` meets its contract, by the law of sign extension at 8 bits.
use Rattle.std.proofs.Common.{arith}
use Rattle.word.proofs.Signed.{extended}
use Rattle.word.proofs.extend8.Goals as goal

pub returns : goal.returns
returns c = extended 8 c.args.w (omega arith) (omega arith)
