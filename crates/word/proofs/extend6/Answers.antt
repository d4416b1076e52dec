-- `word::extend6` meets its contract, by the law of sign extension at 6 bits.
use Rattle.std.proofs.Common.{arith}
use Rattle.word.proofs.Signed.{extended}
use Rattle.word.proofs.extend6.Goals as goal

pub returns : goal.returns
returns c = extended 6 c.args.w (omega arith) (omega arith)
