-- R0 to R7, PC and n, one after the other.
use Rattle.std.proofs.Common.{rules}
use Rattle.player.proofs.Digests.{digest_append}
use Rattle.player.proofs.digest.registers.Goals as goal

pub returns : goal.returns
returns c = simp digest_append (search rules)
