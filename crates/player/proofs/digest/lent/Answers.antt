-- Part after part.
use Rattle.std.proofs.Common.{rules}
use Rattle.player.proofs.Digests.{digest_append}
use Rattle.player.proofs.digest.lent.Goals as goal

pub returns : goal.returns
returns c = simp digest_append (search rules)
