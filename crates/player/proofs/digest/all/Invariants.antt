-- What is taken in and what is left give the digest of all.
use Rattle.std.proofs.Common.{◌≡◌, drop}
use Rattle.player.specs.Digest.{digest_from}
use Rattle.player.proofs.digest.all.Given as goal

abbrev pub invariant-loop-x : goal.invariant-loop-x
invariant-loop-x g l = digest_from l.after (g.T.Number.numbers (drop l.x-index l.part)) ≡ digest_from l.digest (g.T.Number.numbers l.part)
