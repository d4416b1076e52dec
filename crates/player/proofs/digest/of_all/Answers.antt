-- The state, then what is lent.
use Rattle.std.proofs.Common.{sym, ◌∙◌}
use Rattle.player.specs.Digest.{state_numbers}
use Rattle.player.proofs.Digests.{digest_append}
use Rattle.player.proofs.digest.of_all.Goals as goal

pub returns : goal.returns
returns c = c.lent.ensures ∙ rw c.registers.ensures (sym (digest_append 0 (state_numbers c.args.state) _))
