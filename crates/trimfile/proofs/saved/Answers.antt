-- By the save's reply.
use Rattle.std.proofs.Common.{rules, refl}
use Rattle.trimfile.proofs.Replies.{by_save, mapped}
use Rattle.trimfile.proofs.saved.Goals as goal

pub returns : goal.returns
returns c = by_save _ _ _ c.reset.ensures c.save.ensures refl (mapped c.args.text.now c.save.result.reply (λ r d p. search rules) c.map_err.ensures.cases)
