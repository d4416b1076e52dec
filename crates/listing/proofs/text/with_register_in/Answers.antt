-- By the mask's bit.
use Rattle.listing.proofs.Registers.{in_mask_lem, not_in_mask}
use Rattle.listing.proofs.text.with_register_in.Goals as goal

pub returns-then-mask-k-eq1 : goal.returns-then-mask-k-eq1
returns-then-mask-k-eq1 c = in_mask_lem _ _ c.if-mask-k-eq1.true c.with_byte.ensures c.with_register.ensures

pub returns : goal.returns
returns c = not_in_mask _ _ c.if-mask-k-eq1.false
