-- The fold writes a text for each of the eight numbers.
use Rattle.std.proofs.Common.{rules, refl}
use Rattle.std.proofs.lemmas.Iterator.{YieldsList-from_range}
use Rattle.printing.proofs.Writing.{folded}
use Rattle.listing.specs.Listing.{register_in, registers_text}
use Rattle.listing.proofs.text.with_registers.Goals as goal

pub returns : goal.returns
unfolding registers_text
returns c = folded _ (register_in c.args.mask) 3 (YieldsList-from_range 0 8 8 refl refl) (λ t x r f' k. search rules) c.fold.ensures.ran
