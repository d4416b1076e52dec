-- By the field.
use mathlib.Core.Logic.{inl, inr}
use mir.Facts.{to_z-of_z}
use Rattle.listing.proofs.Items.{target_written}
use Rattle.listing.proofs.text.with_operand.Goals as goal

pub returns-in-Target : goal.returns-in-Target
returns-in-Target c = rw c.in-Target.is (target_written _ (to_z-of_z c.ranges.n) c.ranges.n c.cast_unsigned.ensures c.target.ensures c.with_value.ensures)

pub returns-in-Number : goal.returns-in-Number
returns-in-Number c =
    let w = rw (to_z-of_z c.ranges.n) at c.with_number.ensures in
    elim c.in-Number.is [ inl e ↦ rw e w | inr e ↦ rw e w ]
