-- By the field and the value.
use mathlib.Core.Path.{◌∙◌, ap}
use native.Mathlib.Omega.{arith}
use Rattle.std.proofs.lemmas.Grind.{common_steps}
use borrow.Author.Tests.{le-leb}
use mir.Syntax.{w16}
use mir.Val.{to_z}
use Rattle.token.specs.Tokens.{between}
use Rattle.encoding.specs.Words.{distance, number_of}
use Rattle.encoding.proofs.Fields.{handed_on, word_read, half_on, byte_on}
use Rattle.encoding.proofs.number_of.Goals as goal

pub returns-in-Target : goal.returns-in-Target
unfolding number_of distance
returns-in-Target c =
    rw c.in-Target.is
    (half_on (distance c.args.address c.args.v) (omega arith) c.cast_signed.type_inv (c.cast_signed.ensures ∙ ap (to_z w16) c.distance.ensures))

pub returns-in-EightBits : goal.returns-in-EightBits
unfolding number_of between
returns-in-EightBits c =
    let v = c.args.v in
    rw (c.in-EightBits.is, le-leb 128 v (omega arith), le-leb v 255 (omega arith)) (byte_on v (omega arith) (omega arith))

pub returns-in_default : goal.returns-in_default
unfolding number_of between
returns-in_default c =
    handed_on c.cast_signed-in_default.type_inv (c.cast_signed-in_default.ensures ∙ word_read _ c.ranges.v.fits ∙ grind (arith, common_steps))
