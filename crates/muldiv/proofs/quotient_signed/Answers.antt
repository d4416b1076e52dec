-- By the law of the signed quotient.
use mathlib.Core.Path.{◌∙◌}
use native.Mathlib.Omega.{arith}
use mir.Syntax.{w16}
use mir.Val.{of_z}
use Rattle.muldiv.proofs.Products.{kept}
use Rattle.muldiv.proofs.Quotients.{div_is, by_zero}
use Rattle.muldiv.proofs.quotient_signed.Goals as goal

pub returns-then-y-eq0 : goal.returns-then-y-eq0
returns-then-y-eq0 c = rw c.if-y-eq0.true (by_zero c.args.x)

pub returns-else-y-eq0 : goal.returns-else-y-eq0
returns-else-y-eq0 c =
    let a = c.args in
    c.cast_unsigned.ensures
    ∙ (λ i. of_z w16 (kept w16 c.wrapping_div-q.result c.wrapping_div-q.type_inv i))
    ∙ (λ i. of_z w16 (c.wrapping_div-q.ensures i))
    ∙ div_is a.x a.y _ _ (omega arith) (omega arith) c.cast_signed.ensures c.cast_signed-else-y-eq0.ensures c.cast_signed.type_inv c.cast_signed-else-y-eq0.type_inv
