-- By the law of the signed product's upper half.
use mathlib.Core.Path.{◌∙◌}
use Prim.Native.Nat.{◌/◌}
use native.Mathlib.Omega.{arith}
use lib.IntN.{◌*ℤ◌}
use mir.Syntax.{w16, w32}
use mir.Val.{of_z, to_z}
use Rattle.muldiv.proofs.Products.{kept, mulh_is}
use Rattle.muldiv.proofs.high_product_signed.Goals as goal

pub returns : goal.returns
returns c =
    let a = c.args in
    let x = c.cast_signed in
    let y = c.cast_signed-2 in
    let wide = c.from.ensures ∙ kept w16 x.result x.type_inv in
    let wide' = c.from-2.ensures ∙ kept w16 y.result y.type_inv in
    (λ i. c.cast_unsigned.ensures i / 65536)
    ∙ (λ i. of_z w32 (to_z w32 (of_z w32 (to_z w32 (of_z w32 (wide i)) *ℤ to_z w32 (of_z w32 (wide' i))))) / 65536)
    ∙ mulh_is a.x a.y _ _ (omega arith) (omega arith) x.ensures y.ensures x.type_inv y.type_inv
