-- Quotients of words read as signed, as the code makes them in 16 bits.
-- Assumes nothing.
use mathlib.Core.Path.{◌≡◌, ◌∙◌}
use Prim.Native.Nat.{ℕ, suc, ◌/◌, ◌<◌}
use native.Mathlib.Nat.{div-le_self, div-zero}
use native.Mathlib.Omega.{arith}
use lib.IntN.{ℤ, pos, negsuc}
use lib.Signed.{mag, quot_z}
use mir.Syntax.{w16}
use mir.Val.{of_z, to_z}
use Rattle.std.proofs.lemmas.Int.{of_z-to_z}
use Rattle.word.specs.Word.{signed, low_bits}
use Rattle.word.proofs.Signed.{cast_is, low_lt}
use Rattle.muldiv.specs.Muldiv.{div}
use Rattle.muldiv.proofs.Products.{kept, low_of, mag_neg}

-- a quotient of two words has 16 bits
quotient_fits : (a b : ℤ) → mag a < 32768 → mag (quot_z a b) < 65536
quotient_fits (pos a) (pos b) h = omega (arith, div-le_self a b)
quotient_fits (pos a) (negsuc b) h = omega (arith, div-le_self a (suc b), mag_neg (a / suc b))
quotient_fits (negsuc a) (pos b) h = omega (arith, div-le_self (suc a) b, mag_neg (suc a / b))
quotient_fits (negsuc a) (negsuc b) h = omega (arith, div-le_self (suc a) (suc b))

-- the quotient of a and b, which x and y are read as
pub div_is :
    (x y : ℕ) (a b : ℤ) → x < 65536 → y < 65536 → a ≡ to_z w16 x → b ≡ to_z w16 y → mag a < 32768 → mag b < 32768
    → of_z w16 (to_z w16 (of_z w16 (quot_z (to_z w16 (of_z w16 a)) (to_z w16 (of_z w16 b))))) ≡ div x y
div_is x y a b hx hy ea eb ha hb =
    let l = low_of w16 (quot_z a b) (quotient_fits a b ha) in
    (λ i. of_z w16 (to_z w16 (of_z w16 (quot_z (kept w16 a ha i) (kept w16 b hb i)))))
    ∙ (λ i. of_z w16 (to_z w16 (l i)))
    ∙ of_z-to_z w16 (low_bits 16 (quot_z a b)) (low_lt 16 (quot_z a b))
    ∙ (λ i. low_bits 16 (quot_z ((ea ∙ cast_is x hx) i) ((eb ∙ cast_is y hy) i)))

-- a quotient by 0 is 0
pub by_zero : (x : ℕ) → 0 ≡ div x 0
unfolding signed low_bits
by_zero x = go (signed 16 x)
  where
    go : (z : ℤ) → 0 ≡ low_bits 16 (quot_z z (pos 0))
    go (pos a) = rw (div-zero a)
    go (negsuc a) = rw (div-zero (suc a))
