-- Products of words read as signed, as the code makes them in 32 bits.
-- Assumes nothing.
use mathlib.Core.Path.{◌≡◌, sym, ◌∙◌}
use Prim.Native.Nat.{ℕ, zero, suc, ◌*◌, ◌/◌, ◌^◌, ◌<◌, ◌≤◌}
use native.Mathlib.Nat.{mul-le-mul, mod-eq_of_lt}
use native.Mathlib.Omega.{arith}
use lib.IntN.{ℤ, pos, negsuc, neg_ℤ, ◌*ℤ◌}
use lib.Signed.{mag}
use mir.Syntax.{Width, w16, w32}
use mir.Val.{bits, hbits, of_z, to_z}
use Rattle.std.proofs.lemmas.Int.{to_z-of_z}
use Rattle.word.specs.Word.{signed, low_bits}
use Rattle.word.proofs.Signed.{cast_is, low_lt}
use Rattle.muldiv.specs.Muldiv.{high, mulh}

-- a number that fits is read as it was written
pub kept : (w : Width) (z : ℤ) → mag z < 2 ^ hbits w → to_z w (of_z w z) ≡ z
kept w z h = to_z-of_z w z (record { sfits = h })

-- its bits are its low bits
pub low_of : (w : Width) (z : ℤ) → mag z < 2 ^ bits w → of_z w z ≡ low_bits (bits w) z
unfolding low_bits
low_of w (pos n) h = sym (mod-eq_of_lt h)
low_of w (negsuc n) h = rw (mod-eq_of_lt {n = n} {m = 2 ^ bits w} h)

pub mag_neg : (n : ℕ) → mag (neg_ℤ (pos n)) ≤ n
mag_neg zero = omega arith
mag_neg (suc n) = omega arith

small : (a b : ℕ) → a ≤ 32768 → b ≤ 32768 → a * b ≤ 1073741824
small a b h k = mul-le-mul {n₂ = 32768} {m₂ = 32768} h k

-- a product of two words has 32 bits
product_fits : (a b : ℤ) → mag a < 32768 → mag b < 32768 → mag (a *ℤ b) < 2147483648
product_fits (pos a) (pos b) h k = omega (arith, small a b (omega arith) (omega arith))
product_fits (pos a) (negsuc b) h k = omega (arith, mag_neg (a * suc b), small a (suc b) (omega arith) (omega arith))
product_fits (negsuc a) (pos b) h k = omega (arith, mag_neg (suc a * b), small (suc a) b (omega arith) (omega arith))
product_fits (negsuc a) (negsuc b) h k = omega (arith, small (suc a) (suc b) (omega arith) (omega arith))

-- the upper half of the product of a and b, which x and y are read as
pub mulh_is :
    (x y : ℕ) (a b : ℤ) → x < 65536 → y < 65536 → a ≡ to_z w16 x → b ≡ to_z w16 y → mag a < 32768 → mag b < 32768
    → of_z w32 (to_z w32 (of_z w32 (to_z w32 (of_z w32 a) *ℤ to_z w32 (of_z w32 b)))) / 65536 ≡ mulh x y
mulh_is x y a b hx hy ea eb ha hb =
    (λ i. of_z w32 (to_z w32 (of_z w32 (kept w32 a (omega arith) i *ℤ kept w32 b (omega arith) i))) / 65536)
    ∙ (λ i. of_z w32 (kept w32 (a *ℤ b) (product_fits a b ha hb) i) / 65536)
    ∙ (λ i. low_of w32 (a *ℤ b) (omega (arith, product_fits a b ha hb)) i / 65536)
    ∙ (λ i. low_bits 32 ((ea ∙ cast_is x hx) i *ℤ (eb ∙ cast_is y hy) i) / 65536)
    ∙ upper (low_bits 32 (signed 16 x *ℤ signed 16 y)) (low_lt 32 (signed 16 x *ℤ signed 16 y))
  where
    upper : (p : ℕ) → p < 4294967296 → p / 65536 ≡ high p
    upper p h = omega arith
