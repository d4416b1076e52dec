-- By the signs of dividend and divisor, from division in ℕ.
-- Assumes nothing.
use mathlib.Core.Path.{◌≡◌, refl, sym, ◌∙◌, ap}
use mathlib.Core.Bool.{Bool, true, false}
use mathlib.Core.Logic.{◌⊎◌, inl, inr}
use Prim.Native.Nat.{ℕ, zero, suc, ◌+◌, ◌-◌, ◌*◌, ◌/◌, ◌%◌, ◌<◌}
use native.Mathlib.Nat.{div-add-mod', mod-lt, zero-mul}
use native.Mathlib.Omega.{arith}
use lib.Dec.{ltb}
use lib.IntN.{ℤ, pos, negsuc, neg_ℤ, nat_abs, ◌+ℤ◌, ◌*ℤ◌, neg_ℤ-+ℤ}
use lib.Signed.{non_neg, quot_z, rem_z}
use Rattle.word.specs.Word.{pick, signed}
use Rattle.word.proofs.Signed.{signed_is}
use Rattle.claims_sheet.specs.Quotients.{TowardZero, Quotients}

-- in ℕ
whole : (n d : ℕ) → n ≡ n / d * d + n % d
whole n d = sym (div-add-mod' n d)

-- ---- Of -q

neg_abs : (r : ℕ) → nat_abs (neg_ℤ (pos r)) ≡ r
neg_abs zero = refl
neg_abs (suc r) = refl

neg_pos : (q n : ℕ) → neg_ℤ (pos q) *ℤ pos n ≡ neg_ℤ (pos (q * n))
neg_pos zero n = rw (zero-mul n)
neg_pos (suc q) n = refl

neg_neg : (q n : ℕ) → neg_ℤ (pos q) *ℤ negsuc n ≡ pos (q * suc n)
neg_neg zero n = rw (zero-mul (suc n))
neg_neg (suc q) n = refl

-- a negative dividend: -(n / d * d) - n % d
neg_whole : (n d : ℕ) → neg_ℤ (pos n) ≡ neg_ℤ (pos (n / d * d)) +ℤ neg_ℤ (pos (n % d))
neg_whole n d = ap (λ k. neg_ℤ (pos k)) (whole n d) ∙ neg_ℤ-+ℤ (pos (n / d * d)) (pos (n % d))

-- ---- In ℤ

makes : (x y : ℤ) → x ≡ quot_z x y *ℤ y +ℤ rem_z x y
makes (pos m) (pos n) = ap pos (whole m n)
makes (pos m) (negsuc n) = ap pos (whole m (suc n)) ∙ ap (λ k. k +ℤ pos (m % suc n)) (sym (neg_neg (m / suc n) n))
makes (negsuc m) (pos n) = neg_whole (suc m) n ∙ ap (λ k. k +ℤ neg_ℤ (pos (suc m % n))) (sym (neg_pos (suc m / n) n))
makes (negsuc m) (negsuc n) = neg_whole (suc m) (suc n)

small : (x y : ℤ) → 0 < nat_abs y → nat_abs (rem_z x y) < nat_abs y
small (pos m) y h = mod-lt m h
small (negsuc m) y h = rw (neg_abs (suc m % nat_abs y)) (mod-lt (suc m) h)

sign : (x y : ℤ) → (rem_z x y ≡ pos 0) ⊎ (non_neg (rem_z x y) ≡ non_neg x)
sign (pos m) y = inr refl
sign (negsuc m) y = go (suc m % nat_abs y)
  where
    go : (r : ℕ) → (neg_ℤ (pos r) ≡ pos 0) ⊎ (non_neg (neg_ℤ (pos r)) ≡ false)
    go zero = inl refl
    go (suc r) = inr refl

toward_zero : (x y : ℤ) → 0 < nat_abs y → TowardZero x y (quot_z x y)
toward_zero x y h = record { remainder = rem_z x y; makes = makes x y; small = small x y h; sign = sign x y }

-- ---- Of words

some : (y : ℕ) → y < 65536 → (y ≡ 0 → ⊥) → 0 < nat_abs (signed 16 y)
some y h n = rw (signed_is 16 y h) (go (ltb y 32768))
  where
    go : (t : Bool) → 0 < nat_abs (pick t (pos y) (negsuc (65536 - suc y)))
    go true = omega arith
    go false = omega arith

pub quotients : Quotients
quotients =
    record {
      signed_quotient = λ x y h n. (quot_z (signed 16 x) (signed 16 y), refl, toward_zero (signed 16 x) (signed 16 y) (some y h n));
      unsigned_quotient = λ x y n. (x % y, whole x y, mod-lt x (omega arith));
    }
