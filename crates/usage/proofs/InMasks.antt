-- Which registers a mask has: of none, of one register, and of two masks' bits together.
-- Assumes nothing.
use mathlib.Core.Path.{◌≡◌, refl, ◌∙◌, ap}
use mathlib.Core.Bool.{Bool, true, false, beq}
use Prim.Native.Nat.{ℕ, zero, suc, ◌+◌, ◌-◌, ◌/◌, ◌%◌, ◌^◌, ◌<◌}
use native.Mathlib.Nat.{pow-suc, mul-div-mul_right, div-eq_of_lt, zero-div}
use native.Mathlib.Omega.{arith}
use lib.Bits.{bit_or, or_shr, or_mod}
use lib.Dec.{T, eqb, lit<, eqb-zero-suc, eqb-suc-zero, eqb-suc-suc}
use lib.Pow.{pow-lt}
use Rattle.word.specs.Word.{pick}
use Rattle.word.proofs.Computed.{all, all_at}
use Rattle.word.proofs.Tests.{same_test}
use Rattle.isa.specs.Masks.{in_mask}

in_mask_lem : (x j : ℕ) → in_mask x j ≡ eqb (x / 2 ^ j % 2) 1
in_mask_lem x j = let e : j + 1 - j ≡ 1 = omega arith in ap (λ c. eqb (x / 2 ^ j % 2 ^ c) 1) e

pub in_none : (j : ℕ) → in_mask 0 j ≡ false
in_none j = in_mask_lem 0 j ∙ simp zero-div

bit_of : (a j : ℕ) → eqb (2 ^ a / 2 ^ j % 2) 1 ≡ eqb a j
bit_of zero zero = refl
bit_of zero (suc j) = simp (div-eq_of_lt (pow-lt {i = 0} {j = suc j} (omega arith)), eqb-zero-suc)
bit_of (suc a) zero = let e : 2 ^ suc a / 1 % 2 ≡ 0 = simp pow-suc (omega arith) in simp (e, eqb-suc-zero)
bit_of (suc a) (suc j) = simp (pow-suc, mul-div-mul_right (2 ^ a) (2 ^ j) (lit< {m = 0} {n = 2} tt), eqb-suc-suc) (bit_of a j)

pub in_one : (a j : ℕ) → in_mask (2 ^ a) j ≡ eqb a j
in_one a j = in_mask_lem (2 ^ a) j ∙ bit_of a j

-- of two bits
abbrev or_test : ℕ → ℕ → Bool
or_test p q = beq (eqb (bit_or p q) 1) (pick (eqb q 1) true (eqb p 1))

or_bit : (p q : ℕ) → p < 2 → q < 2 → T (or_test p q)
unfolding all
or_bit p q h l = all_at 2 (or_test p) (all_at 2 (λ p. all 2 (or_test p)) tt p h) q l

pub in_or : (x y j : ℕ) → in_mask (bit_or x y) j ≡ pick (in_mask y j) true (in_mask x j)
in_or x y j =
    in_mask_lem (bit_or x y) j
    ∙ ap (λ z. eqb (z % 2) 1) (or_shr x y j)
    ∙ ap (λ z. eqb z 1) (or_mod (x / 2 ^ j) (y / 2 ^ j) 1)
    ∙ simp (in_mask_lem x j, in_mask_lem y j) (same_test _ _ (or_bit (x / 2 ^ j % 2) (y / 2 ^ j % 2) (omega arith) (omega arith)))
