-- Shifts by a signed amount, as the code does them on 32 bits.
-- Assumes nothing.
use Rattle.std.proofs.Common.{◌≡◌, ℕ, zero, suc, ◌+◌, ◌-◌, ◌*◌, ◌/◌, ◌%◌, ◌^◌, ◌<◌, ◌≤◌, ltb, pos, negsuc, sym, ◌∙◌, mul_assoc, div-lt_iff_lt-mul, div-le_self, div-one, arith, pow_pos, pow-add, le-ltb, lt-ltb}
use native.Mathlib.Nat.{add-mul-div_right, add-mul-mod_self_right, div-eq_of_eq-mul_left}
use lib.Pow.{mod-mod-pow}
use Rattle.word.specs.Word.{pick, amount, shifted}
use Rattle.word.proofs.Signed.{signed_is}

-- t is the low 5 bits: an amount of t below 16, else of t - 32
amount_is : (y : ℕ) → amount y ≡ pick (ltb (y % 32) 16) (pos (y % 32)) (negsuc (32 - suc (y % 32)))
amount_is y = rw div-one (signed_is 5 (y % 32) (omega arith))

pub left : (fill x y : ℕ) → y % 32 < 16 → x * 2 ^ (y % 32) % 4294967296 % 65536 ≡ shifted fill x (amount y)
unfolding shifted
left fill x y h = rw (amount_is y, lt-ltb (y % 32) 16 h) (mod-mod-pow (x * 2 ^ (y % 32)) 16 16)

free :
    (fill x y : ℕ) → 16 ≤ y % 32
    → x / 2 ^ (32 - y % 32) + fill * (65536 - 65536 / 2 ^ (32 - y % 32)) ≡ shifted fill x (amount y)
unfolding shifted
free fill x y h =
    let e : 32 - y % 32 ≡ suc (32 - suc (y % 32)) = omega arith in
    rw (amount_is y, le-ltb (y % 32) 16 h, e)

-- P * Q is 65536: what is left of x with 16 bits `fill` above it, when it is divided by Q
wide :
    (fill x P Q : ℕ) → fill < 2 → x < 65536 → P * Q ≡ 65536 → 0 < Q
    → (x + fill * 4294901760) / Q % 65536 ≡ x / Q + fill * (65536 - 65536 / Q)
wide fill x P Q f h e q =
    rw (above, add-mul-div_right x (fill * 65535 * P) q, whole) (go fill f)
  where
    above : fill * 4294901760 ≡ fill * 65535 * P * Q
    above = rw (mul_assoc (fill * 65535) P Q, e) (omega arith)

    whole : 65536 / Q ≡ P
    whole = div-eq_of_eq-mul_left q (sym e)

    low : x / Q < P
    low = (div-lt_iff_lt-mul q).1 (omega arith)

    most : P ≤ 65536
    most = omega (arith, whole, div-le_self 65536 Q)

    go : (b : ℕ) → b < 2 → (x / Q + b * 65535 * P) % 65536 ≡ x / Q + b * (65536 - P)
    go zero l = omega (arith, low, most)
    go (suc zero) l =
        let s : x / Q + 65535 * P ≡ x / Q + (65536 - P) + (P - 1) * 65536 = omega (arith, low, most) in
        rw (s, add-mul-mod_self_right (x / Q + (65536 - P)) (P - 1) 65536) (omega (arith, low, most))
    go (suc (suc b)) l = absurd (omega arith)

pub right :
    (fill x y : ℕ) → fill < 2 → x < 65536 → 16 ≤ y % 32
    → (x + fill * 4294901760) / 2 ^ (32 - y % 32) % 65536 ≡ shifted fill x (amount y)
right fill x y f h l =
    let s : y % 32 - 16 + (32 - y % 32) ≡ 16 = omega arith in
    wide fill x (2 ^ (y % 32 - 16)) (2 ^ (32 - y % 32)) f h (rw (← pow-add, s)) (pow_pos (32 - y % 32))
    ∙ free fill x y l
