-- The number n of a statement as the code works it out is that of Words.
-- Assumes nothing.
use Prim.Native.Nat.{ℕ, suc, ◌-◌, ◌/◌, ◌<◌, ◌≤◌}
use mathlib.Core.Bool.{Bool, true, false}
use mathlib.Core.Path.{◌≡◌, refl, sym, ap, ◌∙◌, subst}
use native.Mathlib.Omega.{arith}
use borrow.Author.Tests.{ltb-true, ltb-false, le-ltb, lt-ltb}
use lib.Dec.{ltb}
use lib.IntN.{ℤ, pos, negsuc, ◌-ℤ◌}
use lib.Signed.{mag, shr_z, mag_shr}
use mir.Syntax.{w16}
use mir.Val.{to_z, of_z}
use mir.Facts.{to_z-of_z, to_z_pos, to_z-neg}
use Rattle.word.specs.Word.{pick, signed}
use Rattle.word.proofs.Signed.{signed_is}

-- a signed number that is handed on stays what it is
pub handed_on : {z x : ℤ} → mag z < 32768 → z ≡ x → to_z w16 (of_z w16 z) ≡ x
handed_on h e = to_z-of_z {w = w16} (record { sfits = h }) ∙ e

halves : (x : ℕ) → x < 65536 → to_z w16 x ≡ pick (ltb x 32768) (pos x) (negsuc (65536 - suc x))
halves x h = go (ltb x 32768) refl
  where
    go : (b : Bool) → ltb x 32768 ≡ b → to_z w16 x ≡ pick b (pos x) (negsuc (65536 - suc x))
    go true e = to_z_pos w16 (ltb-true _ _ e)
    go false e =
        let q : x ≡ 65536 - suc (65536 - suc x) = omega arith in
        ap (to_z w16) q ∙ to_z-neg w16 (65536 - suc x) (omega (arith, ltb-false))

-- as 16 bits
pub word_read : (x : ℕ) → x < 65536 → to_z w16 x ≡ signed 16 x
word_read x h = halves x h ∙ sym (signed_is 16 x h)

-- half of it, rounded down, as 15 bits
half_read : (x : ℕ) → x < 65536 → shr_z (to_z w16 x) 2 ≡ signed 15 (x / 2)
half_read x h = rw (halves x h, signed_is 15 (x / 2) (omega arith)) (go (ltb x 32768) refl (ltb (x / 2) 16384) refl)
  where
    go : (b : Bool) → ltb x 32768 ≡ b → (d : Bool) → ltb (x / 2) 16384 ≡ d
        → shr_z (pick b (pos x) (negsuc (65536 - suc x))) 2 ≡ pick d (pos (x / 2)) (negsuc (32768 - suc (x / 2)))
    go true e true f = refl
    go true e false f = absurd (omega (arith, ltb-true, ltb-false))
    go false e true f = absurd (omega (arith, ltb-true, ltb-false))
    go false e false f = ap negsuc (omega (arith, ltb-false))

pub half_on : (x : ℕ) {z : ℤ} → x < 65536 → mag z < 32768 → z ≡ to_z w16 x → to_z w16 (of_z w16 (shr_z (to_z w16 (of_z w16 z)) 2)) ≡ signed 15 (x / 2)
half_on x {z} l h e =
    let m : mag (shr_z z 2) < 32768 = omega (arith, mag_shr z 2) in
    ap (λ (y : ℤ). to_z w16 (of_z w16 (shr_z y 2))) (handed_on h refl) ∙ handed_on m (ap (λ (y : ℤ). shr_z y 2) e ∙ half_read x l)

-- of 128 to 255, the low eight bits
pub byte_on : (x : ℕ) → 128 ≤ x → x ≤ 255 → to_z w16 (of_z w16 (to_z w16 x -ℤ pos 256)) ≡ signed 8 x
byte_on x l h =
    let e : signed 8 x ≡ negsuc (256 - suc x) = signed_is 8 x (omega arith) ∙ ap (λ (b : Bool). pick b (pos x) (negsuc (256 - suc x))) (le-ltb x 128 l) in
    let s : to_z w16 x -ℤ pos 256 ≡ negsuc (256 - suc x) = ap (λ (z : ℤ). z -ℤ pos 256) (to_z_pos w16 {n = x} (omega arith)) ∙ less x l h in
    handed_on (subst (λ (z : ℤ). mag z < 32768) (sym s) (omega arith)) (s ∙ sym e)
  where
    less : (x : ℕ) → 128 ≤ x → x ≤ 255 → pos x -ℤ pos 256 ≡ negsuc (256 - suc x)
    less x l h = rw (lt-ltb x 256 (omega arith))
