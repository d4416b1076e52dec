-- The number n of an instruction and its bits: the code's forms (specs/Layouts.antt) are those of specs/Instructions.antt,
-- and each of number and bits gives the other back.
-- Assumes nothing.
use mathlib.Core.Path.{◌≡◌, refl, sym, ◌∙◌, ap}
use mathlib.Core.Bool.{Bool, true, false, ◌&&◌}
use Prim.Native.Nat.{ℕ, suc, ◌+◌, ◌-◌, ◌%◌, ◌^◌, ◌<◌, ◌≤◌}
use native.Mathlib.Nat.{mod-eq_of_lt}
use native.Mathlib.Omega.{arith}
use borrow.Author.Tests.{lt-ltb, le-ltb, ltb-true, leb-true}
use lib.Dec.{ltb, leb, leb-zero, leb-suc-suc}
use lib.IntN.{ℤ, pos, negsuc}
use lib.Signed.{le_z, lt_z}
use Rattle.word.specs.Word.{pick, low_bits}
use Rattle.word.proofs.Tests.{clash}
use Rattle.std.specs.declared.option.Option.TheVariants.{Some, None}
use Rattle.isa.specs.Layouts.{number_of, bits_of}

-- ---- The code's forms

pub unsigned_is : (size x : ℕ) → x < size → number_of size 0 x ≡ pos x
unsigned_is size x h = let l : x < size - 0 = omega arith in rw (lt-ltb _ _ l)

-- bits x under a test that says whether x is among `size` numbers
few : (b : Bool) (x y : ℕ) → (b ≡ true → x ≡ y) → pick b (Some x) None ≡ pick b (Some y) None
few true x y h = ap Some (h refl)
few false x y h = refl

and_true : (b : Bool) → b && true ≡ b
and_true true = refl
and_true false = refl

pub unsigned_bits : (k : ℕ) (n : ℤ) → bits_of (2 ^ k) 0 n ≡ pick (le_z (pos 0) n && lt_z n (pos (2 ^ k))) (Some (low_bits k n)) None
unfolding low_bits
unsigned_bits k (pos x) =
    rw (leb-zero x)
    (ap (λ (s : ℕ). pick (ltb x s) (Some x) None) (omega arith)
    ∙ few (ltb x (2 ^ k)) x (x % 2 ^ k) (λ t. sym (mod-eq_of_lt (ltb-true _ _ t))))
unsigned_bits k (negsuc y) = let l : 0 ≤ y = omega arith in rw (le-ltb _ _ l)

-- half of the 2^k numbers, suc g of them, are negative
pub signed_bits : (k g : ℕ) (n : ℤ) → 2 ^ k ≡ suc g + suc g → bits_of (2 ^ k) (suc g) n ≡ pick (le_z (negsuc g) n && lt_z n (pos (suc g))) (Some (low_bits k n)) None
unfolding low_bits
signed_bits k g (pos x) h =
    ap (λ (s : ℕ). pick (ltb x s) (Some x) None) (omega arith)
    ∙ few (ltb x (suc g)) x (x % 2 ^ k) (λ t. let l : x < suc g = ltb-true _ _ t in sym (mod-eq_of_lt (omega arith)))
signed_bits k g (negsuc y) h =
    rw (leb-suc-suc y g, and_true (leb y g))
    (few (leb y g) (2 ^ k - suc y) (2 ^ k - suc (y % 2 ^ k)) (λ t. let l : y ≤ g = leb-true _ _ t in ap (λ (z : ℕ). 2 ^ k - suc z) (sym (mod-eq_of_lt (omega arith)))))

-- ---- Number and bits give each other back

pick_bits : (t : Bool) (x y : ℕ) → pick t (Some x) None ≡ Some y → (t ≡ true) × (x ≡ y)
pick_bits true x y e = (refl, cc)
pick_bits false x y e = clash (cc)

-- the bits of a number are below the size and stand for it
pub back : (size negatives : ℕ) (n : ℤ) (x : ℕ) → negatives < size → bits_of size negatives n ≡ Some x → (x < size) × (number_of size negatives x ≡ n)
back size negatives (pos v) x h e =
    let p = pick_bits (ltb v (size - negatives)) v x e in
    let q = ltb-true v (size - negatives) p.0 in
    let s : x < size - negatives = omega (arith, p.1) in
    (omega arith, rw (lt-ltb _ _ s) (ap pos (sym p.1)))
back size negatives (negsuc y) x h e =
    let p = pick_bits (ltb y negatives) (size - suc y) x e in
    let q = ltb-true y negatives p.0 in
    let s : size - negatives ≤ x = omega (arith, p.1) in
    (omega (arith, p.1), rw (le-ltb _ _ s) (ap negsuc (omega (arith, p.1))))
