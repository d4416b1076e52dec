-- Words read as signed: the forms that code and proofs use.
-- Assumes nothing.
use Rattle.std.proofs.Common.{◌≡◌, ℕ, suc, ◌+◌, ◌-◌, ◌*◌, ◌/◌, ◌%◌, ◌^◌, ◌<◌, ◌≤◌, Bool, true, false, ltb, ℤ, pos, negsuc, sym, refl, ap, ◌∙◌, mod-lt, div-one, arith, pow_pos, pow_mono, ltb-false, ltb-true, lt-ltb}
use native.Mathlib.Nat.{two-pow-succ, div-eq_of_lt, div-eq_of_lt-le}
use mir.Syntax.{w16}
use mir.Val.{to_z, sel}
use Rattle.word.specs.Word.{pick, signed, low_bits, SE}

-- x - 2^k is -(2^k - x)
pub signed_is : (k x : ℕ) → x < 2 ^ k → signed k x ≡ pick (ltb x (2 ^ (k - 1))) (pos x) (negsuc (2 ^ k - suc x))
unfolding signed
signed_is k x h = rw (lt-ltb _ _ h)

pub low_lt : (k : ℕ) (z : ℤ) → low_bits k z < 2 ^ k
unfolding low_bits
low_lt k (pos x) = mod-lt x (pow_pos k)
low_lt k (negsuc x) = let p : 0 < 2 ^ k = pow_pos k in omega arith

-- sign extension of k bits x: the places above them get the highest of them
pub SE-is : (k x : ℕ) → 0 < k → k ≤ 16 → x < 2 ^ k → SE k x ≡ x + x / 2 ^ (k - 1) * (65536 - 2 ^ k)
unfolding SE low_bits
SE-is k x l u h = rw (signed_is k x h) (go (ltb x (2 ^ (k - 1))) refl)
  where
    most : 2 ^ k ≤ 65536
    most = pow_mono u

    halves : 2 ^ k ≡ 2 ^ (k - 1) + 2 ^ (k - 1)
    halves = ap (λ n. 2 ^ n) (omega arith) ∙ two-pow-succ (k - 1)

    go :
        (b : Bool) → ltb x (2 ^ (k - 1)) ≡ b
        → low_bits 16 (pick b (pos x) (negsuc (2 ^ k - suc x))) ≡ x + x / 2 ^ (k - 1) * (65536 - 2 ^ k)
    go true e = rw (div-eq_of_lt (ltb-true _ _ e)) (omega (arith, most))
    go false e =
        rw (div-eq_of_lt-le {k = 1} (2 ^ (k - 1)) {m = x} (omega (arith, ltb-false)) (omega (arith, halves)))
        (omega (arith, most, halves))

-- the low k bits of w, as code extends them
pub extended :
    (k w : ℕ) → 0 < k → k ≤ 16
    → w % 2 ^ k + w % 2 ^ k / 2 ^ (k - 1) * (65536 - 2 ^ k) ≡ SE k (w / 1 % 2 ^ k)
extended k w l u = rw div-one (sym (SE-is k (w % 2 ^ k) l u (mod-lt w (pow_pos k))))

-- what the code's cast reads is the word read as signed
pub cast_is : (x : ℕ) → x < 65536 → to_z w16 x ≡ signed 16 x
cast_is x h = rw (signed_is 16 x h) (go (ltb x 32768))
  where
    go : (b : Bool) → sel b (pos x) (negsuc (65536 - suc x)) ≡ pick b (pos x) (negsuc (65536 - suc x))
    go true = refl
    go false = refl
