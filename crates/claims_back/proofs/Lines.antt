-- The lines of pending bytes: joined, digit by digit; and one of them, by computed tests over the bytes.
-- Assumes nothing.
use mathlib.Core.Path.{◌≡◌, refl, sym, ap, ◌∙◌}
use mathlib.Core.Bool.{Bool}
use Prim.Native.Nat.{ℕ, zero, suc, ◌+◌, ◌*◌, ◌/◌, ◌%◌, ◌^◌, ◌<◌, ◌≤◌, max}
use native.Mathlib.Omega.{arith}
use borrow.Author.Tests.{eqb-true, leb-true}
use lib.Arith.{bin_ind}
use lib.Bits.{differ, bit_or, bit_xor, or_step, xor_step, or_zero_l, xor_zero_r, or_shr}
use lib.Dec.{T, eqb, leb}
use Rattle.word.specs.Word.{pick, flag}
use Rattle.word.proofs.Computed.{both, both_split, all, all_at}
use Rattle.word.proofs.Tests.{is_true}
use Rattle.journal.proofs.Lines.{or_digits}
use Rattle.machine.specs.Machine.{bit_of, lowest_from, lowest_line, without_line}

one_digit : (x y : ℕ) → x < 2 → y < 2 → (differ x y < 2) × (max x (differ (max x y) x) ≡ max x y)
one_digit zero zero h l = (omega arith, refl)
one_digit zero (suc zero) h l = (omega arith, refl)
one_digit (suc zero) zero h l = (omega arith, refl)
one_digit (suc zero) (suc zero) h l = (omega arith, refl)
one_digit zero (suc (suc y)) h l = absurd (omega arith)
one_digit (suc zero) (suc (suc y)) h l = absurd (omega arith)
one_digit (suc (suc x)) y h l = absurd (omega arith)

-- the digits of a bit_xor
xor_digits : (a b : ℕ) → (bit_xor a b / 2 ≡ bit_xor (a / 2) (b / 2)) × (bit_xor a b % 2 ≡ differ (a % 2) (b % 2))
xor_digits a b =
    let e = xor_step a b in
    let l = (one_digit (a % 2) (b % 2) (omega arith) (omega arith)).0 in
    (omega (arith, e, l), omega (arith, e, l))

-- the lines that q had not before others joined it, joined to it
pub or_xor : (q lines : ℕ) → bit_or q (bit_xor (bit_or q lines) q) ≡ bit_or q lines
or_xor =
    bin_ind (λ q. (lines : ℕ) → bit_or q (bit_xor (bit_or q lines) q) ≡ bit_or q lines)
    (λ lines. or_zero_l _ ∙ xor_zero_r (bit_or 0 lines))
    (λ q ih lines.
    let l = or_digits q lines in
    let x = xor_digits (bit_or q lines) q in
    or_step q (bit_xor (bit_or q lines) q)
    ∙ (λ i. bit_or (q / 2) (x.0 i) * 2 + max (q % 2) (x.1 i))
    ∙ (λ i. bit_or (q / 2) (bit_xor (l.0 i) (q / 2)) * 2 + max (q % 2) (differ (l.1 i) (q % 2)))
    ∙ (λ i. ih (lines / 2) i * 2 + (one_digit (q % 2) (lines % 2) (omega arith) (omega arith)).1 i)
    ∙ sym (or_step q lines))

-- ---- One line

pub bit_or_lem : (line a b : ℕ) → bit_of line (bit_or a b) ≡ max (bit_of line a) (bit_of line b)
bit_or_lem line a b = ap (λ x. x % 2) (or_shr a b line) ∙ (or_digits (a / 2 ^ line) (b / 2 ^ line)).1

abbrev own_bit : ℕ → Bool
own_bit k = all 8 (λ line. eqb (bit_of line (2 ^ k)) (flag (eqb k line)))

every_bit : T (all 8 own_bit)
unfolding all
every_bit = tt

-- a line's number sets its bit and no other
pub bit_of_line : (line k : ℕ) → line < 8 → k < 8 → bit_of line (2 ^ k) ≡ flag (eqb k line)
bit_of_line line k h l =
    eqb-true _ _ (is_true _ (all_at 8 (λ line. eqb (bit_of line (2 ^ k)) (flag (eqb k line))) (all_at 8 own_bit every_bit k l) line h))

-- no line is pending in 0
every_line : T (all 8 (λ line. eqb (bit_of line 0) 0))
unfolding all
every_line = tt

pub no_bit : (line : ℕ) → line < 8 → bit_of line 0 ≡ 0
no_bit line h = eqb-true _ _ (is_true _ (all_at 8 (λ line. eqb (bit_of line 0) 0) every_line line h))

-- where the lowest line of a byte is taken, its bit was set and is no more, and the others are as before
abbrev taken_at : ℕ → ℕ → Bool
taken_at p line =
    let k = lowest_line p in
    both (eqb (bit_of line (without_line k p)) (pick (eqb k line) 0 (bit_of line p))) (leb (flag (eqb k line)) (bit_of line p))

every_byte : T (all 255 (λ p. all 8 (taken_at (suc p))))
unfolding all lowest_from
every_byte = tt

pub lowest_taken : (line p : ℕ) → line < 8 → 0 < p → p < 256
    → let k = lowest_line p in
    (bit_of line (without_line k p) ≡ pick (eqb k line) 0 (bit_of line p)) × (flag (eqb k line) ≤ bit_of line p)
lowest_taken line zero h some l = absurd (omega arith)
lowest_taken line (suc p) h some l =
    let k = lowest_line (suc p) in
    let q = suc p in
    let t =
    both_split (eqb (bit_of line (without_line k q)) (pick (eqb k line) 0 (bit_of line q))) (leb (flag (eqb k line)) (bit_of line q))
    (all_at 8 (taken_at q) (all_at 255 (λ p. all 8 (taken_at (suc p))) every_byte p (omega arith)) line h) in
    (eqb-true _ _ (is_true _ t.0), leb-true _ _ (is_true _ t.1))
