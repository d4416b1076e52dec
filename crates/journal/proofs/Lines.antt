-- The lowest line of a pending byte, taken out of it and put in again, with any further lines: one computed test over the 255 bytes that have a
-- line, and that `bit_or` is associative.
-- Assumes nothing.
use mathlib.Core.Path.{◌≡◌, refl, sym, ap, ◌∙◌}
use mathlib.Core.Bool.{Bool}
use Prim.Native.Nat.{ℕ, zero, suc, ◌+◌, ◌*◌, ◌/◌, ◌%◌, ◌^◌, ◌<◌, max}
use native.Mathlib.Omega.{arith}
use borrow.Author.Tests.{eqb-true, ltb-true}
use lib.Arith.{bin_ind}
use lib.Bits.{bit_or, or_step, or_comm, or_zero_r}
use lib.Dec.{T, ltb, eqb}
use Rattle.word.proofs.Computed.{both, both_split, all, all_at}
use Rattle.word.proofs.Tests.{is_true}
use Rattle.machine.specs.Machine.{Machine, lowest_from, lowest_line, with_line, without_line, put_pending, on_state}
use Rattle.journal.specs.Journal.{with_lines}

-- ---- Associativity, digit by digit

-- the digits of a bit_or
pub or_digits : (a b : ℕ) → (bit_or a b / 2 ≡ bit_or (a / 2) (b / 2)) × (bit_or a b % 2 ≡ max (a % 2) (b % 2))
or_digits a b = let e = or_step a b in (omega (arith, e), omega (arith, e))

highest : (x y z : ℕ) → max (max x y) z ≡ max x (max y z)
highest x y z = omega arith

pub or_assoc : (a b c : ℕ) → bit_or (bit_or a b) c ≡ bit_or a (bit_or b c)
or_assoc =
    bin_ind (λ a. (b c : ℕ) → bit_or (bit_or a b) c ≡ bit_or a (bit_or b c)) (λ b c. refl)
    (λ a ih b c.
    let l = or_digits a b in
    let r = or_digits b c in
    or_step (bit_or a b) c
    ∙ (λ i. bit_or (l.0 i) (c / 2) * 2 + max (l.1 i) (c % 2))
    ∙ (λ i. ih (b / 2) (c / 2) i * 2 + highest (a % 2) (b % 2) (c % 2) i)
    ∙ (λ i. bit_or (a / 2) (sym r.0 i) * 2 + max (a % 2) (sym r.1 i))
    ∙ sym (or_step a (bit_or b c)))

-- ---- The lowest line

abbrev taken_out_and_in : ℕ → Bool
taken_out_and_in p = let k = lowest_line (suc p) in both (ltb k 8) (eqb (with_line k (without_line k (suc p))) (suc p))

every_byte : T (all 255 taken_out_and_in)
unfolding all lowest_from
every_byte = tt

-- what the test says of a byte
abbrev TakenIn : ℕ → Type 0
TakenIn p = let k = lowest_line p in (k < 8) × (with_line k (without_line k p) ≡ p)

taken_in : (p : ℕ) → 0 < p → p < 256 → TakenIn p
taken_in zero some h = absurd (omega arith)
taken_in (suc p) some h =
    let k = lowest_line (suc p) in
    let t = both_split (ltb k 8) (eqb (with_line k (without_line k (suc p))) (suc p)) (all_at 255 taken_out_and_in every_byte p (omega arith)) in
    (ltb-true _ _ (is_true _ t.0), eqb-true _ _ (is_true _ t.1))

module _ (p : ℕ) (some : 0 < p) (h : p < 256) where
  pub lowest_below : lowest_line p < 8
  lowest_below = (taken_in p some h).0

  pub in_again : with_line (lowest_line p) (without_line (lowest_line p) p) ≡ p
  in_again = (taken_in p some h).1

-- a line taken out is in again, and further lines stay
pub with_further : (k p lines : ℕ) → with_line k (without_line k p) ≡ p → with_line k (bit_or (without_line k p) lines) ≡ bit_or p lines
with_further k p lines e =
    let q = without_line k p in
    or_assoc q lines (2 ^ k) ∙ ap (bit_or q) (or_comm lines (2 ^ k)) ∙ sym (or_assoc q (2 ^ k) lines) ∙ ap (λ x. bit_or x lines) e

-- ---- Lines raised one after the other, and none

pub lines_joined : (a b : ℕ) (m : Machine) → with_lines b (with_lines a m) ≡ with_lines (bit_or a b) m
lines_joined a b m = ap (λ q. on_state (put_pending q) m) (or_assoc m.state.pending a b)

pub no_lines : (m : Machine) → with_lines 0 m ≡ m
no_lines m = ap (λ q. on_state (put_pending q) m) (or_zero_r m.state.pending)
