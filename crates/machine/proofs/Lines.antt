-- The lowest line of a pending byte, and the byte without it, as the code computes them: one computed test over the 256 bytes. And where no line is taken.
-- Assumes nothing.
use mathlib.Core.Path.{◌≡◌}
use mathlib.Core.Bool.{Bool, false, and-false}
use mathlib.Core.Logic.{◌⊎◌, inl, inr}
use Prim.Native.Nat.{ℕ, ◌-◌, ◌*◌, ◌%◌, ◌^◌, ◌<◌}
use native.Mathlib.Omega.{arith}
use borrow.Author.Tests.{eqb-true}
use lib.Bits.{bit_and}
use lib.Count.{count_trailing_zeros}
use lib.Dec.{T, eqb}
use lib.Pow.{pow-lt}
use Rattle.word.proofs.Computed.{both, both_split, all, all_at}
use Rattle.word.proofs.Tests.{is_true}
use Rattle.machine.specs.declared.State.{State}
use Rattle.machine.specs.Machine.{lowest_from, lowest_line, without_line, takes_line}

abbrev as_computed : ℕ → Bool
as_computed p = both (eqb (count_trailing_zeros 8 p) (lowest_line p)) (eqb (bit_and p (p - 1)) (without_line (lowest_line p) p))

every_byte : T (all 256 as_computed)
unfolding all lowest_from count_trailing_zeros
every_byte = tt

module _ (p : ℕ) (h : p < 256) where
  tested : T (eqb (count_trailing_zeros 8 p) (lowest_line p)) × T (eqb (bit_and p (p - 1)) (without_line (lowest_line p) p))
  tested = both_split (eqb (count_trailing_zeros 8 p) (lowest_line p)) (eqb (bit_and p (p - 1)) (without_line (lowest_line p) p)) (all_at 256 as_computed every_byte p h)

  pub lowest : count_trailing_zeros 8 p ≡ lowest_line p
  lowest = eqb-true _ _ (is_true _ tested.0)

  pub without : bit_and p (p - 1) ≡ without_line (lowest_line p) p
  without = eqb-true _ _ (is_true _ tested.1)

-- a bit shifted by a line's number, in a byte
pub one_bit : (k : ℕ) → k < 8 → 1 * 2 ^ k % 256 ≡ 2 ^ k
one_bit k h = let l : 2 ^ k < 256 = pow-lt h in omega arith

-- no line is taken where none is pending or enable is off
pub takes_none : (s : State) → (s.pending ≡ 0) ⊎ (s.enabled ≡ 0) → takes_line s ≡ false
takes_none s (inl p) = rw (p, and-false)
takes_none s (inr e) = rw e
