-- A choice by a field of the control word: the field by its bits, and past the end of a list; and tests of f.
-- Assumes nothing.
use mathlib.Core.Path.{◌≡◌, sym, ◌∙◌}
use mathlib.Core.Bool.{Bool, beq}
use mathlib.Core.List.{List}
use Prim.Native.Nat.{ℕ, ◌+◌, ◌*◌, ◌/◌, ◌%◌, ◌<◌, ◌≤◌}
use native.Mathlib.Nat.{div-div-eq-div-mul}
use native.Mathlib.Omega.{arith}
use lib.Dec.{T}
use lib.ListN.{get_or, length, get_or-eq_default}
use Rattle.word.specs.Fields.{f_of}
use Rattle.word.proofs.Computed.{all, all_at}
use Rattle.word.proofs.Tests.{same_test}

-- a field that begins at the bit of this weight
pub two_bits : (c weight : ℕ) → c / weight % 4 ≡ c / weight % 2 + 2 * (c / (weight * 2) % 2)
two_bits c weight = rw (← div-div-eq-div-mul c weight 2) (omega arith)

pub three_bits : (c weight : ℕ) → c / weight % 8 ≡ c / weight % 4 + 4 * (c / (weight * 4) % 2)
three_bits c weight = rw (← div-div-eq-div-mul c weight 4) (omega arith)

pub past_end : (xs : List ℕ) (k : ℕ) → length xs ≤ k → 0 ≡ get_or xs k 0
past_end xs k h = sym (get_or-eq_default xs 0 h)

-- ---- f as the code reads it

pub f_is : (w : ℕ) → w % 8 ≡ f_of w
f_is w = omega arith

-- what goes by f, of Ra and Rb as they were read
pub by_f : (g : ℕ → ℕ → ℕ → ℕ) (w : ℕ) {x y a b v : ℕ} → v ≡ g (w % 8) x y → (x ≡ a) × (y ≡ b) → v ≡ g (f_of w) a b
by_f g w e p = e ∙ (λ i. g (f_is w i) (p.0 i) (p.1 i))

-- ---- The tests of f, by the eight values that it can have

-- two tests that are alike at each of them
pub alike_f : (s t : ℕ → Bool) → T (all 8 (λ f. beq (s f) (t f))) → (f : ℕ) → f < 8 → s f ≡ t f
alike_f s t alike f h = same_test _ _ (all_at 8 (λ f. beq (s f) (t f)) alike f h)
