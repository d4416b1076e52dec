-- What the rules compute of words is a word.
-- Assumes nothing.
use mathlib.Core.Path.{◌≡◌, refl, subst}
use mathlib.Core.Bool.{Bool, true, false}
use Prim.Native.Nat.{ℕ, ◌/◌, ◌%◌, ◌<◌}
use native.Mathlib.Nat.{div-le_self}
use native.Mathlib.Omega.{arith}
use borrow.Author.Tests.{ltb-true, ltb-false}
use lib.Bits.{and_lt, or_lt, xor_lt}
use lib.Dec.{ltb, leb, eqb}
use lib.Signed.{lt_z, le_z, quot_z}
use Rattle.word.specs.Word.{flag, SE, signed, amount, shifted, operations, operation, comparisons, comparison}
use Rattle.muldiv.specs.Muldiv.{muldivs, muldiv}
use Rattle.word.proofs.Shifts.{left, right}
use Rattle.word.proofs.Signed.{low_lt}
use Rattle.word.proofs.Tables.{looked_up}

-- the proofs for the elements of a list, one after the other
infixr 50 ◌then◌
abbrev pub ◌then◌ : {A B : Type 0} → A → B → A × B
a then b = (a, b)

abbrev pub IsWord : ℕ → Type 0
IsWord x = x < 65536

pub extended_fits : (k x : ℕ) → IsWord (SE k x)
unfolding SE
extended_fits k x = low_lt 16 (signed k x)

shifted_fits : (fill x y : ℕ) → fill < 2 → IsWord x → IsWord (shifted fill x (amount y))
shifted_fits fill x y f h = go (ltb (y % 32) 16) refl
  where
    go : (t : Bool) → ltb (y % 32) 16 ≡ t → IsWord (shifted fill x (amount y))
    go true e = subst IsWord (left fill x y (ltb-true _ _ e)) (omega arith)
    go false e = subst IsWord (right fill x y f h (ltb-false _ _ e)) (omega arith)

flag_fits : (t : Bool) → IsWord (flag t)
flag_fits true = omega arith
flag_fits false = omega arith

module _ (f x y : ℕ) (hx : IsWord x) (hy : IsWord y) where
  pub operation_fits : IsWord (operation f x y)
  unfolding operation
  operation_fits =
      looked_up IsWord (operations x y)
      (and_lt 16 x y hx hy
      then or_lt 16 x y hx hy
      then xor_lt 16 x y hx hy
      then omega arith
      then omega arith
      then omega arith
      then shifted_fits (x / 32768 % 2) x y (omega arith) hx
      then shifted_fits 0 x y (omega arith) hx
      then tt)
      (omega arith) f

  pub comparison_fits : IsWord (comparison f x y)
  unfolding comparison
  comparison_fits =
      looked_up IsWord (comparisons x y)
      (flag_fits (lt_z (signed 16 x) (signed 16 y))
      then flag_fits (le_z (signed 16 x) (signed 16 y))
      then omega arith
      then flag_fits (eqb x y)
      then flag_fits (ltb x y)
      then flag_fits (leb x y)
      then tt)
      (omega arith) f

  pub muldiv_fits : IsWord (muldiv f x y)
  unfolding muldiv
  muldiv_fits =
      looked_up IsWord (muldivs x y)
      (omega arith
      then omega arith
      then omega arith
      then omega arith
      then low_lt 16 (quot_z (signed 16 x) (signed 16 y))
      then omega (arith, div-le_self x y)
      then tt)
      (omega arith) f
