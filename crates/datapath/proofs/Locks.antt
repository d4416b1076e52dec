-- The bytes that a step by a control word touches.
-- Assumes nothing.
use mathlib.Core.Path.{◌≡◌, refl}
use mathlib.Core.Bool.{Bool, true, false, ◌||◌}
use mathlib.Core.List.{List, [], ◌∷◌, ◌++◌}
use Prim.Native.Nat.{ℕ}
use Rattle.machine.specs.declared.State.{State}
use Rattle.machine.specs.Machine.{is_locked, touches_locked}

pub touches_both : (xs ys : List ℕ) (s : State) → (touches_locked xs s || touches_locked ys s) ≡ touches_locked (xs ++ ys) s
touches_both [] ys s = refl
touches_both (a ∷ xs) ys s = by_test (is_locked a s) (touches_both xs ys s)
  where
    by_test : (t : Bool) → (touches_locked xs s || touches_locked ys s) ≡ touches_locked (xs ++ ys) s → ((t || touches_locked xs s) || touches_locked ys s) ≡ (t || touches_locked (xs ++ ys) s)
    by_test true e = refl
    by_test false e = e
