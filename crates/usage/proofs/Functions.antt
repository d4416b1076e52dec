-- Two functions whose tables are one agree at each place of it: antt compares tables of functions for unknown arguments.
-- Assumes nothing.
use mathlib.Core.Path.{◌≡◌, refl}
use mathlib.Core.Bool.{Bool, true, false}
use mathlib.Core.List.{List, [], ◌∷◌}
use Prim.Native.Nat.{ℕ, zero, suc, ◌<◌}
use native.Mathlib.Omega.{arith}
use borrow.Author.Tests.{eqb-true, eqb-false}
use lib.Dec.{eqb}

-- what g says at each number below n
unfoldable pub table : {A : Type 0} → ℕ → (ℕ → A) → List A
table zero g = []
table (suc n) g = g n ∷ table n g

pub at : {A : Type 0} (n : ℕ) (g h : ℕ → A) → table n g ≡ table n h → (k : ℕ) → k < n → g k ≡ h k
unfolding table
at zero g h e k l = absurd (omega arith)
at (suc n) g h e k l = go (eqb k n) refl (λ l. at n g h (cc) k l)
  where
    go : (t : Bool) → eqb k n ≡ t → (k < n → g k ≡ h k) → g k ≡ h k
    go true t r = rw (eqb-true k n t) (cc)
    go false t r = r (omega (arith, eqb-false k n t))
