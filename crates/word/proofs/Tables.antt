-- A number that is none of a table's places is past it; a place with nothing; what holds of each element of a table holds of the one
-- looked up.
-- Assumes nothing.
use Rattle.std.proofs.Common.{◌≡◌, ℕ, zero, suc, ◌≤◌, Bool, true, false, eqb, List, [], ◌∷◌, length, get_or, sym, refl, arith, eqb-true}
use borrow.Author.Tests.{eqb-false}
use lib.ListN.{get_or-eq_default}

-- f is none of the numbers below n, as a `match` tells it to its last arm
abbrev pub NoneBelow : ℕ → ℕ → Type 0
NoneBelow zero f = Unit {0}
NoneBelow (suc n) f = NoneBelow n f × (f ≡ n → ⊥)

pub past : (n f : ℕ) → NoneBelow n f → n ≤ f
past zero f p = omega arith
past (suc n) f p = omega (arith, past n f p.0)

-- d stands at place k of a table and past its end
pub vacant :
    {A : Type 0} (xs : List A) (k : ℕ) (d : A) (f : ℕ)
    → get_or xs k d ≡ d → ((f ≡ k → ⊥) → length xs ≤ f) → d ≡ get_or xs f d
vacant xs k d f e l = go (eqb f k) refl
  where
    go : (t : Bool) → eqb f k ≡ t → d ≡ get_or xs f d
    go true q = rw (eqb-true f k q) (sym e)
    go false q = sym (get_or-eq_default xs d (l (eqb-false f k q)))

-- ---- What holds of each element of a list, and of what stands past its end, holds of what is looked up

abbrev pub Each : {A : Type 0} → (A → Type 0) → List A → Type 0
Each Q [] = Unit {0}
Each Q (x ∷ xs) = Q x × Each Q xs

pub looked_up : {A : Type 0} (Q : A → Type 0) (xs : List A) {d : A} → Each Q xs → Q d → (k : ℕ) → Q (get_or xs k d)
looked_up Q [] p q k = q
looked_up Q (x ∷ xs) p q zero = p.0
looked_up Q (x ∷ xs) p q (suc k) = looked_up Q xs p.1 q k
