-- Eight elements, each chosen by its own index, are the list with one element set.
-- Assumes nothing.
use mathlib.Core.Path.{◌≡◌, refl}
use Prim.Native.Nat.{ℕ, zero, suc, ◌<◌}
use native.Mathlib.Omega.{arith}
use mathlib.Core.List.{List, [], ◌∷◌}
use lib.Dec.{eqb}
use lib.ListN.{length, get_or, set}
use Rattle.word.specs.Word.{pick}

abbrev pub at : ℕ → ℕ → List ℕ → ℕ → ℕ
at d v xs i = pick (eqb d i) v (get_or xs i 0)

abbrev pub chosen : ℕ → ℕ → List ℕ → List ℕ
chosen d v xs = at d v xs 0 ∷ at d v xs 1 ∷ at d v xs 2 ∷ at d v xs 3 ∷ at d v xs 4 ∷ at d v xs 5 ∷ at d v xs 6 ∷ at d v xs 7 ∷ []

of_eight : (d v x0 x1 x2 x3 x4 x5 x6 x7 : ℕ) → d < 8 → chosen d v (x0 ∷ x1 ∷ x2 ∷ x3 ∷ x4 ∷ x5 ∷ x6 ∷ x7 ∷ []) ≡ set (x0 ∷ x1 ∷ x2 ∷ x3 ∷ x4 ∷ x5 ∷ x6 ∷ x7 ∷ []) d v
of_eight zero v x0 x1 x2 x3 x4 x5 x6 x7 h = refl
of_eight (suc zero) v x0 x1 x2 x3 x4 x5 x6 x7 h = refl
of_eight (suc (suc zero)) v x0 x1 x2 x3 x4 x5 x6 x7 h = refl
of_eight (suc (suc (suc zero))) v x0 x1 x2 x3 x4 x5 x6 x7 h = refl
of_eight (suc (suc (suc (suc zero)))) v x0 x1 x2 x3 x4 x5 x6 x7 h = refl
of_eight (suc (suc (suc (suc (suc zero))))) v x0 x1 x2 x3 x4 x5 x6 x7 h = refl
of_eight (suc (suc (suc (suc (suc (suc zero)))))) v x0 x1 x2 x3 x4 x5 x6 x7 h = refl
of_eight (suc (suc (suc (suc (suc (suc (suc zero))))))) v x0 x1 x2 x3 x4 x5 x6 x7 h = refl
of_eight (suc (suc (suc (suc (suc (suc (suc (suc d)))))))) v x0 x1 x2 x3 x4 x5 x6 x7 h = absurd (omega (arith, h))

pub chosen_is : (d v : ℕ) (xs : List ℕ) → length xs ≡ 8 → d < 8 → chosen d v xs ≡ set xs d v
chosen_is d v [] l h = absurd (omega (arith, l))
chosen_is d v (x0 ∷ []) l h = absurd (omega (arith, l))
chosen_is d v (x0 ∷ x1 ∷ []) l h = absurd (omega (arith, l))
chosen_is d v (x0 ∷ x1 ∷ x2 ∷ []) l h = absurd (omega (arith, l))
chosen_is d v (x0 ∷ x1 ∷ x2 ∷ x3 ∷ []) l h = absurd (omega (arith, l))
chosen_is d v (x0 ∷ x1 ∷ x2 ∷ x3 ∷ x4 ∷ []) l h = absurd (omega (arith, l))
chosen_is d v (x0 ∷ x1 ∷ x2 ∷ x3 ∷ x4 ∷ x5 ∷ []) l h = absurd (omega (arith, l))
chosen_is d v (x0 ∷ x1 ∷ x2 ∷ x3 ∷ x4 ∷ x5 ∷ x6 ∷ []) l h = absurd (omega (arith, l))
chosen_is d v (x0 ∷ x1 ∷ x2 ∷ x3 ∷ x4 ∷ x5 ∷ x6 ∷ x7 ∷ []) l h = of_eight d v x0 x1 x2 x3 x4 x5 x6 x7 h
chosen_is d v (x0 ∷ x1 ∷ x2 ∷ x3 ∷ x4 ∷ x5 ∷ x6 ∷ x7 ∷ x8 ∷ xs) l h = absurd (omega (arith, l))

pub all_chosen : (d v : ℕ) (xs : List ℕ) (p0 p1 p2 p3 p4 p5 p6 p7 : ℕ) → p0 ≡ at d v xs 0 → p1 ≡ at d v xs 1 → p2 ≡ at d v xs 2 → p3 ≡ at d v xs 3 → p4 ≡ at d v xs 4 → p5 ≡ at d v xs 5 → p6 ≡ at d v xs 6 → p7 ≡ at d v xs 7 → length xs ≡ 8 → d < 8 → p0 ∷ p1 ∷ p2 ∷ p3 ∷ p4 ∷ p5 ∷ p6 ∷ p7 ∷ [] ≡ set xs d v
all_chosen d v xs p0 p1 p2 p3 p4 p5 p6 p7 e0 e1 e2 e3 e4 e5 e6 e7 l h = cc (chosen_is d v xs l h)
