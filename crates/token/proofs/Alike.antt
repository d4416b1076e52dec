-- Bytes that are alike.
-- Assumes nothing.
use Prim.Native.Nat.{ℕ, ◌-◌}
use mathlib.Core.Bool.{Bool, true, false, false≢true, ◌&&◌}
use mathlib.Core.Path.{◌≡◌, refl, ap}
use mathlib.Core.List.{List, [], ◌∷◌}
use lib.Dec.{eqb}
use lib.ListN.{length, get_or}
use borrow.Author.Tests.{eq-eqb, eqb-true}
use Rattle.std.specs.Cmp.Lexicographic.{pointwise}
use Rattle.word.specs.Word.{pick}
use Rattle.word.proofs.Tests.{never, passed}
use Rattle.token.specs.Scan.{alike}

pub alike_refl : (t : List ℕ) → alike t t ≡ true
unfolding alike
alike_refl [] = refl
alike_refl (b ∷ t) = rw (eq-eqb b b refl) (alike_refl t)

pub alike_same : (t u : List ℕ) → alike t u ≡ true → t ≡ u
unfolding alike
alike_same [] [] e = refl
alike_same [] (c ∷ u) e = never e
alike_same (b ∷ t) [] e = never e
alike_same (b ∷ t) (c ∷ u) e =
    let (same, rest) = passed (eqb b c) false≢true e in
    cc (eqb-true b c same, alike_same t u rest)

-- what `==` on slices says
pub alike_equal : (t u : List ℕ) → pointwise eqb t u ≡ alike t u
unfolding alike
alike_equal [] [] = refl
alike_equal [] (c ∷ u) = refl
alike_equal (b ∷ t) [] = refl
alike_equal (b ∷ t) (c ∷ u) = go (eqb b c) (alike_equal t u)
  where
    go : (x : Bool) → pointwise eqb t u ≡ alike t u → (x && pointwise eqb t u) ≡ pick x (alike t u) false
    go true e = e
    go false e = refl

-- two words are not alike where their last bytes differ
pub other_last : (t u : List ℕ) → (get_or t (length t - 1) 0 ≡ get_or u (length u - 1) 0 → ⊥) → alike t u ≡ false
other_last t u n = go (alike t u) refl
  where
    go : (b : Bool) → alike t u ≡ b → b ≡ false
    go true e = absurd (n (ap (λ (l : List ℕ). get_or l (length l - 1) 0) (alike_same t u e)))
    go false e = refl

-- the steps of `same_bytes`
pub ruleset comparing = (alike_equal, other_last)
