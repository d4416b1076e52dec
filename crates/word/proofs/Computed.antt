-- Tests that antt computes: a test that passes at each number below a bound passes at any one of them.
-- Assumes nothing.
use Rattle.std.proofs.Common.{◌≡◌, ℕ, zero, suc, ◌<◌, Bool, true, false, T, eqb, sym, refl, subst, arith, eqb-true}
use borrow.Author.Tests.{eqb-false}

abbrev pub both : Bool → Bool → Bool
both true b = b
both false b = false

pub both_split : (a b : Bool) → T (both a b) → T a × T b
both_split true b t = (tt, t)
both_split false b t = absurd t

-- the test f passes at each number below n
unfoldable pub all : ℕ → (ℕ → Bool) → Bool
all zero f = true
all (suc n) f = both (f n) (all n f)

pub all_at : (n : ℕ) (f : ℕ → Bool) → T (all n f) → (k : ℕ) → k < n → T (f k)
unfolding all
all_at zero f t k h = absurd (omega arith)
all_at (suc n) f t k h =
    let p = both_split (f n) (all n f) t in
    go (eqb k n) refl p.0 (λ l. all_at n f p.1 k l)
  where
    go : (s : Bool) → eqb k n ≡ s → T (f n) → (k < n → T (f k)) → T (f k)
    go true e p r = subst (λ (m : ℕ). T (f m)) (sym (eqb-true k n e)) p
    go false e p r = r (omega (arith, eqb-false k n e))
