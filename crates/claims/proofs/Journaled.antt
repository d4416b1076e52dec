-- What a journal changes of a run: how many steps it allows, the state's count alone, and the places that its entries go to.
-- Assumes nothing.
use mathlib.Core.Path.{◌≡◌, refl, ap, ◌∙◌}
use mathlib.Core.Bool.{Bool, true, false}
use mathlib.Core.Logic.{◌⊎◌, inl, inr, ⊎_map}
use mathlib.Core.List.{List, [], ◌∷◌}
use Prim.Native.Nat.{ℕ, zero, suc, ◌+◌, ◌-◌, ◌≤◌, ◌<◌}
use native.Mathlib.Nat.{zero-add, suc-add}
use native.Mathlib.Omega.{arith}
use borrow.Author.Tests.{leb-true, leb-false}
use lib.Dec.{leb}
use lib.ListN.{length, get_or, drop, length-append, length-take, length-drop, get_or-append, get_or-eq_default}
use lib.Seq.{get_or-append-add, get_or-drop}
use Rattle.machine.specs.declared.State.{State}
use Rattle.machine.specs.Machine.{put_journaled}
use Rattle.run.specs.Runs.{Journal, no_journal, lent_journal, allowed_in, start_in, counted_in, placed}
use Rattle.claims.specs.Runs.{Full, count_after}

-- ---- The state

pub start_is : (x : Journal) (s : State) → start_in x s ≡ put_journaled (start_in x s).journaled s
start_is no_journal s = refl
start_is (lent_journal xs) s = refl

pub counted_is : (x : Journal) (k : ℕ) (s : State) → counted_in x k s ≡ put_journaled (counted_in x k s).journaled s
counted_is no_journal k s = refl
counted_is (lent_journal xs) k s = refl

-- where steps leave the count that the run starts from
pub count_after_lem : (x : Journal) (k : ℕ) (s last : State) → last.journaled ≡ (start_in x s).journaled → counted_in x k last ≡ put_journaled (count_after x s.journaled k) last
count_after_lem no_journal k s last e = ap (λ j. put_journaled j last) e
count_after_lem (lent_journal xs) k s last e = ap (λ j. put_journaled (j + k) last) e

-- ---- The steps allowed

pub allowed_few : (x : Journal) (count budget : ℕ) → allowed_in x count budget ≤ budget
allowed_few no_journal count budget = omega arith
allowed_few (lent_journal xs) count budget = omega arith

-- before they are used up neither the budget is nor the journal full, and then one of them is
pub may_go_on : (x : Journal) (count budget j : ℕ) → j < allowed_in x count budget → (j ≡ budget → ⊥) × (Full x (count + j) → ⊥)
may_go_on no_journal count budget j h = (λ e. omega arith, λ f. f)
may_go_on (lent_journal xs) count budget j h = (λ e. omega arith, λ f. omega arith)

pub used_up : (x : Journal) (count budget j : ℕ) → allowed_in x count budget ≡ j → (j ≡ budget) ⊎ Full x (count + j)
used_up no_journal count budget j e = inl (omega arith)
used_up (lent_journal xs) count budget j e = go (leb budget (length xs - count)) refl
  where
    go : (t : Bool) → leb budget (length xs - count) ≡ t → (j ≡ budget) ⊎ Full (lent_journal xs) (count + j)
    go true f = inl (omega (arith, leb-true budget (length xs - count) f))
    go false f = inr (omega (arith, leb-false budget (length xs - count) f))

-- ---- The places

pub length_placed : (k : ℕ) (es xs : List ℕ) → length es ≤ length xs - k → length (placed k es xs) ≡ length xs
length_placed k es xs h = simp (length-append, length-take, length-drop) (omega arith)

module _ (es : List ℕ) where
  placed_more : (k x : ℕ) (xs : List ℕ) → placed (suc k) es (x ∷ xs) ≡ x ∷ placed k es xs
  placed_more k x xs = rw (suc-add k (length es))

  pub placed_at : (k : ℕ) (xs : List ℕ) → length es ≤ length xs - k → (j : ℕ) → j < length es → get_or (placed k es xs) (k + j) 0 ≡ get_or es j 0
  placed_at zero xs h j l = rw (zero-add j) (get_or-append es _ 0 j l)
  placed_at (suc k) [] h j l = absurd (omega arith)
  placed_at (suc k) (x ∷ xs) h j l = rw (placed_more k x xs, suc-add k j) (placed_at k xs (omega arith) j l)

  pub placed_other : (k : ℕ) (xs : List ℕ) → length es ≤ length xs - k → (i : ℕ) → (i < k) ⊎ (k + length es ≤ i) → get_or (placed k es xs) i 0 ≡ get_or xs i 0
  placed_other zero xs h i (inl l) = absurd (omega arith)
  placed_other zero xs h i (inr l) =
      let n = i - length es in
      let e : i ≡ length es + n = omega arith in
      rw (e, zero-add, get_or-append-add es (drop (length es) xs) n 0, get_or-drop (length es) xs n 0)
  placed_other (suc k) [] h i l = get_or-eq_default (placed (suc k) es []) 0 (omega (arith, length_placed (suc k) es [] h))
  placed_other (suc k) (x ∷ xs) h zero l = refl
  placed_other (suc k) (x ∷ xs) h (suc i) l = ap (λ ys. get_or ys (suc i) 0) (placed_more k x xs) ∙ (placed_other k xs (omega arith) i (⊎_map (λ l. omega arith) (λ l. omega arith) l))
