-- The invariants of the scan of 64 places and of the fold.
-- Assumes nothing.
use mathlib.Core.Path.{◌≡◌, refl, sym, ◌∙◌, ap}
use mathlib.Core.Bool.{Bool, true}
use mathlib.Core.List.{List}
use Prim.Native.Nat.{ℕ, ◌+◌, ◌*◌, ◌<◌, ◌≤◌}
use native.Mathlib.Omega.{arith}
use lib.ListN.{length, get_or, drop}
use lib.Seq.{drop-length}
use Rattle.usage.specs.declared.Usage.{Usage}
use Rattle.usage.specs.Usage.{unused}
use Rattle.usage.proofs.Sums.{AtMost, unused_most}
use Rattle.usage.specs.Counting.{counted_steps, Room}
use Rattle.places.specs.Places.{word_of, NoneFrom, folded_from, folded}
use Rattle.places.proofs.Steps.{steps_most, room}
use Rattle.places.proofs.Folds.{fold_next, fold_skip}

-- ---- The scan of a block: the places before `place` were looked at

pub record Scanned (counts : List ℕ) (from : ℕ) (empty : Bool) (place : ℕ) : Type 0 where
  pub here : from ≤ place
  pub none : (empty ≡ true → (j : ℕ) → from ≤ j → j < place → get_or counts j 0 ≡ 0)

-- ---- The fold: the places before `at` are counted in u

pub record Folding (counts : List ℕ) (at : ℕ) (u : Usage) : Type 0 where
  pub all : length counts ≡ 17408
  pub here : at ≤ 17408
  pub few : AtMost (at * 4294967295) u
  pub left : folded_from at (drop at counts) u ≡ folded counts

pub fold_starts : (counts : List ℕ) → length counts ≡ 17408 → Folding counts 0 unused
fold_starts counts all = record { all = all; here = omega arith; few = unused_most; left = refl }

module _ {counts : List ℕ} {at : ℕ} {u : Usage} (f : Folding counts at u) where
  more_few : {m : ℕ} → at * 4294967295 ≤ m → AtMost m u
  more_few l = record { taken = omega (arith, f.few.taken, l); kinds = λ j. omega (arith, f.few.kinds j, l); reads = λ j. omega (arith, f.few.reads j, l); writes = λ j. omega (arith, f.few.writes j, l) }

  -- 64 places where nothing is counted
  pub fold_skips : at + 64 ≤ 17408 → NoneFrom 64 at counts → Folding counts (at + 64) u
  fold_skips l h = record { all = f.all; here = l; few = more_few (omega arith); left = sym (fold_skip 64 at counts u (omega arith) h) ∙ f.left }

  module _ {n : ℕ} (small : n ≤ 4294967295) where
    pub fold_room : at < 17408 → Room n u
    fold_room l = room (omega arith) f.few

    -- a place's steps
    pub fold_counts : {next : Usage} → at < 17408 → n ≡ get_or counts at 0 → next ≡ counted_steps n (word_of at) u → Folding counts (at + 1) next
    fold_counts l e c =
        record {
          all = f.all;
          here = omega arith;
          few = rw c (most (steps_most n (word_of at) f.few));
          left =
              ap (λ (x : Usage). folded_from (at + 1) (drop (at + 1) counts) x) (c ∙ (λ i. counted_steps (e i) (word_of at) u))
              ∙ sym (fold_next at counts u (omega arith))
              ∙ f.left;
        }
      where
        most : {x : Usage} → AtMost (at * 4294967295 + n) x → AtMost ((at + 1) * 4294967295) x
        most a = record { taken = omega (arith, a.taken); kinds = λ j. omega (arith, a.kinds j); reads = λ j. omega (arith, a.reads j); writes = λ j. omega (arith, a.writes j) }

  -- all places are counted
  pub fold_ends : 17408 ≤ at → u ≡ folded counts
  unfolding folded_from
  fold_ends l =
      let e : at ≡ length counts = omega arith in
      sym (ap (λ (xs : List ℕ). folded_from at xs u) (ap (λ k. drop k counts) e ∙ drop-length counts)) ∙ f.left
