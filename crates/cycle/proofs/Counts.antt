-- What the loop keeps of its counts, at once and by place.
-- Assumes nothing.
use mathlib.Core.Path.{◌≡◌, refl, ap, ◌∙◌}
use mathlib.Core.Bool.{Bool, true, false}
use mathlib.Core.List.{List}
use Prim.Native.Nat.{ℕ, ◌+◌, ◌<◌, ◌≤◌}
use native.Mathlib.Omega.{arith}
use borrow.Author.Tests.{eqb-true, eqb-false}
use lib.Dec.{eqb}
use lib.ListN.{length, get_or, set, length-set}
use lib.Seq.{get_or-set_same, get_or-set_other}
use Rattle.isa.specs.Masks.{masks_of}
use Rattle.usage.specs.declared.Usage.{Usage}
use Rattle.usage.specs.Usage.{word_is, counted, took_lines, unused}
use Rattle.usage.proofs.Sums.{Sized, unused_sized, counted_sized, took_sized, AtMost, counted_most, unused_most}
use Rattle.places.specs.Places.{place_of, tallied, Cleared}
use Rattle.places.proofs.Tallied.{more_at_once, more_by_place}

-- u and the places that were lent, after so many steps
pub record Counting (lent counts : List ℕ) (u : Usage) (steps : ℕ) : Type 0 where
  pub kept : length counts ≡ length lent
  pub each : (k : ℕ) → get_or counts k 0 ≤ steps
  pub few : AtMost steps u
  pub sized : Sized u

pub counting_starts : (counts : List ℕ) → Cleared counts → Counting counts counts unused 0
counting_starts counts h = record { kept = refl; each = λ k. omega (arith, h k); few = unused_most; sized = unused_sized }

-- a line taken
pub counts_line : {lent counts : List ℕ} {u : Usage} {steps : ℕ} → Counting lent counts u steps → Counting lent counts (took_lines 1 u) (steps + 1)
counts_line c =
    record {
      kept = c.kept;
      each = λ k. omega (arith, c.each k);
      few =
          record {
            taken = omega (arith, c.few.taken);
            kinds = λ k. omega (arith, c.few.kinds k);
            reads = λ k. omega (arith, c.few.reads k);
            writes = λ k. omega (arith, c.few.writes k);
          };
      sized = took_sized 1 c.sized;
    }

-- a step more of the word w
pub record Counts (w : ℕ) (lent counts : List ℕ) (u : Usage) (steps : ℕ) (counts' : List ℕ) (u' : Usage) : Type 0 where
  pub counting : Counting lent counts' u' (steps + 1)
  pub one : tallied counts' u' ≡ counted (word_is w) (masks_of w) (tallied counts u)

module _ (w : ℕ) {lent counts : List ℕ} {u : Usage} {steps : ℕ} (c : Counting lent counts u steps) where
  pub counts_at_once : {counts' : List ℕ} {u' : Usage} → length counts < 17408 → counts' ≡ counts → u' ≡ counted (word_is w) (masks_of w) u
      → Counts w lent counts u steps counts' u'
  counts_at_once l same e =
      rw (same, e)
      (record {
        counting = record { kept = c.kept; each = λ k. omega (arith, c.each k); few = counted_most _ _ c.few; sized = counted_sized _ _ c.sized };
        one = more_at_once w counts u l;
      })

  pub counts_by_place : {at : ℕ} {counts' : List ℕ} {u' : Usage} → w < 65536 → at ≡ place_of w → at < 17408 → 17408 ≤ length counts
      → counts' ≡ set counts at (get_or counts at 0 + 1) → u' ≡ u → Counts w lent counts u steps counts' u'
  counts_by_place h place q l e same =
      let p = rw place at q in
      rw (e ∙ ap (λ at. set counts at (get_or counts at 0 + 1)) place, same)
      (record {
        counting =
            record {
              kept = length-set counts (place_of w) _ ∙ c.kept;
              each = λ k. go k (eqb k (place_of w)) refl;
              few =
                  record {
                    taken = omega (arith, c.few.taken);
                    kinds = λ k. omega (arith, c.few.kinds k);
                    reads = λ k. omega (arith, c.few.reads k);
                    writes = λ k. omega (arith, c.few.writes k);
                  };
              sized = c.sized;
            };
        one = more_by_place w counts u h p l;
      })
    where
      go : (k : ℕ) (t : Bool) → eqb k (place_of w) ≡ t → get_or (set counts (place_of w) (get_or counts (place_of w) 0 + 1)) k 0 ≤ steps + 1
      go k true t =
          rw (eqb-true k (place_of w) t, get_or-set_same counts (place_of w) (get_or counts (place_of w) 0 + 1) 0 (omega arith)) (omega (arith, c.each (place_of w)))
      go k false t = rw (get_or-set_other counts (place_of w) k (get_or counts (place_of w) 0 + 1) 0 (eqb-false k (place_of w) t)) (omega (arith, c.each k))
