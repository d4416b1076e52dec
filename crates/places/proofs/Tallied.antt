-- What a run has counted, at once or by place: one step more is `counted`.
-- Assumes nothing.
use mathlib.Core.Path.{◌≡◌, refl, sym, ◌∙◌, ap}
use mathlib.Core.Bool.{Bool, true, false}
use mathlib.Core.List.{List}
use Prim.Native.Nat.{ℕ, ◌+◌, ◌<◌, ◌≤◌}
use native.Mathlib.Nat.{zero-add}
use native.Mathlib.Omega.{arith}
use borrow.Author.Tests.{lt-ltb, le-ltb}
use lib.Dec.{ltb}
use lib.ListN.{length, get_or, set, length-set}
use Rattle.word.specs.Word.{pick}
use Rattle.isa.specs.Masks.{masks_of}
use Rattle.usage.specs.declared.Usage.{Usage}
use Rattle.usage.specs.Usage.{word_is, counted, took_lines, unused}
use Rattle.usage.proofs.Sums.{Sized}
use Rattle.usage.specs.Counting.{counted_steps}
use Rattle.places.specs.Places.{place_of, word_of, folded, with_taken, tallied, Cleared}
use Rattle.usage.proofs.Words.{steps_once}
use Rattle.places.proofs.Folds.{folded_more, folded_cleared, folded_sized}
use Rattle.places.proofs.Alike.{counted_alike}

module _ (counts : List ℕ) (u : Usage) where
  pub at_once : length counts < 17408 → tallied counts u ≡ u
  at_once l = rw (lt-ltb _ 17408 l)

  pub by_place : 17408 ≤ length counts → tallied counts u ≡ with_taken u.taken (folded counts)
  by_place l = rw (le-ltb _ 17408 l)

  pub tallied_sized : Sized u → Sized (tallied counts u)
  tallied_sized s = go (ltb (length counts) 17408)
    where
      go : (b : Bool) → Sized (pick b u (with_taken u.taken (folded counts)))
      go true = s
      go false = let f = folded_sized counts in record { kinds = f.kinds; reads = f.reads; writes = f.writes }

  -- lines taken
  pub tallied_took : (k : ℕ) → tallied counts (took_lines k u) ≡ took_lines k (tallied counts u)
  tallied_took k = go (ltb (length counts) 17408)
    where
      go : (b : Bool) → pick b (took_lines k u) (with_taken (u.taken + k) (folded counts)) ≡ took_lines k (pick b u (with_taken u.taken (folded counts)))
      go true = refl
      go false = refl

pub tallied_none : (counts : List ℕ) → Cleared counts → tallied counts unused ≡ unused
tallied_none counts h = go (ltb (length counts) 17408)
  where
    go : (b : Bool) → pick b unused (with_taken 0 (folded counts)) ≡ unused
    go true = refl
    go false = ap (with_taken 0) (folded_cleared 0 counts unused h)

-- a step more of the word w, at once and by place
module _ (w : ℕ) (counts : List ℕ) (u : Usage) where
  pub more_at_once : length counts < 17408 → tallied counts (counted (word_is w) (masks_of w) u) ≡ counted (word_is w) (masks_of w) (tallied counts u)
  more_at_once l = at_once counts _ l ∙ ap (counted (word_is w) (masks_of w)) (sym (at_once counts u l))

  pub more_by_place : w < 65536 → place_of w < 17408 → 17408 ≤ length counts
      → tallied (set counts (place_of w) (get_or counts (place_of w) 0 + 1)) u ≡ counted (word_is w) (masks_of w) (tallied counts u)
  more_by_place h p l =
      by_place (set counts (place_of w) (get_or counts (place_of w) 0 + 1)) u (rw (length-set counts (place_of w) (get_or counts (place_of w) 0 + 1)) l)
      ∙ ap (with_taken u.taken)
      (folded_more 0 (place_of w) counts unused (omega arith)
      ∙ ap (λ q. counted_steps 1 (word_of q) (folded counts)) (zero-add (place_of w))
      ∙ counted_alike w 1 (folded counts) h
      ∙ steps_once w (folded counts))
      ∙ ap (counted (word_is w) (masks_of w)) (sym (by_place counts u l))
