-- The lines from k on are what is left of the listing.
-- Assumes nothing.
use Prim.Native.Nat.{ℕ, zero, suc, ◌+◌, ◌<◌, ◌≤◌}
use mathlib.Core.Logic.{◌⊎◌, inl, inr}
use mathlib.Core.Path.{◌≡◌, ap, ◌∙◌}
use mathlib.Core.List.{List, [], ◌++◌, flatten}
use native.Mathlib.Omega.{arith}
use lib.ListN.{length, get_or, drop, drop_of_length-le}
use lib.Seq.{drop-cons}
use Rattle.std.specs.Prelude.{Option}
use Rattle.std.specs.declared.option.Option.TheVariants.{None, Some}
use Rattle.std.proofs.lemmas.Option.{slice_get-get_or, slice_get_past}
use Rattle.std.proofs.lemmas.Bool.{cases_lt}
use Rattle.listing.specs.File.{listing, listed_line}
use Rattle.claims_texts.specs.Listings.{written_from, Listings}

module _ (lines : List (List ℕ)) (line : ℕ → Option (List ℕ)) (is : (k : ℕ) → line k ≡ listed_line lines k) where
  none_left : (k : ℕ) → length lines ≤ k → [] ≡ flatten (drop k lines)
  unfolding flatten
  none_left k h = rw (drop_of_length-le lines {i = k} h)

  one_more : (k : ℕ) → k < length lines → get_or lines k [] ++ flatten (drop (suc k) lines) ≡ flatten (drop k lines)
  unfolding flatten
  one_more k h = rw (drop-cons lines k [] h)

  from : (k turns : ℕ) → length lines ≤ k + turns → written_from line k turns ≡ flatten (drop k lines)
  unfolding written_from
  from k zero h = none_left k (omega arith)
  from k (suc turns) h = go (from (suc k) turns (omega arith)) (cases_lt k (length lines))
    where
      go : written_from line (suc k) turns ≡ flatten (drop (suc k) lines) → (k < length lines) ⊎ (length lines ≤ k)
          → (elim (line k) [ Some text ↦ text ++ written_from line (suc k) turns | None ↦ [] ]) ≡ flatten (drop k lines)
      go later (inl l) = rw (is k, slice_get-get_or lines k [] l) (ap (λ s. get_or lines k [] ++ s) later ∙ one_more k l)
      go later (inr l) = rw (is k, slice_get_past lines k l) (none_left k l)

pub listings : Listings
listings = record { whole = λ file line is turns h. from (listing file) line is 0 turns (omega arith) }
