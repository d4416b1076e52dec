-- A run on a machine whose L has l in front goes alike (Alike.antt), by the laws of control/proofs/Laws.antt. And what a run by the rules
-- keeps.
-- Assumes nothing.
use mathlib.Core.Path.{◌≡◌, refl, ◌∙◌, ap}
use mathlib.Core.Bool.{Bool, true, false, ◌&&◌}
use mathlib.Core.List.{List, [], ◌∷◌, map}
use Prim.Native.Nat.{ℕ, ◌+◌}
use native.Mathlib.Omega.{arith}
use borrow.Author.Tests.{le-leb, lt-leb, leb-true, leb-false}
use lib.Dec.{leb}
use lib.ListN.{length, length-append}
use Rattle.word.proofs.Tables.{Each}
use Rattle.machine.specs.Machine.{Machine}
use Rattle.machine.specs.Step.{fetched, Next, cannot, to}
use Rattle.machine.specs.Run.{by_rules, Outcome, no_place_at, run_from}
use Rattle.journal.specs.Journal.{overwritten, entry_of}
use Rattle.usage.specs.Usage.{usage_of, ticks_of}
use Rattle.control.proofs.Laws.{shift, shift_next, local_rules}
use Rattle.run.specs.Runs.{Journal, kept_in}
use Rattle.claims.proofs.Alike.{map_next, map_outcome, Seen, seen_by, Maps, Alike, alike, usage_alike, ticks_alike, kept_alike, steps_keep}

abbrev pub shift_outcome : List ℕ → Outcome → Outcome
shift_outcome l z = map_outcome (shift l) z

leb_shift : (a b c : ℕ) → leb (a + b) (a + c) ≡ leb b c
leb_shift a b c = by_test (leb b c) refl
  where
    by_test : (t : Bool) → leb b c ≡ t → leb (a + b) (a + c) ≡ t
    by_test true e = let h = leb-true b c e in le-leb (a + b) (a + c) (omega arith)
    by_test false e = let h = leb-false b c e in lt-leb (a + b) (a + c) (omega arith)

-- a step does not tell the machine with l in front from the one without
module _ (l : List ℕ) where
  place_shift : (full : ℕ) (m : Machine) → no_place_at by_rules (length l + full) (shift l m) ≡ no_place_at by_rules full m
  unfolding no_place_at
  place_shift full m =
      ap (λ w. w && leb (length l + full) (length (shift l m).L)) (local_rules.writes_shift l m) ∙ simp (length-append, leb_shift)

  next_shift : (x : Next) → shift_next l x ≡ map_next (shift l) x
  next_shift (cannot q) = refl
  next_shift (to next) = refl

  seen_shift : (m : Machine) → Seen (shift l) m
  unfolding entry_of overwritten fetched
  seen_shift m = seen_by (shift l) m refl (λ t. refl) refl

  maps_shift : Maps by_rules (shift l) (λ full. length l + full) (λ m. Unit {0})
  maps_shift =
      record {
        steps = λ m q. local_rules.steps_shift l m ∙ next_shift (by_rules.steps m);
        places = λ full m next e q. place_shift full m;
        seen = λ m next e q. seen_shift m;
        keeps = λ m next e q. tt;
      }

pub goes_alike : (k full : ℕ) (l : List ℕ) (m : Machine) → Alike by_rules (shift l) (λ x. length l + x) k full m
goes_alike k full l m = alike (maps_shift l) k full m tt

-- ---- The counts, the ticks and the journal of any machines with l in front

module _ (l : List ℕ) where
  all_seen : (ms : List Machine) → Each (Seen (shift l)) ms
  all_seen [] = tt
  all_seen (m ∷ ms) = (seen_shift l m, all_seen ms)

  pub usage_shift : (ms : List Machine) → usage_of (map (shift l) ms) ≡ usage_of ms
  usage_shift ms = usage_alike (shift l) ms (all_seen ms)

  pub ticks_shift : (ms : List Machine) → ticks_of (map (shift l) ms) ≡ ticks_of ms
  ticks_shift ms = ticks_alike (shift l) ms (all_seen ms)

  pub kept_shift : (x : Journal) (count : ℕ) (ms : List Machine) → kept_in x count (map (shift l) ms) ≡ kept_in x count ms
  kept_shift x count ms = kept_alike (shift l) x count ms (all_seen ms)

-- ---- What each step by the rules keeps

pub run_keeps :
    (Q : Machine → Type 0) → ((m next : Machine) → by_rules.steps m ≡ to next → Q m → Q next)
    → (k full : ℕ) (m : Machine) → Q m → Q (run_from by_rules k full m).after
run_keeps = steps_keep by_rules
