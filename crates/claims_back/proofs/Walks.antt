-- The steps of a run by the rules, one after the other: what a run takes, and that a run which has budget and room takes all of them.
-- Assumes nothing.
use mathlib.Core.Path.{◌≡◌, refl, ap, ◌∙◌}
use mathlib.Core.Bool.{Bool, true, false, ◌&&◌}
use mathlib.Core.List.{List, [], ◌∷◌, ◌++◌, append-nil}
use Prim.Native.Nat.{ℕ, zero, suc, ◌+◌, ◌≤◌}
use native.Mathlib.Nat.{add-zero, zero-add, suc-add}
use native.Mathlib.Omega.{arith}
use borrow.Author.Tests.{lt-leb, leb-false}
use lib.Dec.{leb}
use lib.ListN.{length}
use Rattle.word.specs.Word.{flag}
use Rattle.machine.specs.Machine.{Machine}
use Rattle.machine.specs.Step.{Next, cannot, to, step}
use Rattle.machine.specs.Run.{by_rules, is_out, fetches_a, no_place_at, run_from, trace_from}
use Rattle.machine.proofs.Runs.{run_none, run_cannot, run_full, run_on, trace_none, trace_cannot, trace_full, trace_on_lem}
use Rattle.journal.proofs.Undone.{step_keeps, step_grows}
use Rattle.control.proofs.Laws.{lawful_rules}
use Rattle.claims_back.proofs.Pasts.{Sound, step_sound}

-- from m to `after` by the steps of these, the first first
pub data Walk : Machine → List Machine → Machine → Type 0 where
  there : {m : Machine} → Walk m [] m
  then : {m next after : Machine} {ms : List Machine} → step m ≡ to next → Walk next ms after → Walk m (m ∷ ms) after

-- what a walk comes to
pub record Walked (m after : Machine) (ms : List Machine) : Type 0 where
  pub n_is : after.state.n ≡ m.state.n + length ms
  pub same_count : after.state.journaled ≡ m.state.journaled
  pub sound : Sound m → Sound after
  pub grows : length m.L ≤ length after.L

pub walked : {m after : Machine} {ms : List Machine} → Walk m ms after → Walked m after ms
walked there = record { n_is = omega arith; same_count = refl; sound = λ s. s; grows = omega arith }
walked (then {m} {next} e w) =
    let z = walked w in
    record {
      n_is = omega (arith, z.n_is, lawful_rules.counts m next e);
      same_count = z.same_count ∙ ap (λ x. x.0) (step_keeps m next e).leaves;
      sound = λ s. z.sound (step_sound e s);
      grows = omega (arith, z.grows, lawful_rules.grows m next e);
    }

-- ---- The log's places

leaves_place : (full : ℕ) (m next : Machine) → step m ≡ to next → no_place_at by_rules full m ≡ false → length m.L ≤ full → length next.L ≤ full
unfolding no_place_at
leaves_place full m next e f h = go (fetches_a is_out m) f (step_grows m next e)
  where
    go : (t : Bool) → (t && leb full (length m.L)) ≡ false → length next.L ≡ length m.L + flag t → length next.L ≤ full
    go true f g = omega (arith, leb-false full (length m.L) f)
    go false f g = omega arith

has_place : (full : ℕ) (m next : Machine) → step m ≡ to next → length next.L ≤ full → no_place_at by_rules full m ≡ false
unfolding no_place_at
has_place full m next e h = go (fetches_a is_out m) (step_grows m next e)
  where
    go : (t : Bool) → length next.L ≡ length m.L + flag t → (t && leb full (length m.L)) ≡ false
    go true g = lt-leb full (length m.L) (omega arith)
    go false g = refl

-- ---- A run takes a walk of at most as many steps as its budget, and writes no more entries than there are places

abbrev pub Goes : ℕ → ℕ → Machine → Type 0
Goes full b m =
    (length (trace_from by_rules b full m) ≤ b) × Walk m (trace_from by_rules b full m) (run_from by_rules b full m).after
    × (length m.L ≤ full → length (run_from by_rules b full m).after.L ≤ full)

pub run_walks : (b full : ℕ) (m : Machine) → Goes full b m
run_walks zero full m = rw (run_none by_rules full m, trace_none by_rules full m) (omega arith, there, λ h. h)
run_walks (suc b) full m = by_next (step m) refl (no_place_at by_rules full m) refl (run_walks b full)
  where
    by_next : (x : Next) → step m ≡ x → (t : Bool) → no_place_at by_rules full m ≡ t → ((next : Machine) → Goes full b next) → Goes full (suc b) m
    by_next (cannot q) e t f ih =
        rw (run_cannot by_rules b full m q e, trace_cannot by_rules b full m q e) (omega arith, there, λ h. h)
    by_next (to next) e true f ih =
        rw (run_full by_rules b full m next e f, trace_full by_rules b full m next e f) (omega arith, there, λ h. h)
    by_next (to next) e false f ih =
        rw (run_on by_rules b full m next e f, trace_on_lem by_rules b full m next e f)
        (omega (arith, (ih next).0), then e (ih next).1, λ h. (ih next).2 (leaves_place full m next e f h))

-- ---- A run with room for the log takes a walk that its budget allows, and goes on from its end with the rest

pub walk_runs_on : {m after : Machine} {ms : List Machine} (c full : ℕ) → Walk m ms after → length after.L ≤ full
    → (run_from by_rules (length ms + c) full m ≡ run_from by_rules c full after)
    × (trace_from by_rules (length ms + c) full m ≡ ms ++ trace_from by_rules c full after)
walk_runs_on c full (there {m}) h = rw (zero-add c) (refl, refl)
walk_runs_on c full (then {m} {next} {ms = ms} e w) h =
    let f = has_place full m next e (omega (arith, (walked w).grows)) in
    let z = walk_runs_on c full w h in
    rw (suc-add (length ms) c)
    (run_on by_rules (length ms + c) full m next e f ∙ z.0, trace_on_lem by_rules (length ms + c) full m next e f ∙ ap (λ t. m ∷ t) z.1)

-- with a budget that it uses up
pub walk_runs : {m after : Machine} {ms : List Machine} (full : ℕ) → Walk m ms after → length after.L ≤ full
    → (run_from by_rules (length ms) full m ≡ record { reason = 0; after = after }) × (trace_from by_rules (length ms) full m ≡ ms)
walk_runs {m} {after} {ms} full w h =
    let z = rw (add-zero (length ms)) at (walk_runs_on 0 full w h) in
    (z.0 ∙ run_none by_rules full after, z.1 ∙ ap (λ t. ms ++ t) (trace_none by_rules full after) ∙ append-nil ms)
