-- A run goes alike on two machines that steps do not tell apart, by induction over the budget: so its counts, its ticks and its journal
-- are the same (Shift.antt and OtherProgram.antt say which machines those are). And a run keeps whatever each step keeps.
-- Assumes nothing.
use mathlib.Core.Path.{◌≡◌, refl, ap, ◌∙◌}
use mathlib.Core.Bool.{Bool, true, false, not, ◌&&◌, ◌||◌}
use mathlib.Core.List.{List, [], ◌∷◌, map}
use Prim.Native.Nat.{ℕ, zero, suc, ◌+◌}
use Rattle.word.specs.Word.{pick, flag}
use Rattle.word.proofs.Tables.{Each}
use Rattle.machine.specs.Machine.{Machine, takes_line}
use Rattle.machine.specs.Step.{fetched, Next, cannot, to}
use Rattle.machine.specs.Run.{Stepper, Outcome, no_place_at, run_from, trace_from}
use Rattle.machine.proofs.Runs.{run_none, run_cannot, run_full, run_on, trace_none, trace_cannot, trace_full, trace_on_lem}
use Rattle.journal.specs.Journal.{entry_of}
use Rattle.isa.specs.Masks.{masks_of}
use Rattle.kinds.specs.declared.Kind.TheVariants.{Ld, St, Ldb, Stb}
use Rattle.kinds.specs.Kinds.{kind_number}
use Rattle.usage.specs.declared.Usage.{Usage}
use Rattle.usage.specs.Usage.{word_is, counted, took_lines, step_counted, usage_of, ticks_at, ticks_of}
use Rattle.run.specs.Runs.{Journal, no_journal, lent_journal, placed, kept_in}

abbrev pub map_next : (Machine → Machine) → Next → Next
map_next f (cannot q) = cannot q
map_next f (to next) = to (f next)

abbrev pub map_outcome : (Machine → Machine) → Outcome → Outcome
map_outcome f z = record { reason = z.reason; after = f z.after }

-- what f m does next counts, takes ticks and is kept in a journal as what m does
pub record Seen (f : Machine → Machine) (m : Machine) : Type 0 where
  pub counted : (u : Usage) → step_counted (f m) u ≡ step_counted m u
  pub ticks : ticks_at (f m) ≡ ticks_at m
  pub entry : entry_of (f m) ≡ entry_of m

-- by whether a line is taken, and the word fetched
abbrev counted_as : Bool → ℕ → Usage → Usage
counted_as t w u = took_lines (flag t) (counted (λ j. not t && word_is w j) (pick t (record { reads = 0; writes = 0 }) (masks_of w)) u)

abbrev ticks_as : Bool → ℕ → ℕ
ticks_as t w =
    pick ((not t && word_is w (kind_number Ld)) || (not t && word_is w (kind_number St)) || (not t && word_is w (kind_number Ldb)) || (not t && word_is w (kind_number Stb))) 4 3

counted_as_lem : (t : Bool) (v w : ℕ) (u : Usage) → (t ≡ false → v ≡ w) → counted_as t v u ≡ counted_as t w u
counted_as_lem true v w u e = refl
counted_as_lem false v w u e = ap (λ w. counted_as false w u) (e refl)

ticks_as_lem : (t : Bool) (v w : ℕ) → (t ≡ false → v ≡ w) → ticks_as t v ≡ ticks_as t w
ticks_as_lem true v w e = refl
ticks_as_lem false v w e = ap (ticks_as false) (e refl)

-- both take a line, or fetch the same word
pub seen_by : (f : Machine → Machine) (m : Machine) → takes_line (f m).state ≡ takes_line m.state → (takes_line m.state ≡ false → fetched (f m) ≡ fetched m)
    → entry_of (f m) ≡ entry_of m → Seen f m
seen_by f m t w e =
    record {
      counted = λ u. ap (λ t. counted_as t (fetched (f m)) u) t ∙ counted_as_lem (takes_line m.state) (fetched (f m)) (fetched m) u w;
      ticks = ap (λ t. ticks_as t (fetched (f m))) t ∙ ticks_as_lem (takes_line m.state) (fetched (f m)) (fetched m) w;
      entry = e;
    }

-- where Q holds of m, as it goes on to after each step, v goes on f m as on m, where L may grow to `move full` entries as that of m to `full`
pub record Maps (v : Stepper) (f : Machine → Machine) (move : ℕ → ℕ) (Q : Machine → Type 0) : Type 0 where
  pub steps : (m : Machine) → Q m → v.steps (f m) ≡ map_next f (v.steps m)
  pub places : (full : ℕ) (m next : Machine) → v.steps m ≡ to next → Q m → no_place_at v (move full) (f m) ≡ no_place_at v full m
  pub seen : (m next : Machine) → v.steps m ≡ to next → Q m → Seen f m
  pub keeps : (m next : Machine) → v.steps m ≡ to next → Q m → Q next

-- the run from f m ends and steps as that from m
pub record Alike (v : Stepper) (f : Machine → Machine) (move : ℕ → ℕ) (k full : ℕ) (m : Machine) : Type 0 where
  pub ends : run_from v k (move full) (f m) ≡ map_outcome f (run_from v k full m)
  pub traces : trace_from v k (move full) (f m) ≡ map f (trace_from v k full m)
  pub seen : Each (Seen f) (trace_from v k full m)

module _ {v : Stepper} {f : Machine → Machine} {move : ℕ → ℕ} {Q : Machine → Type 0} (h : Maps v f move Q) where
  pub alike : (k full : ℕ) (m : Machine) → Q m → Alike v f move k full m
  alike zero full m q =
      record {
        ends = rw (run_none v full m, run_none v (move full) (f m));
        traces = rw (trace_none v full m, trace_none v (move full) (f m));
        seen = rw (trace_none v full m) tt;
      }
  alike (suc k) full m q = by_next (v.steps m) refl (no_place_at v full m) refl (alike k full)
    where
      s : {x : Next} → v.steps m ≡ x → v.steps (f m) ≡ map_next f x
      s e = h.steps m q ∙ ap (map_next f) e

      p : {next : Machine} {t : Bool} → v.steps m ≡ to next → no_place_at v full m ≡ t → no_place_at v (move full) (f m) ≡ t
      p {next} e l = h.places full m next e q ∙ l

      by_next : (x : Next) → v.steps m ≡ x → (t : Bool) → no_place_at v full m ≡ t
          → ((next : Machine) → Q next → Alike v f move k full next) → Alike v f move (suc k) full m
      by_next (cannot r) e t l ih =
          record {
            ends = rw (run_cannot v k full m r e, run_cannot v k (move full) (f m) r (s e));
            traces = rw (trace_cannot v k full m r e, trace_cannot v k (move full) (f m) r (s e));
            seen = rw (trace_cannot v k full m r e) tt;
          }
      by_next (to next) e true l ih =
          record {
            ends = rw (run_full v k full m next e l, run_full v k (move full) (f m) (f next) (s e) (p e l));
            traces = rw (trace_full v k full m next e l, trace_full v k (move full) (f m) (f next) (s e) (p e l));
            seen = rw (trace_full v k full m next e l) tt;
          }
      by_next (to next) e false l ih =
          let a = ih next (h.keeps m next e q) in
          record {
            ends = rw (run_on v k full m next e l, run_on v k (move full) (f m) (f next) (s e) (p e l)) a.ends;
            traces = rw (trace_on_lem v k full m next e l, trace_on_lem v k (move full) (f m) (f next) (s e) (p e l)) (ap (λ ms. f m ∷ ms) a.traces);
            seen = rw (trace_on_lem v k full m next e l) (h.seen m next e q, a.seen);
          }

-- ---- So its counts, its ticks and its journal are the same

module _ (f : Machine → Machine) where
  pub usage_alike : (ms : List Machine) → Each (Seen f) ms → usage_of (map f ms) ≡ usage_of ms
  unfolding usage_of
  usage_alike [] s = refl
  usage_alike (m ∷ ms) s = s.0.counted (usage_of (map f ms)) ∙ ap (step_counted m) (usage_alike ms s.1)

  pub ticks_alike : (ms : List Machine) → Each (Seen f) ms → ticks_of (map f ms) ≡ ticks_of ms
  unfolding ticks_of
  ticks_alike [] s = refl
  ticks_alike (m ∷ ms) s = λ i. s.0.ticks i + ticks_alike ms s.1 i

  entries_alike : (ms : List Machine) → Each (Seen f) ms → map entry_of (map f ms) ≡ map entry_of ms
  entries_alike [] s = refl
  entries_alike (m ∷ ms) s = λ i. s.0.entry i ∷ entries_alike ms s.1 i

  pub kept_alike : (x : Journal) (count : ℕ) (ms : List Machine) → Each (Seen f) ms → kept_in x count (map f ms) ≡ kept_in x count ms
  kept_alike no_journal count ms s = refl
  kept_alike (lent_journal xs) count ms s = ap (λ es. lent_journal (placed count es xs)) (entries_alike ms s)

-- ---- What each step keeps

module _ (v : Stepper) (Q : Machine → Type 0) (steps : (m next : Machine) → v.steps m ≡ to next → Q m → Q next) where
  pub steps_keep : (k full : ℕ) (m : Machine) → Q m → Q (run_from v k full m).after
  steps_keep zero full m h = rw (run_none v) h
  steps_keep (suc k) full m h = by_next (v.steps m) refl (no_place_at v full m) refl (λ next. steps_keep k full next)
    where
      by_next : (x : Next) → v.steps m ≡ x → (t : Bool) → no_place_at v full m ≡ t
          → ((next : Machine) → Q next → Q (run_from v k full next).after) → Q (run_from v (suc k) full m).after
      by_next (cannot q) e t f ih = rw (run_cannot v k full m q e) h
      by_next (to next) e true f ih = rw (run_full v k full m next e f) h
      by_next (to next) e false f ih = rw (run_on v k full m next e f) (ih next (steps m next e h))
