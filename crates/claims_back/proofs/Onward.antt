-- An accepted run without a journal: what it reports and leaves, of the steps that it took and the machine it came to; and the run on from
-- there, whose L is empty.
-- Assumes nothing.
use mathlib.Core.Path.{◌≡◌, refl, sym, ap, ◌∙◌}
use mathlib.Core.List.{List, [], ◌++◌, map}
use Prim.Native.Nat.{ℕ, suc, ◌+◌, ◌-◌, ◌≤◌}
use native.Mathlib.Omega.{arith}
use lib.ListN.{length, take}
use lib.Seq.{take_at}
use Rattle.refusal.specs.Refusals.{Verdict, accepted, refused}
use Rattle.word.proofs.Tests.{clash}
use Rattle.machine.specs.Machine.{Machine, put_journaled, on_state}
use Rattle.machine.specs.Run.{by_rules, run_from, trace_from}
use Rattle.machine.proofs.Runs.{run_cannot, run_full, trace_cannot, trace_full}
use Rattle.control.proofs.Laws.{shift}
use Rattle.run.specs.Runs.{Given, stopped, run_refused, verdict_on, machine_at, outcome_on, trace_on, run_left, accepted_counted, counted_by, counted_left}
use Rattle.claims.specs.Session.{Host, given_to, after_one_run, machine_on}
use Rattle.claims.specs.Runs.{Takes, none, more, First, budget_used, journal_full, word_unassigned, by_zero_divisor, locked_byte, no_place}
use Rattle.claims_back.specs.Longer.{lent_only, AcceptedRun, written, machine_left}
use Rattle.claims.proofs.Runs.{runs}
use Rattle.claims.proofs.Together.{both, shifted}
use Rattle.claims.proofs.Shift.{shift_outcome}
use Rattle.claims_back.proofs.Walks.{Walk, there, then, walked, run_walks, walk_runs_on}

-- ---- Steps

pub walk_takes : {m after : Machine} {ms : List Machine} → Walk m ms after → Takes by_rules (length ms) m after
walk_takes there = none
walk_takes (then e w) = more e (walk_takes w)

takes_same : {s : ℕ} {m x y : Machine} → Takes by_rules s m x → Takes by_rules s m y → x ≡ y
takes_same none none = refl
takes_same (more {next = a} e t) (more {next = b} f u) = let same : a ≡ b = cc in takes_same t (rw (← same) at u)

-- ---- What a run reports and leaves

module _ {h : Host} {b : ℕ} {log : List ℕ} (r : AcceptedRun h b log) where
  abbrev pub asked : Given
  asked = given_to h (lent_only b log)

  abbrev pub came : Machine
  came = (outcome_on by_rules asked).after

  abbrev pub took : List Machine
  took = trace_on by_rules asked

  pub record Told : Type 0 where
    pub accepts : verdict_on asked ≡ accepted
    pub ran : r.ran ≡ accepted_counted by_rules asked
    pub stop : r.stop ≡ (outcome_on by_rules asked).reason
    pub steps : r.steps ≡ length took
    pub entries : r.entries ≡ length came.L
    pub few : length took ≤ b
    pub walk : Walk (machine_at asked) took came
    pub room : length came.L ≤ length log
    pub uncounted : came.state.journaled ≡ 0
    pub wrote : written r ≡ came.L
    pub left : machine_left r ≡ came

  pub told : Told
  unfolding counted_left
  told = by_verdict (verdict_on asked) refl (both r.engine asked r.ran r.meets)
    where
      replied : (v : Verdict) → r.ran ≡ counted_by by_rules v asked → stopped r.stop r.steps r.entries ≡ (counted_by by_rules v asked).left.reply
      replied v e = sym r.replied ∙ ap (λ x. x.left.reply) e

      by_verdict : (v : Verdict) → verdict_on asked ≡ v → r.ran ≡ counted_by by_rules v asked → Told
      by_verdict (refused k) ok e = let z : stopped r.stop r.steps r.entries ≡ run_refused k = replied (refused k) e in clash (cc)
      by_verdict accepted ok e =
          let z = outcome_on by_rules asked in
          let (few, walk, room) = run_walks b (0 + length log) (machine_at asked) in
          let w = walked walk in
          let said : stopped r.stop r.steps r.entries ≡ stopped z.reason (came.state.n - h.state.n) (length came.L) = replied accepted e in
          let steps : r.steps ≡ came.state.n - h.state.n = cc in
          let entries : r.entries ≡ length came.L = cc in
          let wrote : written r ≡ came.L = ap (λ x. take r.entries x.left.log) e ∙ take_at came.L _ r.entries (sym entries) in
          record {
            accepts = ok;
            ran = e;
            stop = cc;
            steps = omega (arith, steps, w.n_is);
            entries = entries;
            few = few;
            walk = walk;
            room = omega (arith, room (omega arith));
            uncounted = w.same_count;
            wrote = wrote;
            left = λ i. machine_on (after_one_run (e i).left) (wrote i);
          }

  -- ---- Why it stopped

  -- the reply of the run that does not count
  pub replies : (run_left by_rules asked).reply ≡ stopped r.stop r.steps r.entries
  replies =
      ap (λ x. x.reply) (sym (runs.without_counts by_rules asked))
      ∙ ap (λ x. x.left.reply) (sym (both r.engine asked r.ran r.meets))
      ∙ r.replied

  -- after its steps the test with its reason was the first that holds
  stops : First by_rules asked r.steps came r.stop
  stops =
      let z = runs.through_rules asked r.stop r.steps r.entries replies in
      let there : Takes by_rules r.steps (machine_at asked) came = rw told.steps (walk_takes told.walk) in
      rw (← takes_same z.took there) z.stops

  -- with 0: its budget is used
  pub all_taken : r.stop ≡ 0 → length took ≡ b
  all_taken e = omega (arith, told.steps, by_test stops e)
    where
      by_test : {s q : ℕ} {m : Machine} → First by_rules asked s m q → q ≡ 0 → s ≡ b
      by_test (budget_used u) e = u
      by_test (journal_full u) e = absurd u
      by_test (word_unassigned may s) e = absurd (omega arith)
      by_test (by_zero_divisor may s) e = absurd (omega arith)
      by_test (locked_byte may s) e = absurd (omega arith)
      by_test (no_place may s f) e = absurd (omega arith)

  -- with another: no run goes on from there
  abbrev pub Stands : ℕ → ℕ → Machine → Type 0
  Stands c q m =
      (run_from by_rules (suc c) (length log) m ≡ record { reason = q; after = m }) × (trace_from by_rules (suc c) (length log) m ≡ [])

  pub stands : (c : ℕ) → (r.stop ≡ 0 → ⊥) → Stands c r.stop came
  stands c n = by_test stops n
    where
      by_test : {s q : ℕ} {m : Machine} → First by_rules asked s m q → (q ≡ 0 → ⊥) → Stands c q m
      by_test (budget_used u) n = absurd (n refl)
      by_test (journal_full u) n = absurd u
      by_test {m} (word_unassigned may s) n = (run_cannot by_rules c (length log) m 1 s, trace_cannot by_rules c (length log) m 1 s)
      by_test {m} (by_zero_divisor may s) n = (run_cannot by_rules c (length log) m 3 s, trace_cannot by_rules c (length log) m 3 s)
      by_test {m} (locked_byte may s) n = (run_cannot by_rules c (length log) m 4 s, trace_cannot by_rules c (length log) m 4 s)
      by_test {m} (no_place may {next} s f) n =
          (run_full by_rules c (length log) m next s f, trace_full by_rules c (length log) m next s f)

  -- ---- A run with no smaller budget and log passes there

  pub record Passes (budget full : ℕ) : Type 0 where
    pub ends : run_from by_rules budget full (machine_at asked) ≡ run_from by_rules (budget - length took) full came
    pub traces : trace_from by_rules budget full (machine_at asked) ≡ took ++ trace_from by_rules (budget - length took) full came

  pub passes : (budget full : ℕ) → b ≤ budget → length log ≤ full → Passes budget full
  passes budget full p q =
      let all : length took + (budget - length took) ≡ budget = omega (arith, told.few) in
      let z = rw all at (walk_runs_on (budget - length took) full told.walk (omega (arith, told.room))) in
      record { ends = z.0; traces = z.1 }

  -- ---- The run on from there, with an empty L

  -- with a budget and a log
  abbrev pub on : ℕ → List ℕ → Given
  on c free = given_to (after_one_run r.ran.left) (lent_only c free)

  pub record Onward (c full : ℕ) (free : List ℕ) : Type 0 where
    pub ends : run_from by_rules c full came ≡ shift_outcome (written r) (outcome_on by_rules (on c free))
    pub traces : trace_from by_rules c full came ≡ map (shift (written r)) (trace_on by_rules (on c free))

  pub onward : (c full : ℕ) (free : List ℕ) → full ≡ r.entries + length free → Onward c full free
  onward c full free e =
      let z = shifted (after_one_run r.ran.left) (written r) (lent_only c free) in
      let here : came ≡ on_state (put_journaled 0) (machine_left r) =
      ap (λ j. on_state (put_journaled j) came) told.uncounted ∙ ap (on_state (put_journaled 0)) (sym told.left) in
      let places : full ≡ length (written r) + length free = omega (arith, e, told.entries, ap length told.wrote) in
      record {
        ends = (λ i. run_from by_rules c (places i) (here i)) ∙ z.outcomes;
        traces = (λ i. trace_from by_rules c (places i) (here i)) ∙ z.traces;
      }
