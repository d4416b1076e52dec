-- The loop's invariant, over plain values: what the start's run comes to is what a run from here comes to.
-- Assumes nothing.
use mathlib.Core.Path.{◌≡◌, refl, sym, ap, subst, ◌∙◌}
use mathlib.Core.Bool.{Bool, true, false}
use mathlib.Core.Logic.{◌⊎◌, inl, inr, ⊎_elim}
use mathlib.Core.List.{List, [], ◌∷◌, ◌++◌}
use Prim.Native.Nat.{ℕ, suc, ◌+◌, ◌-◌, ◌<◌, ◌≤◌}
use native.Mathlib.Nat.{sub-zero, zero-add}
use native.Mathlib.Omega.{arith}
use lib.Dec.{leb}
use lib.ListN.{length, take, drop, take-append-drop}
use lib.Seq.{length-take-le, drop-drop}
use Rattle.machine.specs.declared.State.{State}
use Rattle.machine.specs.Machine.{Machine, takes_line, fetch_locked, line_taken_by, count}
use Rattle.machine.specs.Step.{Next, cannot, to, fetched}
use Rattle.machine.specs.Run.{Stepper, Outcome, no_place_at, unless, run_from, trace_from}
use Rattle.machine.specs.Held.{Fetches, Held, machine_of, is_full, outcome_of, is_lock_stop, StepMeets}
use Rattle.word.proofs.Tests.{never}
use Rattle.machine.proofs.Lines.{takes_none}
use Rattle.machine.proofs.Runs.{Even, places_even, Lawful, run_none, trace_none, run_cannot, trace_cannot, run_stops, trace_stops, run_goes}
use Rattle.isa.specs.Masks.{masks_of}
use Rattle.usage.specs.declared.Usage.{Usage}
use Rattle.usage.specs.Usage.{word_is, counted, took_lines, step_counted, unused, usage_of, plus_usage}
use Rattle.usage.proofs.Words.{taking_counted, fetching_counted}
use Rattle.places.specs.Places.{tallied, Cleared}
use Rattle.places.proofs.Tallied.{tallied_sized, tallied_took, tallied_none}
use Rattle.usage.proofs.Sums.{step_plus, Sized, trace_sized, plus_unused, unused_plus}
use Rattle.run.specs.Runs.{Journal, Given, Left, left, stopped, journal_if, allowed, counted_in, kept_in, machine_at, outcome_on, trace_on, accepted_left, CountedLeft, accepted_counted}
use Rattle.run.specs.Parts.{EndsWith}
use Rattle.run.proofs.Ticks.{accepted_ticks}
use Rattle.journal.specs.Journal.{entry_of}
use Rattle.journal.specs.Parts.{IsEntry}
use Rattle.journal.proofs.Undone.{is_entry}
use Rattle.stepping.specs.Engines.{EngineLaws}
use Rattle.cycle.specs.Loops.{CanRun, left_timed}
use Rattle.cycle.proofs.Chosen.{takes_line_lem, tests, stop_4, Free, free}
use Rattle.cycle.proofs.Counts.{Counting, counting_starts, counts_line, Counts}
use Rattle.cycle.proofs.Kept.{Keeping, keeping_starts, keeping_turns, keeping_ends, Written}

-- what is held at the start of a run
abbrev pub start_of : Given → Held
start_of g = record { state = g.state; D = g.D; I = g.I; O = g.O; log = g.log; entries = 0 }

-- what a run replies and leaves that stops here, with reason q after so many steps, with the state s and the journal j
abbrev replied : Given → ℕ → ℕ → Held → State → Journal → Left
replied g q steps h s j = left (stopped q steps h.entries) s g.P h.D h.I h.O h.log j

-- and with the counts u
abbrev pub reported : Given → ℕ → ℕ → Held → State → Journal → Usage → CountedLeft
reported g q steps h s j u = left_timed (replied g q steps h s j) u

-- the machine here
abbrev pub here_of : Given → Held → Machine
here_of g h = machine_of g.P h

-- the machines of what is left to run from here
abbrev rest_of : Stepper → Given → Held → ℕ → List Machine
rest_of v g h left = trace_from v left (length g.log) (here_of g h)

-- h, the journal, the places and the counts u are held after so many steps
pub record Going (v : Stepper) (g : Given) (keeps : Bool) (journal₀ places₀ : List ℕ) (h : Held) (steps : ℕ) (journal places : List ℕ) (u : Usage) : Type 0 where
  pub program : length g.P ≡ 65536
  pub memory : length h.D ≡ 65536
  pub inputs : length h.I ≡ 256
  pub outputs : length h.O ≡ 256
  pub log_kept : length h.log ≡ length g.log
  pub filled : h.entries ≤ length h.log
  pub even : Even h.state
  -- no line is pending where none was at the start
  pub quiet : g.state.pending ≡ 0 → h.state.pending ≡ 0
  pub used : steps ≤ g.budget
  pub counted : h.state.n ≡ g.state.n + steps
  pub counts : g.state.n + g.budget ≤ 4294967295
  pub journaled : h.state.journaled ≡ g.state.journaled
  pub range : h.state.locked ≡ g.state.locked
  pub fits : g.state.journaled + g.budget ≤ 18446744073709551615
  pub rest : drop h.entries h.log ≡ drop h.entries g.log
  pub same : run_from v (g.budget - steps) (length g.log) (here_of g h) ≡ outcome_on v g
  pub counting : Counting places₀ places u steps
  pub summed : plus_usage (tallied places u) (usage_of (rest_of v g h (g.budget - steps))) ≡ usage_of (trace_on v g)
  pub keeping : Keeping v g keeps journal₀ journal steps (rest_of v g h (g.budget - steps))

pub start : (v : Stepper) (g : Given) (keeps : Bool) (journal places : List ℕ) → g.journal ≡ journal_if keeps journal → Cleared places → CanRun g
    → Going v g keeps journal places (start_of g) 0 journal places unused
start v g keeps journal places lends none c =
    let budget : g.budget - 0 ≡ allowed g = sub-zero g.budget ∙ sym c.room in
    let full : length g.log ≡ 0 + length g.log = sym (zero-add (length g.log)) in
    let machine : here_of g (start_of g) ≡ machine_at g = ap (λ (s : State). machine_of g.P (record { state = s; D = g.D; I = g.I; O = g.O; log = g.log; entries = 0 })) (sym c.starts) in
    let traced : rest_of v g (start_of g) (g.budget - 0) ≡ trace_on v g = λ i. trace_from v (budget i) (full i) (machine i) in
    record {
      program = c.program;
      memory = c.memory;
      inputs = c.inputs;
      outputs = c.outputs;
      log_kept = refl;
      filled = omega arith;
      even = places_even g.state c.even;
      quiet = λ e. e;
      used = omega arith;
      counted = omega arith;
      counts = c.counts;
      journaled = refl;
      range = refl;
      fits = c.fits;
      rest = refl;
      same = λ i. run_from v (budget i) (full i) (machine i);
      counting = counting_starts places none;
      summed = rw (tallied_none places none) (unused_plus (trace_sized _) ∙ ap usage_of traced);
      keeping = keeping_starts v g keeps journal lends c.room traced;
    }

-- logs that are alike past k are alike past any later place
further : (k n : ℕ) (xs ys : List ℕ) → k ≤ n → drop k xs ≡ drop k ys → drop n xs ≡ drop n ys
further k n xs ys h e =
    let s : k + (n - k) ≡ n = omega arith in
    rw (← s, ← (drop-drop (n - k) k xs), ← (drop-drop (n - k) k ys)) (ap (drop (n - k)) e)

entries_are : (P : List ℕ) (h : Held) → h.entries ≤ length h.log → length (machine_of P h).L ≡ h.entries
entries_are P h l = length-take-le h.entries h.log l

-- where the start's run ends with what is held here, this is the reply
ends : (v : Stepper) (g : Given) (h : Held) (q steps : ℕ) {s : State} {j : Journal} → h.entries ≤ length h.log
    → drop h.entries h.log ≡ drop h.entries g.log
    → h.state.n ≡ g.state.n + steps
    → outcome_on v g ≡ record { reason = q; after = here_of g h }
    → (s ≡ counted_in g.journal (length (trace_on v g)) h.state) × (j ≡ kept_in g.journal g.state.journaled (trace_on v g))
    → replied g q steps h s j ≡ accepted_left v g
ends v g h q steps filled rest counted e kept =
    let a : h.state.n - g.state.n ≡ steps = omega arith in
    let l : take h.entries h.log ++ drop h.entries g.log ≡ h.log = rw (← rest) (take-append-drop h.entries h.log) in
    rw (e, a, entries_are g.P h filled, l, kept.0, kept.1)

-- a step that wasn't made leaves the machine as it was
stays : (m after : Machine) (q : ℕ) (x : Next) → (q ≡ 0 → ⊥) → outcome_of m x ≡ record { reason = q; after = after } → m ≡ after
stays m after q (cannot p) n e = ap (λ (o : Outcome). o.after) e
stays m after q (to next) n e = absurd (n (sym (ap (λ (o : Outcome). o.reason) e)))

-- where nothing is left to run, the counts are those of the run
counted_out : {ms : List Machine} {total : Usage} (u : Usage) → Sized u → ms ≡ [] → plus_usage u (usage_of ms) ≡ total → u ≡ total
unfolding usage_of
counted_out u s e c = sym (plus_unused s) ∙ sym (ap (λ (ms : List Machine). plus_usage u (usage_of ms)) e) ∙ c

-- a step more that was counted
turned : (m : Machine) (u : Usage) {ms rest : List Machine} {total : Usage} → ms ≡ m ∷ rest → plus_usage u (usage_of ms) ≡ total
    → plus_usage (step_counted m u) (usage_of rest) ≡ total
unfolding usage_of
turned m u {rest = rest} e c = step_plus m u (usage_of rest) ∙ sym (ap (λ (ms : List Machine). plus_usage u (usage_of ms)) e) ∙ c

both_parts : (v : Stepper) → Lawful v → (g : Given) {l : Left} {u : Usage} → l ≡ accepted_left v g → u ≡ usage_of (trace_on v g) → left_timed l u ≡ accepted_counted v g
both_parts v law g p q =
    (λ i. left_timed (p i) (q i)) ∙ ap (λ k. record { left = accepted_left v g; usage = usage_of (trace_on v g); ticks = k }) (accepted_ticks v law g)

module _ {v : Stepper} {g : Given} {keeps : Bool} {journal₀ places₀ : List ℕ} {h : Held} {steps : ℕ} {journal places : List ℕ} {u : Usage}
    (a : Going v g keeps journal₀ places₀ h steps journal places u) where
  pub ready : steps < g.budget → h.state.n < 4294967295
  ready b = omega arith

module _ {v : Stepper} {does : ℕ → Machine → Next} {writes : ℕ → Bool} (laws : EngineLaws v does writes) {g : Given} {keeps : Bool} {journal₀ places₀ : List ℕ} {h : Held} {steps : ℕ} {journal places : List ℕ} {u : Usage}
    (a : Going v g keeps journal₀ places₀ h steps journal places u) where
  pub ends_budget : {s : State} → g.budget ≤ steps → EndsWith keeps steps h.state s
      → reported g 0 steps h s (journal_if keeps journal) (tallied places u) ≡ accepted_counted v g
  ends_budget b e =
      let z : g.budget - steps ≡ 0 = omega arith in
      let none : rest_of v g h (g.budget - steps) ≡ [] = rw z (trace_none v _ (here_of g h)) in
      both_parts v laws.lawful g
      (ends v g h 0 steps a.filled a.rest a.counted (sym a.same ∙ rw z (run_none v _ (here_of g h)))
      (keeping_ends v g keeps journal₀ (subst (Keeping v g keeps journal₀ journal steps) none a.keeping) h.state e))
      (counted_out (tallied places u) (tallied_sized places u a.counting.sized) none a.summed)

  module _ (b : steps < g.budget) where
    one_left : g.budget - steps ≡ suc (g.budget - (steps + 1))
    one_left = omega arith

    from_here : run_from v (suc (g.budget - (steps + 1))) (length g.log) (here_of g h) ≡ outcome_on v g
    from_here = rw one_left at a.same

    counts_here : plus_usage (tallied places u) (usage_of (rest_of v g h (suc (g.budget - (steps + 1))))) ≡ usage_of (trace_on v g)
    counts_here = rw one_left at a.summed

    keeping_here : Keeping v g keeps journal₀ journal steps (rest_of v g h (suc (g.budget - (steps + 1))))
    keeping_here = rw one_left at a.keeping

  -- ---- A locked byte stops the step

  pub ends_locked : {s : State} → steps < g.budget → is_lock_stop (v.steps (here_of g h)) ≡ true → EndsWith keeps steps h.state s
      → reported g 4 steps h s (journal_if keeps journal) (tallied places u) ≡ accepted_counted v g
  ends_locked b locked e =
      let stops = stop_4 (v.steps (here_of g h)) locked in
      let none = trace_cannot v _ _ (here_of g h) 4 stops in
      both_parts v laws.lawful g
      (ends v g h 4 steps a.filled a.rest a.counted (sym (from_here b) ∙ run_cannot v _ _ (here_of g h) 4 stops)
      (keeping_ends v g keeps journal₀ (subst (Keeping v g keeps journal₀ journal steps) none (keeping_here b)) h.state e))
      (counted_out (tallied places u) (tallied_sized places u a.counting.sized) none (counts_here b))

  -- ---- A line is taken

  module _ (b : steps < g.budget) (takes : takes_line h.state ≡ true) where
    -- what is held after it, with this state
    abbrev taken_to : State → Held
    taken_to s = record { state = s; D = h.D; I = h.I; O = h.O; log = h.log; entries = h.entries }

    taken_outcome : outcome_of (here_of g h) (unless (no_place_at v (length g.log) (here_of g h)) (v.steps (here_of g h)))
        ≡ record { reason = 0; after = here_of g (taken_to (count (line_taken_by h.state))) }
    taken_outcome = ap (outcome_of (here_of g h)) (takes_line_lem laws (length g.log) (here_of g h) takes)

    -- it is counted, and its entry kept
    pub takes_turns : {x : ℕ} {journal' : List ℕ} {s : State} → s ≡ count (line_taken_by h.state) → (keeps ≡ true → x ≡ entry_of (here_of g h))
        → Written keeps (g.state.journaled + steps) x journal journal'
        → Going v g keeps journal₀ places₀ (taken_to s) (steps + 1) journal' places (took_lines 1 u)
    takes_turns {journal' = journal'} is noted written =
        let law = laws.lawful in
        let m = here_of g h in
        let goes = run_goes v (g.budget - (steps + 1)) (length g.log) m law taken_outcome in
        subst (λ s. Going v g keeps journal₀ places₀ (taken_to s) (steps + 1) journal' places (took_lines 1 u)) (sym is)
        (record {
          program = a.program;
          memory = a.memory;
          inputs = a.inputs;
          outputs = a.outputs;
          log_kept = a.log_kept;
          filled = a.filled;
          even = law.even m _ goes.steps a.even;
          quiet = λ e. never (sym (takes_none h.state (inl (a.quiet e))) ∙ takes);
          used = omega arith;
          counted = omega (arith, law.counts m _ goes.steps);
          counts = a.counts;
          journaled = ap (λ z. z.0) (law.leaves m _ goes.steps) ∙ a.journaled;
          range = ap (λ z. z.2) (law.leaves m _ goes.steps) ∙ a.range;
          fits = a.fits;
          rest = a.rest;
          same = sym goes.on ∙ from_here b;
          counting = counts_line a.counting;
          summed =
              ap (λ x. plus_usage x (usage_of (rest_of v g (taken_to (count (line_taken_by h.state))) (g.budget - (steps + 1)))))
              (tallied_took places u 1 ∙ sym (taking_counted m (tallied places u) takes))
              ∙ turned m (tallied places u) goes.traces (counts_here b);
          keeping = keeping_turns v g keeps journal₀ m _ (keeping_here b) goes.traces b noted written;
        })

  -- ---- A word is fetched

  module _ {w stop : ℕ} {after : Held} (b : steps < g.budget) (takes : takes_line h.state ≡ false) (unlocked : fetch_locked h.state ≡ false) (fetch : Fetches h.state g.P h.D w) (met : StepMeets (does w) (writes w) h stop after) where
    fetches : fetched (here_of g h) ≡ w
    fetches = sym (fetch _ _ _)

    -- what the run makes of the step
    outcome : outcome_of (here_of g h) (unless (no_place_at v (length g.log) (here_of g h)) (v.steps (here_of g h))) ≡ record { reason = stop; after = here_of g after }
    outcome =
        let full : leb (length g.log) (length (here_of g h).L) ≡ is_full h = rw (entries_are g.P h a.filled, ← a.log_kept) in
        ap (outcome_of (here_of g h)) (tests laws w (length g.log) (here_of g h) (is_full h) takes unlocked fetches full) ∙ met.machine g.P

    filled_after : length (here_of g after).L ≡ after.entries
    filled_after = entries_are g.P after met.filled

    -- a step that wasn't made leaves what is held as it was
    module _ (n : stop ≡ 0 → ⊥) where
      unmoved : here_of g h ≡ here_of g after
      unmoved = stays (here_of g h) (here_of g after) stop (unless (no_place_at v (length g.log) (here_of g h)) (v.steps (here_of g h))) n outcome

      pub journaled_stopped : after.state.journaled + steps ≤ 18446744073709551615
      journaled_stopped = let count : h.state.journaled ≡ after.state.journaled = ap (λ (m : Machine). m.state.journaled) unmoved in omega arith

      pub ends_stopped : {s : State} → EndsWith keeps steps after.state s
          → reported g stop steps after s (journal_if keeps journal) (tallied places u) ≡ accepted_counted v g
      ends_stopped e =
          let entries : h.entries ≡ after.entries = sym (entries_are g.P h a.filled) ∙ ap (λ (m : Machine). length m.L) unmoved ∙ filled_after in
          let count : h.state.n ≡ after.state.n = ap (λ (m : Machine). m.state.n) unmoved in
          let none = trace_stops v _ _ (here_of g h) stop outcome n in
          both_parts v laws.lawful g
          (ends v g after stop steps met.filled
          (met.rest ∙ further h.entries after.entries h.log g.log (omega arith) a.rest) (omega arith)
          (sym (from_here b) ∙ run_stops v _ _ (here_of g h) stop outcome n)
          (keeping_ends v g keeps journal₀ (subst (Keeping v g keeps journal₀ journal steps) none (keeping_here b)) after.state e))
          (counted_out (tallied places u) (tallied_sized places u a.counting.sized) none (counts_here b))

    -- the step was made, counted and its entry kept
    pub turns : {x : ℕ} {journal' places' : List ℕ} {u' : Usage} → stop ≡ 0 → Counts w places₀ places u steps places' u'
        → (keeps ≡ true → IsEntry w h.state h.D h.I h.O x) → Written keeps (g.state.journaled + steps) x journal journal'
        → length after.D ≡ length h.D → length after.I ≡ length h.I → length after.O ≡ length h.O → length after.log ≡ length h.log
        → Going v g keeps journal₀ places₀ after (steps + 1) journal' places' u'
    turns {x} z c noted written d i o l =
        let law = laws.lawful in
        let m = here_of g h in
        let goes = run_goes v (g.budget - (steps + 1)) (length g.log) m law (outcome ∙ ap (λ q. record { reason = q; after = here_of g after }) z) in
        let more : h.entries ≤ after.entries = omega (arith, law.grows m _ goes.steps, entries_are g.P h a.filled, filled_after) in
        record {
          program = a.program;
          memory = omega arith;
          inputs = omega arith;
          outputs = omega arith;
          log_kept = omega arith;
          filled = met.filled;
          even = law.even m _ goes.steps a.even;
          quiet = λ e. law.lines m _ goes.steps takes ∙ a.quiet e;
          used = omega arith;
          counted = omega (arith, law.counts m _ goes.steps);
          counts = a.counts;
          journaled = ap (λ z. z.0) (law.leaves m _ goes.steps) ∙ a.journaled;
          range = ap (λ z. z.2) (law.leaves m _ goes.steps) ∙ a.range;
          fits = a.fits;
          rest = met.rest ∙ further h.entries after.entries h.log g.log more a.rest;
          same = sym goes.on ∙ from_here b;
          counting = c.counting;
          summed =
              ap (λ x. plus_usage x (usage_of (rest_of v g after (g.budget - (steps + 1)))))
              (c.one ∙ sym (fetching_counted m (tallied places u) takes ∙ ap (λ w. counted (word_is w) (masks_of w) (tallied places u)) fetches))
              ∙ turned m (tallied places u) goes.traces (counts_here b);
          keeping =
              keeping_turns v g keeps journal₀ m _ (keeping_here b) goes.traces b
              (λ k. is_entry m takes (subst (λ w. IsEntry w h.state h.D h.I h.O x) (sym fetches) (noted k))) written;
        }

-- ---- How far the inner loop goes

-- The next step up to `until` is not stopped by a locked byte: there is no range, or that step is the last before `until`.
pub record Clear (v : Stepper) (g : Given) (h : Held) (steps until : ℕ) : Type 0 where
  pub within : until ≤ g.budget
  pub reach : (g.state.locked ≡ 0) ⊎ (until ≤ steps + 1)
  pub next : steps < until → is_lock_stop (v.steps (here_of g h)) ≡ false

-- after a step
pub clear_on : {v : Stepper} {does : ℕ → Machine → Next} {writes : ℕ → Bool} → EngineLaws v does writes → {g : Given} {keeps : Bool} {journal₀ places₀ : List ℕ} {h after : Held} {steps until : ℕ} {journal places : List ℕ} {u : Usage}
    → Clear v g h steps until → Going v g keeps journal₀ places₀ after (steps + 1) journal places u → Clear v g after (steps + 1) until
clear_on laws {g} {after = after} c a =
    record {
      within = c.within;
      reach = ⊎_elim inl (λ l. inr (omega (arith, l))) c.reach;
      next = λ l. ⊎_elim (λ e. laws.unstopped (here_of g after) (a.range ∙ e)) (λ m. absurd (omega (arith, m, l))) c.reach;
    }

-- what the inner loop keeps
pub record Turning (v : Stepper) (g : Given) (keeps : Bool) (lent places₀ : List ℕ) (h : Held) (steps : ℕ) (journal places : List ℕ) (u : Usage) (until : ℕ) : Type 0 where
  pub going : Going v g keeps lent places₀ h steps journal places u
  pub clear : Clear v g h steps until

module _ {v : Stepper} {g : Given} {keeps : Bool} {lent places₀ : List ℕ} {h : Held} {steps : ℕ} {journal places : List ℕ} {u : Usage} {until : ℕ}
    (n : Turning v g keeps lent places₀ h steps journal places u until) where
  pub in_budget : steps < until → steps < g.budget
  in_budget l = omega (arith, n.clear.within)

  module _ {does : ℕ → Machine → Next} {writes : ℕ → Bool} (laws : EngineLaws v does writes) where
    pub turned_on : {after : Held} {journal' places' : List ℕ} {u' : Usage} → Going v g keeps lent places₀ after (steps + 1) journal' places' u'
        → Turning v g keeps lent places₀ after (steps + 1) journal' places' u' until
    turned_on a = record { going = a; clear = clear_on laws n.clear a }

    -- neither the fetch nor the word touches a locked byte
    pub free_here : {w : ℕ} → steps < until → takes_line h.state ≡ false → Fetches h.state g.P h.D w → Free does w h.state
    free_here l takes fetch = free laws (here_of g h) takes (sym (fetch _ _ _)) (n.clear.next l)
