-- The laws by which a run goes: no budget, a step that can't be made, a step.
-- Assumes nothing.
use mathlib.Core.Path.{◌≡◌, refl, sym, ap, ◌∙◌}
use mathlib.Core.Bool.{Bool, true, false, and-eq-true_iff}
use mathlib.Core.List.{List, [], ◌∷◌}
use Prim.Native.Nat.{ℕ, suc, ◌+◌, ◌%◌, ◌≤◌}
use native.Mathlib.Omega.{arith}
use borrow.Author.Tests.{eqb-true}
use lib.Dec.{eqb}
use lib.ListN.{length}
use Rattle.machine.specs.declared.State.{State}
use Rattle.machine.specs.Machine.{Machine, even_places, takes_line}
use Rattle.machine.specs.Step.{Next, cannot, to}
use Rattle.machine.specs.Run.{Stepper, Outcome, no_place_at, unless, run_from, trace_from}
use Rattle.machine.specs.Held.{outcome_of}

-- what a run makes of the next step
abbrev turn : Stepper → ℕ → ℕ → Machine → Next → Outcome
turn v budget full m x = elim x [ cannot q ↦ record { reason = q; after = m } | to next ↦ run_from v budget full next ]

pub run_none : (v : Stepper) (full : ℕ) (m : Machine) → run_from v 0 full m ≡ record { reason = 0; after = m }
unfolding run_from
run_none v full m = refl

pub trace_none : (v : Stepper) (full : ℕ) (m : Machine) → trace_from v 0 full m ≡ []
unfolding trace_from
trace_none v full m = refl

-- what the trace makes of it
abbrev traced : Stepper → ℕ → ℕ → Machine → Next → List Machine
traced v budget full m x = elim x [ cannot q ↦ [] | to next ↦ m ∷ trace_from v budget full next ]

trace_turned : (v : Stepper) (budget full : ℕ) (m : Machine) {x : Next} → unless (no_place_at v full m) (v.steps m) ≡ x → trace_from v (suc budget) full m ≡ traced v budget full m x
unfolding trace_from
trace_turned v budget full m e = ap (traced v budget full m) e

turned : (v : Stepper) (budget full : ℕ) (m : Machine) {x : Next} → unless (no_place_at v full m) (v.steps m) ≡ x → run_from v (suc budget) full m ≡ turn v budget full m x
unfolding run_from
turned v budget full m e = ap (turn v budget full m) e

-- ---- By the machine's step and the log's test

both : (v : Stepper) (full : ℕ) (m : Machine) {x : Next} {t : Bool} → v.steps m ≡ x → no_place_at v full m ≡ t → unless (no_place_at v full m) (v.steps m) ≡ unless t x
both v full m e t = λ i. unless (t i) (e i)

module _ (v : Stepper) (budget full : ℕ) (m : Machine) where
  pub run_cannot : (q : ℕ) → v.steps m ≡ cannot q → run_from v (suc budget) full m ≡ record { reason = q; after = m }
  run_cannot q e = turned v budget full m (both v full m e refl)

  pub run_full : (next : Machine) → v.steps m ≡ to next → no_place_at v full m ≡ true → run_from v (suc budget) full m ≡ record { reason = 2; after = m }
  run_full next e t = turned v budget full m (both v full m e t)

  pub run_on : (next : Machine) → v.steps m ≡ to next → no_place_at v full m ≡ false → run_from v (suc budget) full m ≡ run_from v budget full next
  run_on next e t = turned v budget full m (both v full m e t)

  -- the trace likewise
  pub trace_cannot : (q : ℕ) → v.steps m ≡ cannot q → trace_from v (suc budget) full m ≡ []
  trace_cannot q e = trace_turned v budget full m (both v full m e refl)

  pub trace_full : (next : Machine) → v.steps m ≡ to next → no_place_at v full m ≡ true → trace_from v (suc budget) full m ≡ []
  trace_full next e t = trace_turned v budget full m (both v full m e t)

  pub trace_on_lem : (next : Machine) → v.steps m ≡ to next → no_place_at v full m ≡ false → trace_from v (suc budget) full m ≡ m ∷ trace_from v budget full next
  trace_on_lem next e t = trace_turned v budget full m (both v full m e t)

-- ---- What a run's loop relies on

-- the fields of the state that no step writes
abbrev pub unwritten : State → ℕ × ℕ × ℕ × ℕ × ℕ
unwritten s = (s.journaled, s.board, s.locked, s.first_locked, s.last_locked)

-- PC and the return address are even
abbrev pub Even : State → Type 0
Even s = (s.pc % 2 ≡ 0) × (s.return_address % 2 ≡ 0)

pub even_places_lem : (s : State) → Even s → even_places s ≡ true
even_places_lem s h = rw (h.0, h.1)

pub places_even : (s : State) → even_places s ≡ true → Even s
places_even s e =
    let both = (and-eq-true_iff (eqb (s.pc % 2) 0) (eqb (s.return_address % 2) 0)).0 e in
    (eqb-true _ _ both.0, eqb-true _ _ both.1)

pub record Lawful (v : Stepper) : Type 0 where
  -- 0 is no reason why a machine can't step
  pub reasons : (m : Machine) (q : ℕ) → v.steps m ≡ cannot q → q ≡ 0 → ⊥
  -- a step adds 1 to n, keeps an even PC and an even return address even and drops no entry of L
  pub counts : (m next : Machine) → v.steps m ≡ to next → next.state.n ≡ m.state.n + 1
  pub even : (m next : Machine) → v.steps m ≡ to next → Even m.state → Even next.state
  pub grows : (m next : Machine) → v.steps m ≡ to next → length m.L ≤ length next.L
  -- and leaves the count of journal entries, the board and the locked range
  pub leaves : (m next : Machine) → v.steps m ≡ to next → unwritten next.state ≡ unwritten m.state
  -- and, but for the line that it takes, the lines that are pending
  pub lines : (m next : Machine) → v.steps m ≡ to next → takes_line m.state ≡ false → next.state.pending ≡ m.state.pending

-- ---- By what a step function answers

module _ (v : Stepper) (budget full : ℕ) (m : Machine) where
  -- a reason other than 0 ends the run
  pub run_stops : (q : ℕ) {after : Machine} → outcome_of m (unless (no_place_at v full m) (v.steps m)) ≡ record { reason = q; after = after } → (q ≡ 0 → ⊥)
      → run_from v (suc budget) full m ≡ record { reason = q; after = after }
  run_stops q {after} e n = by_next (unless (no_place_at v full m) (v.steps m)) refl e
    where
      by_next : (x : Next) → unless (no_place_at v full m) (v.steps m) ≡ x → outcome_of m x ≡ record { reason = q; after = after } → run_from v (suc budget) full m ≡ record { reason = q; after = after }
      by_next (cannot p) s e = turned v budget full m s ∙ e
      by_next (to next) s e = let z : 0 ≡ q = ap (λ (o : Outcome). o.reason) e in absurd (n (sym z))

  -- and its trace
  pub trace_stops : (q : ℕ) {after : Machine} → outcome_of m (unless (no_place_at v full m) (v.steps m)) ≡ record { reason = q; after = after } → (q ≡ 0 → ⊥)
      → trace_from v (suc budget) full m ≡ []
  trace_stops q {after} e n = by_next (unless (no_place_at v full m) (v.steps m)) refl e
    where
      by_next : (x : Next) → unless (no_place_at v full m) (v.steps m) ≡ x → outcome_of m x ≡ record { reason = q; after = after } → trace_from v (suc budget) full m ≡ []
      by_next (cannot p) s e = trace_turned v budget full m s
      by_next (to next) s e = let z : 0 ≡ q = ap (λ (o : Outcome). o.reason) e in absurd (n (sym z))

  -- with 0 it goes on from there
  pub record Goes (after : Machine) : Type 0 where
    pub steps : v.steps m ≡ to after
    pub on : run_from v (suc budget) full m ≡ run_from v budget full after
    pub traces : trace_from v (suc budget) full m ≡ m ∷ trace_from v budget full after

  pub run_goes : Lawful v → {after : Machine} → outcome_of m (unless (no_place_at v full m) (v.steps m)) ≡ record { reason = 0; after = after } → Goes after
  run_goes lawful {after} e = by_next (v.steps m) refl (no_place_at v full m) refl e
    where
      by_next : (x : Next) → v.steps m ≡ x → (t : Bool) → no_place_at v full m ≡ t → outcome_of m (unless t x) ≡ record { reason = 0; after = after } → Goes after
      by_next (cannot q) s t f e = absurd (lawful.reasons m q s (ap (λ (o : Outcome). o.reason) e))
      by_next (to next) s true f e = absurd (omega (arith, ap (λ (o : Outcome). o.reason) e))
      by_next (to next) s false f e =
          let a : next ≡ after = ap (λ (o : Outcome). o.after) e in
          record {
            steps = s ∙ ap to a;
            on = run_on v budget full m next s f ∙ ap (run_from v budget full) a;
            traces = trace_on_lem v budget full m next s f ∙ ap (λ (x : Machine). m ∷ trace_from v budget full x) a;
          }
