-- A run's ticks are those worked out from its reply and its counts, each of which has 32 bits.
-- Assumes nothing.
use mathlib.Core.Path.{◌≡◌, refl, sym, ap, subst, ◌∙◌}
use mathlib.Core.Bool.{Bool, true, false}
use mathlib.Core.List.{List, [], ◌∷◌}
use Prim.Native.Nat.{ℕ, zero, suc, ◌+◌, ◌-◌, ◌≤◌}
use native.Mathlib.Omega.{arith}
use lib.ListN.{length}
use Rattle.refusal.specs.Refusals.{Verdict, accepted, refused}
use Rattle.word.proofs.Tests.{clash}
use Rattle.machine.specs.Machine.{Machine}
use Rattle.machine.specs.Step.{Next, cannot, to}
use Rattle.machine.specs.Run.{Stepper, Outcome, no_place_at, unless, run_from, trace_from}
use Rattle.machine.proofs.Runs.{Lawful}
use Rattle.usage.specs.Usage.{usage_of, ticks_of}
use Rattle.usage.specs.Counting.{Few, ticks_counted}
use Rattle.usage.proofs.Sums.{AtMost, step_most, unused_most}
use Rattle.usage.proofs.Timed.{ticks_counted_lem}
use Rattle.run.specs.Runs.{Given, allowed, machine_at, outcome_on, trace_on, accepted_left, verdict_on, CountedLeft, counted_by, counted_left, CountedMeets}
use Rattle.run.specs.Parts.{ticks_by}
use Rattle.run.proofs.Journals.{is_started}

-- ---- The machines of a trace

-- a run from m that ends with z and has the trace ms
pub record Traced (v : Stepper) (budget : ℕ) (m : Machine) (z : Outcome) (ms : List Machine) : Type 0 where
  pub few : length ms ≤ budget
  pub grew : Lawful v → z.after.state.n ≡ m.state.n + length ms

goes : (full : Bool) (x : Next) {next : Machine} → unless full x ≡ to next → x ≡ to next
goes full (cannot q) e = e
goes true (to next) e = clash (cc)
goes false (to next) e = e

traced : (v : Stepper) (budget full : ℕ) (m : Machine) → Traced v budget m (run_from v budget full m) (trace_from v budget full m)
unfolding run_from trace_from
traced v zero full m = record { few = omega arith; grew = λ law. omega arith }
traced v (suc budget) full m = go (traced v budget full) (unless (no_place_at v full m) (v.steps m)) refl
  where
    go : ((next : Machine) → Traced v budget next (run_from v budget full next) (trace_from v budget full next))
        → (x : Next) → unless (no_place_at v full m) (v.steps m) ≡ x
        → Traced v (suc budget) m (elim x [ cannot q ↦ record { reason = q; after = m } | to next ↦ run_from v budget full next ])
        (elim x [ cannot q ↦ [] | to next ↦ m ∷ trace_from v budget full next ])
    go r (cannot q) e = record { few = omega arith; grew = λ law. omega arith }
    go r (to next) e =
        record {
          few = omega (arith, (r next).few);
          grew = λ law. omega (arith, (r next).grew law, law.counts m next (goes (no_place_at v full m) (v.steps m) e));
        }

-- no count is over the number of machines
pub trace_most : (ms : List Machine) → AtMost (length ms) (usage_of ms)
unfolding usage_of
trace_most [] = unused_most
trace_most (m ∷ ms) = let one : length ms + 1 ≡ suc (length ms) = omega arith in subst (λ n. AtMost n (usage_of (m ∷ ms))) one (step_most m (trace_most ms))

-- ---- A run

pub traced_on : (v : Stepper) (g : Given) → Traced v (allowed g) (machine_at g) (outcome_on v g) (trace_on v g)
traced_on v g = traced v (allowed g) _ (machine_at g)

-- the reported steps are as many as the machines of the trace
pub steps_traced : (v : Stepper) → Lawful v → (g : Given) → (outcome_on v g).after.state.n - g.state.n ≡ length (trace_on v g)
steps_traced v law g = omega (arith, (traced_on v g).grew law, (is_started g).n)

pub accepted_ticks : (v : Stepper) → Lawful v → (g : Given) → ticks_by (accepted_left v g).reply (usage_of (trace_on v g)) ≡ ticks_of (trace_on v g)
accepted_ticks v law g = ap (λ k. ticks_counted k (usage_of (trace_on v g)).kinds) (steps_traced v law g) ∙ sym (ticks_counted_lem (trace_on v g))

pub few_counted : (v : Stepper) (g : Given) {l : CountedLeft} → g.budget ≤ 4294967295 → CountedMeets v g l → Few l.usage.kinds
unfolding counted_left
few_counted v g h met = subst (λ (x : CountedLeft). Few x.usage.kinds) (sym met) (by_verdict (verdict_on g))
  where
    by_verdict : (x : Verdict) → Few (counted_by v x g).usage.kinds
    by_verdict accepted = λ k. omega (arith, (trace_most (trace_on v g)).kinds k, (traced_on v g).few, (is_started g).few)
    by_verdict (refused n) = λ k. omega (arith, unused_most.kinds k)
