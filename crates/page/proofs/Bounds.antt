-- What a run reports is within its budget and its log.
-- Assumes nothing.
use mathlib.Core.Bool.{◌||◌}
use mathlib.Core.List.{List, [], ◌∷◌}
use Prim.Native.Nat.{ℕ, ◌*◌, ◌≤◌}
use native.Mathlib.Omega.{arith}
use lib.ListN.{length, drop, length-append}
use Rattle.refusal.specs.Refusals.{Verdict, accepted, refused}
use Rattle.word.proofs.Tests.{either}
use Rattle.kinds.specs.declared.Kind.TheVariants.{Ld, St, Ldb, Stb}
use Rattle.machine.specs.Machine.{Machine}
use Rattle.machine.specs.Run.{Stepper}
use Rattle.machine.proofs.Runs.{Lawful}
use Rattle.usage.specs.declared.Usage.{Usage}
use Rattle.usage.specs.Usage.{does, ticks_at, ticks_of, unused}
use Rattle.usage.proofs.Sums.{Sized, AtMost, unused_sized, unused_most, trace_sized}
use Rattle.run.specs.Runs.{Given, outcome_on, trace_on, verdict_on, CountedLeft, counted_by, counted_left}
use Rattle.run.proofs.Journals.{is_started}
use Rattle.run.proofs.Ticks.{traced_on, trace_most, steps_traced}
use Rattle.page.specs.Pages.{report}
use Rattle.page.specs.Parts.{FewCounts}

tick_most : (m : Machine) → ticks_at m ≤ 4
tick_most m = either (λ n. n ≤ 4) (does Ld m || does St m || does Ldb m || does Stb m) (omega arith) (omega arith)

ticks_most : (ms : List Machine) → ticks_of ms ≤ 4 * length ms
unfolding ticks_of
ticks_most [] = omega arith
ticks_most (m ∷ ms) = omega (arith, ticks_most ms, tick_most m)

few_counts : {n : ℕ} {u : Usage} → n ≤ 4294967295 → AtMost n u → FewCounts u
few_counts h a = record { kinds = λ k. omega (arith, a.kinds k); taken = omega (arith, a.taken); reads = λ k. omega (arith, a.reads k); writes = λ k. omega (arith, a.writes k) }

pub unused_few : FewCounts unused
unused_few = few_counts (omega arith) unused_most

pub record Within (budget : ℕ) (c : CountedLeft) : Type 0 where
  pub entries : (report c).entries ≤ length c.left.log
  pub steps : (report c).steps ≤ budget
  pub ticks : c.ticks ≤ 4 * budget
  pub counts : FewCounts c.usage
  pub sized : Sized c.usage

pub within : (v : Stepper) → Lawful v → (g : Given) → g.budget ≤ 4294967295 → Within g.budget (counted_left v g)
unfolding counted_left
within v law g h = by_verdict (verdict_on g)
  where
    by_verdict : (x : Verdict) → Within g.budget (counted_by v x g)
    by_verdict accepted =
        let ms = trace_on v g in
        let few : length ms ≤ g.budget = omega (arith, (traced_on v g).few, (is_started g).few) in
        let L = (outcome_on v g).after.L in
        record {
          entries = omega (arith, length-append L (drop (length L) g.log));
          steps = omega (arith, steps_traced v law g);
          ticks = omega (arith, ticks_most ms);
          counts = few_counts (omega arith) (trace_most ms);
          sized = trace_sized ms;
        }
    by_verdict (refused k) = record { entries = omega arith; steps = omega arith; ticks = omega arith; counts = unused_few; sized = unused_sized }
