-- A trim's two turns are one run: with both budgets where its first run stopped with 0, and with the first otherwise.
-- Assumes nothing.
use mathlib.Core.Path.{◌≡◌, refl, sym, ap, subst, ◌∙◌}
use mathlib.Core.Bool.{Bool, true, false}
use mathlib.Core.List.{List, [], ◌++◌}
use Prim.Native.Nat.{ℕ, zero, suc, ◌+◌, ◌<◌, ◌≤◌}
use native.Mathlib.Omega.{arith}
use borrow.Author.Tests.{eqb-true, eqb-false, le-leb}
use lib.Dec.{eqb}
use lib.ListN.{take, take-append-drop}
use Rattle.refusal.specs.Refusals.{accepted, refused}
use Rattle.word.specs.Word.{pick}
use Rattle.machine.specs.Run.{by_rules}
use Rattle.usage.specs.Usage.{plus_usage}
use Rattle.usage.proofs.Sums.{plus_unused}
use Rattle.run.specs.Runs.{left, stopped, verdict_on, CountedLeft}
use Rattle.page.specs.Pages.{report, run_on, as_one, go_on_with}
use Rattle.claims.specs.Session.{through_rules, Host, given_to, after_one_run, machine_on}
use Rattle.claims.proofs.Lengths.{Fit, only}
use Rattle.claims_back.specs.Longer.{lent_only, AcceptedRun, free_places, RunOn, both, StopsAgain}
use Rattle.claims_back.proofs.Longer.{longer}
use Rattle.claims_pages.proofs.Alone.{ran_from, run_from, few, all_used, used_all, counts_on, fits_on, sized, no_journal_left}

-- what fits is accepted with any budget that keeps n in 32 bits
pub may_run : (h : Host) → Fit (machine_on h []) → (budget : ℕ) (log : List ℕ) → h.state.n + budget ≤ 4294967295
    → verdict_on (given_to h (lent_only budget log)) ≡ accepted
may_run h f budget log l = only h f (lent_only budget log) ∙ ap (λ t. pick t accepted (refused 6)) (le-leb (h.state.n + budget) 4294967295 l)

-- where the run on stops again, both are the first
stays : {h : Host} {b c : ℕ} {log : List ℕ} (first : AcceptedRun h b log) (on : RunOn first c) → StopsAgain first on → both first on ≡ first.ran
stays first on s =
    let L = first.ran.left.log in
    let k = first.entries in
    let steps : first.steps + on.steps ≡ first.steps = omega (arith, s.steps) in
    let entries : first.entries + on.entries ≡ first.entries = omega (arith, s.entries) in
    let log = ap (λ x. take k L ++ x) s.places ∙ take-append-drop k L in
    let usage = ap (plus_usage first.ran.usage) s.usage ∙ plus_unused (sized first) in
    let ticks : first.ran.ticks + on.ran.ticks ≡ first.ran.ticks = omega (arith, s.ticks) in
    let reply = (λ i. stopped (s.stop i) (steps i) (entries i)) ∙ sym first.replied in
    let journal = sym (no_journal_left first) in
    λ i.
    record {
      left = left (reply i) (s.holds i).state (s.holds i).P (s.holds i).D (s.holds i).I (s.holds i).O (log i) (journal i);
      usage = usage i;
      ticks = ticks i;
    }

-- The first turn with a share, the second with what is unused, of a budget in all.
module _ (h : Host) (f : Fit (machine_on h [])) (share all : ℕ) (log : List ℕ) (least : share ≤ all) (few-all : h.state.n + all ≤ 4294967295) where
  abbrev pub first : AcceptedRun h share log
  first = run_from h share log (may_run h f share log (omega arith))

  pub record Turned (rest : ℕ) (d : CountedLeft) : Type 0 where
    -- it is one run,
    pub budget : ℕ
    pub at_least : share ≤ budget
    pub at_most : budget ≤ all
    pub is : d ≡ ran_from h budget log
    -- whose steps come of both turns, of the second no more than is unused
    pub more : first.steps ≤ (report d).steps
    pub fewer : (report d).steps ≤ first.steps + rest
    -- and all of it exactly where it stops with 0
    pub done : (report d).stop ≡ 0 → share ≤ (report d).steps
    pub uses : (report d).stop ≡ 0 → (report d).steps ≡ first.steps + rest
    pub used : 0 < rest → (report d).steps ≡ first.steps + rest → (report d).stop ≡ 0

  -- the first turn is all
  only_first : (rest : ℕ) → ((report first.ran).stop ≡ 0 → rest ≡ 0) → Turned rest first.ran
  only_first rest n =
      record {
        budget = share;
        at_least = omega arith;
        at_most = least;
        is = refl;
        more = omega arith;
        fewer = omega arith;
        done = λ e. omega (arith, all_used first e);
        uses = λ e. omega (arith, n e);
        used = λ l e. absurd (omega arith);
      }

  -- the second turn
  abbrev second : (rest : ℕ) → first.steps + rest ≤ all → RunOn first rest
  second rest l =
      let on = after_one_run first.ran.left in
      run_from on rest (free_places first) (may_run on (fits_on first f) rest (free_places first) (omega (arith, counts_on first, l, few-all)))

  after_0 : (rest : ℕ) (l : first.steps + rest ≤ all) → first.stop ≡ 0 → Turned rest (as_one first.ran (run_on by_rules rest first.ran))
  after_0 rest l e =
      let s = all_used first e in
      let on = second rest l in
      record {
        budget = share + rest;
        at_least = omega arith;
        at_most = omega (arith, l, s);
        is = sym (longer.one_run first on e through_rules);
        more = omega arith;
        fewer = omega (arith, few on);
        done = λ e. omega (arith, s);
        uses = λ e. omega (arith, all_used on e);
        used = λ l e. used_all on (omega arith);
      }

  pub turned : (rest : ℕ) → first.steps + rest ≤ all → Turned rest (go_on_with by_rules rest first.ran)
  unfolding go_on_with
  turned zero l = only_first zero (λ e. refl)
  turned (suc n) l = by_stop (eqb first.stop 0) refl
    where
      by_stop : (t : Bool) → eqb first.stop 0 ≡ t → Turned (suc n) (as_one first.ran (run_on by_rules (suc n) first.ran))
      by_stop true e = after_0 (suc n) l (eqb-true first.stop 0 e)
      by_stop false e =
          let other = eqb-false first.stop 0 e in
          let on = second (suc n) l in
          subst (Turned (suc n)) (sym (stays first on (longer.stops_again first on other (omega arith)))) (only_first (suc n) (λ z. absurd (other z)))
