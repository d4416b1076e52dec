-- An accepted run without a journal: its budget and its stop reason, what it keeps, and another run from the same start.
-- Assumes nothing.
use mathlib.Core.Path.{◌≡◌, refl, sym, ap, subst, ◌∙◌}
use mathlib.Core.Bool.{Bool, true, false}
use mathlib.Core.List.{List, [], ◌++◌}
use Prim.Native.Nat.{ℕ, ◌+◌, ◌<◌, ◌≤◌}
use native.Mathlib.Omega.{arith}
use borrow.Author.Tests.{leb-true, leb-false}
use lib.Dec.{leb}
use lib.ListN.{length, drop, length-append, length-drop}
use lib.Seq.{drop_at}
use Rattle.refusal.specs.Refusals.{accepted}
use Rattle.machine.specs.Machine.{Machine}
use Rattle.machine.specs.Run.{by_rules}
use Rattle.machine.proofs.Runs.{Even}
use Rattle.usage.proofs.Sums.{Sized, trace_sized}
use Rattle.control.proofs.Laws.{kept, lawful_rules, local_rules}
use Rattle.run.specs.Runs.{no_journal, stopped, verdict_on, run_left, trace_on, CountedLeft, counted_by, counted_left}
use Rattle.page.specs.Pages.{report_of, report}
use Rattle.claims.specs.Session.{through_rules, Host, given_to, after_one_run, machine_on}
use Rattle.claims.specs.Runs.{Takes, First, budget_used, journal_full, word_unassigned, by_zero_divisor, locked_byte, no_place, Reported}
use Rattle.claims.proofs.Runs.{runs}
use Rattle.claims.proofs.Lengths.{Fit}
use Rattle.claims_back.specs.Longer.{lent_only, AcceptedRun, machine_left, start_of}
use Rattle.claims_back.proofs.Walks.{Walk, there, then, walked}
use Rattle.claims_back.proofs.Onward.{walk_takes, asked, came, told, replies, all_taken}

-- ---- From what is accepted

-- a run by the rules, with its report
module _ (h : Host) (budget : ℕ) (log : List ℕ) where
  abbrev pub ran_from : CountedLeft
  ran_from = counted_left by_rules (given_to h (lent_only budget log))

  pub has_stopped : verdict_on (given_to h (lent_only budget log)) ≡ accepted
      → ran_from.left.reply ≡ stopped (report ran_from).stop (report ran_from).steps (report ran_from).entries
  unfolding counted_left
  has_stopped ok =
      let g = given_to h (lent_only budget log) in
      subst (λ v. let x = (counted_by by_rules v g).left.reply in let r = report_of x in x ≡ stopped r.stop r.steps r.entries) (sym ok) refl

  abbrev pub run_from : verdict_on (given_to h (lent_only budget log)) ≡ accepted → AcceptedRun h budget log
  run_from ok =
      let r = report ran_from in
      record { engine = through_rules; ran = ran_from; meets = refl; stop = r.stop; steps = r.steps; entries = r.entries; replied = has_stopped ok }

-- ---- What a walk keeps

walk_keeps : {m after : Machine} {ms : List Machine} → Walk m ms after → kept after ≡ kept m
walk_keeps there = refl
walk_keeps (then {m} {next} e w) = walk_keeps w ∙ local_rules.keeps m next e

walk_even : {m after : Machine} {ms : List Machine} → Walk m ms after → Even m.state → Even after.state
walk_even there e = e
walk_even (then {m} {next} s w) e = walk_even w (lawful_rules.even m next s e)

module _ {h : Host} {b : ℕ} {log : List ℕ} (r : AcceptedRun h b log) where
  -- ---- Its budget

  reported : Reported by_rules (asked r) (run_left by_rules (asked r)) r.stop r.steps r.entries
  reported = runs.through_rules (asked r) r.stop r.steps r.entries (replies r)

  pub few : r.steps ≤ b
  few = omega (arith, (told r).steps, (told r).few)

  pub all_used : r.stop ≡ 0 → r.steps ≡ b
  all_used e = (told r).steps ∙ all_taken r e

  pub used_all : r.steps ≡ b → r.stop ≡ 0
  used_all e = by_test reported.stops e
    where
      by_test : {s q : ℕ} {m : Machine} → First by_rules (asked r) s m q → s ≡ b → q ≡ 0
      by_test (budget_used u) e = refl
      by_test (journal_full u) e = refl
      by_test (word_unassigned may s) e = absurd (may.0 e)
      by_test (by_zero_divisor may s) e = absurd (may.0 e)
      by_test (locked_byte may s) e = absurd (may.0 e)
      by_test (no_place may s f) e = absurd (may.0 e)

  pub stops_before : (r.stop ≡ 0 → ⊥) → r.steps < b
  stops_before n = let other : r.steps ≡ b → ⊥ = λ e. n (used_all e) in omega (arith, few)

  -- ---- What it leaves

  pub takes : Takes by_rules r.steps (start_of h r) (machine_left r)
  takes = rw ((told r).steps, (told r).left) (walk_takes (told r).walk)

  pub keeps : kept (machine_on (after_one_run r.ran.left) []) ≡ kept (machine_on h [])
  keeps = ap (λ x. kept (machine_on (after_one_run x.left) [])) (told r).ran ∙ walk_keeps (told r).walk

  pub counts_on : r.ran.left.state.n ≡ h.state.n + r.steps
  counts_on = ap (λ x. x.left.state.n) (told r).ran ∙ omega (arith, (walked (told r).walk).n_is, (told r).steps)

  pub counts_none : r.ran.left.state.journaled ≡ 0
  counts_none = ap (λ x. x.left.state.journaled) (told r).ran ∙ (told r).uncounted

  pub fits_on : Fit (machine_on h []) → Fit (machine_on (after_one_run r.ran.left) [])
  fits_on f = (
    ap (λ k. (length k.0, k.1, k.2, k.3)) keeps ∙ f.0,
    subst (λ (x : CountedLeft). Even x.left.state) (sym (told r).ran) (walk_even (told r).walk f.1),
  )

  log_is : r.ran.left.log ≡ (came r).L ++ drop r.entries log
  log_is = ap (λ x. x.left.log) (told r).ran ∙ ap (λ k. (came r).L ++ drop k log) (sym (told r).entries)

  pub log_long : length r.ran.left.log ≡ length log
  log_long = omega (arith, ap length log_is, length-append (came r).L (drop r.entries log), length-drop r.entries log, (told r).entries, (told r).room)

  pub free_kept : drop r.entries r.ran.left.log ≡ drop r.entries log
  free_kept = ap (drop r.entries) log_is ∙ drop_at (came r).L (drop r.entries log) r.entries (sym (told r).entries)

  pub sized : Sized r.ran.usage
  sized = subst (λ (x : CountedLeft). Sized x.usage) (sym (told r).ran) (trace_sized (trace_on by_rules (asked r)))

  pub no_journal_left : r.ran.left.journal ≡ no_journal
  no_journal_left = ap (λ x. x.left.journal) (told r).ran

-- ---- Another run from the same start

module _ {h : Host} {b₁ b₂ : ℕ} {log : List ℕ} (r₁ : AcceptedRun h b₁ log) (r₂ : AcceptedRun h b₂ log) where
  ends_both : {s q : ℕ} {m : Machine} → First by_rules (asked r₁) s m q → s < b₁ → s < b₂ → First by_rules (asked r₂) s m q
  ends_both (budget_used u) x y = absurd (omega arith)
  ends_both (journal_full u) x y = absurd u
  ends_both (word_unassigned may s) x y = word_unassigned (λ e. omega arith, λ u. u) s
  ends_both (by_zero_divisor may s) x y = by_zero_divisor (λ e. omega arith, λ u. u) s
  ends_both (locked_byte may s) x y = locked_byte (λ e. omega arith, λ u. u) s
  ends_both (no_place may s f) x y = no_place (λ e. omega arith, λ u. u) s f

  -- where the one stopped with budget left, the other goes no further
  no_further : r₁.steps < b₁ → r₁.steps < b₂ → r₂.steps ≤ r₁.steps
  no_further x y = by_test (leb r₂.steps r₁.steps) refl
    where
      by_test : (t : Bool) → leb r₂.steps r₁.steps ≡ t → r₂.steps ≤ r₁.steps
      by_test true e = leb-true _ _ e
      by_test false e =
          let z = reported r₁ in
          absurd ((reported r₂).none_before r₁.steps (leb-false _ _ e) z.last z.took r₁.stop (ends_both z.stops x y))

module _ {h : Host} {b₁ b₂ : ℕ} {log : List ℕ} (short : AcceptedRun h b₁ log) (long : AcceptedRun h b₂ log) (p : b₁ ≤ b₂) where
  -- the shorter stops with 0 where the longer does,
  pub goes_too : long.stop ≡ 0 → short.stop ≡ 0
  goes_too e = used_all short (by_test (leb b₁ short.steps) refl)
    where
      by_test : (t : Bool) → leb b₁ short.steps ≡ t → short.steps ≡ b₁
      by_test true z = omega (arith, leb-true b₁ short.steps z, few short)
      by_test false z =
          let l = leb-false b₁ short.steps z in absurd (omega (arith, l, p, no_further short long l (omega (arith, l, p)), all_used long e))

  -- and the longer where the shorter does for another reason
  pub stops_there : (short.stop ≡ 0 → ⊥) → long.steps ≡ short.steps
  stops_there n =
      let l = stops_before short n in
      let m = no_further short long l (omega (arith, l, p)) in
      omega (arith, m, no_further long short (omega (arith, l, m, p)) (omega (arith, l, m)))
