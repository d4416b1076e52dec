-- A run and the run on from it: one run with both budgets where the first stopped with 0, and no step where it stopped for another reason.
-- Assumes nothing.
use mathlib.Core.Path.{◌≡◌, refl, sym, ap, ◌∙◌}
use mathlib.Core.List.{List, [], ◌∷◌, ◌++◌, map, append_assoc}
use Prim.Native.Nat.{ℕ, suc, ◌+◌, ◌-◌, ◌<◌}
use native.Mathlib.Omega.{arith}
use lib.ListN.{length, drop, length-append, length-drop}
use lib.Seq.{drop_at, drop-drop, drop-length, drop-append_seam}
use Rattle.word.proofs.Tests.{clash}
use Rattle.machine.specs.Machine.{Machine}
use Rattle.machine.specs.Run.{by_rules, run_from, trace_from}
use Rattle.usage.specs.Usage.{usage_of, ticks_of, plus_usage}
use Rattle.usage.proofs.Traces.{usage_append, ticks_append}
use Rattle.control.proofs.Laws.{shift}
use Rattle.run.specs.Runs.{no_journal, Given, left, stopped, outcome_on, trace_on, left_of, accepted_counted, counted_left}
use Rattle.claims.specs.Session.{Engine, stepper_of, Host, given_to, after_one_run}
use Rattle.claims.specs.Refusals.{Accepts}
use Rattle.claims_back.specs.Longer.{lent_only, AcceptedRun, written, free_places, RunOn, both, StopsAgain}
use Rattle.claims.proofs.Refusals.{refusals}
use Rattle.claims.proofs.Runs.{runs}
use Rattle.claims.proofs.Shift.{shift_outcome, usage_shift, ticks_shift}
use Rattle.claims_back.proofs.Walks.{walked}
use Rattle.claims_back.proofs.Onward.{asked, came, took, told, replies, all_taken, stands, passes, onward}

-- what the host then holds of m
abbrev held : Machine → Host
held m = record { state = m.state; P = m.P; D = m.D; I = m.I; O = m.O }

-- an accepted run, from its reply
unfoldable pub from_reply :
    (h : Host) (budget : ℕ) (log : List ℕ) (e : Engine) → Accepts (stepper_of e) (given_to h (lent_only budget log)) → AcceptedRun h budget log
from_reply h budget log e (q, s, k, f) =
    let g = given_to h (lent_only budget log) in
    record {
      engine = e;
      ran = counted_left (stepper_of e) g;
      meets = refl;
      stop = q;
      steps = s;
      entries = k;
      replied = ap (λ x. x.reply) (runs.without_counts (stepper_of e) g) ∙ f;
    }

module _ {h : Host} {b c : ℕ} {log : List ℕ} (first : AcceptedRun h b log) (second : RunOn first c) where
  free_is : free_places first ≡ drop first.entries log
  free_is =
      let t = told first in
      ap (λ x. drop first.entries x.left.log) t.ran
      ∙ drop_at (came first).L _ first.entries (sym t.entries)
      ∙ ap (λ k. drop k log) (sym t.entries)

  places : length log ≡ first.entries + length (free_places first)
  places = omega (arith, ap length free_is, length-drop first.entries log, (told first).room, (told first).entries)

  wrote_many : length (written first) ≡ first.entries
  wrote_many = ap length (told first).wrote ∙ sym (told first).entries

  state_n : first.ran.left.state.n ≡ h.state.n + length (took first)
  state_n = ap (λ x. x.left.state.n) (told first).ran ∙ (walked (told first).walk).n_is

  -- what the run with both budgets is given
  abbrev whole : Given
  whole = given_to h (lent_only (b + c) log)

  record Joined : Type 0 where
    ends : outcome_on by_rules whole ≡ shift_outcome (written first) (outcome_on by_rules (asked second))
    traces : trace_on by_rules whole ≡ took first ++ map (shift (written first)) (took second)

  joined : first.stop ≡ 0 → Joined
  joined e =
      let full = 0 + length log in
      let z = passes first (b + c) full (omega arith) (omega arith) in
      let left_over : b + c - length (took first) ≡ c = omega (arith, all_taken first e) in
      let o = onward first c full (free_places first) (omega (arith, places)) in
      record {
        ends = z.ends ∙ ap (λ k. run_from by_rules k full (came first)) left_over ∙ o.ends;
        traces = z.traces ∙ ap (λ ms. took first ++ ms) (ap (λ k. trace_from by_rules k full (came first)) left_over ∙ o.traces);
      }

  fits : first.stop ≡ 0 → (e : Engine) → Accepts (stepper_of e) whole
  fits z e =
      let a = (refusals.run by_rules (asked first)).accepts.0 (_, _, _, replies first) in
      let d = (refusals.run by_rules (asked second)).accepts.0 (_, _, _, replies second) in
      (refusals.run (stepper_of e) whole).accepts.1 (a.0, a.1, λ many. d.2 (omega (arith, many, state_n, all_taken first z)))

  -- the log filled further
  logs : (Y : List ℕ) → second.ran.left.log ≡ Y ++ drop (length Y) (free_places first)
      → (written first ++ Y) ++ drop (length (written first ++ Y)) log ≡ written first ++ second.ran.left.log
  logs Y e =
      let w = written first in
      let seam : length (w ++ Y) ≡ first.entries + length Y = omega (arith, length-append w Y, wrote_many) in
      append_assoc w Y _
      ∙ ap (λ k. w ++ (Y ++ drop k log)) seam
      ∙ ap (λ x. w ++ (Y ++ x)) (sym (drop-drop (length Y) first.entries log))
      ∙ ap (λ x. w ++ (Y ++ drop (length Y) x)) (sym free_is)
      ∙ ap (λ x. w ++ x) (sym e)

  added : first.stop ≡ 0 → accepted_counted by_rules whole ≡ both first second
  added z =
      let t = told first in
      let u = told second in
      let j = joined z in
      let Y = came second in
      let w = written first in
      let ran : accepted_counted by_rules (asked second) ≡ second.ran = sym u.ran in
      let steps : Y.state.n - h.state.n ≡ first.steps + second.steps = omega (arith, t.steps, u.steps, (walked u.walk).n_is, state_n) in
      let entries : length (w ++ Y.L) ≡ first.entries + second.entries = omega (arith, length-append w Y.L, wrote_many, u.entries) in
      let log : (w ++ Y.L) ++ drop (length (w ++ Y.L)) log ≡ w ++ second.ran.left.log = logs Y.L (ap (λ x. x.left.log) u.ran) in
      let usage : usage_of (trace_on by_rules whole) ≡ plus_usage first.ran.usage second.ran.usage =
      ap usage_of j.traces
      ∙ usage_append (took first) _
      ∙ (λ i. plus_usage (sym t.ran i).usage ((usage_shift w (took second) ∙ ap (λ x. x.usage) ran) i)) in
      let ticks : ticks_of (trace_on by_rules whole) ≡ first.ran.ticks + second.ran.ticks =
      ap ticks_of j.traces
      ∙ ticks_append (took first) _
      ∙ (λ i. (sym t.ran i).ticks + (ticks_shift w (took second) ∙ ap (λ x. x.ticks) ran) i) in
      (λ i. record { left = left_of whole (trace_on by_rules whole) (j.ends i); usage = usage i; ticks = ticks i })
      ∙ (λ i. record {
        left =
            left (stopped (sym u.stop i) (steps i) (entries i)) (ran i).left.state (ran i).left.P (ran i).left.D (ran i).left.I (ran i).left.O
            (log i) no_journal;
        usage = plus_usage first.ran.usage second.ran.usage;
        ticks = first.ran.ticks + second.ran.ticks;
      })

  pub one_run : first.stop ≡ 0 → (e : Engine) → counted_left (stepper_of e) whole ≡ both first second
  unfolding from_reply
  one_run z e = (told (from_reply h (b + c) log e (fits z e))).ran ∙ added z

  -- ---- From one that stopped for another reason

  record Still : Type 0 where
    outcome : shift_outcome (written first) (outcome_on by_rules (asked second)) ≡ record { reason = first.stop; after = came first }
    no_step : took second ≡ []

  still : (first.stop ≡ 0 → ⊥) → 0 < c → Still
  still n l =
      let more : suc (c - 1) ≡ c = omega arith in
      let z = rw more at (stands first (c - 1) n) in
      let o = onward first c (length log) (free_places first) places in
      record { outcome = sym o.ends ∙ z.0; no_step = nothing (took second) (sym o.traces ∙ z.1) }
    where
      nothing : (ms : List Machine) → map (shift (written first)) ms ≡ [] → ms ≡ []
      nothing [] e = refl
      nothing (m ∷ ms) e = clash (cc)

  pub stops_again : (first.stop ≡ 0 → ⊥) → 0 < c → StopsAgain first second
  unfolding ticks_of usage_of
  stops_again n l =
      let s = still n l in
      let t = told first in
      let u = told second in
      let w = written first in
      let empty : (came second).L ≡ [] =
      sym (drop-append_seam w (came second).L)
      ∙ ap (λ x. drop (length w) x.after.L) s.outcome
      ∙ ap (drop (length w)) (sym t.wrote)
      ∙ drop-length w in
      record {
        stop = u.stop ∙ ap (λ x. x.reason) s.outcome;
        steps = u.steps ∙ ap length s.no_step;
        ticks = ap (λ x. x.ticks) u.ran ∙ ap ticks_of s.no_step;
        usage = ap (λ x. x.usage) u.ran ∙ ap usage_of s.no_step;
        entries = u.entries ∙ ap length empty;
        places = ap (λ x. x.left.log) u.ran ∙ ap (λ L. L ++ drop (length L) (free_places first)) empty;
        holds = ap (λ x. after_one_run x.left) u.ran ∙ ap (λ x. held x.after) s.outcome ∙ ap (λ x. after_one_run x.left) (sym t.ran);
      }
