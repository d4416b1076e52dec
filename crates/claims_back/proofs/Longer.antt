-- The longer run passes where the shorter one stopped, and goes on as a run from there does (Onward).
-- Assumes nothing.
use mathlib.Core.Path.{◌≡◌, refl, sym, ap, subst, ◌∙◌}
use mathlib.Core.List.{List, ◌++◌}
use Prim.Native.Nat.{ℕ, ◌+◌, ◌-◌, ◌≤◌}
use native.Mathlib.Omega.{arith}
use lib.ListN.{length, get_or, take, drop, length-append, length-drop}
use borrow.Author.Tests.{le-leb}
use lib.Seq.{take_at}
use Rattle.refusal.specs.Refusals.{accepted, refused}
use Rattle.word.specs.Word.{pick}
use Rattle.machine.specs.declared.State.{State}
use Rattle.machine.specs.Machine.{Machine, reset_on}
use Rattle.machine.specs.Run.{by_rules, trace_from}
use Rattle.usage.specs.Usage.{usage_of, ticks_of, plus_counts}
use Rattle.usage.proofs.Sums.{trace_sized}
use Rattle.usage.proofs.Traces.{usage_append, ticks_append}
use Rattle.image.specs.Image.{loaded}
use Rattle.run.specs.Runs.{outcome_on, run_left_by, run_left}
use Rattle.claims.specs.Session.{stepper_of, Host, host_of, given_to}
use Rattle.claims_back.specs.Longer.{lent_only, AcceptedRun, written, NoMore, Shorter, Longer}
use Rattle.claims.proofs.Counts.{plus_at}
use Rattle.claims_back.proofs.Walks.{Walk, run_walks}
use Rattle.claims.proofs.Lengths.{Fit, only}
use Rattle.claims.proofs.Session.{loaded_fits, accepted_load, range_kept}
use Rattle.claims_back.proofs.RunsOn.{from_reply, one_run, stops_again}
use Rattle.claims_back.proofs.Onward.{walk_takes, came, took, told, passes, on, onward}

-- ---- The shorter and the longer

plus_more : (xs ys : List ℕ) → length xs ≡ length ys → (k : ℕ) → get_or xs k 0 ≤ get_or (plus_counts xs ys) k 0
plus_more xs ys e k = omega (arith, plus_at xs ys e k)

no_more : (ms ns : List Machine) → NoMore (usage_of ms) (usage_of (ms ++ ns))
no_more ms ns =
    let u = usage_of ms in
    let v = usage_of ns in
    let s = trace_sized ms in
    let z = trace_sized ns in
    rw (usage_append ms ns)
    (record {
      kinds = plus_more u.kinds v.kinds (s.kinds ∙ sym z.kinds);
      taken = omega arith;
      reads = plus_more u.reads v.reads (s.reads ∙ sym z.reads);
      writes = plus_more u.writes v.writes (s.writes ∙ sym z.writes);
    })

module _
    {h : Host} {b₁ b₂ : ℕ} {log₁ log₂ : List ℕ} (short : AcceptedRun h b₁ log₁) (long : AcceptedRun h b₂ log₂)
    (p : b₁ ≤ b₂) (q : length log₁ ≤ length log₂) where
  abbrev left_over : ℕ
  left_over = b₂ - length (took short)

  abbrev full : ℕ
  full = 0 + length log₂

  -- the steps that only the longer took
  abbrev rest : List Machine
  rest = trace_from by_rules left_over full (came short)

  all_took : took long ≡ took short ++ rest
  all_took = (passes short b₂ full p (omega arith)).traces

  on_walk : Walk (came short) rest (came long)
  on_walk =
      subst (Walk (came short) rest) (ap (λ x. x.after) (sym (passes short b₂ full p (omega arith)).ends))
      (run_walks left_over full (came short)).1

  -- the entries that only it wrote
  abbrev more : List ℕ
  more = (outcome_on by_rules (on short left_over (drop short.entries log₂))).after.L

  all_wrote : written long ≡ written short ++ more
  all_wrote =
      let free = drop short.entries log₂ in
      let places : full ≡ short.entries + length free = omega (arith, length-drop short.entries log₂, (told short).room, (told short).entries) in
      (told long).wrote
      ∙ ap (λ x. x.after.L) ((passes short b₂ full p (omega arith)).ends ∙ (onward short left_over full free places).ends)

  keeps : Shorter short long
  keeps =
      let t = told short in
      let u = told long in
      let wrote : length (written short) ≡ short.entries = ap length t.wrote ∙ sym t.entries in
      let steps = ap length all_took ∙ length-append (took short) rest in
      let rest_is : length rest ≡ long.steps - short.steps = omega (arith, steps, t.steps, u.steps) in
      record {
        first_entries = sym (ap (take short.entries) all_wrote ∙ take_at (written short) more short.entries wrote);
        entries = omega (arith, wrote, ap length u.wrote, u.entries, ap length all_wrote, length-append (written short) more);
        steps = omega (arith, steps, t.steps, u.steps);
        ticks =
            omega (arith, ap (λ x. x.ticks) t.ran, ap (λ x. x.ticks) u.ran, ap ticks_of all_took, ticks_append (took short) rest);
        usage =
            rw (ap (λ x. x.usage) t.ran, ap (λ x. x.usage) u.ran ∙ ap usage_of all_took) (no_more (took short) rest);
        passes = rw (t.steps, t.left) (walk_takes t.walk);
        goes_on = rw (← rest_is, t.left, u.left) (walk_takes on_walk);
      }

-- ---- The claim

pub longer : Longer
unfolding run_left loaded from_reply
longer =
    record {
      keeps = keeps;
      one_run = one_run;
      stops_again = stops_again;
      exists = λ h budget log ok e.
          let g = given_to h (lent_only budget log) in
          (from_reply h budget log e (_, _, _, ap (λ v. (run_left_by (stepper_of e) v g).reply) ok), refl);
      start_exists = λ g l e ok budget few log.
          let r = accepted_load g l e ok in
          let n : l.state.n ≡ 0 = ap (λ (m : Machine). m.state.n) r.1 ∙ ap (λ (s : State). s.n) (range_kept g.range (reset_on g.board)) in
          only (host_of l) (subst Fit (sym r.1) (loaded_fits g r.0)) (lent_only budget log)
          ∙ ap (λ t. pick t accepted (refused 6)) (le-leb (l.state.n + budget) 4294967295 (omega (arith, n, few)));
    }
