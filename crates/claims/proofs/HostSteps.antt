-- A host step's contract, in numbers, gives back what the run left (CReplies).
-- Assumes nothing.
use mathlib.Core.Path.{◌≡◌, refl, ap, ◌∙◌}
use mathlib.Core.List.{List, [], ◌∷◌, map}
use Prim.Native.Nat.{ℕ}
use Rattle.refusal.specs.Refusals.{Verdict, accepted, refused}
use Rattle.control.specs.Control.{by_the_table}
use Rattle.replies.specs.declared.SisaRun.{SisaRun}
use Rattle.run.specs.Runs.{Journal, no_journal, verdict_on, counted_by, counted_left}
use Rattle.replies.specs.Sisa.{SisaRunLeft, sisa_left, sisa_run_left, with_state}
use Rattle.claims.specs.Session.{through_table, Reply, of_run, Host, given_to, CallMeets, a_run, Calls, none, more}
use Rattle.claims.specs.CReplies.{answer_of, run_of}
use Rattle.claims.specs.HostSteps.{HostCall, call, host_step, budget1, as_run, reply_of, HostCallMeets, a_call, a_step, HostCalls, none as host-none, more as host-more, HostSteps}
use Rattle.claims.proofs.CReplies.{run as run_replies}
use Rattle.claims.proofs.Decided.{does_exists, reply_to, call_on, same}

-- ---- One host step

-- a run's reply in numbers, as the host is told of it
abbrev told_by : SisaRun → List ℕ → Journal → Reply
told_by r log journal = of_run (reply_of (answer_of r)) r.usage r.ticks log journal

abbrev host_by : SisaRunLeft → Host
host_by x = record { state = x.reply.state; P = x.P; D = x.D; I = x.I; O = x.O }

step_runs : (h : Host) (log : List ℕ) (x : SisaRunLeft) → x ≡ sisa_run_left by_the_table (given_to h (budget1 log))
    → CallMeets h (as_run (host_step log)) (told_by x.reply x.log x.journal) (host_by x)
step_runs h log x e = a_run h through_table (budget1 log) (run_of x) (ap run_of e ∙ (run_replies by_the_table (given_to h (budget1 log))).gives_back)

pub does_run : {h after : Host} {c : HostCall} {r : Reply} → HostCallMeets h c r after → CallMeets h (as_run c) r after
does_run (a_call d) = d
does_run (a_step h log answer state P D I O returned e) = step_runs h log (sisa_left (with_state state answer) P D I O returned no_journal) e

calls_run : {h after : Host} {cs : List HostCall} {rs : List Reply} → HostCalls h cs rs after → Calls h (map as_run cs) rs after
calls_run host-none = none
calls_run (host-more d ds) = more (does_run d) (calls_run ds)

-- ---- Such replies exist

none_left : (h : Host) (log : List ℕ) → no_journal ≡ (sisa_run_left by_the_table (given_to h (budget1 log))).journal
unfolding sisa_run_left counted_left
none_left h log = go (verdict_on (given_to h (budget1 log)))
  where
    go : (x : Verdict) → no_journal ≡ (counted_by by_the_table x (given_to h (budget1 log))).left.journal
    go accepted = refl
    go (refused k) = refl

does_one : (h : Host) (c : HostCall) → (r : Reply) × (after : Host) × HostCallMeets h c r after
does_one h (call c) = (reply_to h c, call_on h c, a_call (does_exists h c))
does_one h (host_step log) =
    let x = sisa_run_left by_the_table (given_to h (budget1 log)) in
    let a = answer_of x.reply in (
      told_by x.reply x.log no_journal,
      host_by x,
      a_step h log a x.reply.state x.P x.D x.I x.O x.log
          (ap (λ (j : Journal). sisa_left x.reply x.P x.D x.I x.O x.log j) (none_left h log)),
    )

calls_all : (h : Host) (cs : List HostCall) → (rs : List Reply) × (after : Host) × HostCalls h cs rs after
calls_all h [] = ([], h, host-none)
calls_all h (c ∷ cs) =
    let x = does_one h c in
    let y = calls_all x.1 cs in
    (x.0 ∷ y.0, y.1, host-more x.2 y.2)

pub host_steps : HostSteps
host_steps =
    record {
      same = λ h h₁ h₂ cs rs₁ rs₂ ds ds'. same (calls_run ds) ds' refl;
      as_runs = λ h after cs rs ds. calls_run ds;
      replies_exist = calls_all;
    }
