-- Lists of calls with host steps in them. A host step is a run by the table with budget 1 and no journal over registers that the host
-- holds.
use Rattle.std.specs.Prelude.{◌≡◌, List, [], ◌∷◌, map, ℕ, eqb}
use Rattle.word.specs.Word.{pick}
use Rattle.machine.specs.declared.State.{State}
use Rattle.run.specs.Runs.{no_journal, Given, given, RunReply, stopped, run_refused}
use Rattle.replies.specs.declared.SisaAnswer.{SisaAnswer}
use Rattle.replies.specs.Sisa.{HostLent, host_lent, HostStepMeets}
use Rattle.claims.specs.Session.{through_table, Lent, Call, runs, Reply, of_run, Host, CallMeets, Calls}

-- a call of Session.antt, or a host step and the log that it is lent
pub data HostCall : Type 0 where
  call : Call → HostCall
  host_step : List ℕ → HostCall

abbrev pub budget1 : List ℕ → Lent
budget1 log = record { budget = 1; log = log; journal = no_journal }

-- the table run in a host step's place
abbrev pub as_run : HostCall → Call
as_run (call c) = c
as_run (host_step log) = runs through_table (budget1 log)

-- what that run is given, where the host holds and lends h
abbrev pub step_given : HostLent → Given
step_given h = given h.state h.P h.D h.I h.O 1 h.log no_journal

-- a host step's answer as a run's reply: refusal 0 is an accepted one
abbrev pub reply_of : SisaAnswer → RunReply
reply_of a = pick (eqb a.refusal 0) (stopped a.stop a.steps a.entries) (run_refused a.refusal)

-- One call, of which only its contract is known; of a host step that of sisa_host_step, where `state` is what it left in the
-- host's registers.
pub data HostCallMeets : Host → HostCall → Reply → Host → Type 0 where
  a_call : {h after : Host} {c : Call} {r : Reply} → CallMeets h c r after → HostCallMeets h (call c) r after
  a_step :
      (h : Host) (log : List ℕ) (answer : SisaAnswer) (state : State) (P D I O returned : List ℕ)
      → HostStepMeets (host_lent h.state h.P h.D h.I h.O log) answer (host_lent state P D I O returned)
      → HostCallMeets h (host_step log) (of_run (reply_of answer) answer.usage answer.ticks returned no_journal)
      (record { state = state; P = P; D = D; I = I; O = O })

-- a list of calls, one after the other
pub data HostCalls : Host → List HostCall → List Reply → Host → Type 0 where
  none : {h : Host} → HostCalls h [] [] h
  more :
      {h h₁ h₂ : Host} {c : HostCall} {r : Reply} {cs : List HostCall} {rs : List Reply}
      → HostCallMeets h c r h₁ → HostCalls h₁ cs rs h₂ → HostCalls h (c ∷ cs) (r ∷ rs) h₂

pub record HostSteps : Type 0 where
  -- the list with table runs of budget 1 and no journal in place of the host steps gets the same replies, logs and journals and leaves
  -- the same states, memories and ports
  pub same :
      (h h₁ h₂ : Host) (cs : List HostCall) (rs₁ rs₂ : List Reply) → HostCalls h cs rs₁ h₁ → Calls h (map as_run cs) rs₂ h₂
      → (rs₁ ≡ rs₂) × (h₁ ≡ h₂)
  -- and a list with host steps is such a list of runs, so that demand 3 speaks of it
  pub as_runs : (h after : Host) (cs : List HostCall) (rs : List Reply) → HostCalls h cs rs after → Calls h (map as_run cs) rs after
  -- such replies exist for every list
  pub replies_exist : (h : Host) (cs : List HostCall) → (rs : List Reply) × (after : Host) × HostCalls h cs rs after
