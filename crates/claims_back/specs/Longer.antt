-- A longer look keeps the shorter one (02, L10): of two accepted runs from one start, without a journal and by either engine, the one whose
-- budget and log are no larger wrote the first entries of the other and reports no more. Beside it two laws of a run and the run on from it.
use Rattle.std.specs.Prelude.{◌≡◌, List, ◌++◌, ℕ, ◌+◌, ◌-◌, ◌<◌, ◌≤◌, length, get_or, take, drop}
use Rattle.refusal.specs.Refusals.{accepted}
use Rattle.machine.specs.Machine.{Machine}
use Rattle.machine.specs.Run.{by_rules}
use Rattle.usage.specs.declared.Usage.{Usage}
use Rattle.usage.specs.Usage.{unused, plus_usage}
use Rattle.image.specs.Image.{LoadGiven, LoadLeft, load_left}
use Rattle.run.specs.Runs.{no_journal, left, stopped, verdict_on, machine_at, CountedLeft, counted_left, CountedMeets}
use Rattle.claims.specs.Session.{Engine, stepper_of, Lent, Host, host_of, given_to, after_one_run, machine_on}
use Rattle.claims.specs.Runs.{Takes}

-- what a run without a journal is lent
abbrev pub lent_only : ℕ → List ℕ → Lent
lent_only budget log = record { budget = budget; log = log; journal = no_journal }

-- an accepted run from what the host holds, known by its contract alone, with what it reports
pub record AcceptedRun (h : Host) (budget : ℕ) (log : List ℕ) : Type 0 where
  pub engine : Engine
  pub ran : CountedLeft
  pub meets : CountedMeets (stepper_of engine) (given_to h (lent_only budget log)) ran
  pub stop : ℕ
  pub steps : ℕ
  pub entries : ℕ
  pub replied : ran.left.reply ≡ stopped stop steps entries

-- the entries that it wrote, in its log as returned
abbrev pub written : {h : Host} {budget : ℕ} {log : List ℕ} → AcceptedRun h budget log → List ℕ
written r = take r.entries r.ran.left.log

-- the machine that it left
abbrev pub machine_left : {h : Host} {budget : ℕ} {log : List ℕ} → AcceptedRun h budget log → Machine
machine_left r = machine_on (after_one_run r.ran.left) (written r)

-- the start that it ran from
abbrev pub start_of : {budget : ℕ} {log : List ℕ} → (h : Host) → AcceptedRun h budget log → Machine
start_of {budget} {log} h r = machine_at (given_to h (lent_only budget log))

-- ---- The shorter and the longer

-- no count is larger
pub record NoMore (u v : Usage) : Type 0 where
  pub kinds : (k : ℕ) → get_or u.kinds k 0 ≤ get_or v.kinds k 0
  pub taken : u.taken ≤ v.taken
  pub reads : (k : ℕ) → get_or u.reads k 0 ≤ get_or v.reads k 0
  pub writes : (k : ℕ) → get_or u.writes k 0 ≤ get_or v.writes k 0

pub record Shorter {h : Host} {b₁ b₂ : ℕ} {log₁ log₂ : List ℕ} (short : AcceptedRun h b₁ log₁) (long : AcceptedRun h b₂ log₂) : Type 0 where
  -- The entries that it wrote are the first entries of the other,
  pub first_entries : written short ≡ take short.entries (written long)
  pub entries : short.entries ≤ long.entries
  -- and it reports no more steps, ticks and counts.
  pub steps : short.steps ≤ long.steps
  pub ticks : short.ran.ticks ≤ long.ran.ticks
  pub usage : NoMore short.ran.usage long.ran.usage
  -- The machine that the longer run passes through after the shorter one's steps is the one that the shorter one left.
  pub passes : Takes by_rules short.steps (start_of h long) (machine_left short)
  pub goes_on : Takes by_rules (long.steps - short.steps) (machine_left short) (machine_left long)

-- ---- A run, and the run on from it with the log's free places

abbrev pub free_places : {h : Host} {budget : ℕ} {log : List ℕ} → AcceptedRun h budget log → List ℕ
free_places r = drop r.entries r.ran.left.log

abbrev pub RunOn : {h : Host} {budget : ℕ} {log : List ℕ} → AcceptedRun h budget log → ℕ → Type 0
RunOn r budget = AcceptedRun (after_one_run r.ran.left) budget (free_places r)

-- what both come to: the second's stop reason, state, memories and ports; steps, entries, ticks and counts added up; the log filled further
abbrev pub both : {h : Host} {b c : ℕ} {log : List ℕ} → (first : AcceptedRun h b log) → RunOn first c → CountedLeft
both first on =
    let l = on.ran.left in
    record {
      left =
          left (stopped on.stop (first.steps + on.steps) (first.entries + on.entries)) l.state l.P l.D l.I l.O
          (written first ++ l.log) no_journal;
      usage = plus_usage first.ran.usage on.ran.usage;
      ticks = first.ran.ticks + on.ran.ticks;
    }

-- the second takes no step, writes nothing and stops for the same reason
pub record StopsAgain {h : Host} {b c : ℕ} {log : List ℕ} (first : AcceptedRun h b log) (on : RunOn first c) : Type 0 where
  pub stop : on.stop ≡ first.stop
  pub steps : on.steps ≡ 0
  pub ticks : on.ran.ticks ≡ 0
  pub usage : on.ran.usage ≡ unused
  pub entries : on.entries ≡ 0
  pub places : on.ran.left.log ≡ free_places first
  pub holds : after_one_run on.ran.left ≡ after_one_run first.ran.left

-- ---- The claim

pub record Longer : Type 0 where
  pub keeps :
      {h : Host} {b₁ b₂ : ℕ} {log₁ log₂ : List ℕ} (short : AcceptedRun h b₁ log₁) (long : AcceptedRun h b₂ log₂)
      → b₁ ≤ b₂ → length log₁ ≤ length log₂ → Shorter short long
  -- A run that stopped with 0 and the run on from it are one run with both budgets, by either engine.
  pub one_run :
      {h : Host} {b c : ℕ} {log : List ℕ} (first : AcceptedRun h b log) (on : RunOn first c) → first.stop ≡ 0
      → (e : Engine) → counted_left (stepper_of e) (given_to h (lent_only (b + c) log)) ≡ both first on
  -- A run on from one that stopped for another reason, with a budget over 0, stops again.
  pub stops_again :
      {h : Host} {b c : ℕ} {log : List ℕ} (first : AcceptedRun h b log) (on : RunOn first c) → (first.stop ≡ 0 → ⊥) → 0 < c → StopsAgain first on
  -- An accepted run exists, by either engine, from every start that no refusal turns away,
  pub exists :
      (h : Host) (budget : ℕ) (log : List ℕ) → verdict_on (given_to h (lent_only budget log)) ≡ accepted
      → (e : Engine) → (r : AcceptedRun h budget log) × (r.engine ≡ e)
  -- and none turns away what an accepted load left (`load_exists` of Session has one), with any budget and log.
  pub start_exists :
      (g : LoadGiven) (l : LoadLeft) → l ≡ load_left g → l.reply ≡ accepted → (budget : ℕ) → budget ≤ 4294967295
      → (log : List ℕ) → verdict_on (given_to (host_of l) (lent_only budget log)) ≡ accepted
