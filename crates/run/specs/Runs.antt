-- What a run replies and leaves, of what it is given (01, "Runs", "Refusal table"), by the rules or by a control table.
use Rattle.std.specs.Prelude.{◌≡◌, Bool, true, false, List, [], ◌++◌, map, ℕ, ◌+◌, ◌-◌, min, leb, length, take, drop, Result}
use Rattle.std.specs.declared.result.Result.TheVariants.{Ok, Err}
use Rattle.refusal.specs.declared.Refusal.{Refusal}
use Rattle.refusal.specs.Refusals.{refusal_number, Verdict, accepted, refused}
use Rattle.word.specs.Word.{pick}
use Rattle.machine.specs.declared.State.{State}
use Rattle.machine.specs.Machine.{Machine, even_places, put_journaled}
use Rattle.machine.specs.Lengths.{lengths_fit}
use Rattle.machine.specs.Slices.{MutSlice, Slice, before, after, read_before, read_after}
use Rattle.machine.specs.Run.{Stepper, Outcome, run, trace}
use Rattle.journal.specs.Journal.{entry_of}
use Rattle.usage.specs.declared.Usage.{Usage}
use Rattle.usage.specs.Usage.{unused, usage_of, ticks_of}
use Rattle.run.specs.declared.Report.{Report}
use Rattle.run.specs.declared.Ran.{Ran}
use Rattle.run.specs.declared.Counted.{Counted}

-- A run may keep a journal (02, L7): none is lent, or one of any length.
pub data Journal : Type 0 where
  no_journal : Journal
  lent_journal : List ℕ → Journal

-- A run gets a state, the memories and ports, a 32-bit budget, a log of any length, and a journal or none.
pub record Given : Type 0 where
  pub state : State
  pub P : List ℕ
  pub D : List ℕ
  pub I : List ℕ
  pub O : List ℕ
  pub budget : ℕ
  pub log : List ℕ
  pub journal : Journal

abbrev pub given : State → List ℕ → List ℕ → List ℕ → List ℕ → ℕ → List ℕ → Journal → Given
given state P D I O budget log journal =
    record { state = state; P = P; D = D; I = I; O = O; budget = budget; log = log; journal = journal }

-- the stop reason, steps and entries written; or the number of the refusal
pub data RunReply : Type 0 where
  stopped : ℕ → ℕ → ℕ → RunReply
  run_refused : ℕ → RunReply

abbrev pub shown_answer : Result Report Refusal → RunReply
shown_answer (Ok r) = stopped r.stop r.steps r.entries
shown_answer (Err r) = run_refused (refusal_number r)

-- It replies with the state, stop reason, steps and entries, and leaves the memories, ports, log and journal.
pub record Left : Type 0 where
  pub reply : RunReply
  pub state : State
  pub P : List ℕ
  pub D : List ℕ
  pub I : List ℕ
  pub O : List ℕ
  pub log : List ℕ
  pub journal : Journal

abbrev pub left : RunReply → State → List ℕ → List ℕ → List ℕ → List ℕ → List ℕ → Journal → Left
left reply state P D I O log journal =
    record { reply = reply; state = state; P = P; D = D; I = I; O = O; log = log; journal = journal }

-- ---- Refusals: run 1, 5, 6, in order

-- 1: the lengths. 5: PC or the return address odd (02, L12). 6: n plus budget over 4,294,967,295.
unfoldable pub verdict : State → List ℕ → List ℕ → List ℕ → List ℕ → ℕ → Verdict
verdict s P D I O budget =
    pick (lengths_fit P D I O)
    (pick (even_places s) (pick (leb (s.n + budget) 4294967295) accepted (refused 6)) (refused 5))
    (refused 1)

abbrev pub verdict_on : Given → Verdict
verdict_on g = verdict g.state g.P g.D g.I g.O g.budget

-- ---- The journal, whose next entry goes to the place that the state counts

-- The steps that a run may take: a full journal counts as a used budget. A count at or past its length is a full journal.
abbrev pub allowed_in : Journal → ℕ → ℕ → ℕ
allowed_in no_journal count budget = budget
allowed_in (lent_journal xs) count budget = min budget (length xs - count)

-- The count is from 0 at an accepted run without a journal.
abbrev pub start_in : Journal → State → State
start_in no_journal s = put_journaled 0 s
start_in (lent_journal xs) s = s

-- One entry a step is counted,
abbrev pub counted_in : Journal → ℕ → State → State
counted_in no_journal steps s = s
counted_in (lent_journal xs) steps s = put_journaled (s.journaled + steps) s

-- es at the places from k on, the others as they were
abbrev pub placed : ℕ → List ℕ → List ℕ → List ℕ
placed k es xs = take k xs ++ es ++ drop (k + length es) xs

-- and kept, of the machine before its step.
abbrev pub kept_in : Journal → ℕ → List Machine → Journal
kept_in no_journal count ms = no_journal
kept_in (lent_journal xs) count ms = lent_journal (placed count (map entry_of ms) xs)

-- ---- What is left, where v is what the run goes by

abbrev pub allowed : Given → ℕ
allowed g = allowed_in g.journal g.state.journaled g.budget

-- the machine at the start of the run, its L empty
abbrev pub machine_at : Given → Machine
machine_at g = record { state = start_in g.journal g.state; P = g.P; D = g.D; I = g.I; O = g.O; L = [] }

-- what the run comes to, and the machines before each step that it takes
abbrev pub outcome_on : Stepper → Given → Outcome
outcome_on v g = run v (allowed g) (length g.log) (machine_at g)

abbrev pub trace_on : Stepper → Given → List Machine
trace_on v g = trace v (allowed g) (length g.log) (machine_at g)

-- The run's steps and entries are by how much n and L grew in it. Places after those entries keep their content.
abbrev pub left_of : Given → List Machine → Outcome → Left
left_of g ms z =
    record {
      reply = stopped z.reason (z.after.state.n - g.state.n) (length z.after.L);
      state = counted_in g.journal (length ms) z.after.state;
      P = z.after.P;
      D = z.after.D;
      I = z.after.I;
      O = z.after.O;
      log = z.after.L ++ drop (length z.after.L) g.log;
      journal = kept_in g.journal g.state.journaled ms;
    }

-- an accepted run
abbrev pub accepted_left : Stepper → Given → Left
accepted_left v g = left_of g (trace_on v g) (outcome_on v g)

-- A refused one changes nothing lent and hands back the state it got.
abbrev pub run_left_by : Stepper → Verdict → Given → Left
run_left_by v accepted g = accepted_left v g
run_left_by v (refused k) g = left (run_refused k) g.state g.P g.D g.I g.O g.log g.journal

unfoldable pub run_left : Stepper → Given → Left
run_left v g = run_left_by v (verdict_on g) g

-- the contract of a run: by the rules `by_rules`, by a table `by_control` of it
abbrev pub RunMeets : Stepper → Given → Left → Type 0
RunMeets v g l = l ≡ run_left v g

-- ---- Counts (02, L5)

-- what an accepted run leaves, its counts and its ticks (02, L9), over its trace
pub record CountedLeft : Type 0 where
  pub left : Left
  pub usage : Usage
  pub ticks : ℕ

abbrev pub accepted_counted : Stepper → Given → CountedLeft
accepted_counted v g = record { left = accepted_left v g; usage = usage_of (trace_on v g); ticks = ticks_of (trace_on v g) }

-- A refused run's counts and ticks are zero.
abbrev pub counted_by : Stepper → Verdict → Given → CountedLeft
counted_by v accepted g = accepted_counted v g
counted_by v (refused k) g = record { left = run_left_by v (refused k) g; usage = unused; ticks = 0 }

unfoldable pub counted_left : Stepper → Given → CountedLeft
counted_left v g = counted_by v (verdict_on g) g

-- the contract of a run that counts
abbrev pub CountedMeets : Stepper → Given → CountedLeft → Type 0
CountedMeets v g l = l ≡ counted_left v g

-- ---- The contracts, of what a run goes by, its parameters in their order and what it replies

-- a journal where one is kept
abbrev pub journal_if : Bool → List ℕ → Journal
journal_if true xs = lent_journal xs
journal_if false xs = no_journal

abbrev pub lent_to : State → Slice → MutSlice → MutSlice → MutSlice → ℕ → MutSlice → Journal → Given
lent_to state program memory inputs outputs budget log journal =
    given state (read_before program) (before memory) (before inputs) (before outputs) budget (before log) journal

abbrev pub left_with : Slice → MutSlice → MutSlice → MutSlice → MutSlice → Journal → Result Report Refusal → State → Left
left_with program memory inputs outputs log journal answer state =
    left (shown_answer answer) state (read_after program) (after memory) (after inputs) (after outputs) (after log) journal

-- a run that counts, with the journal as lent and as returned
abbrev pub RunsWith : Stepper → State → Slice → MutSlice → MutSlice → MutSlice → ℕ → MutSlice → Journal → Journal → Counted → Type 0
RunsWith v state program memory inputs outputs budget log lent returned r =
    CountedMeets v (lent_to state program memory inputs outputs budget log lent)
    (record { left = left_with program memory inputs outputs log returned r.answer r.state; usage = r.usage; ticks = r.ticks })

-- without one
abbrev pub RunsCounted : Stepper → State → Slice → MutSlice → MutSlice → MutSlice → ℕ → MutSlice → Counted → Type 0
RunsCounted v state program memory inputs outputs budget log r =
    RunsWith v state program memory inputs outputs budget log no_journal no_journal r

-- with one
abbrev pub RunsJournaled : Stepper → State → Slice → MutSlice → MutSlice → MutSlice → ℕ → MutSlice → MutSlice → Counted → Type 0
RunsJournaled v state program memory inputs outputs budget log journal r =
    RunsWith v state program memory inputs outputs budget log (lent_journal (before journal)) (lent_journal (after journal)) r

-- a run without journal and without counts
abbrev pub RunsOnly : Stepper → State → Slice → MutSlice → MutSlice → MutSlice → ℕ → MutSlice → Ran → Type 0
RunsOnly v state program memory inputs outputs budget log r =
    RunMeets v (lent_to state program memory inputs outputs budget log no_journal)
    (left_with program memory inputs outputs log no_journal r.answer r.state)
