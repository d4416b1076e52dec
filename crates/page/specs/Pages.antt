-- Several trims, one allowance (02, L13): what a page is given, refuses, replies and leaves, by the rules or by a control table.
use Rattle.std.specs.Prelude.{◌≡◌, Bool, ◌&&◌, List, [], ◌∷◌, ◌++◌, map, ℕ, zero, suc, ◌+◌, ◌-◌, ◌*◌, ◌/◌, eqb, leb, length, get_or, take, drop, replicate}
use Rattle.refusal.specs.Refusals.{Verdict, accepted, refused, shown_check}
use Rattle.word.specs.Word.{pick}
use Rattle.machine.specs.declared.State.{State}
use Rattle.machine.specs.Machine.{reset}
use Rattle.machine.specs.Slices.{MutSlice, Slice, before, after, read_before, read_after}
use Rattle.machine.specs.Run.{Stepper}
use Rattle.usage.specs.Usage.{unused, plus_usage}
use Rattle.run.specs.declared.Report.{Report}
use Rattle.run.specs.Runs.{no_journal, Given, given, left, RunReply, stopped, run_refused, verdict_on, CountedLeft, counted_left}
use Rattle.page.specs.declared.Trims.{Trims}
use Rattle.page.specs.declared.TrimAnswer.{TrimAnswer}
use Rattle.page.specs.declared.Paged.{Paged}

-- ---- The call

-- A page gets eight states and the number of its trims, memories and ports joined in order, one 32-bit budget B, and a log of any length.
pub record PageGiven : Type 0 where
  pub states : List State
  pub count : ℕ
  pub P : List ℕ
  pub D : List ℕ
  pub I : List ℕ
  pub O : List ℕ
  pub budget : ℕ
  pub log : List ℕ

abbrev pub page_of : List State → ℕ → List ℕ → List ℕ → List ℕ → List ℕ → ℕ → List ℕ → PageGiven
page_of states count P D I O budget log =
    record { states = states; count = count; P = P; D = D; I = I; O = O; budget = budget; log = log }

-- It replies whether it is refused, the states and eight answers, and leaves the memories, ports and log.
pub record PageLeft : Type 0 where
  pub reply : Verdict
  pub states : List State
  pub answers : List TrimAnswer
  pub P : List ℕ
  pub D : List ℕ
  pub I : List ℕ
  pub O : List ℕ
  pub log : List ℕ

-- ---- The trims, 0 to count - 1

-- the numbers from k on, n of them
unfoldable pub up_from : ℕ → ℕ → List ℕ
up_from k zero = []
up_from k (suc n) = k ∷ up_from (suc k) n

-- one of each trim
abbrev pub of_each : {A : Type 0} → PageGiven → (ℕ → A) → List A
of_each g f = map f (up_from 0 g.count)

-- part k of a list in parts of n
abbrev pub part : ℕ → ℕ → List ℕ → List ℕ
part n k xs = take n (drop (k * n) xs)

-- the places of a trim's log part: the log is in equal parts, rounded down
abbrev pub places : PageGiven → ℕ
places g = length g.log / g.count

-- trim k, with a budget: its own state, memories, ports and log part, and no journal
abbrev pub trim : PageGiven → ℕ → ℕ → Given
trim g budget k =
    given (get_or g.states k reset) (part 65536 k g.P) (part 65536 k g.D) (part 256 k g.I) (part 256 k g.O) budget
    (part (places g) k g.log) no_journal

-- ---- Refusals: 17, then 1, then trim by trim 5 and 6

-- 1 testing the joined lengths
abbrev pub joined_fit : PageGiven → Bool
joined_fit g =
    eqb (length g.P) (g.count * 65536)
    && eqb (length g.D) (g.count * 65536)
    && eqb (length g.I) (g.count * 256)
    && eqb (length g.O) (g.count * 256)

-- another refusal for any trim refuses the whole call, and the first trim's counts
unfoldable pub first_refusal : List Verdict → Verdict
first_refusal [] = accepted
first_refusal (accepted ∷ vs) = first_refusal vs
first_refusal (refused k ∷ vs) = refused k

-- 17: no trims or more than 8, before all other tests. 1: the joined lengths; where they fit, each trim's fit a run. Then trim by trim, as a
-- run is refused, 5 and 6, 6 being tested with B.
unfoldable pub page_verdict : PageGiven → Verdict
page_verdict g =
    pick (leb 1 g.count && leb g.count 8)
    (pick (joined_fit g) (first_refusal (of_each g (λ k. verdict_on (trim g g.budget k)))) (refused 1))
    (refused 17)

-- ---- A trim's two runs

-- what a run reports; one that is refused would report nothing
abbrev pub report_of : RunReply → Report
report_of (stopped q steps entries) = record { stop = q; steps = steps; entries = entries }
report_of (run_refused k) = record { stop = 0; steps = 0; entries = 0 }

abbrev pub report : CountedLeft → Report
report c = report_of c.left.reply

-- the run on from where one stopped, with a budget and the log part's free places
abbrev pub run_on : Stepper → ℕ → CountedLeft → CountedLeft
run_on v budget c =
    let l = c.left in
    counted_left v (given l.state l.P l.D l.I l.O budget (drop (report c).entries l.log) no_journal)

-- A run and the run on from it, as one: the second's stop reason, state, memories and ports; steps, entries, ticks and counts added up;
-- the log part filled further.
abbrev pub as_one : CountedLeft → CountedLeft → CountedLeft
as_one c d =
    let x = report c in
    let y = report d in
    let l = d.left in
    record {
      left =
          left (stopped y.stop (x.steps + y.steps) (x.entries + y.entries)) l.state l.P l.D l.I l.O
          (take x.entries c.left.log ++ l.log) no_journal;
      usage = plus_usage c.usage d.usage;
      ticks = c.ticks + d.ticks;
    }

-- A trim left nothing is not run again and keeps its first stop reason.
unfoldable pub go_on_with : Stepper → ℕ → CountedLeft → CountedLeft
go_on_with v zero c = c
go_on_with v (suc n) c = as_one c (run_on v (suc n) c)

-- ---- The rounds

-- In order, each gets B divided by their number, rounded down;
abbrev pub share : PageGiven → ℕ
share g = g.budget / g.count

abbrev pub first_round : Stepper → PageGiven → List CountedLeft
first_round v g = of_each g (λ k. counted_left v (trim g (share g) k))

-- what is unused then, B less all steps so far,
unfoldable pub total_steps : List CountedLeft → ℕ
total_steps [] = 0
total_steps (c ∷ cs) = (report c).steps + total_steps cs

-- goes whole to the first, what it leaves to the next, and so on.
unfoldable pub second_round : Stepper → ℕ → List CountedLeft → List CountedLeft
second_round v rest [] = []
second_round v rest (c ∷ cs) = let d = go_on_with v rest c in d ∷ second_round v (rest - ((report d).steps - (report c).steps)) cs

-- what the trims come to
unfoldable pub trims_end : Stepper → PageGiven → List CountedLeft
trims_end v g = let cs = first_round v g in second_round v (g.budget - total_steps cs) cs

-- ---- What is left

-- Each trim replies as one run without a journal.
abbrev pub answer_of : CountedLeft → TrimAnswer
answer_of c =
    let r = report c in
    record { stop = r.stop; steps = r.steps; entries = r.entries; ticks = c.ticks; usage = c.usage }

abbrev pub no_answer : TrimAnswer
no_answer = record { stop = 0; steps = 0; entries = 0; ticks = 0; usage = unused }

-- the trims' lists, joined in order
unfoldable pub rejoined : (CountedLeft → List ℕ) → List CountedLeft → List ℕ
rejoined f [] = []
rejoined f (c ∷ cs) = f c ++ rejoined f cs

-- States past the trims come back as handed, their answers are 0; places of the log past its parts keep their content.
unfoldable pub accepted_page : PageGiven → List CountedLeft → PageLeft
accepted_page g cs =
    record {
      reply = accepted;
      states = map (λ c. c.left.state) cs ++ drop g.count g.states;
      answers = map answer_of cs ++ replicate (8 - g.count) no_answer;
      P = rejoined (λ c. c.left.P) cs;
      D = rejoined (λ c. c.left.D) cs;
      I = rejoined (λ c. c.left.I) cs;
      O = rejoined (λ c. c.left.O) cs;
      log = rejoined (λ c. c.left.log) cs ++ drop (g.count * places g) g.log;
    }

-- A refused page changes nothing lent and hands back every state; its answers are 0.
abbrev pub page_left_by : Stepper → Verdict → PageGiven → PageLeft
page_left_by v accepted g = accepted_page g (trims_end v g)
page_left_by v (refused k) g =
    record {
      reply = refused k;
      states = g.states;
      answers = replicate 8 no_answer;
      P = g.P;
      D = g.D;
      I = g.I;
      O = g.O;
      log = g.log;
    }

unfoldable pub page_left : Stepper → PageGiven → PageLeft
page_left v g = page_left_by v (page_verdict g) g

-- the contract of a page: by the rules `by_rules`, by the table `by_the_table`
abbrev pub PageMeets : Stepper → PageGiven → PageLeft → Type 0
PageMeets v g l = l ≡ page_left v g

-- the same of its parameters in their order and what it replies
abbrev pub lent_page : Trims → ℕ → Slice → MutSlice → MutSlice → MutSlice → ℕ → MutSlice → PageGiven
lent_page trims count programs memories inputs outputs budget log =
    page_of trims.states count (read_before programs) (before memories) (before inputs) (before outputs) budget (before log)

abbrev pub left_page : Slice → MutSlice → MutSlice → MutSlice → MutSlice → Paged → PageLeft
left_page programs memories inputs outputs log r =
    record {
      reply = shown_check r.check;
      states = r.trims.states;
      answers = r.answers;
      P = read_after programs;
      D = after memories;
      I = after inputs;
      O = after outputs;
      log = after log;
    }

abbrev pub RunsPage : Stepper → Trims → ℕ → Slice → MutSlice → MutSlice → MutSlice → ℕ → MutSlice → Paged → Type 0
RunsPage v trims count programs memories inputs outputs budget log r =
    PageMeets v (lent_page trims count programs memories inputs outputs budget log) (left_page programs memories inputs outputs log r)
