-- What the functions of this crate promise one another: of the trims as they stand between two runs, and of the lists that these are joined
-- to. Nothing here is promised to a caller.
use Rattle.std.specs.Prelude.{◌≡◌, Bool, ◌&&◌, List, [], ◌∷◌, ◌++◌, map, ℕ, ◌+◌, ◌-◌, ◌*◌, ◌≤◌, min, eqb, length, get_or}
use Rattle.refusal.specs.Refusals.{Verdict}
use Rattle.word.specs.Word.{pick}
use Rattle.machine.specs.declared.State.{State}
use Rattle.machine.specs.Slices.{MutSlice, Slice, before, after, read_before, read_after}
use Rattle.machine.specs.Run.{Stepper}
use Rattle.usage.specs.declared.Usage.{Usage}
use Rattle.usage.specs.Usage.{plus_usage}
use Rattle.usage.specs.Counting.{Few}
use Rattle.run.specs.declared.Report.{Report}
use Rattle.run.specs.Runs.{verdict_on, CountedLeft}
use Rattle.page.specs.declared.TrimAnswer.{TrimAnswer}
use Rattle.page.specs.declared.turns.Turned.{Turned}
use Rattle.page.specs.declared.turns.Progress.{Progress}
use Rattle.page.specs.Pages.{PageGiven, of_each, trim, first_refusal, report, run_on, as_one, answer_of, rejoined, total_steps}

abbrev pub Each : {A : Type 0} → (A → Type 0) → List A → Type 0
Each Q [] = Unit {0}
Each Q (x ∷ xs) = Q x × Each Q xs

-- ---- Counts and answers

-- each count has 32 bits
pub record FewCounts (u : Usage) : Type 0 where
  pub kinds : Few u.kinds
  pub taken : u.taken ≤ 4294967295
  pub reads : Few u.reads
  pub writes : Few u.writes

-- counts that can be added place by place
pub record Addable (xs ys : List ℕ) : Type 0 where
  pub alike : length ys ≡ length xs
  pub fits : (k : ℕ) → get_or xs k 0 + get_or ys k 0 ≤ 18446744073709551615

-- a trim's answer with a further run
abbrev pub with_run : TrimAnswer → Report → ℕ → Usage → TrimAnswer
with_run a r ticks u =
    record {
      stop = r.stop;
      steps = a.steps + r.steps;
      entries = a.entries + r.entries;
      ticks = a.ticks + ticks;
      usage = plus_usage a.usage u;
    }

-- its numbers have room for that run's
pub record HasRoom (a : TrimAnswer) (r : Report) (t : ℕ) (u : Usage) : Type 0 where
  pub steps : a.steps + r.steps ≤ 4294967295
  pub entries : a.entries + r.entries ≤ 18446744073709551615
  pub ticks : a.ticks + t ≤ 18446744073709551615
  pub before : FewCounts a.usage
  pub more : FewCounts u

-- ---- The trims as they stand

-- xs is the trims' lists, each of n places, joined in order, and then `past`
pub record Joins (n : ℕ) (f : CountedLeft → List ℕ) (past : List ℕ) (cs : List CountedLeft) (xs : List ℕ) : Type 0 where
  pub sized : Each (λ c. length (f c) ≡ n) cs
  pub is : xs ≡ rejoined f cs ++ past

-- memories, ports and log are those of the trims, the log in parts of so many places and with `past` after them
pub record Lent (places : ℕ) (past : List ℕ) (cs : List CountedLeft) (P D I O log : List ℕ) : Type 0 where
  pub programs : Joins 65536 (λ c. c.left.P) [] cs P
  pub memories : Joins 65536 (λ c. c.left.D) [] cs D
  pub inputs : Joins 256 (λ c. c.left.I) [] cs I
  pub outputs : Joins 256 (λ c. c.left.O) [] cs O
  pub parts : Joins places (λ c. c.left.log) past cs log

-- what lies past the trims
pub record Past : Type 0 where
  pub states : List State
  pub answers : List TrimAnswer
  pub log : List ℕ

-- states and answers are those of the trims too
pub record Stands (places : ℕ) (past : Past) (cs : List CountedLeft) (ss : List State) (ans : List TrimAnswer) (P D I O log : List ℕ) : Type 0 where
  pub lent : Lent places past.log cs P D I O log
  pub states : ss ≡ map (λ c. c.left.state) cs ++ past.states
  pub answers : ans ≡ map answer_of cs ++ past.answers

-- a trim that can run on, with no more than `rest`
pub record CanRunOn (rest : ℕ) (c : CountedLeft) : Type 0 where
  pub entries : (report c).entries ≤ length c.left.log
  pub steps : (report c).steps + rest ≤ 4294967295
  pub ticks : c.ticks ≤ 17179869180
  pub counts : FewCounts c.usage

-- ---- A turn and a round

-- a trim's turn: it runs on, unless it is its second and it is left nothing
abbrev pub turn_by : Stepper → Bool → ℕ → CountedLeft → CountedLeft
turn_by v again budget c = pick (again && eqb budget 0) c (as_one c (run_on v budget c))

-- in order, each with what is unused, `most` at most
unfoldable pub round_by : Stepper → Bool → ℕ → ℕ → List CountedLeft → List CountedLeft
round_by v again most rest [] = []
round_by v again most rest (c ∷ cs) =
    let d = turn_by v again (min most rest) c in d ∷ round_by v again most (rest - ((report d).steps - (report c).steps)) cs

-- the trim at a place, with its state and answer, among others, can run on with a budget
pub record CanTurn (at places : ℕ) (s : State) (a : TrimAnswer) (P D I O : List ℕ) (budget : ℕ) (log : List ℕ) : Type 0 where
  pub past : List ℕ
  pub done : List CountedLeft
  pub c : CountedLeft
  pub todo : List CountedLeft
  pub lent : Lent places past (done ++ c ∷ todo) P D I O log
  pub place : length done ≡ at
  pub state : s ≡ c.left.state
  pub answer : a ≡ answer_of c
  pub can : CanRunOn budget c

-- what its turn replies and leaves
pub record TurnedTo (v : Stepper) (again : Bool) (budget places : ℕ) (past : List ℕ) (done : List CountedLeft) (c : CountedLeft) (todo : List CountedLeft)
    (r : Turned) (P D I O log : List ℕ) : Type 0 where
  pub lent : Lent places past (done ++ turn_by v again budget c ∷ todo) P D I O log
  pub state : r.state ≡ (turn_by v again budget c).left.state
  pub answer : r.answer ≡ answer_of (turn_by v again budget c)
  pub steps : (report (turn_by v again budget c)).steps ≡ (report c).steps + r.steps
  pub few : r.steps ≤ budget

abbrev pub TakesTurn : Stepper → Bool → ℕ → ℕ → State → TrimAnswer → Slice → MutSlice → MutSlice → MutSlice → ℕ → MutSlice → Turned → Type 0
TakesTurn v again at places s a programs memories inputs outputs budget log r =
    (x : CanTurn at places s a (read_before programs) (before memories) (before inputs) (before outputs) budget (before log))
    → TurnedTo v again budget places x.past x.done x.c x.todo r (read_after programs) (after memories) (after inputs) (after outputs) (after log)

-- all trims can run on with what is unused
pub record CanRound (count places : ℕ) (p : Progress) (P D I O log : List ℕ) : Type 0 where
  pub past : Past
  pub trims : List CountedLeft
  pub few : count ≤ 8
  pub number : length trims ≡ count
  pub stands : Stands places past trims p.states p.answers P D I O log
  pub can : Each (CanRunOn p.rest) trims

-- what a round from these trims replies and leaves: every step comes off what is unused
pub record RoundedTo (v : Stepper) (again : Bool) (most rest places : ℕ) (past : Past) (cs : List CountedLeft) (p : Progress) (P D I O log : List ℕ) : Type 0 where
  pub stands : Stands places past (round_by v again most rest cs) p.states p.answers P D I O log
  pub total : p.rest + total_steps (round_by v again most rest cs) ≡ rest + total_steps cs

abbrev pub TakesRound : Stepper → Bool → ℕ → ℕ → ℕ → Progress → Slice → MutSlice → MutSlice → MutSlice → MutSlice → Progress → Type 0
TakesRound v again most count places p programs memories inputs outputs log r =
    (x : CanRound count places p (read_before programs) (before memories) (before inputs) (before outputs) (before log))
    → RoundedTo v again most p.rest places x.past x.trims r (read_after programs) (after memories) (after inputs) (after outputs) (after log)

-- ---- A page

-- trim by trim, the first that is refused decides
abbrev pub in_order : PageGiven → Verdict
in_order g = first_refusal (of_each g (λ k. verdict_on (trim g g.budget k)))

-- the memories and ports of so many trims
pub record Whole (count : ℕ) (P D I O : List ℕ) : Type 0 where
  pub few : count ≤ 8
  pub programs : length P ≡ count * 65536
  pub memories : length D ≡ count * 65536
  pub inputs : length I ≡ count * 256
  pub outputs : length O ≡ count * 256
