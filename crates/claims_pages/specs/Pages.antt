-- Several trims, one allowance (02, L13): what a page by either engine, known by its contract alone, refuses, answers and leaves. Each trim of
-- it is one run of what it is handed: what is proved of runs holds of it, and the lists of demand 3 need not hold pages.
use Rattle.std.specs.Prelude.{◌≡◌, ◌⊎◌, ◌↔◌, List, [], ◌∷◌, ◌++◌, ℕ, ◌+◌, ◌-◌, ◌*◌, ◌/◌, ◌%◌, ◌<◌, ◌≤◌, length, get_or, take, drop, replicate}
use Rattle.refusal.specs.Refusals.{accepted, refused}
use Rattle.machine.specs.Machine.{Machine, reset}
use Rattle.machine.specs.Run.{by_rules}
use Rattle.control.specs.Control.{by_the_table}
use Rattle.run.specs.Runs.{stopped, machine_at, CountedLeft, counted_left}
use Rattle.page.specs.declared.TrimAnswer.{TrimAnswer}
use Rattle.page.specs.Pages.{PageGiven, page_of, PageLeft, part, places, trim, share, no_answer, PageMeets}
use Rattle.claims.specs.Session.{Engine, stepper_of, Host}
use Rattle.claims.specs.Runs.{Takes}
use Rattle.claims.specs.Refusals.{OddPlace, TooMany}
use Rattle.claims_back.specs.Longer.{AcceptedRun}

-- ---- Refusals: 17, then 1, then trim by trim 5 and 6

-- 17: no trims or more than 8
abbrev pub WrongNumber : PageGiven → Type 0
WrongNumber g = (g.count ≡ 0) ⊎ (8 < g.count)

-- 1, testing the joined lengths
abbrev pub WrongLength : PageGiven → Type 0
WrongLength g =
    (length g.P ≡ g.count * 65536 → ⊥)
    ⊎ (length g.D ≡ g.count * 65536 → ⊥)
    ⊎ (length g.I ≡ g.count * 256 → ⊥)
    ⊎ (length g.O ≡ g.count * 256 → ⊥)

-- 5 of trim k
abbrev pub Odd : PageGiven → ℕ → Type 0
Odd g k = OddPlace (trim g g.budget k).state

-- 6 of trim k, tested with B
abbrev pub Over : PageGiven → ℕ → Type 0
Over g k = TooMany (trim g g.budget k)

-- neither
abbrev pub Passes : PageGiven → ℕ → Type 0
Passes g k = (Odd g k → ⊥) × (Over g k → ⊥)

-- The first trim's counts: Q holds of one, and all before it pass.
abbrev pub FirstWith : PageGiven → (ℕ → Type 0) → Type 0
FirstWith g Q = (k : ℕ) × (k < g.count) × ((j : ℕ) → j < k → Passes g j) × Q k

pub record PageRefusals (g : PageGiven) (l : PageLeft) : Type 0 where
  pub number_17 : (l.reply ≡ refused 17) ↔ WrongNumber g
  pub number_1 : (l.reply ≡ refused 1) ↔ ((WrongNumber g → ⊥) × WrongLength g)
  pub number_5 : (l.reply ≡ refused 5) ↔ ((WrongNumber g → ⊥) × (WrongLength g → ⊥) × FirstWith g (Odd g))
  pub number_6 :
      (l.reply ≡ refused 6) ↔ ((WrongNumber g → ⊥) × (WrongLength g → ⊥) × FirstWith g (λ k. (Odd g k → ⊥) × Over g k))
  pub accepts :
      (l.reply ≡ accepted) ↔ ((WrongNumber g → ⊥) × (WrongLength g → ⊥) × ((k : ℕ) → k < g.count → Passes g k))
  pub no_other : (k : ℕ) → l.reply ≡ refused k → (k ≡ 17) ⊎ (k ≡ 1) ⊎ (k ≡ 5) ⊎ (k ≡ 6)
  -- A refused page changes nothing and hands back every state; its answers are 0.
  pub nothing_changes :
      (k : ℕ) → l.reply ≡ refused k
      → l
      ≡ record {
        reply = refused k;
        states = g.states;
        answers = replicate 8 no_answer;
        P = g.P;
        D = g.D;
        I = g.I;
        O = g.O;
        log = g.log;
      }

-- ---- An accepted page

-- known by its contract alone
pub record AcceptedPage (g : PageGiven) : Type 0 where
  pub engine : Engine
  pub left : PageLeft
  pub meets : PageMeets (stepper_of engine) g left
  pub accepts : left.reply ≡ accepted

-- its answer of trim k
abbrev pub answer : PageLeft → ℕ → TrimAnswer
answer l k = get_or l.answers k no_answer

-- the steps of all answers
unfoldable pub steps_of : List TrimAnswer → ℕ
steps_of [] = 0
steps_of (a ∷ more) = a.steps + steps_of more

pub record Allowance (g : PageGiven) (l : PageLeft) : Type 0 where
  -- Steps total at most B,
  pub total : steps_of l.answers ≤ g.budget
  -- less exactly when no trim ends with stop 0.
  pub less : (steps_of l.answers < g.budget) ↔ ((k : ℕ) → k < g.count → (answer l k).stop ≡ 0 → ⊥)
  -- Each trim does at least its share unless it stopped for another reason.
  pub at_least : (k : ℕ) → k < g.count → (answer l k).stop ≡ 0 → share g ≤ (answer l k).steps
  -- What is unused goes whole to the first, what it leaves to the next: behind a trim that ends with stop 0 none gets more than its share.
  pub in_order : (j k : ℕ) → j < k → k < g.count → (answer l j).stop ≡ 0 → (answer l k).steps ≤ share g

-- ---- Each trim's own machine

-- Trim k's answer, state, memories, ports and log part are those of an accepted run.
pub record LeftBy (g : PageGiven) (l : PageLeft) (k : ℕ) (c : CountedLeft) : Type 0 where
  pub reply : c.left.reply ≡ stopped (answer l k).stop (answer l k).steps (answer l k).entries
  pub ticks : (answer l k).ticks ≡ c.ticks
  pub usage : (answer l k).usage ≡ c.usage
  pub state : get_or l.states k reset ≡ c.left.state
  pub P : part 65536 k l.P ≡ c.left.P
  pub D : part 65536 k l.D ≡ c.left.D
  pub I : part 256 k l.I ≡ c.left.I
  pub O : part 256 k l.O ≡ c.left.O
  pub log : part (places g) k l.log ≡ c.left.log

-- the machine that it starts from
abbrev pub start_of : PageGiven → ℕ → Machine
start_of g k = machine_at (trim g g.budget k)

-- the machine that it left, its L the entries written
abbrev pub machine_of : PageGiven → PageLeft → ℕ → Machine
machine_of g l k =
    record {
      state = get_or l.states k reset;
      P = part 65536 k l.P;
      D = part 65536 k l.D;
      I = part 256 k l.I;
      O = part 256 k l.O;
      L = take (answer l k).entries (part (places g) k l.log);
    }

pub record Own (g : PageGiven) (l : PageLeft) (k : ℕ) : Type 0 where
  -- It replies as one run without a journal, by either engine, whose budget is at least its share and at most B,
  pub budget : ℕ
  pub least : share g ≤ budget
  pub most : budget ≤ g.budget
  pub one_run : (e : Engine) → LeftBy g l k (counted_left (stepper_of e) (trim g budget k))
  -- and its state, memories, ports and log part are its own machine's after its reported steps.
  pub machine : Takes by_rules (answer l k).steps (start_of g k) (machine_of g l k)
  -- Its state counts no journal entries.
  pub uncounted : (get_or l.states k reset).journaled ≡ 0

-- ---- What stays as it was

pub record Kept (g : PageGiven) (l : PageLeft) : Type 0 where
  -- the places of each log part past its entries, and those past all parts
  pub free :
      (k : ℕ) → k < g.count
      → drop (answer l k).entries (part (places g) k l.log) ≡ drop (answer l k).entries (part (places g) k g.log)
  pub past : drop (g.count * places g) l.log ≡ drop (g.count * places g) g.log
  -- the states past the trims, whose answers are 0
  pub states : drop g.count l.states ≡ drop g.count g.states
  pub answers : drop g.count l.answers ≡ replicate (8 - g.count) no_answer
  -- every program memory, and the lengths of the other lists
  pub P : l.P ≡ g.P
  pub long-D : length l.D ≡ length g.D
  pub long-I : length l.I ≡ length g.I
  pub long-O : length l.O ≡ length g.O
  pub long_log : length l.log ≡ length g.log

-- ---- Who gets the rest: pages of two trims

-- what trim k is handed
abbrev pub handed : PageGiven → ℕ → Host
handed g k = let t = trim g g.budget k in record { state = t.state; P = t.P; D = t.D; I = t.I; O = t.O }

-- trim k run alone with a budget, known by its contract alone
abbrev pub Alone : PageGiven → ℕ → ℕ → Type 0
Alone g k budget = AcceptedRun (handed g k) budget (part (places g) k g.log)

abbrev pub Steps : PageLeft → ℕ → ℕ → Type 0
Steps l first second = ((answer l 0).steps ≡ first) × ((answer l 1).steps ≡ second)

-- reset trims, the first with this byte at every place of its program, all else zeros
abbrev pub two_trims : ℕ → ℕ → PageGiven
two_trims byte budget =
    page_of (replicate 8 reset) 2 (replicate 65536 byte ++ replicate 65536 0) (replicate 131072 0) (replicate 512 0) (replicate 512 0) budget []

pub record Rows : Type 0 where
  -- Two trims that could both go on, B odd: the first gets the odd step.
  pub odd_step :
      {g : PageGiven} (p : AcceptedPage g) → g.count ≡ 2 → g.budget % 2 ≡ 1
      → (first : Alone g 0 g.budget) → first.stop ≡ 0
      → (second : Alone g 1 g.budget) → second.stop ≡ 0
      → Steps p.left (g.budget / 2 + 1) (g.budget / 2)
  -- The first stopped: the second gets what it left.
  pub first_stopped :
      {g : PageGiven} (p : AcceptedPage g) → g.count ≡ 2
      → (first : Alone g 0 (share g)) → (first.stop ≡ 0 → ⊥)
      → (second : Alone g 1 g.budget) → second.stop ≡ 0
      → Steps p.left first.steps (g.budget - first.steps)
  -- Words 0 are AND R0, R0, R0: both could go on.
  pub of_7 : (p : AcceptedPage (two_trims 0 7)) → Steps p.left 4 3
  -- Words 0xFFFF are unassigned: the first stops at once.
  pub all_7 : (p : AcceptedPage (two_trims 255 7)) → Steps p.left 0 7
  -- There are such pages.
  pub there_are : (byte : ℕ) (e : Engine) → (p : AcceptedPage (two_trims byte 7)) × (p.engine ≡ e)

-- ---- The claim

pub record Pages : Type 0 where
  pub refusals : (e : Engine) (g : PageGiven) (l : PageLeft) → PageMeets (stepper_of e) g l → PageRefusals g l
  -- An accepted page exists, by either engine, of all that no refusal turns away.
  pub exists :
      (g : PageGiven) → (WrongNumber g → ⊥) → (WrongLength g → ⊥) → ((k : ℕ) → k < g.count → Passes g k)
      → (e : Engine) → (p : AcceptedPage g) × (p.engine ≡ e)
  pub allowance : {g : PageGiven} (p : AcceptedPage g) → Allowance g p.left
  pub own : {g : PageGiven} (p : AcceptedPage g) (k : ℕ) → k < g.count → Own g p.left k
  pub kept : {g : PageGiven} (p : AcceptedPage g) → Kept g p.left
  -- Both engines' pages are the same.
  pub same : (g : PageGiven) (l₁ l₂ : PageLeft) → PageMeets by_rules g l₁ → PageMeets by_the_table g l₂ → l₁ ≡ l₂
  pub rows : Rows
