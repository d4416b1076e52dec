-- What a report says: a run that reports s steps and reason q took s possible steps, before each of which no test held, and
-- after them the first test that holds, in 01's order, is q; a journal lent to it keeps an entry of each step.
use Rattle.std.specs.Prelude.{◌≡◌, true, ◌⊎◌, List, ◌++◌, ℕ, suc, ◌+◌, ◌<◌, ◌≤◌, length, get_or, drop}
use Rattle.machine.specs.Machine.{Machine, put_journaled}
use Rattle.machine.specs.Step.{cannot, to}
use Rattle.machine.specs.Run.{Stepper, by_rules, no_place_at}
use Rattle.journal.specs.Journal.{entry_of}
use Rattle.control.specs.Control.{by_control}
use Rattle.run.specs.Runs.{Journal, no_journal, lent_journal, Given, Left, left, stopped, machine_at, run_left, counted_left}

-- so many possible steps lead from one machine to the other, where v is what the run goes by
pub data Takes (v : Stepper) : ℕ → Machine → Machine → Type 0 where
  none : {m : Machine} → Takes v 0 m m
  more : {k : ℕ} {m next last : Machine} → v.steps m ≡ to next → Takes v k next last → Takes v (suc k) m last

-- A journal is lent and full (02, L7): it has no place for an entry after so many.
abbrev pub Full : Journal → ℕ → Type 0
Full no_journal entries = ⊥
Full (lent_journal xs) entries = length xs ≤ entries

-- after j steps of a run the budget is not used, and no journal is full
abbrev pub MayGoOn : Given → ℕ → Type 0
MayGoOn g j = (j ≡ g.budget → ⊥) × (Full g.journal (g.state.journaled + j) → ⊥)

-- The test with reason q is the first that holds before a step, after j steps of a run: budget used, 0, and a full journal counts as
-- a used budget; the machine can't step, since the word is unassigned, 1, or the divisor is zero, 3, or the fetch, the load or the store touches
-- a locked byte, 4 (02, L14); the step writes a port (the word is OUT) and L, which may grow to the log's length, has no free place, 2. A machine
-- with a line to take (02, L12) can step, and that step writes no port: only the budget, or the journal, ends a run before it.
pub data First (v : Stepper) (g : Given) (j : ℕ) (m : Machine) : ℕ → Type 0 where
  budget_used : j ≡ g.budget → First v g j m 0
  journal_full : Full g.journal (g.state.journaled + j) → First v g j m 0
  word_unassigned : MayGoOn g j → v.steps m ≡ cannot 1 → First v g j m 1
  by_zero_divisor : MayGoOn g j → v.steps m ≡ cannot 3 → First v g j m 3
  locked_byte : MayGoOn g j → v.steps m ≡ cannot 4 → First v g j m 4
  no_place : MayGoOn g j → {next : Machine} → v.steps m ≡ to next → no_place_at v (length g.log) m ≡ true → First v g j m 2

-- xs became ys, where `count` entries were kept before s steps from `start`: the entry of the step after j steps, of the machine before
-- it, stands at the place count + j, and every other place holds what it held.
pub record Entered (v : Stepper) (start : Machine) (count s : ℕ) (xs ys : List ℕ) : Type 0 where
  pub long : length ys ≡ length xs
  pub entries : (j : ℕ) → j < s → (m : Machine) → Takes v j start m → get_or ys (count + j) 0 ≡ entry_of m
  pub others : (k : ℕ) → (k < count) ⊎ (count + s ≤ k) → get_or ys k 0 ≡ get_or xs k 0

pub data Kept (v : Stepper) (start : Machine) (count s : ℕ) : Journal → Journal → Type 0 where
  none_kept : Kept v start count s no_journal no_journal
  kept : (xs ys : List ℕ) → Entered v start count s xs ys → Kept v start count s (lent_journal xs) (lent_journal ys)

-- what is counted then: from 0 where no journal is lent, and one more a step where one is
abbrev pub count_after : Journal → ℕ → ℕ → ℕ
count_after no_journal count s = 0
count_after (lent_journal xs) count s = count + s

-- the report of a run with what it was given and what it left
pub record Reported (v : Stepper) (g : Given) (l : Left) (q s k : ℕ) : Type 0 where
  pub last : Machine
  -- s possible steps were taken,
  pub took : Takes v s (machine_at g) last
  -- before each of which no test held,
  pub none_before : (j : ℕ) → j < s → (m : Machine) → Takes v j (machine_at g) m → (p : ℕ) → First v g j m p → ⊥
  -- and after which q is the first that holds.
  pub stops : First v g s last q
  -- The run left that machine, with k entries in its L, and the log's other places as they were;
  pub entries : k ≡ length last.L
  pub leaves :
      l
      ≡ left (stopped q s k) (put_journaled (count_after g.journal g.state.journaled s) last.state) last.P last.D last.I last.O
      (last.L ++ drop k g.log) l.journal
  -- and its journal keeps an entry of each step.
  pub keeps : Kept v (machine_at g) g.state.journaled s g.journal l.journal

pub record Runs : Type 0 where
  -- by the rules, where a step is the plain machine's
  pub through_rules : (g : Given) (q s k : ℕ) → (run_left by_rules g).reply ≡ stopped q s k → Reported by_rules g (run_left by_rules g) q s k
  -- by any table, where it is that of the table's word
  pub through_control :
      (words : List ℕ) (g : Given) (q s k : ℕ) → (run_left (by_control words) g).reply ≡ stopped q s k
      → Reported (by_control words) g (run_left (by_control words) g) q s k
  -- `run_by_control` promises `run_left`; the other runs, which also count, promise `counted_left`, the same besides the counts.
  pub without_counts : (v : Stepper) (g : Given) → (counted_left v g).left ≡ run_left v g
