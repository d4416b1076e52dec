-- Demand 3: lists of calls after an accepted load. What the host holds and is told, each call known by its contract alone;
-- what the plain machine does and says, given the same calls; and that the two agree, whichever engine does each run.
use Rattle.std.specs.Prelude.{◌≡◌, List, [], ◌∷◌, ◌++◌, map, ◌⊎◌, ℕ, ◌-◌, ◌≤◌, eqb, ltb, length, take, drop, replicate}
use Rattle.refusal.specs.Refusals.{Verdict, accepted, refused}
use Rattle.word.specs.Word.{pick}
use Rattle.machine.specs.declared.State.{State}
use Rattle.machine.specs.declared.Board.{Board}
use Rattle.machine.specs.Machine.{Machine, with_line, put_pending, put_i, on_state}
use Rattle.machine.specs.Run.{Stepper, by_rules, Outcome, run, trace}
use Rattle.usage.specs.declared.Usage.{Usage}
use Rattle.usage.specs.Usage.{unused, usage_of, ticks_of}
use Rattle.panel.specs.Calls.{SetLeft, set_left, RaiseLeft, raise_left}
use Rattle.image.specs.declared.Range.{Range}
use Rattle.image.specs.Image.{LoadGiven, LoadLeft, loaded, load_left}
use Rattle.report.specs.Example.{example_file}
use Rattle.control.specs.Control.{by_the_table}
use Rattle.run.specs.Runs.{Journal, Given, given, Left, RunReply, stopped, run_refused, verdict_on, allowed_in, start_in, counted_in, kept_in, CountedLeft, CountedMeets}

-- ---- The calls

-- the engine that does a run, and what its run goes by
pub data Engine : Type 0 where
  through_rules through_table : Engine

abbrev pub stepper_of : Engine → Stepper
stepper_of through_rules = by_rules
stepper_of through_table = by_the_table

-- what a run is lent besides what the host holds, a journal or none
pub record Lent : Type 0 where
  pub budget : ℕ
  pub log : List ℕ
  pub journal : Journal

-- a run, a setting of an input, a raising of a line (02, L12)
pub data Call : Type 0 where
  runs : Engine → Lent → Call
  sets : ℕ → ℕ → Call
  raises : ℕ → Call

-- what comes back: a run's reply, its counts, its ticks, the log and the journal as they were returned; a setting's reply; a raising's reply
pub data Reply : Type 0 where
  of_run : RunReply → Usage → ℕ → List ℕ → Journal → Reply
  of_set : Verdict → Reply
  of_raise : Verdict → Reply

-- Lists that are alike have the same settings, raisings, budgets, lent logs and lent journals: the engines are forgotten.
abbrev pub plain : Call → Call
plain (runs e lent) = runs through_rules lent
plain (sets port value) = sets port value
plain (raises line) = raises line

abbrev pub Alike : List Call → List Call → Type 0
Alike cs₁ cs₂ = map plain cs₁ ≡ map plain cs₂

-- ---- The host

-- what the host holds between two calls
pub record Host : Type 0 where
  pub state : State
  pub P : List ℕ
  pub D : List ℕ
  pub I : List ℕ
  pub O : List ℕ

-- The list starts from what the load returned and left.
abbrev pub host_of : LoadLeft → Host
host_of l = record { state = l.state; P = l.P; D = l.D; I = l.I; O = l.O }

-- Each call gets what it takes of state, memories and ports as the load and the calls before it last returned or left it.
abbrev pub given_to : Host → Lent → Given
given_to h lent = given h.state h.P h.D h.I h.O lent.budget lent.log lent.journal

abbrev pub after_one_run : Left → Host
after_one_run l = record { state = l.state; P = l.P; D = l.D; I = l.I; O = l.O }

abbrev pub after_set : Host → SetLeft → Host
after_set h l = record { state = h.state; P = h.P; D = h.D; I = l.I; O = h.O }

abbrev pub after_raise : Host → RaiseLeft → Host
after_raise h l = record { state = l.state; P = h.P; D = h.D; I = h.I; O = h.O }

-- one call, of which only its contract is known (the theorem `contracts` says that it is this relation)
pub data CallMeets : Host → Call → Reply → Host → Type 0 where
  a_run :
      (h : Host) (e : Engine) (lent : Lent) (l : CountedLeft) → CountedMeets (stepper_of e) (given_to h lent) l
      → CallMeets h (runs e lent) (of_run l.left.reply l.usage l.ticks l.left.log l.left.journal) (after_one_run l.left)
  a_setting :
      (h : Host) (port value : ℕ) (l : SetLeft) → l ≡ set_left (record { I = h.I; port = port; value = value })
      → CallMeets h (sets port value) (of_set l.reply) (after_set h l)
  a_raise :
      (h : Host) (line : ℕ) (l : RaiseLeft) → l ≡ raise_left h.state line → CallMeets h (raises line) (of_raise l.reply) (after_raise h l)

-- a list of calls, one after the other
pub data Calls : Host → List Call → List Reply → Host → Type 0 where
  none : {h : Host} → Calls h [] [] h
  more :
      {h h₁ h₂ : Host} {c : Call} {r : Reply} {cs : List Call} {rs : List Reply}
      → CallMeets h c r h₁ → Calls h₁ cs rs h₂ → Calls h (c ∷ cs) (r ∷ rs) h₂

-- the joining, in the order of the calls, of what the accepted runs wrote, each taken as its run returned
abbrev pub wrote : Reply → List ℕ
wrote (of_run (stopped q steps entries) u t log j) = take entries log
wrote (of_run (run_refused k) u t log j) = []
wrote (of_set r) = []
wrote (of_raise r) = []

unfoldable pub joined : List Reply → List ℕ
joined [] = []
joined (r ∷ rs) = wrote r ++ joined rs

-- ---- The plain machine, given the same calls

abbrev pub given_of : Machine → Lent → Given
given_of m lent = given m.state m.P m.D m.I m.O lent.budget lent.log lent.journal

-- A full journal counts as a used budget: it takes as many steps as the lesser of the budget and the journal's places left allows,
abbrev pub allowed_to : Machine → Lent → ℕ
allowed_to m lent = allowed_in lent.journal m.state.journaled lent.budget

-- and counts from 0 where no journal is lent.
abbrev pub started : Machine → Lent → Machine
started m lent = on_state (start_in lent.journal) m

abbrev pub outcome : Machine → Lent → Outcome
outcome m lent = run by_rules (allowed_to m lent) (length lent.log) (started m lent)

-- the machines before each step that it takes
abbrev pub taken : Machine → Lent → List Machine
taken m lent = trace by_rules (allowed_to m lent) (length lent.log) (started m lent)

-- In an accepted run it takes steps until one of the tests holds, and counts those kept in a journal. A call that the refusal table
-- turns away changes nothing.
abbrev pub run_by : Verdict → Machine → Lent → Machine
run_by accepted m lent = on_state (counted_in lent.journal (length (taken m lent))) (outcome m lent).after
run_by (refused k) m lent = m

-- Raise: the line's bit is set, set or not before. Nothing else changes.
abbrev pub raised : ℕ → Machine → Machine
raised line m = on_state (λ s. put_pending (with_line line s.pending) s) m

-- An accepted set is its Set, an accepted raise its Raise.
unfoldable pub machine_call : Machine → Call → Machine
machine_call m (runs e lent) = run_by (verdict_on (given_of m lent)) m lent
machine_call m (sets port value) = pick (eqb (length m.I) 256) (put_i port value m) m
machine_call m (raises line) = pick (ltb line 8) (raised line m) m

unfoldable pub machine_calls : Machine → List Call → Machine
machine_calls m [] = m
machine_calls m (c ∷ cs) = machine_calls (machine_call m c) cs

-- What it says of a run: the first test that held is the stop reason, the steps and entries are by how much n and L grew, and the
-- counts and ticks are over the steps that it took; the log as returned has the new entries, then the lent places as they were; the journal has
-- the steps' entries from the place of the count on.
abbrev pub said_by : Verdict → Machine → Lent → Reply
said_by accepted m lent =
    let z = outcome m lent in
    let new = drop (length m.L) z.after.L in
    of_run (stopped z.reason (z.after.state.n - m.state.n) (length z.after.L - length m.L))
    (usage_of (taken m lent)) (ticks_of (taken m lent)) (new ++ drop (length new) lent.log) (kept_in lent.journal m.state.journaled (taken m lent))
said_by (refused k) m lent = of_run (run_refused k) unused 0 lent.log lent.journal

unfoldable pub machine_says : Machine → Call → Reply
machine_says m (runs e lent) = said_by (verdict_on (given_of m lent)) m lent
machine_says m (sets port value) = of_set (pick (eqb (length m.I) 256) accepted (refused 1))
machine_says m (raises line) = of_raise (pick (ltb line 8) accepted (refused 16))

unfoldable pub machine_replies : Machine → List Call → List Reply
machine_replies m [] = []
machine_replies m (c ∷ cs) = machine_says m c ∷ machine_replies (machine_call m c) cs

-- ---- The claim

-- what the host holds, with a log, as a machine
abbrev pub machine_on : Host → List ℕ → Machine
machine_on h L = record { state = h.state; P = h.P; D = h.D; I = h.I; O = h.O; L = L }

pub record Mirrors (file : List ℕ) (board : Board) (range : Range) (cs : List Call) (rs₁ rs₂ : List Reply) (h₁ h₂ : Host) : Type 0 where
  -- state (with n), P, D, I, O, and L are the machine's, started as 01 loads that file, of the board loaded (02, L11) and with the range named (02, L14), and given the same calls
  pub machine : machine_on h₁ (joined rs₁) ≡ machine_calls (loaded file board range) cs
  -- every reply, with its log and journal as returned, is what that machine says of the call
  pub replies : rs₁ ≡ machine_replies (loaded file board range) cs
  -- the other list, alike in all but the engines, got the same replies, logs and journals and left the same states, memories and ports
  pub same_replies : rs₁ ≡ rs₂
  pub same_host : h₁ ≡ h₂

-- a refused run in a list is refused with 6, a refused raising with 16, and no setting is refused
abbrev pub Only6 : Reply → Type 0
Only6 (of_run (stopped q s k) u t log j) = Unit {0}
Only6 (of_run (run_refused k) u t log j) = k ≡ 6
Only6 (of_set r) = r ≡ accepted
Only6 (of_raise accepted) = Unit {0}
Only6 (of_raise (refused k)) = k ≡ 16

pub data All (Q : Reply → Type 0) : List Reply → Type 0 where
  nil : All Q []
  cons : {r : Reply} {rs : List Reply} → Q r → All Q rs → All Q (r ∷ rs)

pub record Session : Type 0 where
  -- DEMAND 3
  pub demand_3 :
      (g : LoadGiven) (l₁ l₂ : LoadLeft) → l₁ ≡ load_left g → l₁.reply ≡ accepted → l₂ ≡ load_left g → l₂.reply ≡ accepted
      → (cs₁ cs₂ : List Call) → Alike cs₁ cs₂
      → (rs₁ rs₂ : List Reply) (h₁ h₂ : Host) → Calls (host_of l₁) cs₁ rs₁ h₁ → Calls (host_of l₂) cs₂ rs₂ h₂
      → Mirrors g.file g.board g.range cs₁ rs₁ rs₂ h₁ h₂
  -- such replies exist for every list,
  pub replies_exist : (h : Host) (cs : List Call) → (rs : List Reply) × (after : Host) × Calls h cs rs after
  -- and an accepted load exists for either board, without a range and with any whose first is at most its last: 01's file
  pub load_exists :
      (board : Board) (range : Range) → (range.locked ≡ 0) ⊎ (range.first ≤ range.last)
      → (load_left (record { file = example_file; board = board; range = range; P = replicate 65536 0; D = replicate 65536 0; I = replicate 256 0; O = replicate 256 0 })).reply ≡ accepted
  -- after an accepted load runs in a list are refused with 6 only, raisings with 16 only
  pub only_6 :
      (g : LoadGiven) (l : LoadLeft) → l ≡ load_left g → l.reply ≡ accepted
      → (cs : List Call) (rs : List Reply) (h : Host) → Calls (host_of l) cs rs h → All Only6 rs
