-- Demand 1, the refusal table: for each call, number k is returned exactly when its condition holds and no earlier one does,
-- and then nothing lent has changed.
use Rattle.std.specs.Prelude.{◌≡◌, ◌⊎◌, ◌↔◌, List, ℕ, ◌+◌, ◌*◌, ◌%◌, ◌<◌, ◌≤◌, length}
use Rattle.refusal.specs.Refusals.{accepted, refused}
use Rattle.machine.specs.declared.State.{State}
use Rattle.machine.specs.declared.Board.TheVariants.{SingleMemory}
use Rattle.machine.specs.Machine.{reset}
use Rattle.machine.specs.Run.{Stepper}
use Rattle.panel.specs.Calls.{SetGiven, set_left, raise_left}
use Rattle.image.specs.Image.{W, program_offset, C, data_offset, LoadGiven, load_left}
use Rattle.usage.specs.Usage.{unused}
use Rattle.run.specs.Runs.{Given, left, stopped, run_refused, run_left, counted_left}
use Rattle.back.specs.Backs.{BackGiven, gone_back, back_refused, back_left}

-- ---- The conditions, as 01's table has them

-- 1: P or D not 65,536 bytes, or I or O not 256 words
abbrev pub Lengths : List ℕ → List ℕ → List ℕ → List ℕ → Type 0
Lengths P D I O =
    (length P ≡ 65536 → ⊥) ⊎ (length D ≡ 65536 → ⊥) ⊎ (length I ≡ 256 → ⊥) ⊎ (length O ≡ 256 → ⊥)

-- 2: file under 16 bytes
abbrev pub ShortFile : List ℕ → Type 0
ShortFile file = length file < 16

-- 3: W or C over its limit
abbrev pub LargePart : List ℕ → Type 0
LargePart file = (32768 < W file) ⊎ (65536 < C file)

-- 4: an offset or part end outside its bounds
abbrev pub PartOutside : List ℕ → Type 0
PartOutside file =
    ((program_offset file < 16) ⊎ (length file < program_offset file + 2 * W file))
    ⊎ ((data_offset file < 16) ⊎ (length file < data_offset file + C file))

-- 15 (02, L11): single-memory board and 2W plus C over 65,536
abbrev pub SmallBoard : LoadGiven → Type 0
SmallBoard g = (g.board ≡ SingleMemory) × (65536 < 2 * W g.file + C g.file)

-- 18 (02, L14): a range with first over last
abbrev pub RangeTurned : LoadGiven → Type 0
RangeTurned g = (g.range.locked ≡ 0 → ⊥) × (g.range.last < g.range.first)

-- 5: PC or the return address (02, L12) odd
abbrev pub OddPlace : State → Type 0
OddPlace s = (s.pc % 2 ≡ 0 → ⊥) ⊎ (s.return_address % 2 ≡ 0 → ⊥)

-- 6: n plus budget over 4,294,967,295
abbrev pub TooMany : Given → Type 0
TooMany g = 4294967295 < g.state.n + g.budget

-- 14 (02, L7): the journal holds fewer than k steps: it is shorter than the count of its entries and so holds none, or k is over that
-- count or over n
abbrev pub ShortJournal : BackGiven → Type 0
ShortJournal g =
    ((length g.journal < g.state.journaled) × (0 < g.k)) ⊎ (g.state.journaled < g.k) ⊎ (g.state.n < g.k)

-- ---- Load: 1 to 4, 15, 18

pub record LoadRefusals (g : LoadGiven) : Type 0 where
  pub number_1 : ((load_left g).reply ≡ refused 1) ↔ Lengths g.P g.D g.I g.O
  pub number_2 : ((load_left g).reply ≡ refused 2) ↔ ((Lengths g.P g.D g.I g.O → ⊥) × ShortFile g.file)
  pub number_3 :
      ((load_left g).reply ≡ refused 3)
      ↔ ((Lengths g.P g.D g.I g.O → ⊥) × (ShortFile g.file → ⊥) × LargePart g.file)
  pub number_4 :
      ((load_left g).reply ≡ refused 4)
      ↔ ((Lengths g.P g.D g.I g.O → ⊥) × (ShortFile g.file → ⊥) × (LargePart g.file → ⊥) × PartOutside g.file)
  pub number_15 :
      ((load_left g).reply ≡ refused 15)
      ↔ ((Lengths g.P g.D g.I g.O → ⊥)
      × (ShortFile g.file → ⊥)
      × (LargePart g.file → ⊥)
      × (PartOutside g.file → ⊥)
      × SmallBoard g)
  pub number_18 :
      ((load_left g).reply ≡ refused 18)
      ↔ ((Lengths g.P g.D g.I g.O → ⊥)
      × (ShortFile g.file → ⊥)
      × (LargePart g.file → ⊥)
      × (PartOutside g.file → ⊥)
      × (SmallBoard g → ⊥)
      × RangeTurned g)
  pub accepts :
      ((load_left g).reply ≡ accepted)
      ↔ ((Lengths g.P g.D g.I g.O → ⊥)
      × (ShortFile g.file → ⊥)
      × (LargePart g.file → ⊥)
      × (PartOutside g.file → ⊥)
      × (SmallBoard g → ⊥)
      × (RangeTurned g → ⊥))
  -- no other number
  pub no_other : (k : ℕ) → (load_left g).reply ≡ refused k → (k ≡ 1) ⊎ (k ≡ 2) ⊎ (k ≡ 3) ⊎ (k ≡ 4) ⊎ (k ≡ 15) ⊎ (k ≡ 18)
  -- Nothing lent changes; the state beside the number is the reset one.
  pub nothing_changes :
      (k : ℕ) → (load_left g).reply ≡ refused k
      → load_left g ≡ record { reply = refused k; state = reset; P = g.P; D = g.D; I = g.I; O = g.O }

-- ---- Set: 1, which looks at I only

pub record SetRefusals (g : SetGiven) : Type 0 where
  pub number_1 : ((set_left g).reply ≡ refused 1) ↔ (length g.I ≡ 256 → ⊥)
  pub accepts : ((set_left g).reply ≡ accepted) ↔ (length g.I ≡ 256)
  pub no_other : (k : ℕ) → (set_left g).reply ≡ refused k → k ≡ 1
  pub nothing_changes : (k : ℕ) → (set_left g).reply ≡ refused k → set_left g ≡ record { reply = refused k; I = g.I }

-- ---- Raise (02, L12): 16, line over 7

pub record RaiseRefusals (s : State) (line : ℕ) : Type 0 where
  pub number_16 : ((raise_left s line).reply ≡ refused 16) ↔ (7 < line)
  pub accepts : ((raise_left s line).reply ≡ accepted) ↔ (line ≤ 7)
  pub no_other : (k : ℕ) → (raise_left s line).reply ≡ refused k → k ≡ 16
  -- The state is as handed.
  pub nothing_changes : (k : ℕ) → (raise_left s line).reply ≡ refused k → raise_left s line ≡ record { reply = refused k; state = s }

-- ---- Runs: 1, 5, 6, whatever the run goes by: the rules, the control table, or another table, with a journal or without.
-- `run_by_control` promises `run_left`; the other runs, which also count, promise `counted_left`.

abbrev pub Accepts : Stepper → Given → Type 0
Accepts v g = (q : ℕ) × (s : ℕ) × (k : ℕ) × ((run_left v g).reply ≡ stopped q s k)

pub record RunRefusals (v : Stepper) (g : Given) : Type 0 where
  pub number_1 : ((run_left v g).reply ≡ run_refused 1) ↔ Lengths g.P g.D g.I g.O
  pub number_5 : ((run_left v g).reply ≡ run_refused 5) ↔ ((Lengths g.P g.D g.I g.O → ⊥) × OddPlace g.state)
  pub number_6 : ((run_left v g).reply ≡ run_refused 6) ↔ ((Lengths g.P g.D g.I g.O → ⊥) × (OddPlace g.state → ⊥) × TooMany g)
  pub accepts : Accepts v g ↔ ((Lengths g.P g.D g.I g.O → ⊥) × (OddPlace g.state → ⊥) × (TooMany g → ⊥))
  pub no_other : (k : ℕ) → (run_left v g).reply ≡ run_refused k → (k ≡ 1) ⊎ (k ≡ 5) ⊎ (k ≡ 6)
  -- Nothing lent changes, and the state is as handed.
  pub nothing_changes :
      (k : ℕ) → (run_left v g).reply ≡ run_refused k
      → run_left v g ≡ left (run_refused k) g.state g.P g.D g.I g.O g.log g.journal
  -- A run that counts leaves the same besides its counts and its ticks (specs/Ticks.antt); the counts are zero where it is refused.
  pub without_counts : (counted_left v g).left ≡ run_left v g
  pub no_counts : (k : ℕ) → (run_left v g).reply ≡ run_refused k → (counted_left v g).usage ≡ unused

-- ---- Going back: 1, 5, 14

abbrev pub AcceptsBack : BackGiven → Type 0
AcceptsBack g = (entries : ℕ) × ((back_left g).reply ≡ gone_back entries)

pub record BackRefusals (g : BackGiven) : Type 0 where
  pub number_1 : ((back_left g).reply ≡ back_refused 1) ↔ Lengths g.P g.D g.I g.O
  pub number_5 : ((back_left g).reply ≡ back_refused 5) ↔ ((Lengths g.P g.D g.I g.O → ⊥) × OddPlace g.state)
  pub number_14 :
      ((back_left g).reply ≡ back_refused 14)
      ↔ ((Lengths g.P g.D g.I g.O → ⊥) × (OddPlace g.state → ⊥) × ShortJournal g)
  pub accepts : AcceptsBack g ↔ ((Lengths g.P g.D g.I g.O → ⊥) × (OddPlace g.state → ⊥) × (ShortJournal g → ⊥))
  pub no_other : (k : ℕ) → (back_left g).reply ≡ back_refused k → (k ≡ 1) ⊎ (k ≡ 5) ⊎ (k ≡ 14)
  pub nothing_changes :
      (k : ℕ) → (back_left g).reply ≡ back_refused k
      → back_left g ≡ record { reply = back_refused k; state = g.state; P = g.P; D = g.D; I = g.I; O = g.O; journal = g.journal }

pub record Refusals : Type 0 where
  pub load : (g : LoadGiven) → LoadRefusals g
  pub setting : (g : SetGiven) → SetRefusals g
  pub raise : (s : State) (line : ℕ) → RaiseRefusals s line
  pub run : (v : Stepper) (g : Given) → RunRefusals v g
  pub back : (g : BackGiven) → BackRefusals g
