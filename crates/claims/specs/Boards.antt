-- The single-memory board (02, L11): what a load leaves on it, byte by byte; that its lent program memory is never read; and that runs and
-- going back leave the board as it is.
use Rattle.std.specs.Prelude.{◌≡◌, true, List, ℕ, ◌+◌, ◌-◌, ◌*◌, ◌<◌, ◌≤◌, length, get_or, replicate}
use Rattle.refusal.specs.Refusals.{accepted}
use Rattle.machine.specs.declared.Board.TheVariants.{SingleMemory}
use Rattle.machine.specs.Machine.{is_single, reset_on}
use Rattle.machine.specs.Run.{Stepper, by_rules}
use Rattle.image.specs.declared.Range.{Range}
use Rattle.image.specs.Image.{W, program_offset, C, data_offset, with_range, LoadGiven, LoadLeft, load_left}
use Rattle.save.specs.Saved.{SaveGiven, SaveLeft, save_left}
use Rattle.control.specs.Control.{by_control}
use Rattle.run.specs.Runs.{Given, given, Left, left, CountedLeft, counted_left}
use Rattle.back.specs.Backs.{BackGiven, BackLeft, back_left}

-- ---- A load for the single-memory board

pub record SingleLoad (file : List ℕ) (range : Range) (l : LoadLeft) : Type 0 where
  pub long : length l.D ≡ 65536
  -- Byte k of data memory is the program part's for k below 2W,
  pub the_program_part : (k : ℕ) → k < 2 * W file → get_or l.D k 0 ≡ get_or file (program_offset file + k) 0
  -- the data part's byte k - 2W for k below 2W + C,
  pub the_data_part : (k : ℕ) → 2 * W file ≤ k → k < 2 * W file + C file → get_or l.D k 0 ≡ get_or file (data_offset file + (k - 2 * W file)) 0
  -- and else 0.
  pub zero_after : (k : ℕ) → 2 * W file + C file ≤ k → get_or l.D k 0 ≡ 0
  -- The lent program memory is zeroed, and so are both ports; the state is a reset one of that board, with the range named.
  pub program : l.P ≡ replicate 65536 0
  pub inputs : l.I ≡ replicate 256 0
  pub outputs : l.O ≡ replicate 256 0
  pub state : l.state ≡ with_range range (reset_on SingleMemory)

-- ---- Two calls that differ only in the bytes of P

-- what is given, with P in the place of its program memory; what is left, likewise
abbrev pub run_given_p : List ℕ → Given → Given
run_given_p P g = given g.state P g.D g.I g.O g.budget g.log g.journal

abbrev pub left_p : List ℕ → Left → Left
left_p P l = left l.reply l.state P l.D l.I l.O l.log l.journal

abbrev pub run_left_p : List ℕ → CountedLeft → CountedLeft
run_left_p P c = record { left = left_p P c.left; usage = c.usage; ticks = c.ticks }

abbrev pub back_given_p : List ℕ → BackGiven → BackGiven
back_given_p P g = record { state = g.state; P = P; D = g.D; I = g.I; O = g.O; journal = g.journal; k = g.k }

abbrev pub back_left_p : List ℕ → BackLeft → BackLeft
back_left_p P l = record { reply = l.reply; state = l.state; P = P; D = l.D; I = l.I; O = l.O; journal = l.journal }

abbrev pub save_given_p : List ℕ → SaveGiven → SaveGiven
save_given_p P g = record { state = g.state; P = P; D = g.D; destination = g.destination }

abbrev pub save_left_p : List ℕ → SaveLeft → SaveLeft
save_left_p P l = record { reply = l.reply; state = l.state; P = P; D = l.D; destination = l.destination }

-- P stays as it was, and whatever it holds (of the same length), the call leaves the same besides it: reply, state, memory, ports, log, journal,
-- counts and ticks.
pub record RunNeverReads (v : Stepper) (g : Given) : Type 0 where
  pub stays : (counted_left v g).left.P ≡ g.P
  pub same : (P : List ℕ) → length P ≡ length g.P → counted_left v (run_given_p P g) ≡ run_left_p P (counted_left v g)

-- ---- The claim

pub record Boards : Type 0 where
  pub load :
      (g : LoadGiven) (l : LoadLeft) → l ≡ load_left g → l.reply ≡ accepted → g.board ≡ SingleMemory → SingleLoad g.file g.range l
  -- On the single-memory board P is never read: by a run by the rules, with a journal or without,
  pub through_rules : (g : Given) → is_single g.state ≡ true → RunNeverReads by_rules g
  -- by a run by any table, of which a run by the paper's and a host step are one,
  pub through_control : (words : List ℕ) (g : Given) → is_single g.state ≡ true → RunNeverReads (by_control words) g
  -- by going back (on either board),
  pub back : (g : BackGiven) (P : List ℕ) → length P ≡ length g.P → back_left (back_given_p P g) ≡ back_left_p P (back_left g)
  pub back_stays : (g : BackGiven) → (back_left g).P ≡ g.P
  -- and by a save.
  pub save :
      (g : SaveGiven) → is_single g.state ≡ true → (P : List ℕ) → length P ≡ length g.P
      → save_left (save_given_p P g) ≡ save_left_p P (save_left g)
  pub save_stays : (g : SaveGiven) → (save_left g).P ≡ g.P
  -- Runs and going back leave the board as it is, whatever they go by.
  pub run_board : (words : List ℕ) (g : Given) → (counted_left (by_control words) g).left.state.board ≡ g.state.board
  pub rules_board : (g : Given) → (counted_left by_rules g).left.state.board ≡ g.state.board
  pub back_board : (g : BackGiven) → (back_left g).state.board ≡ g.state.board
