-- The trim file, called an image here, and loading it (01, "Loading", "Refusal table").
use Rattle.std.specs.Prelude.{ℕ, ◌+◌, ◌-◌, ◌*◌, Bool, true, ◌&&◌, ◌||◌, List, [], ◌++◌, ◌≡◌, eqb, leb, length, get_or, take, drop, replicate}
use Rattle.refusal.specs.Refusals.{Verdict, accepted, refused, shown_check}
use Rattle.word.specs.Word.{pick}
use Rattle.machine.specs.declared.State.{State}
use Rattle.machine.specs.declared.Board.{Board}
use Rattle.machine.specs.declared.Board.TheVariants.{TwoMemories, SingleMemory}
use Rattle.machine.specs.Machine.{Machine, put_locked, reset, reset_on}
use Rattle.machine.specs.Lengths.{lengths_fit}
use Rattle.machine.specs.Slices.{MutSlice, Slice, before, after, read_before}
use Rattle.image.specs.declared.Range.{Range}
use Rattle.image.specs.declared.Loaded.{Loaded}

-- ---- The file

-- a 32-bit little-endian number
abbrev pub number32 : List ℕ → ℕ → ℕ
number32 file k = get_or file k 0 + 256 * get_or file (k + 1) 0 + 65536 * get_or file (k + 2) 0 + 16777216 * get_or file (k + 3) 0

-- Header: four 32-bit little-endian numbers: W program words, their offset, C data bytes, their offset.
abbrev pub W : List ℕ → ℕ
W file = number32 file 0

abbrev pub program_offset : List ℕ → ℕ
program_offset file = number32 file 4

abbrev pub C : List ℕ → ℕ
C file = number32 file 8

abbrev pub data_offset : List ℕ → ℕ
data_offset file = number32 file 12

-- W is at most 32,768, C at most 65,536.
abbrev pub parts_fit : List ℕ → Bool
parts_fit file = leb (W file) 32768 && leb (C file) 65536

-- Each offset is at least 16, and offset plus part length (2W bytes, C bytes) is at most the file length, also for an
-- empty part.
abbrev pub inside : List ℕ → ℕ → ℕ → Bool
inside file offset count = leb 16 offset && leb (offset + count) (length file)

abbrev pub parts_inside : List ℕ → Bool
parts_inside file = inside file (program_offset file) (2 * W file) && inside file (data_offset file) (C file)

-- ---- The machine that 01 loads from a file, for the board that is named (02, L11)

-- a part of the file
abbrev pub part_of : List ℕ → ℕ → ℕ → List ℕ
part_of file offset count = take count (drop offset file)

-- a memory: the part, and zeros
abbrev pub memory_of : List ℕ → ℕ → ℕ → List ℕ
memory_of file offset count = part_of file offset count ++ replicate (65536 - count) 0

-- the single memory (02, L11): the program part goes to address 0, the data part to address 2W; and zeros
abbrev pub single_memory_of : List ℕ → List ℕ
single_memory_of file =
    part_of file (program_offset file) (2 * W file) ++ part_of file (data_offset file) (C file) ++ replicate (65536 - (2 * W file + C file)) 0

-- Loading copies the parts to P[0..] and D[0..], and zeroes all other memory; on the single-memory board P is zeroed.
abbrev pub loaded_p : Board → List ℕ → List ℕ
loaded_p TwoMemories file = memory_of file (program_offset file) (2 * W file)
loaded_p SingleMemory file = replicate 65536 0

abbrev pub loaded_d : Board → List ℕ → List ℕ
loaded_d TwoMemories file = memory_of file (data_offset file) (C file)
loaded_d SingleMemory file = single_memory_of file

-- A load may name a range of data memory (02, L14), first to last, both in it, or none: the flag 0 names none, any other a range. The state keeps
-- it, the flag as 1; all three are 0 for none.
abbrev pub with_range : Range → State → State
with_range range s = pick (eqb range.locked 0) (put_locked 0 0 0 s) (put_locked 1 range.first range.last s)

-- It zeroes the ports too, and returns a reset machine, of the board and with the range named.
unfoldable pub loaded : List ℕ → Board → Range → Machine
loaded file board range =
    record {
      state = with_range range (reset_on board);
      P = loaded_p board file;
      D = loaded_d board file;
      I = replicate 256 0;
      O = replicate 256 0;
      L = [];
    }

-- ---- The call

pub record LoadGiven : Type 0 where
  pub file : List ℕ
  pub board : Board
  pub range : Range
  pub P : List ℕ
  pub D : List ℕ
  pub I : List ℕ
  pub O : List ℕ

pub record LoadLeft : Type 0 where
  pub reply : Verdict
  pub state : State
  pub P : List ℕ
  pub D : List ℕ
  pub I : List ℕ
  pub O : List ℕ

-- 15 is where this fails: single-memory board and 2W plus C over 65,536 (02, L11)
abbrev pub board_holds : Board → List ℕ → Bool
board_holds TwoMemories file = true
board_holds SingleMemory file = leb (2 * W file + C file) 65536

-- Load 1 to 4, 15: a number is given when its condition holds and no earlier test does. All but 1 are tests of file and board alone.
unfoldable pub file_reply : List ℕ → Board → Verdict
file_reply file board =
    pick (leb 16 (length file))
    (pick (parts_fit file)
    (pick (parts_inside file) (pick (board_holds board file) accepted (refused 15)) (refused 4))
    (refused 3))
    (refused 2)

-- 18, after them, is where this fails: a range with first over last (02, L14)
abbrev pub range_fits : Range → Bool
range_fits range = eqb range.locked 0 || leb range.first range.last

abbrev pub then_range : Range → Verdict → Verdict
then_range range accepted = pick (range_fits range) accepted (refused 18)
then_range range (refused k) = refused k

unfoldable pub load_reply : LoadGiven → Verdict
load_reply g = pick (lengths_fit g.P g.D g.I g.O) (then_range g.range (file_reply g.file g.board)) (refused 1)

-- A refused load changes nothing lent; the state beside its number is the reset one.
abbrev pub load_left_by : Verdict → LoadGiven → LoadLeft
load_left_by accepted g =
    let m = loaded g.file g.board g.range in
    record { reply = accepted; state = m.state; P = m.P; D = m.D; I = m.I; O = m.O }
load_left_by (refused k) g = record { reply = refused k; state = reset; P = g.P; D = g.D; I = g.I; O = g.O }

unfoldable pub load_left : LoadGiven → LoadLeft
load_left g = load_left_by (load_reply g) g

-- ---- The contract, of load's parameters in their order and what it replies

abbrev pub file_lent : Slice → Board → Range → MutSlice → MutSlice → MutSlice → MutSlice → LoadGiven
file_lent file board range program memory inputs outputs =
    record { file = read_before file; board = board; range = range; P = before program; D = before memory; I = before inputs; O = before outputs }

-- the same, all lent by &
abbrev pub file_shown : Slice → Board → Range → Slice → Slice → Slice → Slice → LoadGiven
file_shown file board range program memory inputs outputs =
    record {
      file = read_before file;
      board = board;
      range = range;
      P = read_before program;
      D = read_before memory;
      I = read_before inputs;
      O = read_before outputs;
    }

abbrev pub loaded_with : MutSlice → MutSlice → MutSlice → MutSlice → Loaded → LoadLeft
loaded_with program memory inputs outputs r =
    record { reply = shown_check r.reply; state = r.state; P = after program; D = after memory; I = after inputs; O = after outputs }

abbrev pub Loads : Slice → Board → Range → MutSlice → MutSlice → MutSlice → MutSlice → Loaded → Type 0
Loads file board range program memory inputs outputs r =
    loaded_with program memory inputs outputs r ≡ load_left (file_lent file board range program memory inputs outputs)
