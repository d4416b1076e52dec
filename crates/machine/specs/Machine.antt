-- The plain machine (01): its state, and what may be written in it.
use Rattle.std.specs.Prelude.{ℕ, zero, suc, ◌+◌, ◌-◌, ◌*◌, ◌/◌, ◌%◌, ◌^◌, Bool, false, not, ◌&&◌, ◌||◌, List, [], ◌∷◌, ◌++◌, eqb, leb, get_or, set, replicate}
use Rattle.std.specs.Int.Bits.{bit_or}
use Rattle.word.specs.Word.{pick, add}
use Rattle.machine.specs.declared.State.{State}
use Rattle.machine.specs.declared.Board.{Board}
use Rattle.machine.specs.declared.Board.TheVariants.{TwoMemories, SingleMemory}

-- ---- The register state: R0 to R7 and PC (16 bits each); n, the steps done (32 bits); the count of journal entries (02, L7; 64 bits);
-- the board's number (02, L11; 8 bits); an enable flag, a pending byte, a line number (8 bits each) and a return address (02, L12; 16 bits);
-- the locked range: a flag (8 bits), its first and its last address (02, L14; 16 bits each).

-- A reset machine has every register, PC and n at zero. The count of journal entries is 0 at a load. L12's four are 0 at reset. No range
-- is locked.
abbrev pub reset : State
reset = record { r = replicate 8 0; pc = 0; n = 0; journaled = 0; board = 0; enabled = 0; pending = 0; line = 0; return_address = 0; locked = 0; first_locked = 0; last_locked = 0 }

-- Rk
abbrev pub R : State → ℕ → ℕ
R s k = get_or s.r k 0

-- R0 to R7 become r
abbrev pub put_registers : List ℕ → State → State
put_registers r s = record { r = r; pc = s.pc; n = s.n; journaled = s.journaled; board = s.board; enabled = s.enabled; pending = s.pending; line = s.line; return_address = s.return_address; locked = s.locked; first_locked = s.first_locked; last_locked = s.last_locked }

-- Rd becomes v
abbrev pub put_r : ℕ → ℕ → State → State
put_r d v s = put_registers (set s.r d v) s

-- PC becomes v
abbrev pub put_pc : ℕ → State → State
put_pc v s = record { r = s.r; pc = v; n = s.n; journaled = s.journaled; board = s.board; enabled = s.enabled; pending = s.pending; line = s.line; return_address = s.return_address; locked = s.locked; first_locked = s.first_locked; last_locked = s.last_locked }

-- n becomes v
abbrev pub put_n : ℕ → State → State
put_n v s = record { r = s.r; pc = s.pc; n = v; journaled = s.journaled; board = s.board; enabled = s.enabled; pending = s.pending; line = s.line; return_address = s.return_address; locked = s.locked; first_locked = s.first_locked; last_locked = s.last_locked }

-- the count of journal entries becomes v
abbrev pub put_journaled : ℕ → State → State
put_journaled v s = record { r = s.r; pc = s.pc; n = s.n; journaled = v; board = s.board; enabled = s.enabled; pending = s.pending; line = s.line; return_address = s.return_address; locked = s.locked; first_locked = s.first_locked; last_locked = s.last_locked }

-- the board's number becomes v
abbrev pub put_board : ℕ → State → State
put_board v s = record { r = s.r; pc = s.pc; n = s.n; journaled = s.journaled; board = v; enabled = s.enabled; pending = s.pending; line = s.line; return_address = s.return_address; locked = s.locked; first_locked = s.first_locked; last_locked = s.last_locked }

-- the enable flag becomes v
abbrev pub put_enabled : ℕ → State → State
put_enabled v s = record { r = s.r; pc = s.pc; n = s.n; journaled = s.journaled; board = s.board; enabled = v; pending = s.pending; line = s.line; return_address = s.return_address; locked = s.locked; first_locked = s.first_locked; last_locked = s.last_locked }

-- the pending byte becomes v
abbrev pub put_pending : ℕ → State → State
put_pending v s = record { r = s.r; pc = s.pc; n = s.n; journaled = s.journaled; board = s.board; enabled = s.enabled; pending = v; line = s.line; return_address = s.return_address; locked = s.locked; first_locked = s.first_locked; last_locked = s.last_locked }

-- the line number and the return address become k and v
abbrev pub put_taken : ℕ → ℕ → State → State
put_taken k v s = record { r = s.r; pc = s.pc; n = s.n; journaled = s.journaled; board = s.board; enabled = s.enabled; pending = s.pending; line = k; return_address = v; locked = s.locked; first_locked = s.first_locked; last_locked = s.last_locked }

-- the locked range becomes first to last, with this flag
abbrev pub put_locked : ℕ → ℕ → ℕ → State → State
put_locked flag first last s = record { r = s.r; pc = s.pc; n = s.n; journaled = s.journaled; board = s.board; enabled = s.enabled; pending = s.pending; line = s.line; return_address = s.return_address; locked = flag; first_locked = first; last_locked = last }

-- n grows by 1
abbrev pub count : State → State
count s = put_n (s.n + 1) s

-- ---- The board (02, L11): with two memories, as 003 has it, or with the single memory of 004

-- its number in the state
abbrev pub board_number : Board → ℕ
board_number TwoMemories = 0
board_number SingleMemory = 1

-- the board that a number names: 0 is the one with two memories, any other the single-memory one
abbrev pub board_of : ℕ → Board
board_of k = pick (eqb k 0) TwoMemories SingleMemory

-- the state is one of the single-memory board; in a state that a host hands in any number is allowed
abbrev pub is_single : State → Bool
is_single s = not (eqb s.board 0)

-- a reset machine of a board
abbrev pub reset_on : Board → State
reset_on board = put_board (board_number board) reset

-- ---- Knob interrupts (02, L12)

-- enable is off for 0 and on for any other number
abbrev pub is_enabled : State → Bool
is_enabled s = not (eqb s.enabled 0)

-- bit k of a pending byte, for line k
abbrev pub bit_of : ℕ → ℕ → ℕ
bit_of k pending = pending / 2 ^ k % 2

-- line k's bit is set, set or not before
abbrev pub with_line : ℕ → ℕ → ℕ
with_line k pending = bit_or pending (2 ^ k)

-- line k's bit is clear
abbrev pub without_line : ℕ → ℕ → ℕ
without_line k pending = pick (eqb (bit_of k pending) 1) (pending - 2 ^ k) pending

-- the lowest line whose bit is set, of so many from line k on; past them all where none is
unfoldable pub lowest_from : ℕ → ℕ → ℕ → ℕ
lowest_from zero k pending = k
lowest_from (suc i) k pending = pick (eqb (bit_of k pending) 1) k (lowest_from i (suc k) pending)

-- of the eight lines
abbrev pub lowest_line : ℕ → ℕ
lowest_line pending = lowest_from 8 0 pending

-- Before each step's fetch, if enabled and a bit is set, the lowest line is taken:
abbrev pub takes_line : State → Bool
takes_line s = is_enabled s && not (eqb s.pending 0)

-- its bit clears, its number and PC are kept, PC becomes 0x0100, enable clears.
abbrev pub line_taken_by : State → State
line_taken_by s =
    let k = lowest_line s.pending in
    put_pc 0x0100 (put_enabled 0 (put_pending (without_line k s.pending) (put_taken k s.pc s)))

-- ---- Locked calibration (02, L14): bytes of data memory that a trim can neither read nor write

-- The range is first to last, both in it, or none: the flag 0 is none, any other a range, and first over last is a range without bytes. In a state
-- that a host hands in any numbers are allowed.
abbrev pub is_locked : ℕ → State → Bool
is_locked address s = not (eqb s.locked 0) && leb s.first_locked address && leb address s.last_locked

-- one of these bytes is locked
abbrev pub touches_locked : List ℕ → State → Bool
touches_locked [] s = false
touches_locked (a ∷ more) s = is_locked a s || touches_locked more s

-- the bytes of the word at k; k+1 is an address too, modulo 65,536
abbrev pub bytes_at : ℕ → List ℕ
bytes_at k = k ∷ add k 1 ∷ []

-- a fetch from data memory, that of the single-memory board, touches PC and PC+1; the other board's touches no data
abbrev pub fetch_locked : State → Bool
fetch_locked s = is_single s && touches_locked (bytes_at s.pc) s

-- ---- What a run is refused for

-- PC and the return address are even
abbrev pub even_places : State → Bool
even_places s = eqb (s.pc % 2) 0 && eqb (s.return_address % 2) 0

-- ---- The machine: program P and data D, 65,536 bytes each; inputs I and outputs O, 256 words of 16 bits each; the log L.
pub record Machine : Type 0 where
  pub state : State
  pub P : List ℕ
  pub D : List ℕ
  pub I : List ℕ
  pub O : List ℕ
  pub L : List ℕ

-- the register state changes
abbrev pub on_state : (State → State) → Machine → Machine
on_state f m = record { state = f m.state; P = m.P; D = m.D; I = m.I; O = m.O; L = m.L }

-- the data memory becomes D
abbrev pub put_d : List ℕ → Machine → Machine
put_d D m = record { state = m.state; P = m.P; D = D; I = m.I; O = m.O; L = m.L }

-- Set (p, v): I[p] becomes v. Nothing else changes.
abbrev pub put_i : ℕ → ℕ → Machine → Machine
put_i p v m = record { state = m.state; P = m.P; D = m.D; I = set m.I p v; O = m.O; L = m.L }

-- the inputs after a read of port p: reading port 1, the key's data, also sets input 0, the key's status, to zero (02, L8)
abbrev pub read_from : ℕ → List ℕ → List ℕ
read_from p I = pick (eqb p 1) (set I 0 0) I

-- the inputs change
abbrev pub on_inputs : (List ℕ → List ℕ) → Machine → Machine
on_inputs f m = record { state = m.state; P = m.P; D = m.D; I = f m.I; O = m.O; L = m.L }

-- O[p] becomes v, and L gains an entry: n before the step times 16,777,216, plus port times 65,536, plus value
abbrev pub put_o : ℕ → ℕ → Machine → Machine
put_o p v m =
    record {
      state = m.state;
      P = m.P;
      D = m.D;
      I = m.I;
      O = set m.O p v;
      L = m.L ++ ((m.state.n * 16777216 + p * 65536 + v) ∷ []);
    }

-- ---- Bytes and words of a memory, a list of bytes

-- the word at k and k+1, low byte first; k+1 is an address too, modulo 65,536
abbrev pub word_at : List ℕ → ℕ → ℕ
word_at M k = get_or M k 0 + 256 * get_or M (add k 1) 0

-- the word at k becomes v, low byte first; k is even
abbrev pub put_word : ℕ → ℕ → List ℕ → List ℕ
put_word k v M = set (set M k (v % 256)) (k + 1) (v / 256)

-- the byte at k becomes the low byte of v
abbrev pub put_byte : ℕ → ℕ → List ℕ → List ℕ
put_byte k v M = set M k (v % 256)
