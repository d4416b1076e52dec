-- The journal of a run (02, L7): one 64-bit entry a step, in a coding of ours, of what the step overwrote; and a step taken back by such
-- an entry.
use Rattle.std.specs.Prelude.{ℕ, ◌+◌, ◌-◌, ◌*◌, ◌/◌, ◌%◌, Bool, ◌&&◌, List, [], ◌∷◌, eqb, get_or, set}
use Rattle.std.specs.Int.Bits.{bit_or}
use Rattle.word.specs.Fields.{opcode, e_of, f_of, N8}
use Rattle.word.specs.Word.{pick, clear0}
use Rattle.machine.specs.declared.State.{State}
use Rattle.machine.specs.Machine.{Machine, lowest_line, with_line, takes_line, put_enabled, put_pending, put_taken, R, put_r, put_pc, put_n, on_state, put_d, put_i, word_at, put_word, put_byte}
use Rattle.machine.specs.Step.{PC, A, A', d5_3, d8_6, d11_9, fetched}
use Rattle.machine.specs.Run.{fetches_a}

-- ---- What a step overwrites

-- nothing; or Rk, the data word at k, the data byte at k or output k, which held v; or, by a read of the key, Rk, which held v, and input 0,
-- which held s; or (02, L12) the enable flag, which held v; or, by taking line k, the enable flag, which held e, the line number, which held j,
-- and the return address, which held v
pub data Overwritten : Type 0 where
  nothing : Overwritten
  register data_word data_byte output_word : (k v : ℕ) → Overwritten
  key_read : (k v s : ℕ) → Overwritten
  enable_flag : (v : ℕ) → Overwritten
  line_taken : (k e j v : ℕ) → Overwritten

-- what Rd holds
abbrev pub in_register : ℕ → Machine → Overwritten
in_register d m = register d (R m.state d)

-- IN from port N8 overwrites Rd, and from port 1 (02, L8) input 0 too
abbrev pub by_input : ℕ → Machine → Overwritten
by_input w m = pick (eqb (N8 w) 1) (key_read (d11_9 w) (R m.state (d11_9 w)) (get_or m.I 0 0)) (in_register (d11_9 w) m)

-- EI, DI and RETI overwrite the enable flag, GETIID Rd (02, L12)
abbrev pub by_opcode12 : ℕ → Machine → Overwritten
by_opcode12 w m = pick (eqb (f_of w) 3) (in_register (d5_3 w) m) (enable_flag m.state.enabled)

-- by taking a line
abbrev pub by_taking : State → Overwritten
by_taking s = line_taken (lowest_line s.pending) s.enabled s.line s.return_address

-- by the step of w, from the machine m before it: by opcode, as the table of rules
abbrev pub overwritten_by : ℕ → Machine → List Overwritten
overwritten_by w m =
    -- 0 to 3: AND to SHL, CMPLT to CMPLEU, ADDI, LD
    in_register (d5_3 w) m
    ∷ in_register (d5_3 w) m
    ∷ in_register (d8_6 w) m
    ∷ in_register (d8_6 w) m
    -- 4 to 7: ST, LDB, STB, JALR
    ∷ data_word (A' w m) (word_at m.D (A' w m))
    ∷ in_register (d8_6 w) m
    ∷ data_byte (A w m) (get_or m.D (A w m) 0)
    ∷ in_register (d8_6 w) m
    -- 8 to 12: BZ and BNZ, MOVI and MOVHI, IN and OUT, MUL to DIVU, EI to GETIID
    ∷ nothing
    ∷ in_register (d11_9 w) m
    ∷ pick (eqb (e_of w) 0) (by_input w m) (output_word (N8 w) (get_or m.O (N8 w) 0))
    ∷ in_register (d5_3 w) m
    ∷ by_opcode12 w m
    ∷ []

unfoldable pub overwritten : ℕ → Machine → Overwritten
overwritten w m = get_or (overwritten_by w m) (opcode w) nothing

-- by the step that m takes: a line is taken, or the word fetched is done
abbrev pub overwritten_at : Machine → Overwritten
overwritten_at m = pick (takes_line m.state) (by_taking m.state) (overwritten (fetched m) m)

-- ---- The coding: bits 15..0 PC, 31..16 what was held (v), 47..32 where (k), 55..48 what (0 nothing, 1 a register, 2 a data word,
-- 3 a data byte, 4 an output, 5 a read of the key, 6 the enable flag, 7 a line taken), 63..56 the register of a read of the key, whose bits 47..32
-- are what input 0 held, or the line taken, whose bits 39..32 are the enable flag's and 47..40 the line number's; otherwise 0

abbrev pub coded : ℕ → ℕ → ℕ → ℕ → ℕ → ℕ
coded pc v k what which = pc + 65536 * v + 4294967296 * k + 281474976710656 * what + 72057594037927936 * which

abbrev pub pc_in : ℕ → ℕ
pc_in x = x % 65536

abbrev pub value_in : ℕ → ℕ
value_in x = x / 65536 % 65536

abbrev pub place_in : ℕ → ℕ
place_in x = x / 4294967296 % 65536

abbrev pub what_in : ℕ → ℕ
what_in x = x / 281474976710656 % 256

abbrev pub which_in : ℕ → ℕ
which_in x = x / 72057594037927936 % 256

abbrev pub entry_with : ℕ → Overwritten → ℕ
entry_with pc nothing = coded pc 0 0 0 0
entry_with pc (register k v) = coded pc v k 1 0
entry_with pc (data_word k v) = coded pc v k 2 0
entry_with pc (data_byte k v) = coded pc v k 3 0
entry_with pc (output_word k v) = coded pc v k 4 0
entry_with pc (key_read k v s) = coded pc v s 5 k
entry_with pc (enable_flag v) = coded pc v 0 6 0
entry_with pc (line_taken k e j v) = coded pc v (e + 256 * j) 7 k

-- the entry of the step that m takes
unfoldable pub entry_of : Machine → ℕ
entry_of m = entry_with (PC m) (overwritten_at m)

-- ---- A step taken back, by any 64-bit number

-- what a number says was overwritten, by its `what`: a register and a line are 0 to 7, a data word stands at an even address, an output, an enable
-- flag and a line number are 0 to 255
abbrev pub readings : ℕ → List Overwritten
readings x =
    nothing
    ∷ register (place_in x % 8) (value_in x)
    ∷ data_word (clear0 (place_in x)) (value_in x)
    ∷ data_byte (place_in x) (value_in x)
    ∷ output_word (place_in x % 256) (value_in x)
    ∷ key_read (which_in x % 8) (value_in x) (place_in x)
    ∷ enable_flag (value_in x % 256)
    ∷ line_taken (which_in x % 8) (place_in x % 256) (place_in x / 256) (value_in x)
    ∷ []

-- nothing where `what` is over 7
unfoldable pub overwritten_in : ℕ → Overwritten
overwritten_in x = get_or (readings x) (what_in x) nothing

-- output k holds v again; no entry of L
abbrev pub put_back_o : ℕ → ℕ → Machine → Machine
put_back_o k v m = record { state = m.state; P = m.P; D = m.D; I = m.I; O = set m.O k v; L = m.L }

abbrev pub put_back : Overwritten → Machine → Machine
put_back nothing m = m
put_back (register k v) m = on_state (put_r k v) m
put_back (data_word k v) m = put_d (put_word k v m.D) m
put_back (data_byte k v) m = put_d (put_byte k v m.D) m
put_back (output_word k v) m = put_back_o k v m
put_back (key_read k v s) m = put_i 0 s (on_state (put_r k v) m)
put_back (enable_flag v) m = on_state (put_enabled v) m
-- the line has its bit again
put_back (line_taken k e j v) m = on_state (λ s. put_enabled e (put_pending (with_line k s.pending) (put_taken j v s))) m

-- What was overwritten is there again, PC is that before the step, and n is less by 1.
unfoldable pub undo : ℕ → Machine → Machine
undo x m = on_state (λ s. put_pc (pc_in x) (put_n (s.n - 1) s)) (put_back (overwritten_in x) m)

-- the entry is an output's: its step added an entry to L
abbrev pub is_output : ℕ → Bool
is_output x = eqb (what_in x) 4

-- the word is IN from port 1
abbrev pub reads_key : ℕ → Bool
reads_key w = eqb (opcode w) 10 && eqb (e_of w) 0 && eqb (N8 w) 1

-- Where the step of m read the key, input 0 is again what it held before; the other inputs stay as they are.
abbrev pub key_back : Machine → List ℕ → List ℕ
key_back m I = pick (fetches_a reads_key m) (set I 0 (get_or m.I 0 0)) I

-- after the steps of these machines are taken back, the last first
unfoldable pub keys_back : List Machine → List ℕ → List ℕ
keys_back [] I = I
keys_back (m ∷ ms) I = keys_back ms (key_back m I)

-- m, but for its inputs and its log
abbrev pub but_for : List ℕ → List ℕ → Machine → Machine
but_for I L m = record { state = m.state; P = m.P; D = m.D; I = I; O = m.O; L = L }

-- m with further lines pending, bit k of `lines` for line k: what was raised since
abbrev pub with_lines : ℕ → Machine → Machine
with_lines lines m = on_state (λ s. put_pending (bit_or s.pending lines) s) m
