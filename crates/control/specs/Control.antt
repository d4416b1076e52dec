-- The control table (01): the fields of a control word c, a step by them, and the table's 32 words. w is the instruction
-- word and m the machine before the step; registers are read before any is written.
-- Open: a field value that 01 and 02 do not list (unit 6 and 7, result 5 to 7, second operand 3) stands for the number 0, and so does
-- unit 5's value for an f that it does not take or a zero divisor; such a result reads no port. No word of the table has such a field, and
-- no step looks at such a value of unit 5.
use Rattle.std.specs.Prelude.{ℕ, ◌+◌, ◌*◌, ◌%◌, Bool, true, not, ◌&&◌, List, [], ◌∷◌, ◌++◌, eqb, get_or}
use Rattle.word.specs.Fields.{bits, field, opcode, a_of, b_of, e_of, f_of, N6, N8}
use Rattle.word.specs.Word.{pick, add, clear0, SE, operation, comparison}
use Rattle.muldiv.specs.Muldiv.{muldiv}
use Rattle.machine.specs.declared.State.{State}
use Rattle.machine.specs.Machine.{Machine, touches_locked, bytes_at, R, put_r, put_pc, count, on_state, put_d, read_from, on_inputs, put_o, word_at, put_word, put_byte}
use Rattle.machine.specs.Step.{PC, Ra, Rb, d5_3, d8_6, d11_9, among, interrupt_rules, Next, cannot, to, step_with}
use Rattle.machine.specs.Run.{Stepper, fetches_a}

-- ---- What the step computes, of Ra (x), Rb (y), the unit's result (u), PC, data and inputs

-- Bits 9..8 second operand: 0 Rb, 1 SE(N6), 2 SE(N8).
unfoldable pub second : ℕ → ℕ → ℕ → ℕ
second c w y = get_or (y ∷ SE 6 (N6 w) ∷ SE 8 (N8 w) ∷ []) (field (bits 9 8) c) 0

-- Bits 7..5 unit: 0 opcode 0's operations by f, 1 comparisons by f, 2 sum, 3 second operand, 4 low byte of the first under
-- low byte of the second, 5 products and quotients by f. First operand: Ra.
abbrev pub units : ℕ → ℕ → ℕ → List ℕ
units f x z = operation f x z ∷ comparison f x z ∷ add x z ∷ z ∷ (x % 256 + z % 256 * 256) ∷ muldiv f x z ∷ []

abbrev pub unit_field : ℕ → ℕ
unit_field c = field (bits 7 5) c

unfoldable pub unit : ℕ → ℕ → ℕ → ℕ → ℕ
unit c w x y = get_or (units (f_of w) x (second c w y)) (unit_field c) 0

-- Bits 4..2 result: 0 unit, 1 word read, 2 SE of the byte read, 3 PC+2, 4 input. The unit's result is the data address, with
-- bit 0 cleared for a word; N8 is the port.
abbrev pub result_field : ℕ → ℕ
result_field c = field (bits 4 2) c

abbrev pub results : ℕ → ℕ → ℕ → List ℕ → List ℕ → List ℕ
results w u pc D I = u ∷ word_at D (clear0 u) ∷ SE 8 (get_or D u 0) ∷ add pc 2 ∷ get_or I (N8 w) 0 ∷ []

unfoldable pub result_of : ℕ → ℕ → ℕ → ℕ → List ℕ → List ℕ → ℕ
result_of c w u pc D I = get_or (results w u pc D I) (result_field c) 0

-- Result 4 reads the port N8, so that from port 1 it sets input 0 to zero (02, L8), whatever the destination. No other result looks at a port.
unfoldable pub inputs_after : ℕ → ℕ → List ℕ → List ℕ
inputs_after c w I = pick (eqb (result_field c) 4) (read_from (N8 w) I) I

-- Bits 13..12 next: 0 PC+2, 1 branch if Ra is zero, 2 if not (both as rule 8), 3 jump to Ra with bit 0 cleared.
unfoldable pub next : ℕ → ℕ → ℕ → ℕ → ℕ
next c w x pc =
    let on = add pc 2 in
    let target = add on (SE 8 (N8 w) * 2) in
    let is_zero = eqb x 0 in
    get_or (on ∷ pick is_zero target on ∷ pick is_zero on target ∷ clear0 x ∷ []) (field (bits 13 12) c) 0

-- ---- What the step changes

-- Bits 11..10 store: 0 none, 1 word Rb, 2 byte Rb, 3 port from Ra.
abbrev pub store_field : ℕ → ℕ
store_field c = field (bits 11 10) c

-- Bit 15 (02, L12) leaves the choice to f; then the other fields but the destination are not looked at.
abbrev pub by_interrupt : ℕ → Bool
by_interrupt c = eqb (field (bits 15 15) c) 1

-- 3: the step writes a port
abbrev pub writes_port : ℕ → Bool
writes_port c = not (by_interrupt c) && eqb (store_field c) 3

-- 0 to 2: the data after it
unfoldable pub stored_data : ℕ → ℕ → ℕ → List ℕ → List ℕ
stored_data c y u D = get_or (D ∷ put_word (clear0 u) y D ∷ put_byte u y D ∷ []) (store_field c) D

unfoldable pub stored : ℕ → ℕ → ℕ → ℕ → ℕ → Machine → Machine
stored c w x y u m = pick (writes_port c) (put_o (N8 w) x m) (put_d (stored_data c y u m.D) m)

-- Bits 1..0 destination: 0 none, 1 bits 5..3, 2 bits 8..6, 3 bits 11..9.
unfoldable pub written : ℕ → ℕ → ℕ → State → State
written c w v s = get_or (s ∷ put_r (d5_3 w) v s ∷ put_r (d8_6 w) v s ∷ put_r (d11_9 w) v s ∷ []) (field (bits 1 0) c) s

-- the machine after: the store, what the read of an input took, n grows by 1, PC, and the destination
unfoldable pub performed : ℕ → ℕ → Machine → Machine
performed c w m =
    let x = Ra w m in
    let y = Rb w m in
    let u = unit c w x y in
    let v = result_of c w u (PC m) m.D m.I in
    on_state (λ s. written c w v (put_pc (next c w x (PC m)) (count s))) (on_inputs (inputs_after c w) (stored c w x y u m))

-- ---- Whether it can be done

-- a unit that goes by f takes these f; any other takes all
abbrev pub takes : ℕ → ℕ → Bool
takes u f = pick (eqb u 1) (among f (0 ∷ 1 ∷ 3 ∷ 4 ∷ 5 ∷ [])) (pick (eqb u 5) (among f (0 ∷ 1 ∷ 2 ∷ 4 ∷ 5 ∷ [])) true)

-- Bit 14: assigned, in units 1 and 5 also by f.
unfoldable pub assigned : ℕ → ℕ → Bool
assigned c w = eqb (field (bits 14 14) c) 1 && takes (unit_field c) (f_of w)

-- Unit 5 divides where f is 4 or 5. The divisor is the second operand.
abbrev pub divides : ℕ → ℕ → Bool
divides u f = eqb u 5 && among f (4 ∷ 5 ∷ [])

unfoldable pub zero_divisor : ℕ → ℕ → ℕ → Bool
zero_divisor c w y = divides (unit_field c) (f_of w) && eqb (second c w y) 0

-- Result 1 and store 1 touch the word at the unit's result with bit 0 cleared, result 2 and store 2 the byte (02, L14).
abbrev pub touched_by : ℕ → ℕ → List ℕ
touched_by k u = get_or ([] ∷ bytes_at (clear0 u) ∷ (u ∷ []) ∷ []) k []

-- The step touches a locked byte, whatever its destination.
unfoldable pub locked_access : ℕ → ℕ → State → Bool
locked_access c w s =
    let u = unit c w (R s (a_of w)) (R s (b_of w)) in
    touches_locked (touched_by (result_field c) u ++ touched_by (store_field c) u) s

-- ---- Bit 15: f 0 to 3 is EI, DI, RETI, GETIID, the last with the destination that bits 1..0 choose; PC+2 comes first, and n grows by 1

unfoldable pub interrupted : ℕ → ℕ → Machine → Machine
interrupted c w m =
    on_state (λ s. count (let on = put_pc (add s.pc 2) s in get_or (interrupt_rules (written c w) on) (f_of w) on)) m

-- Bit 14, and one of these f.
unfoldable pub interrupt_assigned : ℕ → ℕ → Bool
interrupt_assigned c w = eqb (field (bits 14 14) c) 1 && among (f_of w) (0 ∷ 1 ∷ 2 ∷ 3 ∷ [])

-- ---- The step: stop 1, then 3, then 4. With bit 15 nothing is touched.

unfoldable pub control_step : ℕ → ℕ → Machine → Next
control_step c w m =
    pick (by_interrupt c)
    (pick (interrupt_assigned c w) (to (interrupted c w m)) (cannot 1))
    (pick (assigned c w)
    (pick (zero_divisor c w (Rb w m)) (cannot 3) (pick (locked_access c w m.state) (cannot 4) (to (performed c w m))))
    (cannot 1))

-- ---- The table: 32 words, at opcode times 2 plus e

abbrev pub table : List ℕ
table =
    -- opcodes 0 to 7, both e
    0x4001 ∷ 0x4001
    ∷ 0x4021 ∷ 0x4021
    ∷ 0x4142 ∷ 0x4142
    ∷ 0x4146 ∷ 0x4146
    ∷ 0x4540 ∷ 0x4540
    ∷ 0x414A ∷ 0x414A
    ∷ 0x4940 ∷ 0x4940
    ∷ 0x700E ∷ 0x700E
    -- 8: BZ, BNZ
    ∷ 0x5000 ∷ 0x6000
    -- 9: MOVI, MOVHI
    ∷ 0x4263 ∷ 0x4283
    -- 10: IN, OUT
    ∷ 0x4013 ∷ 0x4C00
    -- 11, both e
    ∷ 0x40A1 ∷ 0x40A1
    -- 12, both e
    ∷ 0xC001 ∷ 0xC001
    -- the rest 0
    ∷ 0 ∷ 0 ∷ 0 ∷ 0 ∷ 0 ∷ 0
    ∷ []

-- the word of a table for an instruction word
unfoldable pub control_in : List ℕ → ℕ → ℕ
control_in words w = get_or words (opcode w * 2 + e_of w) 0

abbrev pub control_of : ℕ → ℕ
control_of w = control_in table w

-- ---- What a run by a table goes by: the table's word for the word fetched, where no line is to be taken (02, L12) and the fetch touches no locked
-- byte (02, L14)

abbrev pub by_control : List ℕ → Stepper
by_control words =
    record {
      steps = step_with (λ w m. control_step (control_in words w) w m);
      port_write = fetches_a (λ w. writes_port (control_in words w));
    }

abbrev pub by_the_table : Stepper
by_the_table = by_control table
