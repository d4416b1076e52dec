-- What the private functions of a step promise. Nothing here is promised to a caller.
use Rattle.std.specs.Prelude.{ℕ, ◌/◌, ◌%◌, Bool, ◌&&◌, ◌||◌, List, eqb, get_or, Option, Result}
use Rattle.std.specs.declared.option.Option.TheVariants.{Some, None}
use Rattle.std.specs.declared.result.Result.TheVariants.{Ok, Err}
use Rattle.word.specs.Fields.{a_of, b_of, f_of, N6}
use Rattle.word.specs.Codes.{below6_but}
use Rattle.word.specs.Word.{pick, add, SE}
use Rattle.machine.specs.declared.State.{State}
use Rattle.machine.specs.declared.Stop.{Stop}
use Rattle.machine.specs.declared.Stop.TheVariants.{Unassigned, FullLog, ZeroDivisor}
use Rattle.machine.specs.Machine.{R, put_pc, count}
use Rattle.machine.specs.Step.{interrupt_rules}
use Rattle.control.specs.Control.{unit, result_of, inputs_after, next, writes_port, stored_data, written, assigned, zero_divisor, interrupt_assigned}

-- the unit's result in a state
abbrev pub unit_of : ℕ → ℕ → State → ℕ
unit_of c w s = unit c w (R s (a_of w)) (R s (b_of w))

-- the state after a step with data D and inputs I, and the data after it
abbrev pub state_after : ℕ → ℕ → State → List ℕ → List ℕ → State
state_after c w s D I = written c w (result_of c w (unit_of c w s) s.pc D I) (put_pc (next c w (R s (a_of w)) s.pc) (count s))

abbrev pub data_after : ℕ → ℕ → State → List ℕ → List ℕ
data_after c w s D = stored_data c (R s (b_of w)) (unit_of c w s) D

-- the second operand is zero where the unit divides
abbrev pub is_zero_divisor : ℕ → ℕ → State → Bool
is_zero_divisor c w s = zero_divisor c w (R s (b_of w))

-- why w is not stepped, where it touches no locked byte
abbrev pub stop_of : ℕ → ℕ → State → Bool → Option Stop
stop_of c w s full =
    pick (assigned c w) (pick (is_zero_divisor c w s) (Some ZeroDivisor) (pick (writes_port c && full) (Some FullLog) None)) (Some Unassigned)

-- PC+2, and the count
abbrev pub advanced_of : State → State
advanced_of s = put_pc (add s.pc 2) (count s)

-- the state after a step where a result v is written, with PC+2
abbrev pub done_with : ℕ → ℕ → ℕ → State → State
done_with c w v s = written c w v (advanced_of s)

-- an answer, with the inputs left
pub record Answered : Type 0 where
  pub answer : Result State Stop
  pub inputs : List ℕ

abbrev pub with_inputs : Result State Stop → List ℕ → Answered
with_inputs r I = record { answer = r; inputs = I }

-- what is answered and left where nothing is stored, with PC+2
abbrev pub result_answer : ℕ → ℕ → State → List ℕ → List ℕ → Answered
result_answer c w s D I =
    pick (assigned c w)
    (pick (is_zero_divisor c w s)
    (with_inputs (Err ZeroDivisor) I)
    (with_inputs (Ok (done_with c w (result_of c w (unit_of c w s) s.pc D I) s)) (inputs_after c w I)))
    (with_inputs (Err Unassigned) I)

-- ---- Bit 15

-- the state after EI, DI, RETI or GETIID, by f, from the one with PC+2 and the count
abbrev pub interrupt_of : ℕ → ℕ → State → State
interrupt_of c w next = get_or (interrupt_rules (written c w) next) (f_of w) next

-- what is answered
abbrev pub interrupt_answer : ℕ → ℕ → State → Result State Stop
interrupt_answer c w s = pick (interrupt_assigned c w) (Ok (interrupt_of c w (advanced_of s))) (Err Unassigned)

-- ---- The groups. None has bit 15.

-- Ra+SE(N6)
abbrev pub address_of : ℕ → State → ℕ
address_of w s = add (R s (a_of w)) (SE 6 (N6 w))

-- assigned, no store, and PC+2
abbrev pub is_result : ℕ → Bool
is_result c = eqb (c / 1024) 16

-- in it: the result is the unit's, which is an operation on Ra and Rb; or a comparison of them, with an f that the unit takes
abbrev pub is_operation : ℕ → Bool
is_operation c = eqb (c / 4 % 256) 0

abbrev pub is_comparison : ℕ → ℕ → Bool
is_comparison c w = eqb (c / 4 % 256) 8 && below6_but 2 (f_of w)

-- the unit's result is Ra+SE(N6)
abbrev pub is_sum : ℕ → Bool
is_sum c = eqb (c / 32 % 32) 10

-- data memory at Ra+SE(N6) is stored to; no destination, PC+2, assigned
abbrev pub is_store : ℕ → Bool
is_store c = eqb (c % 1024) 320 && (eqb (c / 1024) 17 || eqb (c / 1024) 18)

-- all fields but the next PC are 0, and assigned
abbrev pub is_jump : ℕ → Bool
is_jump c = eqb (c % 4096) 0 && eqb (c / 16384) 1

-- PC becomes Ra and the result is PC+2; no store, unit 0, assigned
abbrev pub is_link : ℕ → Bool
is_link c = eqb (c / 1024) 28 && eqb (c / 4 % 64) 3
