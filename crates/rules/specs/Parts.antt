-- What the private functions of a step promise. Nothing here is promised to a caller.
use Rattle.std.specs.Prelude.{◌≡◌, Bool, ◌&&◌, List, [], ◌∷◌, ℕ, ◌+◌, ◌*◌, ◌/◌, ◌%◌, eqb, get_or, Result}
use Rattle.word.specs.Fields.{a_of, b_of, e_of, f_of, N6, N8}
use Rattle.word.specs.Word.{pick, add, clear0, SE}
use Rattle.machine.specs.declared.State.{State}
use Rattle.machine.specs.declared.Stop.{Stop}
use Rattle.machine.specs.Machine.{Machine, R, put_r, put_pc, count, on_state, put_d, word_at}
use Rattle.machine.specs.Step.{d5_3, d8_6, among, interrupt_rules, choice, step_by}
use Rattle.machine.specs.Held.{outcome_of, reason_of, state_left}

-- ---- A step of w with the opcode op, from the state s

-- PC+2, and the count
abbrev pub advanced_of : State → State
advanced_of s = put_pc (add s.pc 2) (count s)

pub record Begun (op w : ℕ) (s next : State) : Type 0 where
  pub opcode : w / 4096 ≡ op
  pub advanced : next ≡ advanced_of s

-- What a step at no port answers, r, and leaves in data memory, D', in each machine with state s and data D.
pub record RuleMeets (w : ℕ) (s : State) (D : List ℕ) (r : Result State Stop) (D' : List ℕ) : Type 0 where
  pub machine :
      (m : Machine) → m.state ≡ s → m.D ≡ D
      → outcome_of m (step_by (choice w) w m) ≡ record { reason = reason_of r; after = on_state (λ u. state_left s r) (put_d D' m) }

-- w, of opcode 11, divides; and Rb is zero
abbrev pub is_division : ℕ → Bool
is_division w = among (f_of w) (4 ∷ 5 ∷ [])

abbrev pub divides_by_zero : ℕ → State → Bool
divides_by_zero w s = is_division w && eqb (R s (b_of w)) 0

-- ---- What a rule writes, read from the state s before the step and the data D

abbrev pub ra_of : ℕ → State → ℕ
ra_of w s = R s (a_of w)

abbrev pub rb_of : ℕ → State → ℕ
rb_of w s = R s (b_of w)

-- Ra+SE(N6)
abbrev pub sum_of : ℕ → State → ℕ
sum_of w s = add (ra_of w s) (SE 6 (N6 w))

-- LD and LDB
abbrev pub word_of : ℕ → State → List ℕ → ℕ
word_of w s D = word_at D (clear0 (sum_of w s))

abbrev pub byte_of : ℕ → State → List ℕ → ℕ
byte_of w s D = SE 8 (get_or D (sum_of w s) 0)

-- MOVI and MOVHI
abbrev pub move_of : ℕ → State → ℕ
move_of w s = pick (eqb (e_of w) 0) (SE 8 (N8 w)) (ra_of w s % 256 + N8 w * 256)

-- PC+2+2·SE(N8)
abbrev pub target_of : ℕ → ℕ → ℕ
target_of w pc = add (add pc 2) (SE 8 (N8 w) * 2)

-- ---- The state after a rule that names PC or enable, from the one with PC+2 and the count

-- JALR
abbrev pub link_of : ℕ → State → State → State
link_of w s next = put_pc (clear0 (ra_of w s)) (put_r (d8_6 w) next.pc next)

-- BZ and BNZ
abbrev pub branch_of : ℕ → State → State → State
branch_of w s next =
    let there = put_pc (target_of w s.pc) next in
    pick (eqb (ra_of w s) 0) (pick (eqb (e_of w) 0) there next) (pick (eqb (e_of w) 0) next there)

-- EI, DI, RETI and GETIID, by f
abbrev pub interrupt_of : ℕ → State → State
interrupt_of w next = get_or (interrupt_rules (put_r (d5_3 w)) next) (f_of w) next
