-- What holds of a step by any control word, and of a line taken before one: it adds 1 to n, keeps an even PC and an even return address even, drops no entry of L, leaves the count of journal
-- entries, the board and the locked range, keeps P and the lengths, and does not look at L. So it holds of a run by any table, and of the plain machine, whose steps are the
-- table's.
-- Assumes nothing.
use mathlib.Core.Path.{◌≡◌, refl, sym, ap, subst, ◌∙◌}
use mathlib.Core.Bool.{Bool, true, false}
use mathlib.Core.Logic.{◌⊎◌, inl, inr, ⊎_elim}
use mathlib.Core.List.{List, [], ◌∷◌, ◌++◌, append_assoc}
use Prim.Native.Nat.{ℕ, ◌+◌, ◌*◌, ◌%◌, ◌≤◌}
use native.Mathlib.Omega.{arith}
use lib.Dec.{eqb}
use lib.ListN.{length, get_or, length-append, length-set}
use Rattle.word.specs.Fields.{bits, field, f_of, N8}
use Rattle.word.specs.Word.{pick, add, clear0, SE}
use Rattle.word.proofs.Tables.{looked_up}
use Rattle.word.proofs.Tests.{clash, either}
use Rattle.machine.specs.declared.State.{State}
use Rattle.machine.specs.Machine.{Machine, takes_line, line_taken_by, fetch_locked, put_r, put_pc, count, on_state, put_d, on_inputs, put_o, put_word, put_byte}
use Rattle.machine.specs.Step.{PC, Ra, Rb, d5_3, d8_6, d11_9, interrupt_rules, fetched, Next, cannot, to, taking}
use Rattle.machine.specs.Run.{Stepper, by_rules}
use Rattle.machine.proofs.Inputs.{read_length}
use Rattle.machine.proofs.Runs.{unwritten, Even, Lawful}
use Rattle.control.specs.Control.{by_interrupt, interrupt_assigned, interrupted, unit, result_of, inputs_after, next, store_field, writes_port, stored_data, stored, written, performed, assigned, zero_divisor, locked_access, control_step, control_in, by_control, table}
use Rattle.control.proofs.Agreement.{same_stepper}

-- ---- The parts

-- the destination's write keeps all but the registers
abbrev apart : State → ℕ × (ℕ × (ℕ × (ℕ × (ℕ × ℕ × ℕ × ℕ × ℕ))))
apart s = (s.pc, (s.n, (s.return_address, (s.pending, unwritten s))))

written_keeps : (c w v : ℕ) (s : State) → apart (written c w v s) ≡ apart s
unfolding written
written_keeps c w v s =
    looked_up (λ t. apart t ≡ apart s) (s ∷ put_r (d5_3 w) v s ∷ put_r (d8_6 w) v s ∷ put_r (d11_9 w) v s ∷ []) (refl, (refl, (refl, (refl, tt)))) refl
    (field (bits 1 0) c)

added : (x y : ℕ) → x % 2 ≡ 0 → add x (y * 2) % 2 ≡ 0
added x y h = omega arith

next_even : (c w x pc : ℕ) → pc % 2 ≡ 0 → next c w x pc % 2 ≡ 0
unfolding next
next_even c w x pc h =
    let on = add pc 2 in
    let target = add on (SE 8 (N8 w) * 2) in
    let on_even : on % 2 ≡ 0 = added pc 1 h in
    let target_even : target % 2 ≡ 0 = added on (SE 8 (N8 w)) on_even in
    looked_up (λ p. p % 2 ≡ 0) (on ∷ pick (eqb x 0) target on ∷ pick (eqb x 0) on target ∷ clear0 x ∷ [])
    (on_even, (either (λ p. p % 2 ≡ 0) (eqb x 0) target_even on_even, (either (λ p. p % 2 ≡ 0) (eqb x 0) on_even target_even, (omega arith, tt))))
    refl (field (bits 13 12) c)

data_length : (c y u : ℕ) (D : List ℕ) → length (stored_data c y u D) ≡ length D
unfolding stored_data
data_length c y u D =
    looked_up (λ E. length E ≡ length D) (D ∷ put_word (clear0 u) y D ∷ put_byte u y D ∷ []) (refl, (simp length-set, (simp length-set, tt))) refl (store_field c)

inputs_length : (c w : ℕ) (I : List ℕ) → length (inputs_after c w I) ≡ length I
unfolding inputs_after
inputs_length c w I = either (λ (J : List ℕ). length J ≡ length I) (eqb (field (bits 4 2) c) 4) (read_length (N8 w) I) refl

-- what a step keeps: the program, and the lengths of the data memory and the ports
abbrev pub kept : Machine → List ℕ × ℕ × ℕ × ℕ
kept m = (m.P, length m.D, length m.I, length m.O)

-- a machine whose L has l in front
abbrev pub shift : List ℕ → Machine → Machine
shift l m = record { state = m.state; P = m.P; D = m.D; I = m.I; O = m.O; L = l ++ m.L }

record StoreKeeps (m after : Machine) : Type 0 where
  state : after.state ≡ m.state
  lent : kept after ≡ kept m
  grows : length m.L ≤ length after.L

store_keeps : (c w x y u : ℕ) (m : Machine) → StoreKeeps m (stored c w x y u m)
unfolding stored
store_keeps c w x y u m =
    either (StoreKeeps m) (writes_port c)
    (record { state = refl; lent = simp length-set; grows = simp length-append (omega arith) })
    (record { state = refl; lent = simp data_length; grows = omega arith })

store_shift : (c w x y u : ℕ) (l : List ℕ) (m : Machine) → stored c w x y u (shift l m) ≡ shift l (stored c w x y u m)
unfolding stored
store_shift c w x y u l m = go (writes_port c)
  where
    go : (t : Bool) → pick t (put_o (N8 w) x (shift l m)) (put_d (stored_data c y u m.D) (shift l m)) ≡ shift l (pick t (put_o (N8 w) x m) (put_d (stored_data c y u m.D) m))
    go true = simp append_assoc
    go false = refl

-- ---- The step

record Keeps (m after : Machine) : Type 0 where
  counts : after.state.n ≡ m.state.n + 1
  even : Even m.state → Even after.state
  grows : length m.L ≤ length after.L
  leaves : unwritten after.state ≡ unwritten m.state
  lent : kept after ≡ kept m

step_keeps : (c w : ℕ) (m : Machine) → Keeps m (performed c w m)
unfolding performed
step_keeps c w m =
    let x = Ra w m in
    let u = unit c w x (Rb w m) in
    let v = result_of c w u (PC m) m.D m.I in
    let p = next c w x (PC m) in
    let st = stored c w x (Rb w m) u m in
    let s = store_keeps c w x (Rb w m) u m in
    let r = written_keeps c w v (put_pc p (count st.state)) in
    record {
      counts = ap (λ z. z.1.0) r ∙ ap (λ (t : State). t.n + 1) s.state;
      even = λ h. (ap (λ z. z.0 % 2) r ∙ next_even c w x (PC m) h.0, ap (λ z. z.1.1.0 % 2) r ∙ ap (λ (t : State). t.return_address % 2) s.state ∙ h.1);
      grows = s.grows;
      leaves = ap (λ z. z.1.1.1.1) r ∙ ap unwritten s.state;
      lent = ap (λ k. (st.P, length st.D, k, length st.O)) (inputs_length c w st.I) ∙ s.lent;
    }

-- a line taken
taking_keeps : (m : Machine) → Keeps m (on_state (λ s. count (line_taken_by s)) m)
taking_keeps m =
    record { counts = refl; even = λ h. (refl, h.0); grows = omega arith; leaves = refl; lent = refl }

-- what a choice by f keeps of a state
record Stays (s t : State) : Type 0 where
  n : t.n ≡ s.n
  even : Even s → Even t
  leaves : unwritten t ≡ unwritten s
  lines : t.pending ≡ s.pending

interrupt_stays : (c w : ℕ) (s : State) → Stays s (get_or (interrupt_rules (written c w) s) (f_of w) s)
interrupt_stays c w s =
    let r = written_keeps c w s.line s in
    let kept : Stays s s = record { n = refl; even = λ h. h; leaves = refl; lines = refl } in
    looked_up (Stays s) (interrupt_rules (written c w) s) (
      record { n = refl; even = λ h. h; leaves = refl; lines = refl },
      (
        record { n = refl; even = λ h. h; leaves = refl; lines = refl },
        (
          record { n = refl; even = λ h. (h.1, h.1); leaves = refl; lines = refl },
          (
            record {
              n = ap (λ z. z.1.0) r;
              even = λ h. (ap (λ z. z.0 % 2) r ∙ h.0, ap (λ z. z.1.1.0 % 2) r ∙ h.1);
              leaves = ap (λ z. z.1.1.1.1) r;
              lines = ap (λ z. z.1.1.1.0) r;
            },
            tt,
          ),
        ),
      ),
    )
    kept (f_of w)

interrupt_keeps : (c w : ℕ) (m : Machine) → Keeps m (interrupted c w m)
unfolding interrupted
interrupt_keeps c w m =
    let x = interrupt_stays c w (put_pc (add (PC m) 2) m.state) in
    record {
      counts = ap (λ k. k + 1) x.n;
      even = λ h. x.even (added (PC m) 1 h.0, h.1);
      grows = omega arith;
      leaves = x.leaves;
      lent = refl;
    }

-- the lines that are pending, after a step by the fields and one by f
step_lines : (c w : ℕ) (m : Machine) → (performed c w m).state.pending ≡ m.state.pending
unfolding performed
step_lines c w m =
    let x = Ra w m in
    let u = unit c w x (Rb w m) in
    let st = stored c w x (Rb w m) u m in
    ap (λ z. z.1.1.1.0) (written_keeps c w (result_of c w u (PC m) m.D m.I) (put_pc (next c w x (PC m)) (count st.state)))
    ∙ ap (λ (t : State). t.pending) (store_keeps c w x (Rb w m) u m).state

interrupt_lines : (c w : ℕ) (m : Machine) → (interrupted c w m).state.pending ≡ m.state.pending
unfolding interrupted
interrupt_lines c w m = (interrupt_stays c w (put_pc (add (PC m) 2) m.state)).lines

step_shift : (c w : ℕ) (l : List ℕ) (m : Machine) → performed c w (shift l m) ≡ shift l (performed c w m)
unfolding performed
step_shift c w l m =
    let x = Ra w m in
    let u = unit c w x (Rb w m) in
    let v = result_of c w u (PC m) m.D m.I in
    ap (λ (z : Machine). on_state (λ s. written c w v (put_pc (next c w x (PC m)) (count s))) (on_inputs (inputs_after c w) z)) (store_shift c w x (Rb w m) u l m)

-- ---- What a stepper may be relied on for

abbrev pub shift_next : List ℕ → Next → Next
shift_next l (cannot q) = cannot q
shift_next l (to next) = to (shift l next)

pub record Local (v : Stepper) : Type 0 where
  pub keeps : (m next : Machine) → v.steps m ≡ to next → kept next ≡ kept m
  -- it does not look at L
  pub steps_shift : (l : List ℕ) (m : Machine) → v.steps (shift l m) ≡ shift_next l (v.steps m)
  pub writes_shift : (l : List ℕ) (m : Machine) → v.port_write (shift l m) ≡ v.port_write m

-- the step by a table's word, at a machine
abbrev word_at_lem : List ℕ → Machine → ℕ
word_at_lem words m = control_in words (fetched m)

abbrev zero_at : List ℕ → Machine → Bool
zero_at words m = zero_divisor (word_at_lem words m) (fetched m) (Rb (fetched m) m)

abbrev locked_at : List ℕ → Machine → Bool
locked_at words m = locked_access (word_at_lem words m) (fetched m) m.state

abbrev done_at : List ℕ → Machine → Machine
done_at words m = performed (word_at_lem words m) (fetched m) m

-- why a machine can't step
abbrev pub Reason : ℕ → Type 0
Reason q = (q ≡ 1) ⊎ ((q ≡ 3) ⊎ (q ≡ 4))

module _ (words : List ℕ) where
  -- where a word is fetched: bit 15 leaves the choice to f, or it is done by the fields, or it can't be done
  fetched_ways : (m : Machine) (Q : Next → Type 0) → Q (to (interrupted (word_at_lem words m) (fetched m) m)) → Q (to (done_at words m)) → Q (cannot 1) → Q (cannot 3) → Q (cannot 4)
      → Q (control_step (word_at_lem words m) (fetched m) m)
  unfolding control_step
  fetched_ways m Q by_f done none zero locked =
      let c = word_at_lem words m in
      let w = fetched m in
      either Q (by_interrupt c) (either Q (interrupt_assigned c w) by_f none) (either Q (assigned c w) (either Q (zero_at words m) zero (either Q (locked_at words m) locked done)) none)

  -- or a line is taken, or the fetch touches a locked byte
  ways : (m : Machine) (Q : Next → Type 0) → Q (taking m) → Q (to (interrupted (word_at_lem words m) (fetched m) m)) → Q (to (done_at words m)) → Q (cannot 1) → Q (cannot 3) → Q (cannot 4)
      → Q ((by_control words).steps m)
  ways m Q taken by_f done none zero locked = either Q (takes_line m.state) taken (either Q (fetch_locked m.state) locked (fetched_ways m Q by_f done none zero locked))

  -- where it stepped, it did what the control word says
  stepped : (m after : Machine) → (by_control words).steps m ≡ to after → Keeps m after
  stepped m after =
      let led : (x : Machine) → Keeps m x → to x ≡ to after → Keeps m after = λ x k e. let z : x ≡ after = cc in subst (Keeps m) z k in
      ways m (λ x. x ≡ to after → Keeps m after)
      (led _ (taking_keeps m))
      (led _ (interrupt_keeps (word_at_lem words m) (fetched m) m))
      (led _ (step_keeps (word_at_lem words m) (fetched m) m))
      (λ e. clash (cc))
      (λ e. clash (cc))
      (λ e. clash (cc))

  -- a step of a word leaves the lines that are pending
  lines_stay : (m after : Machine) → (by_control words).steps m ≡ to after → takes_line m.state ≡ false → after.state.pending ≡ m.state.pending
  lines_stay m after e t =
      let led : (x : Machine) → x.state.pending ≡ m.state.pending → to x ≡ to after → after.state.pending ≡ m.state.pending = λ x k e. let z : x ≡ after = cc in ap (λ (y : Machine). y.state.pending) (sym z) ∙ k in
      fetched_ways m (λ x. x ≡ to after → after.state.pending ≡ m.state.pending)
      (led _ (interrupt_lines (word_at_lem words m) (fetched m) m))
      (led _ (step_lines (word_at_lem words m) (fetched m) m))
      (λ e. clash (cc))
      (λ e. clash (cc))
      (λ e. clash (cc))
      (word_steps (fetch_locked m.state) (sym (ap (λ u. pick u (taking m) (pick (fetch_locked m.state) (cannot 4) (control_step (word_at_lem words m) (fetched m) m))) t) ∙ e))
    where
      word_steps : (b : Bool) → pick b (cannot 4) (control_step (word_at_lem words m) (fetched m) m) ≡ to after → control_step (word_at_lem words m) (fetched m) m ≡ to after
      word_steps true x = clash (cc)
      word_steps false x = x

  pub cannot_control : (m : Machine) (q : ℕ) → (by_control words).steps m ≡ cannot q → Reason q
  cannot_control m q =
      ways m (λ x. x ≡ cannot q → Reason q) (λ e. clash (cc)) (λ e. clash (cc)) (λ e. clash (cc)) (λ e. inl (cc)) (λ e. inr (inl (cc))) (λ e. inr (inr (cc)))

  pub lawful_control : Lawful (by_control words)
  lawful_control =
      record {
        reasons = λ m q e z. ⊎_elim (λ h. omega (arith, h)) (⊎_elim (λ h. omega (arith, h)) (λ h. omega (arith, h))) (cannot_control m q e);
        counts = λ m next e. (stepped m next e).counts;
        even = λ m next e. (stepped m next e).even;
        grows = λ m next e. (stepped m next e).grows;
        leaves = λ m next e. (stepped m next e).leaves;
        lines = lines_stay;
      }

  local_control : Local (by_control words)
  unfolding control_step fetched interrupted
  local_control =
      record {
        keeps = λ m next e. (stepped m next e).lent;
        steps_shift = λ l m. let c = word_at_lem words m in by_tests l m (takes_line m.state) (fetch_locked m.state) (by_interrupt c) (interrupt_assigned c (fetched m)) (assigned c (fetched m)) (zero_at words m) (locked_at words m);
        writes_shift = λ l m. refl;
      }
    where
      by_tests : (l : List ℕ) (m : Machine) (t f b i a z k : Bool)
          → pick t (taking (shift l m))
          (pick f (cannot 4)
          (pick b (pick i (to (interrupted (word_at_lem words m) (fetched m) (shift l m))) (cannot 1)) (pick a (pick z (cannot 3) (pick k (cannot 4) (to (performed (word_at_lem words m) (fetched m) (shift l m))))) (cannot 1))))
          ≡ shift_next l (pick t (taking m) (pick f (cannot 4) (pick b (pick i (to (interrupted (word_at_lem words m) (fetched m) m)) (cannot 1)) (pick a (pick z (cannot 3) (pick k (cannot 4) (to (done_at words m)))) (cannot 1)))))
      by_tests l m true f b i a z k = refl
      by_tests l m false true b i a z k = refl
      by_tests l m false false true true a z k = refl
      by_tests l m false false true false a z k = refl
      by_tests l m false false false i true true k = refl
      by_tests l m false false false i true false true = refl
      by_tests l m false false false i true false false = ap to (step_shift (word_at_lem words m) (fetched m) l m)
      by_tests l m false false false i false z k = refl

-- ---- The plain machine's

pub lawful_rules : Lawful by_rules
lawful_rules = subst Lawful same_stepper (lawful_control table)

pub local_rules : Local by_rules
local_rules = subst Local same_stepper (local_control table)

pub cannot_rules : (m : Machine) (q : ℕ) → by_rules.steps m ≡ cannot q → Reason q
cannot_rules = subst (λ v. (m : Machine) (q : ℕ) → v.steps m ≡ cannot q → Reason q) same_stepper (cannot_control table)
