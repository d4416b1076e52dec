-- What the fields come to in each group.
-- Assumes nothing.
use mathlib.Core.Path.{◌≡◌, refl, sym, ap, ◌∙◌}
use mathlib.Core.Bool.{Bool, true, false, ◌||◌, and-eq-true_iff}
use mathlib.Core.List.{List}
use Prim.Native.Nat.{ℕ, ◌/◌, ◌%◌}
use native.Mathlib.Nat.{div-div-eq-div-mul}
use native.Mathlib.Omega.{arith}
use borrow.Author.Tests.{eqb-true}
use lib.Arith.{mod-mul}
use lib.Dec.{eqb}
use Rattle.word.specs.Fields.{a_of, b_of, f_of, N6}
use Rattle.word.specs.Word.{add, clear0, SE, operation, comparison}
use Rattle.word.proofs.Computed.{all}
use Rattle.std.specs.declared.result.Result.TheVariants.{Ok}
use Rattle.machine.specs.declared.State.{State}
use Rattle.machine.specs.Machine.{R, put_pc, count}
use Rattle.word.specs.Codes.{below6_but}
use Rattle.control.specs.Control.{second, unit, result_of, inputs_after, next, by_interrupt, writes_port, stored_data, written, takes, assigned, zero_divisor}
use Rattle.datapath.specs.Parts.{unit_of, state_after, data_after, is_zero_divisor, done_with, with_inputs, result_answer, address_of, is_result, is_operation, is_comparison, is_sum, is_store, is_jump, is_link}
use Rattle.datapath.proofs.Choice.{alike_f}

-- ---- Bits of a field that is known as part of a wider one

unit_of_lem : (c : ℕ) → c % 4096 ≡ 0 → c / 32 % 8 ≡ 0
unit_of_lem c e = let m : c / 32 % 128 ≡ 0 = omega (arith, mod-mul c {m = 128} {c = 32} (omega arith) (omega arith)) in omega (arith, m)

result_of_lem : (c : ℕ) → c % 4096 ≡ 0 → c / 4 % 8 ≡ 0
result_of_lem c e = let m : c / 4 % 1024 ≡ 0 = omega (arith, mod-mul c {m = 1024} {c = 4} (omega arith) (omega arith)) in omega (arith, m)

store_of : (c : ℕ) → c % 4096 ≡ 0 → c / 1024 % 4 ≡ 0
store_of c e = omega (arith, mod-mul c {m = 4} {c = 1024} (omega arith) (omega arith))

-- the bits from 10 on: by interrupt, assigned, next and store
upper : (c : ℕ) {v : ℕ} → c / 1024 ≡ v → (c / 16384 % 2 ≡ v / 16 % 2) × (c / 4096 % 4 ≡ v / 4 % 4) × (c / 1024 % 4 ≡ v % 4) × (c / 32768 % 2 ≡ v / 32 % 2)
upper c e = (
  rw (← div-div-eq-div-mul c 1024 16) (omega arith),
  rw (← div-div-eq-div-mul c 1024 4) (omega arith),
  omega arith,
  rw (← div-div-eq-div-mul c 1024 32) (omega arith),
)

-- 17 or 18 in them: assigned, PC+2, a store to data memory
data_store : (v : ℕ) → (eqb v 17 || eqb v 18) ≡ true → (v / 16 % 2 ≡ 1) × (v / 4 % 4 ≡ 0) × (eqb (v % 4) 3 ≡ false) × (v / 32 % 2 ≡ 0)
data_store v = by_test (eqb v 17) refl
  where
    by_test : (t : Bool) → eqb v 17 ≡ t → (t || eqb v 18) ≡ true → (v / 16 % 2 ≡ 1) × (v / 4 % 4 ≡ 0) × (eqb (v % 4) 3 ≡ false) × (v / 32 % 2 ≡ 0)
    by_test true q e = rw (eqb-true v 17 q) (refl, refl, refl, refl)
    by_test false q e = rw (eqb-true v 18 e) (refl, refl, refl, refl)

-- bits 7..2: unit and result
lower : (c : ℕ) {v : ℕ} → c / 4 % 64 ≡ v → (c / 32 % 8 ≡ v / 8) × (c / 4 % 8 ≡ v % 8)
lower c e = (rw (← div-div-eq-div-mul c 4 8) (omega arith), omega arith)

-- bits 9..2: the second operand before them
middle : (c : ℕ) {v : ℕ} → c / 4 % 256 ≡ v → (c / 256 % 4 ≡ v / 64) × (c / 4 % 64 ≡ v % 64)
middle c e = (rw (← div-div-eq-div-mul c 4 64) (omega arith), omega arith)

-- ---- The unit's result

-- bits 9..5 are 10: Ra+SE(N6)
pub sums : (c w x y : ℕ) → c / 32 % 32 ≡ 10 → unit c w x y ≡ add x (SE 6 (N6 w))
unfolding unit second
sums c w x y e =
    let u : c / 32 % 8 ≡ 2 = omega arith in
    let z : c / 256 % 4 ≡ 1 = omega arith in
    rw (u, z)

-- Ra+SE(N6), of Ra as it was read
pub address_is : (w : ℕ) (s : State) {x v : ℕ} → v ≡ add x (SE 6 (N6 w)) → x ≡ R s (a_of w) → v ≡ address_of w s
address_is w s e ex = e ∙ ap (λ y. add y (SE 6 (N6 w))) ex

-- ---- The groups

module _ (c w : ℕ) (s : State) where
  -- no store, PC+2, assigned
  pub record Result : Type 0 where
    pub by_fields : by_interrupt c ≡ false
    pub no_port : writes_port c ≡ false
    pub on : next c w (R s (a_of w)) s.pc ≡ add s.pc 2
    pub no_store : (D : List ℕ) → data_after c w s D ≡ D

  pub result_group : is_result c ≡ true → Result
  unfolding next stored_data
  result_group e =
      let h = upper c (eqb-true _ 16 e) in
      record { by_fields = rw h.3; no_port = rw (h.3, h.2); on = rw h.1; no_store = λ D. rw h.2 }

  -- its own groups, each with its result
  module _ (D I : List ℕ) (e : is_result c ≡ true) where
    pub operation_group : is_operation c ≡ true → result_answer c w s D I ≡ with_inputs (Ok (done_with c w (operation (f_of w) (R s (a_of w)) (R s (b_of w))) s)) I
    unfolding assigned zero_divisor result_of inputs_after unit second
    operation_group g =
        let m = middle c (eqb-true _ 0 g) in
        let l = lower c m.1 in
        rw ((upper c (eqb-true _ 16 e)).0, m.0, l.0, l.1)

    pub comparison_group : is_comparison c w ≡ true → result_answer c w s D I ≡ with_inputs (Ok (done_with c w (comparison (f_of w) (R s (a_of w)) (R s (b_of w))) s)) I
    unfolding assigned zero_divisor result_of inputs_after unit second all
    comparison_group g =
        let p = (and-eq-true_iff (eqb (c / 4 % 256) 8) (below6_but 2 (f_of w))).0 g in
        let m = middle c (eqb-true _ 8 p.0) in
        let l = lower c m.1 in
        rw ((upper c (eqb-true _ 16 e)).0, m.0, l.0, l.1, sym (alike_f (below6_but 2) (takes 1) tt (f_of w) (omega arith)) ∙ p.1)

    pub sum_group : is_sum c ≡ true → result_answer c w s D I ≡ with_inputs (Ok (done_with c w (result_of c w (address_of w s) s.pc D I) s)) (inputs_after c w I)
    unfolding assigned zero_divisor
    sum_group g =
        let bits : c / 32 % 32 ≡ 10 = eqb-true _ _ g in
        let u : c / 32 % 8 ≡ 2 = omega arith in
        rw ((upper c (eqb-true _ 16 e)).0, u, sums c w (R s (a_of w)) (R s (b_of w)) bits)

  pub record Store : Type 0 where
    pub by_fields : by_interrupt c ≡ false
    pub is_assigned_lem : assigned c w ≡ true
    pub no_zero : is_zero_divisor c w s ≡ false
    pub no_port : writes_port c ≡ false
    pub address : unit_of c w s ≡ address_of w s
    pub state : (D I : List ℕ) → state_after c w s D I ≡ put_pc (add s.pc 2) (count s)
    pub no_read : (I : List ℕ) → inputs_after c w I ≡ I

  pub store_group : is_store c ≡ true → Store
  unfolding assigned zero_divisor inputs_after next written
  store_group e =
      let p = (and-eq-true_iff (eqb (c % 1024) 320) (eqb (c / 1024) 17 || eqb (c / 1024) 18)).0 e in
      let l : c % 1024 ≡ 320 = eqb-true _ _ p.0 in
      let h = upper c refl in
      let t = data_store (c / 1024) p.1 in
      let u : c / 32 % 8 ≡ 2 = omega arith in
      let bits : c / 32 % 32 ≡ 10 = omega arith in
      let r : c / 4 % 8 ≡ 0 = omega arith in
      let d : c / 1 % 4 ≡ 0 = omega arith in
      let n : c / 4096 % 4 ≡ 0 = h.1 ∙ t.1 in
      let a : c / 16384 % 2 ≡ 1 = h.0 ∙ t.0 in
      let i : c / 32768 % 2 ≡ 0 = h.3 ∙ t.3 in
      record {
        by_fields = rw i;
        is_assigned_lem = rw (a, u);
        no_zero = rw u;
        no_port = rw (i, h.2, t.2);
        address = sums c w _ _ bits;
        state = λ D I. rw (d, n);
        no_read = λ I. rw r;
      }

  -- no store, and this state after the step
  pub record Moved (after : State) : Type 0 where
    pub by_fields : by_interrupt c ≡ false
    pub is_assigned_lem : assigned c w ≡ true
    pub no_zero : is_zero_divisor c w s ≡ false
    pub no_port : writes_port c ≡ false
    pub state : (D I : List ℕ) → state_after c w s D I ≡ after
    pub no_store : (D : List ℕ) → data_after c w s D ≡ D
    pub no_read : (I : List ℕ) → inputs_after c w I ≡ I

  pub jump_group : is_jump c ≡ true → Moved (put_pc (next c w (R s (a_of w)) s.pc) (count s))
  unfolding assigned zero_divisor inputs_after stored_data written
  jump_group e =
      let q = (and-eq-true_iff (eqb (c % 4096) 0) (eqb (c / 16384) 1)).0 e in
      let low : c % 4096 ≡ 0 = eqb-true _ _ q.0 in
      let high : c / 16384 ≡ 1 = eqb-true _ _ q.1 in
      let a : c / 16384 % 2 ≡ 1 = omega arith in
      let i : c / 32768 % 2 ≡ 0 = omega arith in
      let u : c / 32 % 8 ≡ 0 = unit_of_lem c low in
      let d : c / 1 % 4 ≡ 0 = omega arith in
      let st : c / 1024 % 4 ≡ 0 = store_of c low in
      record { by_fields = rw i; is_assigned_lem = rw (a, u); no_zero = rw u; no_port = rw (i, st); state = λ D I. rw d; no_store = λ D. rw st; no_read = λ I. rw (result_of_lem c low) }

  pub link_group : is_link c ≡ true → Moved (written c w (add s.pc 2) (put_pc (clear0 (R s (a_of w))) (count s)))
  unfolding assigned zero_divisor stored_data result_of inputs_after next
  link_group e =
      let q = (and-eq-true_iff (eqb (c / 1024) 28) (eqb (c / 4 % 64) 3)).0 e in
      let h = upper c (eqb-true _ 28 q.0) in
      let l = lower c (eqb-true _ 3 q.1) in
      record { by_fields = rw h.3; is_assigned_lem = rw (h.0, l.0); no_zero = rw l.0; no_port = rw (h.3, h.2); state = λ D I. rw (l.1, h.1); no_store = λ D. rw h.2; no_read = λ I. rw l.1 }
