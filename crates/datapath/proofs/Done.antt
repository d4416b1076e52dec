-- What a step by a control word comes to: it stops, or it is done, with an equation for each part.
-- Assumes nothing.
use mathlib.Core.Path.{◌≡◌, refl, sym, ap, subst, ◌∙◌}
use mathlib.Core.Bool.{Bool, true, false, not, ◌&&◌, and-eq-true_iff}
use mathlib.Core.List.{List, [], ◌∷◌}
use Prim.Native.Nat.{ℕ, ◌+◌, ◌*◌, ◌<◌, ◌≤◌}
use native.Mathlib.Omega.{arith}
use borrow.Author.Tests.{leb-false, lt-leb, eqb-true}
use lib.Dec.{eqb, leb}
use lib.ListN.{length, set, length-set, get_or, get_or-map}
use Rattle.word.specs.Fields.{bits, field, a_of, f_of, N8}
use Rattle.word.specs.Word.{pick, add}
use Rattle.machine.specs.declared.State.{State}
use Rattle.std.specs.Prelude.{Option, Result, is_some}
use Rattle.std.specs.declared.option.Option.TheVariants.{Some, None}
use Rattle.std.specs.declared.result.Result.TheVariants.{Ok, Err}
use Rattle.word.proofs.Tests.{never}
use Rattle.machine.specs.declared.Stop.{Stop}
use Rattle.machine.specs.declared.Stop.TheVariants.{Unassigned, FullLog, ZeroDivisor}
use Rattle.machine.specs.Stops.{stop_number}
use Rattle.machine.specs.Machine.{Machine, R, put_r, put_pc, count, on_state}
use Rattle.machine.specs.Step.{d5_3, d8_6, d11_9, interrupt_rules, cannot, to}
use Rattle.machine.specs.Run.{Outcome, unless}
use Rattle.machine.specs.Held.{Held, held, machine_of, is_full, outcome_of, is_lock_stop, TestsLock, StepMeets}
use Rattle.machine.proofs.Answers.{Leaves, answered}
use Rattle.machine.proofs.Log.{put_take, put_drop}
use Rattle.control.specs.Control.{result_of, inputs_after, next, store_field, by_interrupt, writes_port, stored_data, stored, written, performed, assigned, locked_access, interrupt_assigned, interrupted, control_step}
use Rattle.datapath.specs.Parts.{unit_of, state_after, data_after, is_zero_divisor, stop_of, advanced_of, done_with, Answered, with_inputs, result_answer, interrupt_of, interrupt_answer}

-- the reason of a stop, 0 where there is none
abbrev reason_in : Option Stop → ℕ
reason_in (Some stop) = stop_number stop
reason_in None = 0

-- by a control word without bit 15, which touches no locked byte
module _ (c w : ℕ) (h : Held) (by_fields : by_interrupt c ≡ false) (free : TestsLock (control_step c w) h.state false) where
  abbrev Meets : ℕ → Held → Type 0
  Meets stop after = StepMeets (control_step c w) (writes_port c) h stop after

  -- what the step of a machine comes to, by the tests
  comes : (m : Machine) (a z l : Bool) → m.state ≡ h.state → assigned c w ≡ a → is_zero_divisor c w h.state ≡ z → locked_access c w h.state ≡ l
      → control_step c w m ≡ pick a (pick z (cannot 3) (pick l (cannot 4) (to (performed c w m)))) (cannot 1)
  unfolding control_step
  comes m a z l s e g k =
      λ i.
      pick (by_fields i) (pick (interrupt_assigned c w) (to (interrupted c w m)) (cannot 1))
      (pick (e i) (pick ((ap (is_zero_divisor c w) s ∙ g) i) (cannot 3) (pick ((ap (locked_access c w) s ∙ k) i) (cannot 4) (to (performed c w m)))) (cannot 1))

  no_lock : assigned c w ≡ true → is_zero_divisor c w h.state ≡ false → locked_access c w h.state ≡ false
  no_lock a z = by_test (locked_access c w h.state) refl
    where
      by_test : (l : Bool) → locked_access c w h.state ≡ l → l ≡ false
      by_test true e = let m = machine_of [] h in ap is_lock_stop (sym (comes m true false true refl a z e)) ∙ free m refl
      by_test false e = refl

  -- what the run makes of it
  made : (P : List ℕ) (a z l b : Bool) → assigned c w ≡ a → is_zero_divisor c w h.state ≡ z → locked_access c w h.state ≡ l → (writes_port c && is_full h) ≡ b
      → let m = machine_of P h in
      outcome_of m (unless (writes_port c && is_full h) (control_step c w m)) ≡ outcome_of m (unless b (pick a (pick z (cannot 3) (pick l (cannot 4) (to (performed c w m)))) (cannot 1)))
  made P a z l b e g k f = let m = machine_of P h in λ i. outcome_of m (unless (f i) (comes m a z l refl e g k i))

  -- ---- It stops

  pub stopped : (stop : Stop) → h.entries ≤ length h.log → stop_of c w h.state (is_full h) ≡ Some stop → Meets (stop_number stop) h
  stopped stop filled e =
      record { machine = λ P. by_tests P (assigned c w) refl (is_zero_divisor c w h.state) refl (writes_port c && is_full h) refl e; rest = refl; filled = filled }
    where
      by_tests : (P : List ℕ) (a : Bool) → assigned c w ≡ a → (z : Bool) → is_zero_divisor c w h.state ≡ z → (b : Bool) → (writes_port c && is_full h) ≡ b
          → ◌≡◌ {A = Option Stop} (pick a (pick z (Some ZeroDivisor) (pick b (Some FullLog) None)) (Some Unassigned)) (Some stop)
          → let m = machine_of P h in outcome_of m (unless (writes_port c && is_full h) (control_step c w m)) ≡ record { reason = stop_number stop; after = m }
      by_tests P true p true r b q e = made P true true _ b p r refl q ∙ ap (λ k. record { reason = k; after = machine_of P h }) (ap reason_in e)
      by_tests P true p false r true q e = made P true false false true p r (no_lock p r) q ∙ ap (λ k. record { reason = k; after = machine_of P h }) (ap reason_in e)
      by_tests P true p false r false q e = never (ap is_some e)
      by_tests P false p z r b q e = made P false z _ b p r refl q ∙ ap (λ k. record { reason = k; after = machine_of P h }) (ap reason_in e)

  -- ---- It is done

  module _ (is_assigned_lem : assigned c w ≡ true) (no_zero : is_zero_divisor c w h.state ≡ false) where
    -- where the store is not to a port
    pub data_done : {s : State} {D I : List ℕ} → h.entries ≤ length h.log → writes_port c ≡ false
        → s ≡ state_after c w h.state h.D h.I
        → D ≡ data_after c w h.state h.D
        → I ≡ inputs_after c w h.I
        → Meets 0 (held s D I h.O h.log h.entries)
    unfolding performed stored
    data_done {s} {D} {I} filled no_port es eD eI = record { machine = λ P. made P true false false false is_assigned_lem no_zero (no_lock is_assigned_lem no_zero) (ap (λ t. t && is_full h) no_port) ∙ done P; rest = refl; filled = filled }
      where
        done : (P : List ℕ) → ◌≡◌ {A = Outcome} (record { reason = 0; after = performed c w (machine_of P h) })
            (record { reason = 0; after = machine_of P (held s D I h.O h.log h.entries) })
        done P = rw (no_port, es, eD, eI)

    -- where it is
    pub port_done : {s : State} {D I O log : List ℕ} {entries : ℕ} → h.entries < length h.log → writes_port c ≡ true
        → s ≡ state_after c w h.state h.D h.I
        → D ≡ h.D
        → I ≡ inputs_after c w h.I
        → O ≡ set h.O (N8 w) (R h.state (a_of w))
        → log ≡ set h.log h.entries (h.state.n * 16777216 + N8 w * 65536 + R h.state (a_of w))
        → entries ≡ h.entries + 1
        → Meets 0 (held s D I O log entries)
    unfolding performed stored
    port_done {s} {D} {I} {O} {log} {entries} place port es eD eI eO el ee =
        let room : is_full h ≡ false = lt-leb _ _ place in
        record {
          machine = λ P. made P true false false false is_assigned_lem no_zero (no_lock is_assigned_lem no_zero) (ap (λ t. t && is_full h) port ∙ room) ∙ done P;
          rest = rw (el, ee) (put_drop h.entries _ h.log place);
          filled = rw (el, ee) (simp length-set (omega arith));
        }
      where
        done : (P : List ℕ) → ◌≡◌ {A = Outcome} (record { reason = 0; after = performed c w (machine_of P h) })
            (record { reason = 0; after = machine_of P (held s D I O log entries) })
        done P = rw (port, es, eD, eI, eO, el, ee, put_take h.entries (h.state.n * 16777216 + N8 w * 65536 + R h.state (a_of w)) h.log place)

  -- a store to a port changes no data
  no_data : (s : State) (D : List ℕ) → writes_port c ≡ true → data_after c w s D ≡ D
  unfolding stored_data
  no_data s D port = let k : store_field c ≡ 3 = eqb-true (store_field c) 3 ((and-eq-true_iff (not (by_interrupt c)) (eqb (store_field c) 3)).0 port).1 in rw k

  -- by fields
  pub fields_done : {s : State} {D I O log : List ℕ} {entries : ℕ} → h.entries ≤ length h.log → stop_of c w h.state (is_full h) ≡ None
      → s ≡ state_after c w h.state h.D h.I
      → D ≡ data_after c w h.state h.D
      → I ≡ inputs_after c w h.I
      → (entries ≡ pick (writes_port c) (h.entries + 1) h.entries)
      × (O ≡ pick (writes_port c) (set h.O (N8 w) (R h.state (a_of w))) h.O)
      × (log ≡ pick (writes_port c) (set h.log h.entries (h.state.n * 16777216 + N8 w * 65536 + R h.state (a_of w))) h.log)
      → Meets 0 (held s D I O log entries)
  fields_done {s} {D} {I} {O} {log} {entries} filled go es eD eI port = by_tests (assigned c w) refl (is_zero_divisor c w h.state) refl (writes_port c) refl (is_full h) refl go port
    where
      by_tests : (a : Bool) → assigned c w ≡ a → (z : Bool) → is_zero_divisor c w h.state ≡ z → (p : Bool) → writes_port c ≡ p → (f : Bool) → is_full h ≡ f
          → ◌≡◌ {A = Option Stop} (pick a (pick z (Some ZeroDivisor) (pick (p && f) (Some FullLog) None)) (Some Unassigned)) None
          → (entries ≡ pick p (h.entries + 1) h.entries)
          × (O ≡ pick p (set h.O (N8 w) (R h.state (a_of w))) h.O)
          × (log ≡ pick p (set h.log h.entries (h.state.n * 16777216 + N8 w * 65536 + R h.state (a_of w))) h.log)
          → Meets 0 (held s D I O log entries)
      by_tests false a z ez p ep f ef go e = never (sym (ap is_some go))
      by_tests true a true ez p ep f ef go e = never (sym (ap is_some go))
      by_tests true a false ez true ep true ef go e = never (sym (ap is_some go))
      by_tests true a false ez true ep false ef go e =
          port_done a ez (leb-false _ _ ef) ep es (eD ∙ no_data h.state h.D ep) eI e.1 e.2 e.0
      by_tests true a false ez false ep f ef go e =
          rw (e.0, e.1, e.2) (data_done a ez filled ep es eD eI)

-- an answer meets the step, with nothing stored
abbrev MeetsWith : ℕ → ℕ → Held → Answered → Type 0
MeetsWith c w h x = Leaves (control_step c w) (writes_port c) h x.answer h.D x.inputs h.O h.log h.entries

-- the answer where nothing is stored, with PC+2
pub result_done : (c w : ℕ) (h : Held) → by_interrupt c ≡ false → TestsLock (control_step c w) h.state false → h.entries ≤ length h.log → writes_port c ≡ false → data_after c w h.state h.D ≡ h.D
    → next c w (R h.state (a_of w)) h.state.pc ≡ add h.state.pc 2
    → (r : Result State Stop) {I : List ℕ}
    → with_inputs r I ≡ result_answer c w h.state h.D h.I
    → MeetsWith c w h (with_inputs r I)
result_done c w h by_fields free filled no_port no_store on r {I} = by_tests (assigned c w) refl (is_zero_divisor c w h.state) refl
  where
    by_tests : (a : Bool) → assigned c w ≡ a → (z : Bool) → is_zero_divisor c w h.state ≡ z
        → with_inputs r I ≡ pick a
        (pick z
        (with_inputs (Err ZeroDivisor) h.I)
        (with_inputs (Ok (done_with c w (result_of c w (unit_of c w h.state) h.state.pc h.D h.I) h.state)) (inputs_after c w h.I)))
        (with_inputs (Err Unassigned) h.I)
        → MeetsWith c w h (with_inputs r I)
    by_tests true e true z a = subst (MeetsWith c w h) (sym a) (stopped c w h by_fields free ZeroDivisor filled (rw (e, z)))
    by_tests true e false z a = subst (MeetsWith c w h) (sym a) (data_done c w h by_fields free e z filled no_port (rw on) (sym no_store) refl)
    by_tests false e t z a = subst (MeetsWith c w h) (sym a) (stopped c w h by_fields free Unassigned filled (rw e))

-- a port's step has a free place where nothing stops it
pub free_place : (c w : ℕ) (s : State) (n places : ℕ) → stop_of c w s (leb places n) ≡ None → writes_port c ≡ true → n < places
free_place c w s n places go port = by_tests (assigned c w) (is_zero_divisor c w s) (leb places n) refl (rw port at go)
  where
    by_tests : (a z f : Bool) → leb places n ≡ f → ◌≡◌ {A = Option Stop} (pick a (pick z (Some ZeroDivisor) (pick f (Some FullLog) None)) (Some Unassigned)) None → n < places
    by_tests false z f e go = never (sym (ap is_some go))
    by_tests true true f e go = never (sym (ap is_some go))
    by_tests true false true e go = never (sym (ap is_some go))
    by_tests true false false e go = leb-false _ _ e

-- ---- By a control word with bit 15

-- the count may come before what is written
written_counted : (c w v : ℕ) (s : State) → count (written c w v s) ≡ written c w v (count s)
unfolding written
written_counted c w v s = sym (get_or-map count (s ∷ put_r (d5_3 w) v s ∷ put_r (d8_6 w) v s ∷ put_r (d11_9 w) v s ∷ []) (field (bits 1 0) c) s)

interrupted_counted : (c w : ℕ) (m : Machine) → interrupted c w m ≡ on_state (λ s. interrupt_of c w (advanced_of s)) m
unfolding interrupted
interrupted_counted c w m =
    let on = put_pc (add m.state.pc 2) m.state in
    ap (λ t. on_state (λ s. t) m)
    (sym (get_or-map count (interrupt_rules (written c w) on) (f_of w) on)
    ∙ ap (λ t. get_or (interrupt_rules (λ v s. t) (count on)) (f_of w) (count on)) (written_counted c w on.line on))

pub interrupt_done : (c w : ℕ) (h : Held) → by_interrupt c ≡ true → h.entries ≤ length h.log → (r : Result State Stop) → r ≡ interrupt_answer c w h.state
    → Leaves (control_step c w) (writes_port c) h r h.D h.I h.O h.log h.entries
unfolding control_step
interrupt_done c w h by_f filled r = by_test (interrupt_assigned c w) refl
  where
    by_test : (a : Bool) → interrupt_assigned c w ≡ a
        → r ≡ pick a (Ok (interrupt_of c w (advanced_of h.state))) (Err Unassigned)
        → Leaves (control_step c w) (writes_port c) h r h.D h.I h.O h.log h.entries
    by_test true q e =
        answered r _ e
        record {
          machine = λ P. rw (by_f, q) (ap (λ m. record { reason = 0; after = m }) (interrupted_counted c w (machine_of P h)));
          rest = refl;
          filled = filled;
        }
    by_test false q e = answered r _ e record { machine = λ P. rw (by_f, q); rest = refl; filled = filled }
