-- When a step by a control word can't be made for a locked byte (02, L14): it is seen in the state alone, and without a range there is none.
-- Assumes nothing.
use mathlib.Core.Path.{◌≡◌, refl, ap, subst, ◌∙◌}
use mathlib.Core.Bool.{Bool, true, false, not, ◌&&◌, ◌||◌, and-false}
use mathlib.Core.List.{List, [], ◌∷◌, ◌++◌}
use Prim.Native.Nat.{ℕ}
use Rattle.word.specs.Fields.{a_of, b_of}
use Rattle.word.specs.Word.{pick}
use Rattle.machine.specs.declared.State.{State}
use Rattle.machine.specs.Machine.{Machine, R, is_single, takes_line, is_locked, touches_locked, bytes_at, fetch_locked}
use Rattle.machine.specs.Step.{fetched, Next, cannot, to, taking}
use Rattle.machine.specs.Run.{Stepper, by_rules}
use Rattle.machine.specs.Held.{is_lock_stop, TestsLock}
use Rattle.control.specs.Control.{by_interrupt, interrupt_assigned, interrupted, performed, assigned, zero_divisor, result_field, store_field, unit, touched_by, locked_access, control_step, control_in, by_control, table}
use Rattle.control.proofs.Agreement.{same_stepper}

-- by the tests
abbrev pub stops4 : ℕ → ℕ → State → Bool
stops4 c w s = not (by_interrupt c) && assigned c w && not (zero_divisor c w (R s (b_of w))) && locked_access c w s

pub lock_stop : (c w : ℕ) (s : State) → TestsLock (control_step c w) s (stops4 c w s)
unfolding control_step
lock_stop c w s m es = by_tests (by_interrupt c) (interrupt_assigned c w) (assigned c w) (zero_divisor c w (R m.state (b_of w))) (locked_access c w m.state) ∙ ap (stops4 c w) es
  where
    by_tests : (b i a z l : Bool)
        → is_lock_stop (pick b (pick i (to (interrupted c w m)) (cannot 1)) (pick a (pick z (cannot 3) (pick l (cannot 4) (to (performed c w m)))) (cannot 1)))
        ≡ (not b && a && not z && l)
    by_tests true true a z l = refl
    by_tests true false a z l = refl
    by_tests false i true true l = refl
    by_tests false i true false true = refl
    by_tests false i true false false = refl
    by_tests false i false z l = refl

-- ---- Without a range

pub none_locked : (s : State) → s.locked ≡ 0 → (xs : List ℕ) → touches_locked xs s ≡ false
none_locked s e [] = refl
none_locked s e (a ∷ xs) = let own : is_locked a s ≡ false = rw e in ap (λ t. t || touches_locked xs s) own ∙ none_locked s e xs

no_access : (c w : ℕ) (s : State) → s.locked ≡ 0 → locked_access c w s ≡ false
unfolding locked_access
no_access c w s e =
    let u = unit c w (R s (a_of w)) (R s (b_of w)) in
    none_locked s e (touched_by (result_field c) u ++ touched_by (store_field c) u)

no_word : (c w : ℕ) (m : Machine) → m.state.locked ≡ 0 → is_lock_stop (control_step c w m) ≡ false
no_word c w m e =
    let before = not (by_interrupt c) && assigned c w && not (zero_divisor c w (R m.state (b_of w))) in
    lock_stop c w m.state m refl ∙ ap (λ t. before && t) (no_access c w m.state e) ∙ and-false before

no_fetch : (s : State) → s.locked ≡ 0 → fetch_locked s ≡ false
no_fetch s e = ap (λ t. is_single s && t) (none_locked s e (bytes_at s.pc)) ∙ and-false (is_single s)

module _ (words : List ℕ) where
  none_stops : (m : Machine) → m.state.locked ≡ 0 → is_lock_stop ((by_control words).steps m) ≡ false
  none_stops m e =
      ap (λ t. is_lock_stop (pick (takes_line m.state) (taking m) (pick t (cannot 4) (control_step (control_in words (fetched m)) (fetched m) m)))) (no_fetch m.state e)
      ∙ by_test (takes_line m.state) _ (no_word (control_in words (fetched m)) (fetched m) m e)
    where
      by_test : (t : Bool) (x : Next) → is_lock_stop x ≡ false → is_lock_stop (pick t (taking m) x) ≡ false
      by_test true x h = refl
      by_test false x h = h

-- a stepper is never stopped so without a range
abbrev pub Unstopped : Stepper → Type 0
Unstopped v = (m : Machine) → m.state.locked ≡ 0 → is_lock_stop (v.steps m) ≡ false

pub unstopped_control : (words : List ℕ) → Unstopped (by_control words)
unstopped_control words = none_stops words

pub unstopped_rules : Unstopped by_rules
unstopped_rules = subst Unstopped same_stepper (none_stops table)
