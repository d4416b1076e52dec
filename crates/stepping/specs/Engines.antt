-- What the loop of a run rests on, of an engine.
use Rattle.std.specs.Prelude.{◌≡◌, refl, Bool, List, ℕ}
use Rattle.std.proofs.Common.{sym, ap, ◌∙◌}
use Rattle.machine.specs.Machine.{Machine}
use Rattle.machine.specs.Step.{Next, by_rule, step, step_with}
use Rattle.machine.specs.Run.{Stepper, fetches_a, is_out, by_rules}
use Rattle.machine.specs.Held.{is_lock_stop}
use Rattle.machine.proofs.Runs.{Lawful}
use Rattle.control.specs.Control.{control_in, control_of, control_step, writes_port, by_control}
use Rattle.control.proofs.Agreement.{agreement}
use Rattle.control.proofs.Laws.{lawful_control, lawful_rules}
use Rattle.control.proofs.Locks.{lock_stop, Unstopped, unstopped_control, unstopped_rules}

-- what a run goes by, where a word does so and writes a port so
abbrev pub stepper_of : (ℕ → Machine → Next) → (ℕ → Bool) → Stepper
stepper_of does writes = record { steps = step_with does; port_write = fetches_a writes }

pub record EngineLaws (v : Stepper) (does : ℕ → Machine → Next) (writes : ℕ → Bool) : Type 0 where
  pub goes_by : v ≡ stepper_of does writes
  pub lawful : Lawful v
  -- without a range no step is stopped by a locked byte
  pub unstopped : Unstopped v
  -- with one, whether a word is stopped is seen in the state alone
  pub by_state : (w : ℕ) (m x : Machine) → x.state ≡ m.state → is_lock_stop (does w x) ≡ is_lock_stop (does w m)

-- ---- The two engines'

by_word : (c w : ℕ) (m x : Machine) → x.state ≡ m.state → is_lock_stop (control_step c w x) ≡ is_lock_stop (control_step c w m)
by_word c w m x e = lock_stop c w m.state x e ∙ sym (lock_stop c w m.state m refl)

pub rules_laws : EngineLaws by_rules by_rule is_out
unfolding step
rules_laws =
    record {
      goes_by = refl;
      lawful = lawful_rules;
      unstopped = unstopped_rules;
      by_state = λ w m x e. ap is_lock_stop (sym (agreement w x)) ∙ by_word (control_of w) w m x e ∙ ap is_lock_stop (agreement w m);
    }

pub table_laws : (words : List ℕ) → EngineLaws (by_control words) (λ w. control_step (control_in words w) w) (λ w. writes_port (control_in words w))
table_laws words =
    record {
      goes_by = refl;
      lawful = lawful_control words;
      unstopped = unstopped_control words;
      by_state = λ w m x e. by_word (control_in words w) w m x e;
    }
