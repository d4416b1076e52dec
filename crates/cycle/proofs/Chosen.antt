-- A step of a run, by its engine's laws.
-- Assumes nothing.
use mathlib.Core.Path.{◌≡◌, refl, sym, ap, ◌∙◌}
use mathlib.Core.Bool.{Bool, true, false, ◌&&◌}
use Prim.Native.Nat.{ℕ}
use native.Mathlib.Omega.{arith}
use borrow.Author.Tests.{eqb-true}
use lib.Dec.{leb}
use lib.ListN.{length}
use Rattle.word.specs.Word.{pick}
use Rattle.word.proofs.Tests.{never}
use Rattle.machine.specs.declared.State.{State}
use Rattle.machine.specs.declared.Stop.{Stop}
use Rattle.machine.specs.declared.Stop.TheVariants.{Unassigned, FullLog, ZeroDivisor, LockedByte}
use Rattle.machine.specs.Stops.{stop_number}
use Rattle.machine.specs.Machine.{Machine, takes_line, fetch_locked}
use Rattle.machine.specs.Step.{fetched, Next, cannot, to, taking}
use Rattle.machine.specs.Run.{Stepper, no_place_at, unless}
use Rattle.machine.specs.Held.{is_lock_stop, TestsLock}
use Rattle.stepping.specs.Engines.{EngineLaws}

-- each reason of a stop has a number that is not 0
pub some_reason : (q : Stop) → stop_number q ≡ 0 → ⊥
some_reason Unassigned e = absurd (omega arith)
some_reason FullLog e = absurd (omega arith)
some_reason ZeroDivisor e = absurd (omega arith)
some_reason LockedByte e = absurd (omega arith)

-- it is stop 4
pub stop_4 : (x : Next) → is_lock_stop x ≡ true → x ≡ cannot 4
stop_4 (cannot q) e = ap cannot (eqb-true q 4 e)
stop_4 (to next) e = never e

module _ {v : Stepper} {does : ℕ → Machine → Next} {writes : ℕ → Bool} (law : EngineLaws v does writes) where
  -- what the run makes of the next step
  abbrev turn : ℕ → Machine → Stepper → Next
  turn full m u = unless (no_place_at u full m) (u.steps m)

  -- a line is taken, and no port is written
  pub takes_line_lem : (full : ℕ) (m : Machine) → takes_line m.state ≡ true → turn full m v ≡ taking m
  unfolding no_place_at
  takes_line_lem full m e = ap (turn full m) law.goes_by ∙ rw e

  -- the code's step is the machine's, of the word fetched
  pub tests : (w full : ℕ) (m : Machine) (b : Bool) → takes_line m.state ≡ false → fetch_locked m.state ≡ false → fetched m ≡ w → leb full (length m.L) ≡ b
      → turn full m v ≡ unless (writes w && b) (does w m)
  unfolding no_place_at
  tests w full m b t l f e = ap (turn full m) law.goes_by ∙ rw (t, l, f, e)

  -- ---- Stops by a locked byte

  -- what is tested, in the order of the tests
  stops : (m : Machine) → is_lock_stop (v.steps m) ≡ is_lock_stop (pick (takes_line m.state) (taking m) (pick (fetch_locked m.state) (cannot 4) (does (fetched m) m)))
  stops m = ap (λ (u : Stepper). is_lock_stop (u.steps m)) law.goes_by

-- where no step is stopped so, neither the fetch nor the word is
pub record Free (does : ℕ → Machine → Next) (w : ℕ) (s : State) : Type 0 where
  pub fetch : fetch_locked s ≡ false
  pub word : TestsLock (does w) s false

pub free : {v : Stepper} {does : ℕ → Machine → Next} {writes : ℕ → Bool} (law : EngineLaws v does writes) {w : ℕ} (m : Machine)
    → takes_line m.state ≡ false → fetched m ≡ w → is_lock_stop (v.steps m) ≡ false → Free does w m.state
free {does = does} law {w} m takes f e = by_test (fetch_locked m.state) refl (sym (stops law m ∙ rw (takes, f)) ∙ e)
  where
    by_test : (l : Bool) → fetch_locked m.state ≡ l → is_lock_stop (pick l (cannot 4) (does w m)) ≡ false → Free does w m.state
    by_test true q h = never (sym h)
    by_test false q h = record { fetch = q; word = λ x es. law.by_state w m x es ∙ h }
