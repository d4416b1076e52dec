-- Knob interrupts over lists of calls (02, L12): no line is lost, and none is taken that was not raised. Of each line it is told what happened
-- to it; every call carries that on, and each is known by its contract alone.
use Rattle.std.specs.Prelude.{◌≡◌, Bool, true, false, ◌&&◌, ◌||◌, ◌⊎◌, List, [], ◌∷◌, ◌++◌, ℕ, ◌<◌, eqb, take, drop}
use Rattle.refusal.specs.Refusals.{accepted}
use Rattle.word.specs.Word.{pick}
use Rattle.machine.specs.Machine.{Machine, bit_of, lowest_line, takes_line}
use Rattle.journal.specs.Ranges.{InRange}
use Rattle.panel.specs.Calls.{SetLeft, RaiseLeft, raise_left}
use Rattle.image.specs.Image.{LoadGiven, LoadLeft, load_left}
use Rattle.run.specs.Runs.{CountedLeft, CountedMeets}
use Rattle.back.specs.Backs.{BackLeft, gone_back, back_refused, back_left}
use Rattle.claims.specs.Session.{Engine, stepper_of, Lent, Host, host_of, given_to, after_one_run, after_set, after_raise, machine_on}
use Rattle.claims_back.specs.History.{Past, taken, given_back, after_back}

-- ---- What happened to a line

-- the step of m takes it
abbrev pub takes_it : ℕ → Machine → Bool
takes_it line m = takes_line m.state && eqb (lowest_line m.state.pending) line

-- one of these steps does
unfoldable pub some_takes : ℕ → List Machine → Bool
some_takes line [] = false
some_takes line (m ∷ ms) = takes_it line m || some_takes line ms

-- it was raised, taken, or its last taking was taken back
pub data Event : Type 0 where
  was_raised was_taken was_taken_back : Event

-- Events, the last first. A line is pending exactly where it was raised, or its last taking taken back, after its last taking that stands.
abbrev pub waits : List Event → ℕ
waits [] = 0
waits (was_raised ∷ es) = 1
waits (was_taken ∷ es) = 0
waits (was_taken_back ∷ es) = 1

-- one more, if so
abbrev pub and_if : Bool → Event → List Event → List Event
and_if t e es = pick t (e ∷ es) es

-- the first of them is a raise
abbrev pub RaisedFirst : List Event → Type 0
RaisedFirst es = (later : List Event) × (es ≡ later ++ was_raised ∷ [])

-- nothing happened to it, and none of these steps took it; or it was raised first
abbrev pub Begun : ℕ → List Machine → List Event → Type 0
Begun line ms es = ((es ≡ []) × (some_takes line ms ≡ false)) ⊎ RaisedFirst es

-- es is what happened to a line of what the host holds, where ms are the machines before the steps that may be taken back
pub record Told (line : ℕ) (h : Host) (ms : List Machine) (es : List Event) : Type 0 where
  pub pending : bit_of line h.state.pending ≡ waits es
  pub first : Begun line ms es

-- ---- The claim, of each of the eight lines

pub record Lines (line : ℕ) : Type 0 where
  -- A line is taken only while enable is on,
  pub enabled : (m : Machine) → m.state.enabled ≡ 0 → takes_it line m ≡ false
  -- and by a run only where it waits when the run begins; then it was raised.
  pub raised :
      (h : Host) (ms : List Machine) (es : List Event) → InRange (machine_on h []) → Told line h ms es → (lent : Lent)
      → some_takes line (taken (given_to h lent)) ≡ true → (waits es ≡ 1) × RaisedFirst es
  -- Nothing happened to it after a load.
  pub after_load : (g : LoadGiven) (l : LoadLeft) → l ≡ load_left g → l.reply ≡ accepted → Told line (host_of l) [] []
  pub after_raising :
      (h : Host) (ms : List Machine) (es : List Event) → Told line h ms es → (k : ℕ) (l : RaiseLeft) → l ≡ raise_left h.state k
      → Told line (after_raise h l) ms (and_if (eqb k line) was_raised es)
  pub after_setting :
      (h : Host) (ms : List Machine) (es : List Event) → Told line h ms es → (l : SetLeft) → Told line (after_set h l) ms es
  -- A run by either engine, with any journal or none, accepted or refused;
  pub after_run :
      (h : Host) (ms : List Machine) (es : List Event) → InRange (machine_on h []) → Told line h ms es
      → (e : Engine) (lent : Lent) (l : CountedLeft) → CountedMeets (stepper_of e) (given_to h lent) l
      → let steps = taken (given_to h lent) in
      Told line (after_one_run l.left) (steps ++ ms) (and_if (some_takes line steps) was_taken es)
  -- without a journal a history begins anew.
  pub anew : (h : Host) (ms : List Machine) (es : List Event) → Told line h ms es → Told line h [] es
  pub after_going_back :
      (h : Host) (xs : List ℕ) (ms : List Machine) (es : List Event) → Past h xs ms → Told line h ms es
      → (k : ℕ) (l : BackLeft) → l ≡ back_left (given_back h xs k) → (e : ℕ) → l.reply ≡ gone_back e
      → Told line (after_back l) (drop k ms) (and_if (some_takes line (take k ms)) was_taken_back es)
  pub after_refused_back :
      (h : Host) (xs : List ℕ) (ms : List Machine) (es : List Event) → Told line h ms es
      → (k : ℕ) (l : BackLeft) → l ≡ back_left (given_back h xs k) → (r : ℕ) → l.reply ≡ back_refused r → Told line (after_back l) ms es

abbrev pub NoLineLost : Type 0
NoLineLost = (line : ℕ) → line < 8 → Lines line
