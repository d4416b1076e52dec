-- Stepping back (02, L7): the history of what a host holds with a journal, which is the list of the machines before its counted steps; and
-- that every call carries it on, so that a list of calls may go forward and back in any order.
use Rattle.std.specs.Prelude.{◌≡◌, List, [], ◌∷◌, ◌++◌, reverse, true, ℕ, ◌<◌, ◌≤◌, length, get_or, take, drop}
use Rattle.std.specs.Int.Bits.{bit_or}
use Rattle.refusal.specs.Refusals.{Verdict, accepted, refused}
use Rattle.machine.specs.Machine.{Machine, even_places, put_pending, put_journaled, on_state}
use Rattle.machine.specs.Step.{to, step}
use Rattle.machine.specs.Run.{by_rules}
use Rattle.journal.specs.Journal.{entry_of, but_for}
use Rattle.journal.specs.Ranges.{Numbers, InRange}
use Rattle.panel.specs.Calls.{SetLeft, set_left, RaiseLeft, raise_left}
use Rattle.image.specs.Image.{LoadGiven, LoadLeft, load_left}
use Rattle.run.specs.Runs.{no_journal, lent_journal, Given, run_refused, stopped, verdict_on, trace_on, CountedLeft, CountedMeets}
use Rattle.back.specs.Backs.{BackGiven, BackLeft, gone_back, back_refused, back_left}
use Rattle.claims.specs.Session.{Engine, stepper_of, Lent, Host, host_of, given_to, after_one_run, after_set, after_raise, machine_on}

-- ---- The history

-- m as a host holds it, with its own count of journal entries, a pending byte and inputs that may have been set since, and a log of its own
abbrev pub held_as : ℕ → ℕ → List ℕ → List ℕ → Machine → Machine
held_as count pending I L m = but_for I L (on_state (λ s. put_pending pending (put_journaled count s)) m)

-- The machines before the counted steps that led to a machine, the last first. They are the plain machine's. The journal xs has the entry
-- of each at the place of its number.
pub data History (xs : List ℕ) : Machine → List Machine → Type 0 where
  begins : {m : Machine} → InRange m → even_places m.state ≡ true → History xs m []
  steps :
      {m next : Machine} {ms : List Machine} → History xs m ms → step m ≡ to next
      → length ms < length xs → get_or xs (length ms) 0 ≡ entry_of m → History xs next (m ∷ ms)
  -- inputs set and lines raised in between, bit k of `lines` for line k; each run has a log of its own
  held :
      {m : Machine} {ms : List Machine} → History xs m ms → (count lines : ℕ) (I L : List ℕ) → lines < 256 → Numbers 256 65536 I
      → History xs (held_as count (bit_or m.state.pending lines) I L m) ms

-- the history of what the host holds with the journal xs
pub record Past (h : Host) (xs : List ℕ) (ms : List Machine) : Type 0 where
  -- The count is the list's length.
  pub counted : h.state.journaled ≡ length ms
  -- n has 32 bits
  pub few : h.state.n ≤ 4294967295
  pub history : History xs (machine_on h []) ms

-- ---- The calls

-- the machines before the steps of a run, the last first; a refused run takes none
abbrev pub taken_by : Verdict → Given → List Machine
taken_by accepted g = reverse (trace_on by_rules g)
taken_by (refused k) g = []

abbrev pub taken : Given → List Machine
taken g = taken_by (verdict_on g) g

-- k steps back, by what the host holds with the journal xs
abbrev pub given_back : Host → List ℕ → ℕ → BackGiven
given_back h xs k = record { state = h.state; P = h.P; D = h.D; I = h.I; O = h.O; journal = xs; k = k }

abbrev pub after_back : BackLeft → Host
after_back l = record { state = l.state; P = l.P; D = l.D; I = l.I; O = l.O }

-- ---- The claim, each call known by its contract alone

pub record Histories : Type 0 where
  -- What the host holds is, but for inputs set and lines raised since, what the last step led to,
  pub last_step :
      (h : Host) (xs : List ℕ) (m : Machine) (ms : List Machine) → Past h xs (m ∷ ms)
      → (next : Machine) × (lines : ℕ) × (step m ≡ to next)
      × (machine_on h [] ≡ held_as (length (m ∷ ms)) (bit_or next.state.pending lines) h.I [] next)
  -- and its numbers are within their widths.
  pub stays_in_range : (h : Host) (xs : List ℕ) (ms : List Machine) → Past h xs ms → InRange (machine_on h [])
  -- There is no step in it after a load of a file of bytes, with any journal,
  pub after_load :
      (g : LoadGiven) (l : LoadLeft) → l ≡ load_left g → l.reply ≡ accepted → Numbers (length g.file) 256 g.file
      → (xs : List ℕ) → Past (host_of l) xs []
  -- and after an accepted run without a journal (a host step is one), with any journal.
  pub after_run_without :
      (h : Host) → InRange (machine_on h []) → (e : Engine) (lent : Lent) → lent.journal ≡ no_journal
      → (l : CountedLeft) → CountedMeets (stepper_of e) (given_to h lent) l → (q s k : ℕ) → l.left.reply ≡ stopped q s k
      → (xs : List ℕ) → Past (after_one_run l.left) xs []
  -- A run with that journal, by either engine, accepted or refused, carries it on: the steps it took are added;
  pub after_run :
      (h : Host) (xs : List ℕ) (ms : List Machine) → Past h xs ms → (e : Engine) (lent : Lent) → lent.journal ≡ lent_journal xs
      → (l : CountedLeft) → CountedMeets (stepper_of e) (given_to h lent) l → (ys : List ℕ) → l.left.journal ≡ lent_journal ys
      → Past (after_one_run l.left) ys (taken (given_to h lent) ++ ms)
  -- a refused run with another journal or none leaves it,
  pub after_refused_run :
      (h : Host) (xs : List ℕ) (ms : List Machine) → Past h xs ms → (e : Engine) (lent : Lent)
      → (l : CountedLeft) → CountedMeets (stepper_of e) (given_to h lent) l → (k : ℕ) → l.left.reply ≡ run_refused k
      → Past (after_one_run l.left) xs ms
  -- a set of a 16-bit value too;
  pub after_setting :
      (h : Host) (xs : List ℕ) (ms : List Machine) → Past h xs ms → (port value : ℕ) → value < 65536
      → (l : SetLeft) → l ≡ set_left (record { I = h.I; port = port; value = value }) → Past (after_set h l) xs ms
  -- a raise of any line;
  pub after_raising :
      (h : Host) (xs : List ℕ) (ms : List Machine) → Past h xs ms → (line : ℕ) (l : RaiseLeft) → l ≡ raise_left h.state line
      → Past (after_raise h l) xs ms
  -- going back k steps takes the last k away, and where it is refused nothing.
  pub after_going_back :
      (h : Host) (xs : List ℕ) (ms : List Machine) → Past h xs ms → (k : ℕ) (l : BackLeft) → l ≡ back_left (given_back h xs k)
      → (e : ℕ) → l.reply ≡ gone_back e → Past (after_back l) xs (drop k ms)
  pub after_refused_back :
      (h : Host) (xs : List ℕ) (ms : List Machine) → Past h xs ms → (k : ℕ) (l : BackLeft) → l ≡ back_left (given_back h xs k)
      → (r : ℕ) → l.reply ≡ back_refused r → Past (after_back l) xs ms
  -- It looks at the counted places only, so that a copy of them carries it on.
  pub copied :
      (h : Host) (xs ys : List ℕ) (ms : List Machine) → Past h xs ms → length ms ≤ length ys → take (length ms) ys ≡ take (length ms) xs
      → Past h ys ms
  -- a history with a step in it exists
  pub exists : (h : Host) × (xs : List ℕ) × (m : Machine) × (ms : List Machine) × Past h xs (m ∷ ms)
