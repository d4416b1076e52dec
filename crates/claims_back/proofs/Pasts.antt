-- A history: what is known of what it leads to, its last step, and that it looks at the places of its own steps only.
-- Assumes nothing.
use mathlib.Core.Path.{◌≡◌, refl, sym, ap, subst, ◌∙◌}
use mathlib.Core.Bool.{true}
use mathlib.Core.List.{List, [], ◌∷◌}
use Prim.Native.Nat.{ℕ, zero, suc, ◌<◌, ◌≤◌}
use native.Mathlib.Omega.{arith}
use lib.Bits.{bit_or, or_zero_r, or_lt}
use lib.ListN.{length, get_or, drop}
use Rattle.machine.specs.Machine.{Machine}
use Rattle.machine.specs.Lengths.{lengths_fit}
use Rattle.machine.specs.Step.{to, step}
use Rattle.machine.proofs.Runs.{Even, even_places_lem, places_even}
use Rattle.journal.specs.Journal.{entry_of}
use Rattle.journal.specs.Ranges.{Numbers, InRange}
use Rattle.journal.proofs.Lines.{or_assoc}
use Rattle.journal.proofs.Undone.{taken_back}
use Rattle.control.proofs.Laws.{lawful_rules}
use Rattle.claims_back.specs.History.{held_as, History, begins, steps, held}
use Rattle.claims_back.specs.StepBack.{earlier}

-- what a call's tests ask, and a journal's entries
pub record Sound (m : Machine) : Type 0 where
  pub stays_in_range : InRange m
  pub even : Even m.state

pub lengths_fit_lem : {m : Machine} → Sound m → lengths_fit m.P m.D m.I m.O ≡ true
lengths_fit_lem s = let r = s.stays_in_range in rw (r.program.many, r.memory.many, r.inputs.many, r.outputs.many)

pub held_sound : {m : Machine} (c : ℕ) {p : ℕ} {I : List ℕ} (L : List ℕ) → p < 256 → Numbers 256 65536 I → Sound m → Sound (held_as c p I L m)
held_sound c L l h s =
    let r = s.stays_in_range in
    record {
      stays_in_range =
          record {
            registers = r.registers;
            pc = r.pc;
            enabled = r.enabled;
            pending = l;
            line = r.line;
            address = r.address;
            program = r.program;
            memory = r.memory;
            inputs = h;
            outputs = r.outputs;
          };
      even = s.even;
    }

-- a history begins where the tests of a call pass
pub sound_begins : {xs : List ℕ} {m : Machine} → Sound m → History xs m []
sound_begins {m = m} s = begins s.stays_in_range (even_places_lem m.state s.even)

pub step_sound : {m next : Machine} → step m ≡ to next → Sound m → Sound next
step_sound {m} {next} e s =
    record { stays_in_range = (taken_back m next s.stays_in_range e).stays_in_range; even = lawful_rules.even m next e s.even }

pub record Known (xs : List ℕ) (m : Machine) (ms : List Machine) : Type 0 where
  pub sound : Sound m
  pub places : length ms ≤ length xs
  pub done : length ms ≤ m.state.n

pub known : {xs : List ℕ} {m : Machine} {ms : List Machine} → History xs m ms → Known xs m ms
known (begins {m} r e) = record { sound = record { stays_in_range = r; even = places_even m.state e }; places = omega arith; done = omega arith }
known (steps {m} {next} h e l x) =
    let k = known h in
    record { sound = step_sound e k.sound; places = l; done = omega (arith, k.done, lawful_rules.counts m next e) }
known (held {m} h c lines I L l n) =
    let k = known h in
    let few = or_lt 8 m.state.pending lines k.sound.stays_in_range.pending l in
    record { sound = held_sound c L few n k.sound; places = k.places; done = k.done }

-- held with no line raised
pub unraised : {xs : List ℕ} {m : Machine} {ms : List Machine} → History xs m ms → (c : ℕ) (I L : List ℕ) → Numbers 256 65536 I
    → History xs (held_as c m.state.pending I L m) ms
unraised {xs} {m} {ms} h c I L n =
    subst (λ p. History xs (held_as c p I L m) ms) (or_zero_r m.state.pending) (held h c 0 I L (omega arith) n)

-- the last step, of p
pub record Last (xs : List ℕ) (m p : Machine) (ms : List Machine) : Type 0 where
  pub next : Machine
  pub stepped : step p ≡ to next
  pub led : m ≡ held_as m.state.journaled m.state.pending m.I m.L next
  pub lines : ℕ
  pub raised : m.state.pending ≡ bit_or next.state.pending lines
  pub place : length ms < length xs
  pub entry : get_or xs (length ms) 0 ≡ entry_of p
  pub before : History xs p ms

pub last : {xs : List ℕ} {m p : Machine} {ms : List Machine} → History xs m (p ∷ ms) → Last xs m p ms
last (steps {next} h e l x) =
    record { next = next; stepped = e; led = refl; lines = 0; raised = sym (or_zero_r next.state.pending); place = l; entry = x; before = h }
last (held {m} h c lines I L l n) =
    let z = last h in
    record {
      next = z.next;
      stepped = z.stepped;
      led = ap (held_as c (bit_or m.state.pending lines) I L) z.led;
      lines = bit_or z.lines lines;
      raised = ap (λ p. bit_or p lines) z.raised ∙ or_assoc z.next.state.pending z.lines lines;
      place = z.place;
      entry = z.entry;
      before = z.before;
    }

-- a journal whose places of these steps are the same
pub alike : {xs : List ℕ} {m : Machine} {ms : List Machine} (ys : List ℕ) → History xs m ms → length ms ≤ length ys
    → ((i : ℕ) → i < length ms → get_or ys i 0 ≡ get_or xs i 0) → History ys m ms
alike ys (begins r e) h a = begins r e
alike ys (steps {ms} z e l x) h a = steps (alike ys z (omega arith) (λ i b. a i (omega arith))) e h (a (length ms) (omega arith) ∙ x)
alike ys (held z c lines I L l n) h a = held (alike ys z h a) c lines I L l n

-- the history k steps earlier
pub earlier_history : {xs : List ℕ} {m : Machine} (k : ℕ) (ms : List Machine) → History xs m ms → History xs (earlier k m ms) (drop k ms)
unfolding earlier
earlier_history zero ms z = z
earlier_history (suc k) [] z = z
earlier_history (suc k) (p ∷ ms) z = earlier_history k ms (last z).before
