-- A run with a journal and without one, told by whether it keeps one.
-- Assumes nothing.
use mathlib.Core.Path.{◌≡◌, refl}
use mathlib.Core.Bool.{Bool, true, false}
use mathlib.Core.List.{List}
use Prim.Native.Nat.{ℕ, ◌+◌, ◌-◌, min, ◌≤◌}
use native.Mathlib.Omega.{arith}
use lib.ListN.{length}
use Rattle.machine.specs.declared.State.{State}
use Rattle.machine.specs.Machine.{even_places}
use Rattle.machine.specs.Run.{Stepper}
use Rattle.run.specs.Runs.{Journal, no_journal, lent_journal, Given, given, journal_if, start_in, allowed_in, allowed, accepted_counted}

-- the count that a run starts from, and the steps that it may take, fit 64 bits together
pub count_fits : (keeps : Bool) (xs : List ℕ) (s : State) (budget : ℕ) → s.journaled ≤ 18446744073709551615 → length xs ≤ 18446744073709551615
    → budget ≤ 18446744073709551615 → (start_in (journal_if keeps xs) s).journaled + allowed_in (journal_if keeps xs) s.journaled budget ≤ 18446744073709551615
count_fits true xs s budget h l b = omega arith
count_fits false xs s budget h l b = omega arith

-- ---- An accepted run is the one from the state that it starts from, with the steps that it may take

abbrev pub started : Given → Given
started g = given (start_in g.journal g.state) g.P g.D g.I g.O (allowed g) g.log g.journal

pub record Started (g : Given) : Type 0 where
  pub places : even_places (started g).state ≡ even_places g.state
  pub n : (started g).state.n ≡ g.state.n
  pub few : (started g).budget ≤ g.budget
  pub starts : started (started g) ≡ started g
  pub same : (v : Stepper) → accepted_counted v (started g) ≡ accepted_counted v g

pub is_started : (g : Given) → Started g
is_started g = by_journal g.journal
  where
    by_journal : (j : Journal) → Started (given g.state g.P g.D g.I g.O g.budget g.log j)
    by_journal no_journal = record { places = refl; n = refl; few = omega arith; starts = refl; same = λ v. refl }
    by_journal (lent_journal xs) =
        let places = length xs - g.state.journaled in
        let again : min (min g.budget places) places ≡ min g.budget places = omega arith in
        record { places = refl; n = refl; few = omega arith; starts = rw again; same = λ v. rw again }
