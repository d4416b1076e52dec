-- What the contracts of the run's private functions cite. Nothing here is promised to a caller.
use Rattle.std.specs.Prelude.{◌≡◌, Bool, true, List, ℕ, ◌+◌, ◌≤◌, length}
use Rattle.machine.specs.Machine.{even_places}
use Rattle.machine.specs.Run.{Stepper}
use Rattle.machine.specs.Held.{is_lock_stop}
use Rattle.machine.specs.declared.State.{State}
use Rattle.machine.specs.Slices.{MutSlice, Slice, before, after, read_before, read_after}
use Rattle.bus.specs.declared.lent.Bus.{Bus}
use Rattle.bus.specs.declared.lent.Log.{Log}
use Rattle.places.specs.Places.{tallied}
use Rattle.usage.specs.declared.Usage.{Usage}
use Rattle.run.specs.declared.Tallied.{Tallied}
use Rattle.run.specs.Runs.{Journal, Given, given, start_in, allowed, Left, left, shown_answer, CountedLeft, CountedMeets, journal_if, lent_to, left_with, accepted_counted}
use Rattle.run.specs.Parts.{ticks_by}

-- what the loop of an accepted run needs, which the refusals leave
pub record CanRun (g : Given) : Type 0 where
  pub program : length g.P ≡ 65536
  pub memory : length g.D ≡ 65536
  pub inputs : length g.I ≡ 256
  pub outputs : length g.O ≡ 256
  pub even : even_places g.state ≡ true
  pub counts : g.state.n + g.budget ≤ 4294967295
  -- the state is the one that a run starts from, and its journal has room for so many steps
  pub starts : start_in g.journal g.state ≡ g.state
  pub room : allowed g ≡ g.budget
  -- the count of its entries can't overflow
  pub fits : g.state.journaled + g.budget ≤ 18446744073709551615

-- r is whether a machine of this state, program and data memory can't step for a locked byte
abbrev pub StopsLocked : Stepper → State → List ℕ → List ℕ → Bool → Type 0
StopsLocked v s P D r = (I O L : List ℕ) → is_lock_stop (v.steps (record { state = s; P = P; D = D; I = I; O = O; L = L })) ≡ r

-- what a run with the counts u leaves, its ticks worked out
abbrev pub left_timed : Left → Usage → CountedLeft
left_timed l u = record { left = l; usage = u; ticks = ticks_by l.reply u }

-- what a run leaves with its reply, where its counts are those replied or, where places are lent, what is counted there
abbrev pub left_tallied : Slice → MutSlice → MutSlice → MutSlice → MutSlice → Journal → MutSlice → Tallied → CountedLeft
left_tallied program memory inputs outputs log journal counts r =
    left_timed (left_with program memory inputs outputs log journal r.answer r.state) (tallied (after counts) r.usage)

-- what a run is given and leaves, with what it is lent on a bus and a log
abbrev pub given_on : State → List ℕ → Bus → ℕ → Log → Journal → Given
given_on state P bus budget log journal = given state P bus.memory.now bus.inputs.now bus.outputs.now budget log.places.now journal

abbrev pub left_on : List ℕ → Bus → Log → Journal → Tallied → Left
left_on P bus log journal r = left (shown_answer r.answer) r.state P bus.memory.now bus.inputs.now bus.outputs.now log.places.now journal

-- the contract of the loop of an accepted run, with a journal where it keeps one
abbrev pub RunsAccepted : Stepper → State → Slice → Bus → Bus → ℕ → Log → Log → Bool → MutSlice → MutSlice → Tallied → Type 0
RunsAccepted v start program bus bus' budget log log' keeps journal counts r =
    left_timed (left_on (read_after program) bus' log' (journal_if keeps (after journal)) r) (tallied (after counts) r.usage)
    ≡ accepted_counted v (given_on start (read_before program) bus budget log (journal_if keeps (before journal)))

-- that of a run with its refusals
abbrev pub RunsTallied : Stepper → State → Slice → MutSlice → MutSlice → MutSlice → ℕ → MutSlice → Bool → MutSlice → MutSlice → Tallied → Type 0
RunsTallied v state program memory inputs outputs budget log keeps journal counts r =
    CountedMeets v (lent_to state program memory inputs outputs budget log (journal_if keeps (before journal)))
    (left_tallied program memory inputs outputs log (journal_if keeps (after journal)) counts r)

-- that of a run that lends no places
abbrev pub RunsIf : Stepper → State → Slice → MutSlice → MutSlice → MutSlice → ℕ → MutSlice → Bool → MutSlice → Tallied → Type 0
RunsIf v state program memory inputs outputs budget log keeps journal r =
    CountedMeets v (lent_to state program memory inputs outputs budget log (journal_if keeps (before journal)))
    (left_timed (left_with program memory inputs outputs log (journal_if keeps (after journal)) r.answer r.state) r.usage)
