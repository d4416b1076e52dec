-- What a step is lent, before it, a, and after it, b: the same slices, whatever stands in them. And what a step function promises.
use Rattle.std.specs.Prelude.{◌≡◌, Bool, ℕ, List, Result, length}
use Rattle.machine.specs.declared.State.{State}
use Rattle.machine.specs.declared.Stop.{Stop}
use Rattle.machine.specs.Machine.{Machine}
use Rattle.machine.specs.Step.{Next}
use Rattle.machine.specs.Held.{Held, held, StepMeets, reason_of, state_left}
use Rattle.bus.specs.declared.lent.Bus.{Bus}
use Rattle.bus.specs.declared.lent.Log.{Log}

pub record SameBus (a b : Bus) : Type 0 where
  pub memory : b.memory.ghost_name ≡ a.memory.ghost_name
  pub inputs : b.inputs.ghost_name ≡ a.inputs.ghost_name
  pub outputs : b.outputs.ghost_name ≡ a.outputs.ghost_name

pub record SameLog (a b : Log) : Type 0 where
  pub places : b.places.ghost_name ≡ a.places.ghost_name
  pub many : length b.places.now ≡ length a.places.now

-- what stands in them: data memory D, inputs I and outputs O
pub record Holds (D I O : List ℕ) (b : Bus) : Type 0 where
  pub memory : b.memory.now ≡ D
  pub inputs : b.inputs.now ≡ I
  pub outputs : b.outputs.now ≡ O

-- registers, and what is lent
abbrev pub held_on : State → Bus → Log → Held
held_on s bus log = held s bus.memory.now bus.inputs.now bus.outputs.now log.places.now log.entries

-- the contract of a step function, of its parameters before and after, and what it answers
abbrev pub StepsAs : (Machine → Next) → Bool → State → Bus → Log → Bus → Log → Result State Stop → Type 0
StepsAs next writes s bus log bus' log' r = StepMeets next writes (held_on s bus log) (reason_of r) (held_on (state_left s r) bus' log')
