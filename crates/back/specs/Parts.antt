-- What the functions of this crate promise one another, of the state and the lent slices that they see of a machine. Nothing here is
-- promised to a caller.
use Rattle.std.specs.Prelude.{◌≡◌, List, ℕ, ◌-◌, ◌≤◌, length}
use Rattle.std.specs.declared.result.Result.TheVariants.{Ok}
use Rattle.machine.specs.declared.State.{State}
use Rattle.machine.specs.Machine.{put_journaled, on_state}
use Rattle.journal.specs.Parts.{machine_with}
use Rattle.back.specs.declared.Backed.{Backed}
use Rattle.back.specs.Backs.{steps_held, undone, fallen}

-- data, inputs and outputs have their lengths, and the journal holds k steps
pub record CanGo (s : State) (D I O journal : List ℕ) (k : ℕ) : Type 0 where
  pub memory : length D ≡ 65536
  pub inputs : length I ≡ 256
  pub outputs : length O ≡ 256
  pub held : k ≤ steps_held s journal

-- state, data, inputs and outputs, D', I' and O', are those k entries earlier, and the reply says how many of these are an output's
pub record GoneBack (s : State) (D I O journal : List ℕ) (k : ℕ) (r : Backed) (D' I' O' : List ℕ) : Type 0 where
  pub reply : r.reply ≡ Ok (fallen k s.journaled journal)
  pub machine : (P L : List ℕ) → on_state (put_journaled (s.journaled - k)) (undone k s.journaled journal (machine_with s D I O P L)) ≡ machine_with r.state D' I' O' P L
