-- What holds of every step of the plain machine.
use Rattle.std.specs.Prelude.{◌≡◌, ◌+◌, ◌%◌, set}
use Rattle.word.specs.Word.{pick}
use Rattle.machine.specs.Machine.{Machine}
use Rattle.machine.specs.Step.{PC, to, step}
use Rattle.machine.specs.Run.{fetches_a}
use Rattle.journal.specs.Journal.{reads_key}

pub record StepLaws : Type 0 where
  -- n grows by 1
  pub counts : (m next : Machine) → step m ≡ to next → next.state.n ≡ m.state.n + 1
  -- PC and the return address stay even
  pub even :
      (m next : Machine) → step m ≡ to next → PC m % 2 ≡ 0 → m.state.return_address % 2 ≡ 0
      → (PC next % 2 ≡ 0) × (next.state.return_address % 2 ≡ 0)
  -- IN from port 1 sets input 0 to zero (02, L8); by any other step no input changes
  pub inputs : (m next : Machine) → step m ≡ to next → next.I ≡ pick (fetches_a reads_key m) (set m.I 0 0) m.I
