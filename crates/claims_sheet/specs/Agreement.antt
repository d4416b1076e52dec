-- A step by the table is the plain machine's, for every machine, L with its entry included: where it fetches, the table's own word gives it. So
-- a run by the table is a run by the rules.
use Rattle.std.specs.Prelude.{◌≡◌, ℕ}
use Rattle.machine.specs.Machine.{Machine}
use Rattle.machine.specs.Step.{fetched, step}
use Rattle.machine.specs.Run.{is_out, by_rules}
use Rattle.control.specs.Control.{control_of, control_step, writes_port, by_the_table}
use Rattle.run.specs.Runs.{Given, counted_left}
use Rattle.claims_sheet.specs.Rules.{FetchesNow}

pub record Agreement : Type 0 where
  pub steps : (m : Machine) → by_the_table.steps m ≡ step m
  -- where it fetches (02, L12 and L14), it is what the table's word for the word fetched does
  pub by_word : (m : Machine) → FetchesNow m → control_step (control_of (fetched m)) (fetched m) m ≡ step m
  -- and it writes a port exactly where the word is OUT
  pub ports : (w : ℕ) → writes_port (control_of w) ≡ is_out w
  -- what the two runs promise is one relation, their counts included
  pub runs : (g : Given) → counted_left by_the_table g ≡ counted_left by_rules g
