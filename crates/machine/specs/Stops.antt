-- The stop reasons of 01, "Runs": 0 is a used budget.
use Rattle.std.specs.Prelude.{ℕ}
use Rattle.machine.specs.declared.Stop.{Stop}
use Rattle.machine.specs.declared.Stop.TheVariants.{Unassigned, FullLog, ZeroDivisor, LockedByte}

abbrev pub stop_number : Stop → ℕ
-- the word is unassigned
stop_number Unassigned = 1
-- it is OUT, and the log is full
stop_number FullLog = 2
-- its divisor is zero
stop_number ZeroDivisor = 3
-- it touches a locked byte
stop_number LockedByte = 4
