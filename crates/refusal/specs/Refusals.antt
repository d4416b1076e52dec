-- The refusal table of 01 and the numbers that join it in 02: the number of each refusal, and the reply of a call that is
-- accepted or refused with a number.
use Rattle.std.specs.Prelude.{ℕ, Result}
use Rattle.std.specs.declared.result.Result.TheVariants.{Ok, Err}
use Rattle.refusal.specs.declared.Refusal.{Refusal}
use Rattle.refusal.specs.declared.Refusal.TheVariants.{LentLength, ShortFile, LargePart, PartOutside, OddPc, StepCount, InstructionPart, LongFile, ShortDestination, TextLine, TextName, TextValue, FullSheet, ShortJournal, SmallBoard, LineNumber, TrimCount, LockedRange}

abbrev pub refusal_number : Refusal → ℕ
-- P or D not 65,536 bytes, or I or O not 256 words (set looks at I only)
refusal_number LentLength = 1
-- file under 16 bytes
refusal_number ShortFile = 2
-- W or C over its limit
refusal_number LargePart = 3
-- an offset or part end outside its bounds
refusal_number PartOutside = 4
-- PC odd, or the return address (02, L12)
refusal_number OddPc = 5
-- n plus budget over 4,294,967,295
refusal_number StepCount = 6
-- instruction with a part out of range, or an unused part not 0
refusal_number InstructionPart = 7
-- the program's file exceeds 65,536 bytes
refusal_number LongFile = 8
-- destination shorter than the file (02, L1)
refusal_number ShortDestination = 9
-- line outside the grammar or past a stated size (02, L2)
refusal_number TextLine = 10
-- a name unknown, or given on an earlier line (02, L2)
refusal_number TextName = 11
-- a value its field can't hold (02, L2)
refusal_number TextValue = 12
-- an accepted run fed after 65,535 such (02, L5)
refusal_number FullSheet = 13
-- the journal holds fewer than k steps (02, L7)
refusal_number ShortJournal = 14
-- single-memory board and 2W plus C over 65,536 (02, L11)
refusal_number SmallBoard = 15
-- line over 7 (02, L12)
refusal_number LineNumber = 16
-- no trims or more than 8 (02, L13)
refusal_number TrimCount = 17
-- a range with first over last (02, L14)
refusal_number LockedRange = 18

-- whether a call is accepted: it is, or it is refused with this number
pub data Verdict : Type 0 where
  accepted : Verdict
  refused : ℕ → Verdict

-- the reply of a call that answers Ok, or Err with the refusal
abbrev pub shown_check : Result Unit Refusal → Verdict
shown_check (Ok _) = accepted
shown_check (Err r) = refused (refusal_number r)
