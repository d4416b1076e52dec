-- Any other refusal has no reason.
use mathlib.Core.Path.{◌≡◌, refl}
use mathlib.Core.List.{[]}
use native.Mathlib.Omega.{arith}
use Rattle.refusal.specs.declared.Refusal.{Refusal}
use Rattle.refusal.specs.declared.Refusal.TheVariants.{LentLength, ShortFile, LargePart, PartOutside, OddPc, StepCount, InstructionPart, LongFile, ShortDestination, TextLine, TextName, TextValue, FullSheet, ShortJournal, SmallBoard, LineNumber, TrimCount, LockedRange}
use Rattle.refusal.specs.Refusals.{refusal_number}
use Rattle.diagnostic.specs.Diagnostic.{reason}
use Rattle.diagnostic.proofs.reason.Goals as goal

none : (r : Refusal) → (r ≡ LentLength → ⊥) → (r ≡ ShortDestination → ⊥) → (r ≡ TextLine → ⊥) → (r ≡ TextName → ⊥) → (r ≡ TextValue → ⊥) → [] ≡ reason (refusal_number r)
unfolding reason
none LentLength h _ _ _ _ = absurd (h refl)
none ShortFile _ _ _ _ _ = refl
none LargePart _ _ _ _ _ = refl
none PartOutside _ _ _ _ _ = refl
none OddPc _ _ _ _ _ = refl
none StepCount _ _ _ _ _ = refl
none InstructionPart _ _ _ _ _ = refl
none LongFile _ _ _ _ _ = refl
none ShortDestination _ h _ _ _ = absurd (h refl)
none TextLine _ _ h _ _ = absurd (h refl)
none TextName _ _ _ h _ = absurd (h refl)
none TextValue _ _ _ _ h = absurd (h refl)
none FullSheet _ _ _ _ _ = refl
none ShortJournal _ _ _ _ _ = refl
none SmallBoard _ _ _ _ _ = refl
none LineNumber _ _ _ _ _ = refl
none TrimCount _ _ _ _ _ = refl
none LockedRange _ _ _ _ _ = refl

pub returns-in_default : goal.returns-in_default
returns-in_default c =
    let d = c.in_default in
    record { reason = none c.args.refusal d.not-LentLength d.not-ShortDestination d.not-TextLine d.not-TextName d.not-TextValue; short = omega arith }
