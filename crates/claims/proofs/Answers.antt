-- A function that another undoes is injective.
-- Assumes nothing.
use mathlib.Core.Path.{◌≡◌, refl, sym, ◌∙◌, ap}
use mathlib.Core.List.{[], ◌∷◌}
use Prim.Native.Nat.{ℕ}
use lib.ListN.{get_or}
use Rattle.std.specs.Prelude.{Option, Result}
use Rattle.std.specs.declared.option.Option.TheVariants.{Some, None}
use Rattle.std.specs.declared.result.Result.TheVariants.{Ok, Err}
use Rattle.refusal.specs.declared.Refusal.{Refusal}
use Rattle.refusal.specs.declared.Refusal.TheVariants.{LentLength, ShortFile, LargePart, PartOutside, OddPc, StepCount, InstructionPart, LongFile, ShortDestination, TextLine, TextName, TextValue, FullSheet, ShortJournal, SmallBoard, LineNumber, TrimCount, LockedRange}
use Rattle.refusal.specs.Refusals.{refusal_number, Verdict, accepted, refused, shown_check}
use Rattle.kinds.specs.declared.Kind.TheVariants.{And}
use Rattle.isa.specs.declared.Decoded.{Decoded}
use Rattle.isa.specs.declared.Instruction.{Instruction}
use Rattle.assembler.specs.declared.Rejected.{Rejected}
use Rattle.assembler.specs.Text.{Reply, words, text_refused}
use Rattle.assembler.specs.Passes.{shown_assembly}
use Rattle.save.specs.Saved.{SaveReply, saved, save_refused, shown_saving}
use Rattle.run.specs.declared.Report.{Report}
use Rattle.run.specs.Runs.{RunReply, stopped, run_refused, shown_answer}
use Rattle.back.specs.Backs.{BackReply, gone_back, back_refused, shown_going}
use Rattle.kinds.specs.Kinds.{kinds}
use Rattle.isa.specs.Instructions.{Read, instruction, unassigned, shown_reading, WriteReply, word, write_refused, shown_writing}
use Rattle.isa.specs.Masks.{Decoding, shown_decoded}
use Rattle.isa.proofs.Every.{listed}
use Rattle.claims.specs.Answers.{Injective, Answers}

pub undone : {A B : Type 0} (f : A → B) (g : B → A) → ((x : A) → g (f x) ≡ x) → Injective f
undone f g h x y e = sym (h x) ∙ ap g e ∙ h y

-- the refusal of a number
abbrev refusal_at : ℕ → Refusal
refusal_at n = get_or (LentLength ∷ LentLength ∷ ShortFile ∷ LargePart ∷ PartOutside ∷ OddPc ∷ StepCount ∷ InstructionPart ∷ LongFile ∷ ShortDestination ∷ TextLine ∷ TextName ∷ TextValue ∷ FullSheet ∷ ShortJournal ∷ SmallBoard ∷ LineNumber ∷ TrimCount ∷ LockedRange ∷ []) n LentLength

refusal_back : (x : Refusal) → refusal_at (refusal_number x) ≡ x
refusal_back LentLength = refl
refusal_back ShortFile = refl
refusal_back LargePart = refl
refusal_back PartOutside = refl
refusal_back OddPc = refl
refusal_back StepCount = refl
refusal_back InstructionPart = refl
refusal_back LongFile = refl
refusal_back ShortDestination = refl
refusal_back TextLine = refl
refusal_back TextName = refl
refusal_back TextValue = refl
refusal_back FullSheet = refl
refusal_back ShortJournal = refl
refusal_back SmallBoard = refl
refusal_back LineNumber = refl
refusal_back TrimCount = refl
refusal_back LockedRange = refl

reading_of : Read → Option Instruction
reading_of (instruction i) = Some i
reading_of unassigned = None

reading_back : (x : Option Instruction) → reading_of (shown_reading x) ≡ x
unfolding reading_of
reading_back (Some i) = refl
reading_back None = refl

decoded_of : Decoding → Decoded
decoded_of z = record { reading = reading_of z.reading; reads = z.masks.reads; writes = z.masks.writes }

decoded_back : (x : Decoded) → decoded_of (shown_decoded x) ≡ x
unfolding decoded_of
decoded_back x = ap (λ (y : Option Instruction). record { reading = y; reads = x.reads; writes = x.writes }) (reading_back x.reading)

writing_of : WriteReply → Result ℕ Refusal
writing_of (word w) = Ok w
writing_of (write_refused n) = Err (refusal_at n)

writing_back : (x : Result ℕ Refusal) → writing_of (shown_writing x) ≡ x
unfolding writing_of
writing_back (Ok w) = refl
writing_back (Err r) = ap Err (refusal_back r)

check_of : Verdict → Result Unit Refusal
check_of accepted = Ok tt
check_of (refused n) = Err (refusal_at n)

check_back : (x : Result Unit Refusal) → check_of (shown_check x) ≡ x
unfolding check_of
check_back (Ok x) = refl
check_back (Err r) = ap Err (refusal_back r)

saving_of : SaveReply → Result ℕ Refusal
saving_of (saved n) = Ok n
saving_of (save_refused n) = Err (refusal_at n)

saving_back : (x : Result ℕ Refusal) → saving_of (shown_saving x) ≡ x
unfolding saving_of
saving_back (Ok n) = refl
saving_back (Err r) = ap Err (refusal_back r)

assembly_of_lem : Reply → Result ℕ Rejected
assembly_of_lem (words n) = Ok n
assembly_of_lem (text_refused k n) = Err (record { line = k; refusal = refusal_at n })

assembly_back : (x : Result ℕ Rejected) → assembly_of_lem (shown_assembly x) ≡ x
unfolding assembly_of_lem
assembly_back (Ok n) = refl
assembly_back (Err r) = ap (λ (f : Refusal). Err (record { line = r.line; refusal = f })) (refusal_back r.refusal)

answer_of : RunReply → Result Report Refusal
answer_of (stopped q s k) = Ok (record { stop = q; steps = s; entries = k })
answer_of (run_refused n) = Err (refusal_at n)

answer_back : (x : Result Report Refusal) → answer_of (shown_answer x) ≡ x
unfolding answer_of
answer_back (Ok r) = refl
answer_back (Err r) = ap Err (refusal_back r)

going_of : BackReply → Result ℕ Refusal
going_of (gone_back e) = Ok e
going_of (back_refused n) = Err (refusal_at n)

going_back : (x : Result ℕ Refusal) → going_of (shown_going x) ≡ x
unfolding going_of
going_back (Ok e) = refl
going_back (Err r) = ap Err (refusal_back r)

pub answers : Answers
answers =
    record {
      refusal = undone refusal_number refusal_at refusal_back;
      kind = undone _ (λ n. get_or kinds n And) (λ k. (listed k).1);
      decoded = undone shown_decoded decoded_of decoded_back;
      writing = undone shown_writing writing_of writing_back;
      saving = undone shown_saving saving_of saving_back;
      assembly = undone shown_assembly assembly_of_lem assembly_back;
      answer = undone shown_answer answer_of answer_back;
      check = undone shown_check check_of check_back;
      going = undone shown_going going_of going_back;
    }
