-- The definition that gives the paper's number and values for each case of an answer fixes the answer: two answers that
-- it shows alike are one.
use Rattle.std.specs.Prelude.{◌≡◌}
use Rattle.refusal.specs.Refusals.{refusal_number, shown_check}
use Rattle.save.specs.Saved.{shown_saving}
use Rattle.assembler.specs.Passes.{shown_assembly}
use Rattle.run.specs.Runs.{shown_answer}
use Rattle.back.specs.Backs.{shown_going}
use Rattle.kinds.specs.Kinds.{kind_number}
use Rattle.isa.specs.Instructions.{shown_writing}
use Rattle.isa.specs.Masks.{shown_decoded}

abbrev pub Injective : {A B : Type 0} → (A → B) → Type 0
Injective {A} f = (x y : A) → f x ≡ f y → x ≡ y

pub record Answers : Type 0 where
  pub refusal : Injective refusal_number
  pub kind : Injective kind_number
  pub decoded : Injective shown_decoded
  pub writing : Injective shown_writing
  pub saving : Injective shown_saving
  pub assembly : Injective shown_assembly
  pub answer : Injective shown_answer
  -- of a load, a setting, a raising, a run, a page and a feeding
  pub check : Injective shown_check
  pub going : Injective shown_going
