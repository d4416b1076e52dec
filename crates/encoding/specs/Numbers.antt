-- The code's reply for a line in the terms of Words.
use Rattle.std.specs.Prelude.{ℕ, ◌≡◌, Option, Result}
use Rattle.std.specs.declared.option.Option.TheVariants.{Some, None}
use Rattle.std.specs.declared.result.Result.TheVariants.{Ok, Err}
use Rattle.refusal.specs.declared.Refusal.{Refusal}
use Rattle.refusal.specs.Refusals.{refusal_number}
use Rattle.encoding.specs.declared.Judged.{Judged as Outcome}
use Rattle.statement.specs.declared.line.Statement.{Statement}
use Rattle.encoding.specs.Words.{Judged, bad, nothing, gives, stated, words_in}
use Rattle.statement.specs.Parts.{shown_statement}

-- of a statement that has a word's place
abbrev pub given_word : Result ℕ Refusal → Judged
given_word (Ok w) = gives w
given_word (Err r) = bad (refusal_number r)

abbrev pub shown_word : Result (Option ℕ) Refusal → Judged
shown_word (Ok None) = nothing
shown_word (Ok (Some w)) = gives w
shown_word (Err r) = bad (refusal_number r)

abbrev pub shown_judged : Outcome → Judged
shown_judged j = shown_word j.word

-- what `stated` says: what the statement comes to, and whether it has a word's place
pub record OneWord (s : Option Statement) (address : ℕ) (j : Outcome) : Type 0 where
  pub comes_to : shown_judged j ≡ stated address (shown_statement s)
  pub places : j.words ≡ words_in (shown_statement s)
