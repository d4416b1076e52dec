-- By the file's length, then by what load answers.
use mathlib.Core.Path.{sym, ap, ◌∙◌}
use Rattle.refusal.specs.Refusals.{shown_check}
use Rattle.listing.proofs.Lines.{too_long, by_reply}
use Rattle.listing.proofs.line_at.Goals as goal

pub returns-then-file-gt-FILE_BYTES : goal.returns-then-file-gt-FILE_BYTES
returns-then-file-gt-FILE_BYTES c = too_long _ _ c.if-file-gt-FILE_BYTES.true c.refusal_line.ensures

pub word_line-requires : goal.word_line-requires
word_line-requires c = sym (ap shown_check c.in-Ok.is) ∙ c.file_verdict.ensures

pub returns-in-Ok : goal.returns-in-Ok
returns-in-Ok c = by_reply _ _ c.if-file-gt-FILE_BYTES.false (sym (ap shown_check c.in-Ok.is) ∙ c.file_verdict.ensures) c.word_line.ensures

pub returns-in-Err : goal.returns-in-Err
returns-in-Err c = by_reply _ _ c.if-file-gt-FILE_BYTES.false (sym (ap shown_check c.in-Err.is) ∙ c.file_verdict.ensures) c.refusal_line-in-Err.ensures
