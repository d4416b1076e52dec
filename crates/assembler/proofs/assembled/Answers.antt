-- By what the second pass found.
use mathlib.Core.Path.{sym, ◌∙◌}
use Rattle.assembler.proofs.Replying.{left_refused, left_words}
use Rattle.assembler.proofs.assembled.Goals as goal

pub returns-then-is_err : goal.returns-then-is_err
returns-then-is_err c = left_refused _ _ c.pass-first.ensures.0 c.pass-second.ensures.0 (sym c.is_err.ensures.value ∙ c.if-is_err.true) (c.copy-then-is_err.ensures ∙ c.copy.ensures)

pub returns-else-is_err : goal.returns-else-is_err
returns-else-is_err c =
    left_words _ _ c.pass-first.ensures.0 c.pass-second.ensures.0 (sym c.is_err.ensures.value ∙ c.if-is_err.false) c.requires.0 c.requires.1 c.pass-second.ensures.1
