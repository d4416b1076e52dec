-- What `read` answers, in numbers.
use mathlib.Core.Path.{◌∙◌, ap}
use Rattle.replies.specs.Sisa.{sisa_instruction}
use Rattle.sisa.proofs.sisa_read.Goals as goal

pub returns : goal.returns
returns c = c.from.ensures ∙ ap sisa_instruction c.read.ensures
