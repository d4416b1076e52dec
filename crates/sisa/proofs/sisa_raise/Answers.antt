-- What raising leaves, in numbers.
use mathlib.Core.Path.{ap, ◌∙◌}
use Rattle.panel.specs.Calls.{RaiseLeft}
use Rattle.replies.specs.Sisa.{sisa_raised, sisa_raise}
use Rattle.sisa.proofs.sisa_raise.Goals as goal

pub returns : goal.returns
unfolding sisa_raise
returns c = c.from.ensures ∙ ap (λ (l : RaiseLeft). sisa_raised l.reply l.state) c.raise-raised.ensures
