-- On the single-memory board the program is zeroed.
use mathlib.Core.Path.{◌∙◌}
use Rattle.image.proofs.fill.Goals as goal

pub returns-in-SingleMemory : goal.returns-in-SingleMemory
returns-in-SingleMemory c = rw c.in-SingleMemory.is (c.fill.ensures.after (λ y e. e) ∙ rw c.requires.1, c.place_both.ensures)
