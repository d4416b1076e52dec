-- The place's word, and nothing where n is 0.
use mathlib.Core.Path.{sym, ◌∙◌, ap}
use Rattle.usage.specs.Counting.{counted_steps}
use Rattle.places.specs.Places.{word_of}
use Rattle.places.proofs.Steps.{steps_none}
use Rattle.places.proofs.count_place.Goals as goal

pub returns-else-n-ne0 : goal.returns-else-n-ne0
returns-else-n-ne0 c =
    let u = c.args.usage.now in
    let w = word_of c.args.place in
    sym (ap (λ n. counted_steps n w u) c.if-n-ne0.false ∙ steps_none w u)
