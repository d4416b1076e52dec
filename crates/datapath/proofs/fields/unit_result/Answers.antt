-- The second operand, handed to the unit.
use mathlib.Core.Path.{◌∙◌, ap}
use lib.ListN.{get_or}
use Rattle.word.specs.Fields.{f_of}
use Rattle.control.specs.Control.{units, unit_field, unit}
use Rattle.datapath.proofs.fields.unit_result.Goals as goal

pub returns : goal.returns
unfolding unit
returns c =
    let a = c.args in
    c.unit_of.ensures ∙ ap (λ z. get_or (units (f_of a.w) a.x z) (unit_field a.control) 0) c.second_operand.ensures
