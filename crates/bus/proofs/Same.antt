-- The same slices after one call and another.
-- Assumes nothing.
use mathlib.Core.Path.{◌∙◌}
use Rattle.bus.specs.declared.lent.Bus.{Bus}
use Rattle.bus.specs.declared.lent.Log.{Log}
use Rattle.bus.specs.Lent.{SameBus, SameLog}

pub then_bus : {a b c : Bus} → SameBus a b → SameBus b c → SameBus a c
then_bus p q = record { memory = q.memory ∙ p.memory; inputs = q.inputs ∙ p.inputs; outputs = q.outputs ∙ p.outputs }

pub then_log : {a b c : Log} → SameLog a b → SameLog b c → SameLog a c
then_log p q = record { places = q.places ∙ p.places; many = q.many ∙ p.many }
