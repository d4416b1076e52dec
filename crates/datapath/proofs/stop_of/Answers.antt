-- By the tests.
use mathlib.Core.Path.{sym, ◌∙◌}
use Rattle.datapath.proofs.stop_of.Goals as goal

pub returns-then-divides_by_zero : goal.returns-then-divides_by_zero
returns-then-divides_by_zero c = rw (sym c.is_assigned.ensures ∙ c.if-is_assigned.true, sym c.divides_by_zero.ensures ∙ c.if-divides_by_zero.true)

pub returns-then-writes_port-full : goal.returns-then-writes_port-full
returns-then-writes_port-full c = rw (sym c.is_assigned.ensures ∙ c.if-is_assigned.true, sym c.divides_by_zero.ensures ∙ c.if-divides_by_zero.false, sym c.writes_port.ensures, c.if-writes_port-full.true)

pub returns-else-writes_port-full : goal.returns-else-writes_port-full
returns-else-writes_port-full c = rw (sym c.is_assigned.ensures ∙ c.if-is_assigned.true, sym c.divides_by_zero.ensures ∙ c.if-divides_by_zero.false, sym c.writes_port.ensures, c.if-writes_port-full.false)

pub returns-else-is_assigned : goal.returns-else-is_assigned
returns-else-is_assigned c = rw (sym c.is_assigned.ensures ∙ c.if-is_assigned.false)
