-- The result's bytes and the store's.
use mathlib.Core.Path.{ap, ap₂, ◌∙◌}
use mathlib.Core.Bool.{◌||◌}
use Rattle.machine.specs.Machine.{touches_locked}
use Rattle.control.specs.Control.{result_field, store_field, unit, touched_by, locked_access}
use Rattle.datapath.specs.Parts.{unit_of}
use Rattle.datapath.proofs.Locks.{touches_both}
use Rattle.datapath.proofs.fields.is_locked_access.Goals as goal

pub returns : goal.returns
unfolding locked_access
returns c =
    let a = c.args in
    let u = unit_of a.control a.w a.state in
    let eu = c.unit_result-u.ensures ∙ ap₂ (unit a.control a.w) c.sources-p.ensures.0 c.sources-p.ensures.1 in
    ap₂ ◌||◌ c.touches.ensures c.touches-2.ensures
    ∙ ap (λ v. touches_locked (touched_by (result_field a.control) v) a.state || touches_locked (touched_by (store_field a.control) v) a.state) eu
    ∙ touches_both (touched_by (result_field a.control) u) (touched_by (store_field a.control) u) a.state
