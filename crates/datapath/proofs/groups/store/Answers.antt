-- By the equations of what it calls.
use mathlib.Core.Path.{ap₂, ◌∙◌}
use Rattle.control.specs.Control.{stored_data}
use Rattle.datapath.proofs.Together.{address_is}
use Rattle.datapath.proofs.groups.store.Goals as goal

pub returns : goal.returns
returns c =
    let p = c.sources-p.ensures in
    let a = c.args in
    c.store_data.ensures
    ∙ ap₂ (λ y u. stored_data a.control y u a.memory.now) p.1 (address_is a.w a.state c.address.ensures p.0)
