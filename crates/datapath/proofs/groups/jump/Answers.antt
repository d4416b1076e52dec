-- By the equations of what it calls.
use mathlib.Core.Path.{ap, ap₂, ◌∙◌}
use Rattle.machine.specs.Machine.{put_pc}
use Rattle.control.specs.Control.{next}
use Rattle.datapath.proofs.groups.jump.Goals as goal

pub returns : goal.returns
returns c =
    let a = c.args in
    c.with_pc.ensures
    ∙ ap₂ put_pc
    (c.next_pc-next.ensures ∙ ap (λ x. next a.control a.w x a.state.pc) c.ra.ensures)
    c.counted.ensures
