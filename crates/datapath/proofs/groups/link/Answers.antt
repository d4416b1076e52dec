-- By the equations of what it calls.
use mathlib.Core.Path.{ap, ap₂, ◌∙◌}
use Rattle.word.specs.Word.{clear0}
use Rattle.machine.specs.Machine.{put_pc}
use Rattle.control.specs.Control.{written}
use Rattle.datapath.proofs.groups.link.Goals as goal

pub returns : goal.returns
returns c =
    let a = c.args in
    c.write_destination.ensures
    ∙ ap₂ (written a.control a.w) c.sum.ensures
    (c.with_pc-next.ensures ∙ ap₂ put_pc (c.clear_bit0.ensures ∙ ap clear0 c.ra.ensures) c.counted.ensures)
