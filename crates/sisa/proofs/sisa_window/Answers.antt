-- By the numbers of the part (`numbers`).
use mathlib.Core.Path.{◌∙◌}
use Rattle.sisa.proofs.Window.{shows, numbers}
use Rattle.sisa.proofs.sisa_window.Goals as goal

pub returns : goal.returns
returns c =
    let a = c.args in
    let P = a.program.now in
    let D = a.memory.now in
    shows a.state P D a.of_data a.start a.count
    (c.window.ensures ∙ numbers a.state P D a.of_data a.start a.count _ c.window-part.ensures)
