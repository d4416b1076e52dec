-- The file is a part of its array.
use Rattle.std.proofs.Common.{sym, arith, length-take-le}
use Rattle.trimfile.proofs.Replies.{fits}
use Rattle.panelasm.proofs.main.Goals as goal

pub slice_bounds-file-end : goal.slice_bounds-file-end
slice_bounds-file-end c = omega (arith, fits _ _ c.in-Ok.ensures)

pub slice_bounds-write_all-end : goal.slice_bounds-write_all-end
slice_bounds-write_all-end c = sym (length-take-le _ _ (omega (arith, fits _ _ c.in-Ok.ensures)))
