-- The loop drops blocks of zeros (`Narrowed`).
use mathlib.Core.Path.{sym, ◌∙◌}
use native.Mathlib.Omega.{arith}
use Rattle.save.proofs.Kept.{narrow_part, narrow_ends}
use Rattle.save.proofs.bytes_kept.Goals as goal

pub loop-end-preserved : goal.loop-end-preserved
loop-end-preserved c = narrow_part _ c.loop-end.invariant (omega arith) (sym c.all_zero.ensures ∙ c.if-all_zero.true)

pub returns : goal.returns
returns c = narrow_ends _ c.loop-end.invariant c.kept_one_by_one.ensures
