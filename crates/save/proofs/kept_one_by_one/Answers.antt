-- The loop looks for the last byte that is not zero (`Narrowed`).
use native.Mathlib.Omega.{arith}
use Rattle.save.proofs.Kept.{narrow_one, narrow_found, narrow_none}
use Rattle.save.proofs.kept_one_by_one.Goals as goal

pub returns-then-bytes-at-ne0 : goal.returns-then-bytes-at-ne0
returns-then-bytes-at-ne0 c = narrow_found c.loop-at.invariant (omega arith) c.if-bytes-at-ne0.true

pub loop-at-preserved : goal.loop-at-preserved
loop-at-preserved c = narrow_one c.loop-at.invariant (omega arith) c.if-bytes-at-ne0.false

pub returns : goal.returns
returns c = narrow_none c.loop-at.invariant (omega arith)
