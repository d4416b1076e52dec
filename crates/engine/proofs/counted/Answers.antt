-- A short run lends no places (`counts_short`).
use native.Mathlib.Omega.{arith}
use Rattle.run.proofs.Ticks.{few_counted}
use Rattle.engine.proofs.Refusals.{counts_short}
use Rattle.engine.proofs.counted.Goals as goal

pub with_ticks-requires : goal.with_ticks-requires
with_ticks-requires g c = few_counted _ _ (omega (arith, c.ranges.budget)) c.long.ensures

pub with_ticks-requires-2 : goal.with_ticks-requires-2
with_ticks-requires-2 g c =
    few_counted _ _ (omega (arith, c.ranges.budget))
    (counts_short _ _ c.tallied.new.counts c.tallied.result.usage c.tallied.ensures c.tallied.auto.counts)
