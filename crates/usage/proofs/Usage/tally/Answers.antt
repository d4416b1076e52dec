-- One step is n = 1.
use mathlib.Core.Path.{◌∙◌}
use native.Mathlib.Omega.{arith}
use Rattle.usage.proofs.Words.{steps_once}
use Rattle.usage.proofs.Usage.tally.Goals as goal

pub count_steps-requires : goal.count_steps-requires
count_steps-requires c =
    let r = c.requires in
    record { kinds = λ k. omega (arith, r.kinds k); reads = λ k. omega (arith, r.reads k); writes = λ k. omega (arith, r.writes k) }

pub returns : goal.returns
returns c = c.count_steps.ensures ∙ steps_once c.args.w c.args.self.now
