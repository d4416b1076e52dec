-- The kind's count alone.
use mathlib.Core.Path.{sym}
use Rattle.usage.specs.Counting.{usage_with}
use Rattle.usage.proofs.Methods.{at_kind}
use Rattle.usage.proofs.Words.{none}
use Rattle.usage.proofs.Usage.touch_none.Goals as goal

pub returns : goal.returns
returns c =
    let n = c.args.n in
    let u = c.args.self.now in
    λ i. usage_with u.taken (at_kind c.args.n c.args.self.now.kinds c.add.ensures c.place.ensures.0 i) (sym (none n u.reads) i) (sym (none n u.writes) i)
