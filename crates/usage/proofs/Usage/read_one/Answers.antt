-- The kind's count and Ra's.
use mathlib.Core.Path.{sym}
use Rattle.usage.specs.Counting.{usage_with}
use Rattle.usage.proofs.Methods.{at_kind}
use Rattle.usage.proofs.Words.{none}
use Rattle.usage.proofs.Usage.read_one.Goals as goal

pub returns : goal.returns
returns c =
    let u = c.args.self.now in
    λ i. usage_with u.taken (at_kind c.args.n c.args.self.now.kinds c.add.ensures c.place.ensures.0 i) (c.add-2.ensures i) (sym (none c.args.n u.writes) i)
