-- The kind's count and Rd's.
use mathlib.Core.Path.{sym}
use Rattle.usage.specs.Counting.{usage_with}
use Rattle.usage.proofs.Methods.{at_kind}
use Rattle.usage.proofs.Words.{none}
use Rattle.usage.proofs.Usage.write_one.Goals as goal

pub returns : goal.returns
returns c =
    let u = c.args.self.now in
    λ i. usage_with u.taken (at_kind c.args.n c.args.self.now.kinds c.add.ensures c.place.ensures.0 i) (sym (none c.args.n u.reads) i) (c.add-2.ensures i)
