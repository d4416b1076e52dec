-- The kind's count and Ra's, then Rb's where it is another register.
use mathlib.Core.Path.{sym, ap, ◌∙◌}
use native.Mathlib.Omega.{arith}
use lib.Dec.{eqb}
use lib.ListN.{get_or}
use Rattle.usage.specs.Counting.{usage_with, raised}
use Rattle.usage.proofs.Methods.{at_kind}
use Rattle.usage.proofs.Raised.{raised_either, raised_same, raised_other}
use Rattle.usage.proofs.Words.{none}
use Rattle.usage.proofs.Usage.read_two.Goals as goal

pub add-requires-then-b-a : goal.add-requires-then-b-a
add-requires-then-b-a c =
    let b = c.args.b in
    let same = ap (λ xs. get_or xs b 0) c.add-2.ensures ∙ raised_other c.args.n _ c.if-b-a.true in
    (omega arith, omega (arith, same, c.requires.2.reads b))

pub returns-then-b-a : goal.returns-then-b-a
returns-then-b-a c =
    let n = c.args.n in
    let u = c.args.self.now in
    let both = c.add-then-b-a.ensures ∙ ap (λ xs. raised n (eqb c.args.b) xs) c.add-2.ensures ∙ raised_either n u.reads c.if-b-a.true in
    λ i. usage_with u.taken (at_kind c.args.n c.args.self.now.kinds c.add.ensures c.place.ensures.0 i) (both i) (sym (none n u.writes) i)

pub returns-else-b-a : goal.returns-else-b-a
returns-else-b-a c =
    let n = c.args.n in
    let u = c.args.self.now in
    let one = c.add-2.ensures ∙ raised_same n u.reads c.if-b-a.false in
    λ i. usage_with u.taken (at_kind c.args.n c.args.self.now.kinds c.add.ensures c.place.ensures.0 i) (one i) (sym (none n u.writes) i)
