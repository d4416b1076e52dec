-- The first round can begin (`can_begin`), the second can follow (`can_go_on`), and both come to the definition's (`page_left_lem`).
use mathlib.Core.Path.{◌≡◌}
use native.Mathlib.Omega.{arith}
use borrow.Author.Rules.{rules}
use lib.ListN.{length}
use Rattle.page.proofs.Verdicts.{accepts, mapped_long}
use Rattle.page.proofs.Pages.{can_begin, can_go_on, page_left_lem}
use Rattle.page.proofs.two_rounds.Goals as goal

pub overflow_cast-share : goal.overflow_cast-share
overflow_cast-share g c = let k = accepts _ c.requires in omega (arith, k.whole.few)

pub nonzero_div-share : goal.nonzero_div-share
nonzero_div-share g c = let k = accepts _ c.requires in omega (arith, k.some)

pub nonzero_div-places : goal.nonzero_div-places
nonzero_div-places g c = let k = accepts _ c.requires in omega (arith, k.some)

pub round-shared-requires : goal.round-shared-requires
round-shared-requires g c =
    let eight : length c.args.trims.states ≡ 8 = search (rules, mapped_long, c.well_formed.1.0) in
    can_begin _ (g.met.E.Engine.laws c.args.engine.now).lawful _ c.requires (omega (arith, c.ranges.budget)) eight c.none.ensures

pub round-ended-requires : goal.round-ended-requires
round-ended-requires g c =
    let eight : length c.args.trims.states ≡ 8 = search (rules, mapped_long, c.well_formed.1.0) in
    can_go_on _ (g.met.E.Engine.laws c.args.engine.now).lawful _ c.requires (omega (arith, c.ranges.budget)) eight c.none.ensures c.round-shared.ensures

pub returns : goal.returns
returns g c =
    let eight : length c.args.trims.states ≡ 8 = search (rules, mapped_long, c.well_formed.1.0) in
    page_left_lem _ (g.met.E.Engine.laws c.args.engine.now).lawful _ c.requires (omega (arith, c.ranges.budget)) eight c.none.ensures c.round-shared.ensures c.round-ended.ensures
