-- Trim after trim (`Checking`).
use mathlib.Core.Path.{◌≡◌}
use Prim.Native.Nat.{◌<◌}
use native.Mathlib.Omega.{arith}
use lib.ListN.{length}
use borrow.Author.Rules.{rules}
use Rattle.page.proofs.Verdicts.{check_next, check_refuses, check_ends, mapped_long}
use Rattle.std.proofs.lemmas.Result.{err_from_is_err_and}
use Rattle.page.proofs.checks.checked_in_order.Goals as goal

pub returns-in_err-checked : goal.returns-in_err-checked
returns-in_err-checked c =
    let eight : length c.args.trims.states ≡ 8 = search (rules, mapped_long) in
    let within : c.loop-i.i < length c.args.trims.states = omega (arith, eight, c.requires) in
    let returned = err_from_is_err_and c.from_residual.result c.from_residual.ensures.1 in
    rw (returned.1, returned.2) (check_refuses _ c.loop-i.invariant (omega arith) within _ c.in_err-checked.ensures)

pub loop-i-preserved : goal.loop-i-preserved
loop-i-preserved c =
    let eight : length c.args.trims.states ≡ 8 = search (rules, mapped_long) in
    let within : c.loop-i.i < length c.args.trims.states = omega (arith, eight, c.requires) in
    check_next _ c.loop-i.invariant (omega arith) within _ c.in_ok-checked.ensures

pub returns : goal.returns
returns c = check_ends _ c.loop-i.invariant (omega arith)
