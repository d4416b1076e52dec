-- The trims before the place have had their turn (`Going`), from whichever trims the round is seen to start.
use native.Mathlib.Omega.{arith}
use Rattle.page.proofs.Rounds.{start, can_turn, few, goes_on, ends}
use Rattle.page.proofs.turns.round.Goals as goal

pub loop-i-init : goal.loop-i-init
loop-i-init g c = λ x. start _ _ _ _ _ x

pub turn-turned-requires : goal.turn-turned-requires
turn-turned-requires g c = can_turn _ _ _ _ _ (c.loop-i.invariant c.requires) c.loop-i-test.true c.min-budget.ensures _ _

pub overflow_sub-rest : goal.overflow_sub-rest
overflow_sub-rest g c = few _ _ _ _ _ (c.loop-i.invariant c.requires) c.loop-i-test.true c.min-budget.ensures _ _ c.turn-turned.ensures

pub loop-i-preserved : goal.loop-i-preserved
loop-i-preserved g c = λ x. goes_on _ _ _ _ _ (c.loop-i.invariant x) c.loop-i-test.true c.min-budget.ensures _ _ c.turn-turned.ensures

pub returns : goal.returns
returns g c = λ x. ends _ _ _ _ _ (c.loop-i.invariant x) (omega (arith, c.loop-i-test.false))
