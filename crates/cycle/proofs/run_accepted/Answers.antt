-- The loops' turns and ends, by the laws of proofs/Loop.antt.
use mathlib.Core.Logic.{inl, inr}
use mathlib.Core.Path.{refl, sym, subst, ◌∙◌}
use native.Mathlib.Omega.{arith}
use Rattle.word.proofs.Tests.{never}
use Rattle.journal.proofs.Undone.{is_line_entry}
use Rattle.bus.specs.Lent.{StepsAs}
use Rattle.bus.proofs.Same.{then_bus, then_log}
use Rattle.cycle.proofs.Chosen.{some_reason}
use Rattle.cycle.proofs.Counts.{counts_at_once, counts_by_place}
use Rattle.cycle.proofs.Loop.{start, ends_budget, ends_locked, ready, takes_turns, ends_stopped, turns, in_budget, turned_on, free_here}
use Rattle.cycle.proofs.run_accepted.Goals as goal
use Rattle.cycle.proofs.run_accepted.Goals.{then-state-ne0+else-is_locked, else-state-ne0, then-keeps, else-keeps, then-keeps-2, else-keeps-2, then-keeps-3, else-keeps-3, then-counts-ge-PLACES, else-counts-ge-PLACES}

pub loop-steps-init : goal.loop-steps-init
loop-steps-init g c =
    let p = c.requires in (
      rw c.none-usage.ensures (start _ _ _ _ _ refl p.cleared p.can_run),
      record { memory = refl; inputs = refl; outputs = refl },
      record { places = refl; many = refl },
    )

-- ---- A turn of the outer loop

pub returns-then-is_locked-clause-ran : goal.returns-then-is_locked-clause-ran
returns-then-is_locked-clause-ran g c =
    rw (c.ended.ensures.0, c.ended.ensures.1, c.from.ensures)
    (ends_locked (g.met.E.Engine.laws c.args.engine.now) c.loop-steps.invariant.0 c.loop-steps-test.true (c.is_locked.ensures _ _ _ ∙ c.if-is_locked.true) c.ended.ensures.2)

-- ---- A line is taken

pub loop-steps-2-preserved-then-takes_line : goal.loop-steps-2-preserved-then-takes_line
loop-steps-2-preserved-then-takes_line g c =
    let laws = g.met.E.Engine.laws c.args.engine.now in
    let taken = sym c.takes_line.ensures ∙ c.if-takes_line.true in
    let i = c.loop-steps-2.invariant in
    let b = in_budget i.0 c.loop-steps-2-test.true in (
      turned_on i.0 laws
          (elim c.if-keeps.branch [
            | then-keeps w ↦ takes_turns laws i.0.going b taken c.line_taken-state.ensures (λ k. is_line_entry _ taken w.line_entry.ensures) (inl (w.if-keeps.true, w.journal-is))
            | else-keeps w ↦ takes_turns laws i.0.going b taken {x = 0} c.line_taken-state.ensures (λ k. never (sym w.if-keeps.false ∙ k)) (inr (w.if-keeps.false, w.journal-is))
          ]),
      i.1,
      i.2,
    )

-- ---- A word is fetched

pub step-requires : goal.step-requires
step-requires g c =
    let i = c.loop-steps-2.invariant.0 in
    let none = sym c.takes_line.ensures ∙ c.if-takes_line.false in
    record {
      counts = ready i.going (in_budget i c.loop-steps-2-test.true);
      tests_lock = (free_here i (g.met.E.Engine.laws c.args.engine.now) c.loop-steps-2-test.true none c.fetch-w.ensures).word;
    }

pub returns-in-Err-clause-ran : goal.returns-in-Err-clause-ran
returns-in-Err-clause-ran g c =
    let laws = g.met.E.Engine.laws c.args.engine.now in
    let i = c.loop-steps-2.invariant.0 in
    let none = sym c.takes_line.ensures ∙ c.if-takes_line.false in
    let met = subst (StepsAs (g.E.Engine.does c.args.engine.now c.fetch-w.result) (g.E.Engine.writes c.args.engine.now c.fetch-w.result) c.loop-steps-2.state c.loop-steps-2.bus c.loop-steps-2.log c.step.new.bus c.step.new.log) c.in-Err.is c.step.ensures.steps in
    rw (c.ended-in-Err.ensures.0, c.ended-in-Err.ensures.1, c.from-in-Err.ensures)
    (ends_stopped laws i.going (in_budget i c.loop-steps-2-test.true) none (free_here i laws c.loop-steps-2-test.true none c.fetch-w.ensures).fetch c.fetch-w.ensures met (some_reason _) c.ended-in-Err.ensures.2)

pub loop-steps-2-preserved : goal.loop-steps-2-preserved
loop-steps-2-preserved g c =
    let laws = g.met.E.Engine.laws c.args.engine.now in
    let i = c.loop-steps-2.invariant in
    let v = i.0.going in
    let none = sym c.takes_line.ensures ∙ c.if-takes_line.false in
    let same = c.step.ensures.same in
    let before = c.loop-steps-2.bus.lengths in
    let after = c.step.new.bus.lengths in
    let met = subst (StepsAs (g.E.Engine.does c.args.engine.now c.fetch-w.result) (g.E.Engine.writes c.args.engine.now c.fetch-w.result) c.loop-steps-2.state c.loop-steps-2.bus c.loop-steps-2.log c.step.new.bus c.step.new.log) c.in-Ok.is c.step.ensures.steps in (
      turned_on i.0 laws
          (turns laws v (in_budget i.0 c.loop-steps-2-test.true) none (free_here i.0 laws c.loop-steps-2-test.true none c.fetch-w.ensures).fetch c.fetch-w.ensures met refl
          (elim c.if-counts-ge-PLACES.branch [
            | then-counts-ge-PLACES w ↦ counts_by_place _ v.counting c.fetch-w.type_inv w.place_of-at.ensures.is w.place_of-at.ensures.few w.if-counts-ge-PLACES.true w.counts-is w.usage-is
            | else-counts-ge-PLACES w ↦ counts_at_once _ v.counting w.if-counts-ge-PLACES.false w.counts-is (w.usage-is ∙ w.tally.ensures)
          ])
          (elim c.if-keeps-2.branch [
            | then-keeps-2 w ↦ λ c P L. w.entry-is ∙ w.step_entry-entry.ensures P L
            | else-keeps-2 w ↦ λ c. never (sym w.if-keeps-2.false ∙ c)
          ])
          (elim c.if-keeps-3.branch [
            | then-keeps-3 w ↦ inl (w.if-keeps-3.true, w.journal-is)
            | else-keeps-3 w ↦ inr (w.if-keeps-3.false, w.journal-is)
          ])
          (after.0 ∙ sym before.0)
          (after.1 ∙ sym before.1)
          (after.2 ∙ sym before.2)
          same.1.many),
      then_bus i.1 same.0,
      then_log i.2 same.1,
    )

-- ---- The budget is used

pub returns-clause-ran : goal.returns-clause-ran
returns-clause-ran g c =
    rw (c.ended-2.ensures.0, c.ended-2.ensures.1)
    (ends_budget (g.met.E.Engine.laws c.args.engine.now) c.loop-steps.invariant.0 (omega (arith, c.loop-steps-test.false)) c.ended-2.ensures.2)
