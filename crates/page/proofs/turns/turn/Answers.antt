-- The parts lie within what they are lent of (`rooms`); the trim comes to what its run makes of it (`turned`).
use mathlib.Core.Path.{sym, ◌∙◌}
use native.Mathlib.Omega.{arith}
use Rattle.page.proofs.Turning.{rooms, has_room, turned}
use Rattle.page.proofs.turns.turn.Goals as goal

pub overflow_mul-a : goal.overflow_mul-a
overflow_mul-a g c = let k = rooms c.requires in omega arith

pub overflow_add-e : goal.overflow_add-e
overflow_add-e g c = let k = rooms c.requires in omega arith

pub overflow_mul-p : goal.overflow_mul-p
overflow_mul-p g c = let k = rooms c.requires in omega arith

pub overflow_add-q : goal.overflow_add-q
overflow_add-q g c = let k = rooms c.requires in omega arith

pub overflow_mul-free : goal.overflow_mul-free
overflow_mul-free g c = let k = rooms c.requires in omega arith

-- by `good`: the log's places have 64 bits
pub overflow_add-free : goal.overflow_add-free
overflow_add-free g c = let k = rooms c.requires in omega (arith, c.well_formed.1.1.1.1.1.1.1.1.1.1.1.0.1)

pub overflow_mul-end : goal.overflow_mul-end
overflow_mul-end g c = let k = rooms c.requires in omega (arith, c.well_formed.1.1.1.1.1.1.1.1.1.1.1.0.1)

pub overflow_add-end : goal.overflow_add-end
overflow_add-end g c = let k = rooms c.requires in omega (arith, c.well_formed.1.1.1.1.1.1.1.1.1.1.1.0.1)

pub slice_bounds-run-end : goal.slice_bounds-run-end
slice_bounds-run-end g c = let k = rooms c.requires in omega arith

pub slice_bounds-run-end-2 : goal.slice_bounds-run-end-2
slice_bounds-run-end-2 g c = let k = rooms c.requires in omega arith

pub slice_bounds-run-end-3 : goal.slice_bounds-run-end-3
slice_bounds-run-end-3 g c = let k = rooms c.requires in omega arith

pub slice_bounds-run-end-4 : goal.slice_bounds-run-end-4
slice_bounds-run-end-4 g c = let k = rooms c.requires in omega arith

pub offset_bounds-log-free : goal.offset_bounds-log-free
offset_bounds-log-free g c =
    let k = rooms c.requires in
    omega (arith, c.well_formed.1.1.1.1.1.1.1.1.1.1.1.0.1)

pub slice_bounds-run-count-5 : goal.slice_bounds-run-count-5
slice_bounds-run-count-5 g c = let k = rooms c.requires in omega arith

pub slice_bounds-run-start-5 : goal.slice_bounds-run-start-5
slice_bounds-run-start-5 g c = let k = rooms c.requires in omega arith

pub slice_bounds-run-end-5 : goal.slice_bounds-run-end-5
slice_bounds-run-end-5 g c = let k = rooms c.requires in omega arith

pub with_run-requires : goal.with_run-requires
with_run-requires g c =
    let k = c.run-ran.auto in
    has_room c.requires (g.E.Engine.stepper c.args.engine.now) (g.met.E.Engine.laws c.args.engine.now).lawful c.run-ran.result c.run-ran.ensures k.memory k.inputs k.outputs k.log
    c.report_of-report.ensures (omega arith)

pub returns : goal.returns
returns g c =
    let k = c.run-ran.auto in
    λ x.
    turned x (g.E.Engine.stepper c.args.engine.now) (g.met.E.Engine.laws c.args.engine.now).lawful c.run-ran.result c.run-ran.ensures k.memory k.inputs k.outputs k.log
    c.report_of-report.ensures c.with_run.ensures c.args.again (sym c.is_left_out.ensures ∙ c.if-is_left_out.false)
