-- By the verdict: `go_back` leaves what an accepted call leaves (`gone_left`).
use borrow.Author.Rules.{rules}
use Rattle.back.proofs.Left.{passes, can_go, refused_left, gone_left, gone_by}
use Rattle.back.proofs.step_back.Goals as goal

pub invariant_of-bus : goal.invariant_of-bus
invariant_of-bus c =
    let a = c.args in
    let p = can_go (record { state = a.state; P = a.program.now; D = a.memory.now; I = a.inputs.now; O = a.outputs.now; journal = a.journal.now; k = a.k }) (passes _ c.in-Ok.ensures) in
    record { lengths = (p.memory, p.inputs, p.outputs) }

pub go_back-requires : goal.go_back-requires
go_back-requires c =
    let a = c.args in
    (can_go (record { state = a.state; P = a.program.now; D = a.memory.now; I = a.inputs.now; O = a.outputs.now; journal = a.journal.now; k = a.k }) (passes _ c.in-Ok.ensures)).held

pub returns-in-Ok : goal.returns-in-Ok
returns-in-Ok c =
    let same = c.go_back.ensures.same in
    gone_left _ c.in-Ok.ensures (gone_by (search (rules, same.memory)) (search (rules, same.inputs)) (search (rules, same.outputs)) c.go_back.ensures.gone)

pub returns-in-Err : goal.returns-in-Err
returns-in-Err c = refused_left _ c.in-Err.ensures
