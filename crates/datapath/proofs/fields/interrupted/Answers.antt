-- f chooses, and past the list stands the state as it was.
use mathlib.Core.Path.{sym, ap, ◌∙◌}
use native.Mathlib.Nat.{div-one}
use lib.ListN.{get_or-eq_default}
use Rattle.word.proofs.Tables.{past}
use Rattle.machine.specs.Machine.{put_pc}
use Rattle.machine.specs.Step.{interrupt_rules}
use Rattle.control.specs.Control.{written}
use Rattle.datapath.proofs.fields.interrupted.Goals as goal

pub returns-in-0 : goal.returns-in-0
returns-in-0 c = rw (div-one, c.in-0.is) c.with_enabled.ensures

pub returns-in-1 : goal.returns-in-1
returns-in-1 c = rw (div-one, c.in-1.is) c.with_enabled-in-1.ensures

pub returns-in-2 : goal.returns-in-2
returns-in-2 c =
    let next = c.args.next in
    rw (div-one, c.in-2.is) (c.with_pc.ensures ∙ ap (put_pc next.return_address) c.with_enabled-in-2.ensures)

pub returns-in-3 : goal.returns-in-3
returns-in-3 c = rw (div-one, c.in-3.is) c.write_destination.ensures

pub returns-in_default : goal.returns-in_default
returns-in_default c =
    let a = c.args in
    rw div-one (sym (get_or-eq_default (interrupt_rules (written a.control a.w) a.next) a.next (past 4 _ c.in_default.in_default-own.rest)))
