-- By the group.
use mathlib.Core.Path.{◌≡◌, sym, ap, ◌∙◌}
use mathlib.Core.Bool.{false}
use Prim.Native.Nat.{ℕ, ◌≤◌}
use lib.ListN.{length}
use Rattle.word.specs.Fields.{b_of}
use Rattle.std.specs.declared.result.Result.TheVariants.{Ok}
use Rattle.machine.specs.declared.State.{State}
use Rattle.machine.specs.Machine.{R}
use Rattle.machine.specs.Held.{Held, TestsLock}
use Rattle.control.specs.Control.{writes_port, stored_data, control_step}
use Rattle.machine.proofs.Answers.{Leaves}
use Rattle.datapath.proofs.Done.{data_done}
use Rattle.datapath.proofs.Together.{Moved, store_group, jump_group, link_group}
use Rattle.datapath.proofs.other_step.Goals as goal

-- a step in a group with no store
moved_done : (c w : ℕ) (h : Held) {t after : State} → TestsLock (control_step c w) h.state false → h.entries ≤ length h.log → t ≡ after
    → Moved c w h.state after
    → Leaves (control_step c w) (writes_port c) h (Ok t) h.D h.I h.O h.log h.entries
moved_done c w h free filled et g =
    data_done c w h g.by_fields free g.is_assigned_lem g.no_zero filled g.no_port (et ∙ sym (g.state _ _)) (sym (g.no_store _)) (sym (g.no_read _))

pub returns-then-is_store-clause-steps : goal.returns-then-is_store-clause-steps
returns-then-is_store-clause-steps c =
    let a = c.args in
    let g = store_group a.control a.w a.state (sym c.is_store.ensures ∙ c.if-is_store.true) in
    data_done a.control a.w _ g.by_fields c.requires.tests_lock g.is_assigned_lem g.no_zero a.log.now.filled g.no_port
    (c.advanced.ensures ∙ sym (g.state _ _))
    (c.store.ensures ∙ ap (λ u. stored_data a.control (R a.state (b_of a.w)) u a.bus.now.memory.now) (sym g.address))
    (sym (g.no_read _))

pub returns-then-is_jump-clause-steps : goal.returns-then-is_jump-clause-steps
returns-then-is_jump-clause-steps c =
    let a = c.args in
    moved_done a.control a.w _ c.requires.tests_lock a.log.now.filled c.jump.ensures
    (jump_group a.control a.w a.state (sym c.is_jump.ensures ∙ c.if-is_jump.true))

pub returns-then-is_link-clause-steps : goal.returns-then-is_link-clause-steps
returns-then-is_link-clause-steps c =
    let a = c.args in
    moved_done a.control a.w _ c.requires.tests_lock a.log.now.filled c.link.ensures
    (link_group a.control a.w a.state (sym c.is_link.ensures ∙ c.if-is_link.true))
