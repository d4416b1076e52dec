-- The parts put together.
use mathlib.Core.Path.{ap, ap₂, ◌∙◌}
use Prim.Native.Nat.{◌+◌, ◌*◌}
use lib.ListN.{length, set}
use Rattle.word.specs.Fields.{N8}
use Rattle.word.specs.Word.{pick}
use Rattle.machine.specs.Machine.{put_pc}
use Rattle.control.specs.Control.{unit, result_of, next, stored_data, written, writes_port}
use Rattle.datapath.proofs.Done.{fields_done, free_place}
use Rattle.datapath.proofs.performed.Goals as goal

pub store_port-requires : goal.store_port-requires
store_port-requires c = (ap length c.chosen_result-v.ensures.holds.outputs ∙ c.args.bus.now.lengths.2, free_place c.args.control c.args.w c.args.state _ _ c.requires.control_value.1)

pub returns-clause-steps : goal.returns-clause-steps
returns-clause-steps c =
    let a = c.args in
    let held = c.chosen_result-v.ensures.holds in
    let p = c.store_port.ensures in
    let ex = c.sources-p.ensures.0 in
    let ey = c.sources-p.ensures.1 in
    let eu = c.unit_result-u.ensures ∙ ap₂ (unit a.control a.w) ex ey in
    let ev = c.chosen_result-v.ensures.value ∙ ap (λ u. result_of a.control a.w u a.state.pc a.bus.now.memory.now a.bus.now.inputs.now) eu in
    let en = c.next_pc-next.ensures ∙ ap (λ x. next a.control a.w x a.state.pc) ex in
    let em = c.with_pc.ensures ∙ ap₂ put_pc en c.counted.ensures in
    fields_done a.control a.w _ c.requires.control_value.0 c.requires.control_value.2 a.log.now.filled c.requires.control_value.1
    (c.write_destination.ensures ∙ ap₂ (written a.control a.w) ev em)
    (c.store_data.ensures ∙ (λ i. stored_data a.control (ey i) (eu i) (c.chosen_result-v.ensures.holds.memory i)))
    c.chosen_result-v.ensures.holds.inputs (
      p.entries,
      p.outputs ∙ (λ i. pick (writes_port a.control) (set (held.outputs i) (N8 a.w) (ex i)) (held.outputs i)),
      p.places ∙ (λ i. pick (writes_port a.control) (set a.log.now.places.now a.log.now.entries (a.state.n * 16777216 + N8 a.w * 65536 + ex i)) a.log.now.places.now),
    )
