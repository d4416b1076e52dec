-- By the group.
use mathlib.Core.Path.{◌≡◌, refl, sym, ap, ap₂, ◌∙◌}
use mathlib.Core.List.{List}
use Prim.Native.Nat.{ℕ}
use Rattle.word.specs.Word.{operation, comparison}
use Rattle.machine.specs.declared.State.{State}
use Rattle.std.specs.declared.result.Result.TheVariants.{Ok}
use Rattle.control.specs.Control.{result_of}
use Rattle.datapath.specs.Parts.{done_with, Answered, with_inputs}
use Rattle.datapath.proofs.Choice.{by_f}
use Rattle.datapath.proofs.Together.{address_is, operation_group, sum_group, comparison_group}
use Rattle.datapath.proofs.result_step.Goals as goal

-- done with the result v, which is u, and the inputs I
with_result : (c w : ℕ) (s : State) {v u : ℕ} {t : State} {I J : List ℕ} {left : Answered} → t ≡ done_with c w v s → v ≡ u → I ≡ J
    → left ≡ with_inputs (Ok (done_with c w u s)) J → with_inputs (Ok t) I ≡ left
with_result c w s et ev eI g = ap₂ (λ x J. with_inputs (Ok x) J) (et ∙ ap (λ x. done_with c w x s) ev) eI ∙ sym g

pub returns-then-is_operation-clause-answer : goal.returns-then-is_operation-clause-answer
returns-then-is_operation-clause-answer c =
    let a = c.args in
    with_result a.control a.w a.state c.result_done.ensures (by_f operation a.w c.operate.ensures c.sources-p.ensures) refl
    (operation_group a.control a.w a.state _ _ c.requires.1 (sym c.is_operation.ensures ∙ c.if-is_operation.true))

pub returns-then-is_sum-clause-answer : goal.returns-then-is_sum-clause-answer
returns-then-is_sum-clause-answer c =
    let a = c.args in
    let at = address_is a.w a.state c.address-u.ensures c.ra.ensures in
    with_result a.control a.w a.state c.result_done-then-is_sum.ensures
    (c.chosen_result-v.ensures.value ∙ ap (λ u. result_of a.control a.w u a.state.pc a.bus.now.memory.now a.bus.now.inputs.now) at)
    c.chosen_result-v.ensures.holds.inputs
    (sum_group a.control a.w a.state _ _ c.requires.1 (sym c.is_sum.ensures ∙ c.if-is_sum.true))

pub returns-then-is_comparison-clause-answer : goal.returns-then-is_comparison-clause-answer
returns-then-is_comparison-clause-answer c =
    let a = c.args in
    with_result a.control a.w a.state c.result_done-then-is_comparison.ensures (by_f comparison a.w c.compare.ensures c.sources-p-then-is_comparison.ensures) refl
    (comparison_group a.control a.w a.state _ _ c.requires.1 (sym c.is_comparison.ensures ∙ c.if-is_comparison.true))
