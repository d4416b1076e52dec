-- An arm puts back what its name says.
use mathlib.Core.Path.{◌≡◌, sym, ap, ◌∙◌}
use Prim.Native.Nat.{ℕ, ◌/◌, ◌%◌}
use Rattle.machine.specs.declared.State.{State}
use Rattle.machine.specs.Machine.{put_r, put_enabled, put_pending, put_taken, with_line}
use Rattle.journal.specs.Journal.{value_in, place_in, which_in}
use Rattle.journal.specs.Parts.{machine_with}
use Rattle.journal.proofs.Backs.{undo_as}
use Rattle.journal.proofs.undo.Goals as goal

-- the line has its bit again, and enable flag, line number and return address are restored
all_back : {s₀ s₁ s₂ s₃ s₄ : State} (k e j v : ℕ) → s₄ ≡ put_enabled e s₃ → s₃ ≡ put_pending (with_line k s₂.pending) s₂ → s₂ ≡ put_taken j v s₁ → s₁ ≡ s₀
    → s₄ ≡ put_enabled e (put_pending (with_line k s₀.pending) (put_taken j v s₀))
all_back k e j v f g h i =
    f ∙ ap (put_enabled e) (g ∙ ap (λ s. put_pending (with_line k s.pending) s) (h ∙ ap (put_taken j v) i))

pub returns-in-Register-clause-undone : goal.returns-in-Register-clause-undone
returns-in-Register-clause-undone c =
    let a = c.args in
    let x = a.entry in
    undo_as c.args.entry _ _ _ _ _ _ _ _ (sym c.in-Register.is ∙ c.what_in.ensures)
    (λ P L. ap (λ t. machine_with t a.bus.now.memory.now a.bus.now.inputs.now a.bus.now.outputs.now P L)
    (sym (c.with_register.ensures ∙ ap (put_r (place_in x % 8) (value_in x)) c.retreated-back.ensures)))

pub returns-in-DataWord-clause-undone : goal.returns-in-DataWord-clause-undone
returns-in-DataWord-clause-undone c =
    let h = c.store_word.ensures.holds in
    undo_as c.args.entry _ _ _ _ _ _ _ _ (sym c.in-DataWord.is ∙ c.what_in.ensures)
    (λ P L i. machine_with (sym c.retreated-back.ensures i) (sym h.memory i) (sym h.inputs i) (sym h.outputs i) P L)

pub returns-in-DataByte-clause-undone : goal.returns-in-DataByte-clause-undone
returns-in-DataByte-clause-undone c =
    let h = c.store_byte.ensures.holds in
    undo_as c.args.entry _ _ _ _ _ _ _ _ (sym c.in-DataByte.is ∙ c.what_in.ensures)
    (λ P L i. machine_with (sym c.retreated-back.ensures i) (sym h.memory i) (sym h.inputs i) (sym h.outputs i) P L)

pub returns-in-Output-clause-undone : goal.returns-in-Output-clause-undone
returns-in-Output-clause-undone c =
    let h = c.write_output.ensures.holds in
    undo_as c.args.entry _ _ _ _ _ _ _ _ (sym c.in-Output.is ∙ c.what_in.ensures)
    (λ P L i. machine_with (sym c.retreated-back.ensures i) (sym h.memory i) (sym h.inputs i) (sym h.outputs i) P L)

pub returns-in-KeyRead-clause-undone : goal.returns-in-KeyRead-clause-undone
returns-in-KeyRead-clause-undone c =
    let a = c.args in
    let h = c.write_input.ensures.holds in
    let x = a.entry in
    let registers = c.with_register-in-KeyRead.ensures ∙ ap (put_r (which_in x % 8) (value_in x)) c.retreated-back.ensures in
    undo_as c.args.entry _ _ _ _ _ _ _ _ (sym c.in-KeyRead.is ∙ c.what_in.ensures)
    (λ P L i. machine_with (sym registers i) (sym h.memory i) (sym h.inputs i) (sym h.outputs i) P L)

pub returns-in-EnableFlag-clause-undone : goal.returns-in-EnableFlag-clause-undone
returns-in-EnableFlag-clause-undone c =
    let a = c.args in
    let x = a.entry in
    undo_as c.args.entry _ _ _ _ _ _ _ _ (sym c.in-EnableFlag.is ∙ c.what_in.ensures)
    (λ P L. ap (λ t. machine_with t a.bus.now.memory.now a.bus.now.inputs.now a.bus.now.outputs.now P L)
    (sym (c.with_enabled.ensures ∙ ap (put_enabled (value_in x % 256)) c.retreated-back.ensures)))

pub returns-in-LineTaken-clause-undone : goal.returns-in-LineTaken-clause-undone
returns-in-LineTaken-clause-undone c =
    let a = c.args in
    let x = a.entry in
    undo_as c.args.entry _ _ _ _ _ _ _ _ (sym c.in-LineTaken.is ∙ c.what_in.ensures)
    (λ P L. ap (λ t. machine_with t a.bus.now.memory.now a.bus.now.inputs.now a.bus.now.outputs.now P L)
    (sym (all_back (which_in x % 8) (place_in x % 256) (place_in x / 256) (value_in x) c.with_enabled-in-LineTaken.ensures c.with_line.ensures c.with_taken.ensures c.retreated-back.ensures)))

pub returns-in-Nothing-clause-undone : goal.returns-in-Nothing-clause-undone
returns-in-Nothing-clause-undone c =
    let a = c.args in
    undo_as c.args.entry _ _ _ _ _ _ _ _ (sym c.in-Nothing.is ∙ c.what_in.ensures)
    (λ P L. ap (λ t. machine_with t a.bus.now.memory.now a.bus.now.inputs.now a.bus.now.outputs.now P L) (sym c.retreated-back.ensures))
