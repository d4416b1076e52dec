-- Line after line: what stands at each beginning is `Scanning`, and `Writing` where no line is turned away.
use mathlib.Core.Bool.{Bool}
use mathlib.Core.Path.{refl, subst, sym}
use native.Mathlib.Omega.{arith}
use borrow.Author.Rules.{rules}
use Rattle.assembler.specs.declared.passes.Progress.{Progress}
use Rattle.assembler.specs.Passes.{LineRead}
use Rattle.assembler.proofs.Scanning.{Scanning, scanning, scanned_on, scanned_last}
use Rattle.assembler.proofs.Writing.{all_fine, writing, word_room, written_on, written_last}
use Rattle.assembler.proofs.passes.pass.Goals as goal

pub loop-p-init : goal.loop-p-init
loop-p-init c =
    let a = c.args in (
      subst (λ (p : Progress). Scanning a.long a.text.now a.names.now 0 p a.table.now) (sym c.start-p.ensures)
          (scanning a.long a.text.now a.names.now a.table.now c.requires.0),
      λ e f. writing a.text.now a.names.now a.program.now (all_fine 1 0 f.count _ f.fine),
      refl,
      omega arith,
    )

pub returns-then-end-text : goal.returns-then-end-text
returns-then-end-text c =
    let a = c.args in (
      scanned_last a.long a.text.now a.names.now c.loop-p.at c.line_end-end.result c.loop-p.p c.loop-p.table
          c.loop-p.invariant.0 c.read_line-l.result c.read_line-l.ensures c.line_end-end.ensures _ _ c.take_line-p.ensures c.if-end-text.true,
      λ e f.
          let v = c.loop-p.invariant.1 e f in
          let q = subst (λ (b : Bool). LineRead b a.text.now a.names.now c.loop-p.at c.line_end-end.result c.read_line-l.result) e c.read_line-l.ensures in
          written_last a.text.now a.names.now a.program.now c.loop-p.at c.loop-p.address c.loop-p.program v
          c.line_end-end.result c.line_end-end.ensures _ _
          (c.write_line-address.ensures.0 _ _ _ _ q
          (word_room a.text.now a.names.now a.program.now c.loop-p.at c.loop-p.address c.loop-p.program v c.line_end-end.result c.line_end-end.ensures c.requires.1 f.room c.loop-p.invariant.2))
          c.if-end-text.true,
    )

pub loop-p-preserved : goal.loop-p-preserved
loop-p-preserved c =
    let a = c.args in (
      scanned_on a.long a.text.now a.names.now c.loop-p.at c.line_end-end.result c.loop-p.p c.loop-p.table
          c.loop-p.invariant.0 c.read_line-l.result c.read_line-l.ensures c.line_end-end.ensures _ _ c.take_line-p.ensures c.if-end-text.false,
      λ e f.
          let v = c.loop-p.invariant.1 e f in
          let q = subst (λ (b : Bool). LineRead b a.text.now a.names.now c.loop-p.at c.line_end-end.result c.read_line-l.result) e c.read_line-l.ensures in
          written_on a.text.now a.names.now a.program.now c.loop-p.at c.loop-p.address c.loop-p.program v
          c.line_end-end.result c.line_end-end.ensures _ _
          (c.write_line-address.ensures.0 _ _ _ _ q
          (word_room a.text.now a.names.now a.program.now c.loop-p.at c.loop-p.address c.loop-p.program v c.line_end-end.result c.line_end-end.ensures c.requires.1 f.room c.loop-p.invariant.2))
          c.if-end-text.false,
      search rules,
      c.write_line-address.ensures.1,
    )
