-- What the code computes with a layout is what the sheet's line says (`parts_are`).
use mathlib.Core.Path.{◌∙◌, ap}
use Prim.Native.Nat.{ℕ, ◌/◌, ◌%◌}
use lib.IntN.{ℤ}
use mir.Syntax.{w16}
use mir.Facts.{to_z-of_z}
use Rattle.kinds.specs.declared.Kind.{Kind}
use Rattle.isa.specs.declared.Instruction.{Instruction}
use Rattle.isa.specs.declared.layout.Layout.{Layout}
use Rattle.isa.specs.Layouts.{fields_of}
use Rattle.isa.proofs.Lines.{parts_are}
use Rattle.isa.proofs.parts.parts_of.Goals as goal

-- the instruction that the code makes, with n open
abbrev with_n : Kind → Layout → ℕ → ℤ → Instruction
with_n k m w n = record { kind = k; a = w / 512 % m.a; b = w / 64 % m.b; d = w / m.weight % m.d; n = n }

pub returns : goal.returns
returns c =
    let p = c.args in
    let m = c.of-m in
    ap (λ (n : ℤ). with_n p.kind m.result p.w n) (to_z-of_z {w = w16} (record { sfits = c.number-n.type_inv }) ∙ c.number-n.ensures)
    ∙ ap (λ (l : Layout). fields_of l p.kind p.w) m.ensures.is
    ∙ parts_are p.kind p.w
