-- Demand 2, reading and writing: every 16-bit word reads as one of the 34 instructions or as unassigned, and each
-- instruction is written as the sheet's word and reads back as itself.
use Rattle.std.specs.Prelude.{◌≡◌, ◌⊎◌, ◌↔◌, ℕ, ◌-◌, ◌^◌, ◌<◌, ◌≤◌, eqb, ℤ, pos, neg_ℤ, ◌≤ℤ◌, ◌<ℤ◌}
use Rattle.word.specs.Fields.{Bits, field, opcode, f_of}
use Rattle.word.specs.Word.{pick}
use Rattle.kinds.specs.declared.Kind.{Kind}
use Rattle.isa.specs.declared.Instruction.{Instruction}
use Rattle.isa.specs.Sheet.{Number, signed_n, unsigned_n, sheet_line}
use Rattle.isa.specs.Instructions.{instruction, unassigned, read_of, word, write_refused, placed, write_of}

-- the unassigned words: opcode 1 with f = 2, 6 or 7, opcode 11 with f = 3, 6 or 7, opcode 12 with f = 4 to 7, and opcodes 13 to 15
abbrev pub Unassigned : ℕ → Type 0
Unassigned w =
    ((opcode w ≡ 1) × ((f_of w ≡ 2) ⊎ (f_of w ≡ 6) ⊎ (f_of w ≡ 7)))
    ⊎ ((opcode w ≡ 11) × ((f_of w ≡ 3) ⊎ (f_of w ≡ 6) ⊎ (f_of w ≡ 7)))
    ⊎ ((opcode w ≡ 12) × (4 ≤ f_of w))
    ⊎ (13 ≤ opcode w)

-- a register is 0 to 7; an unused one is 0
abbrev pub RegisterRange : Bits → ℕ → Type 0
RegisterRange p x = pick (eqb p.count 0) (x ≡ 0) (x < 8)

-- n is -32..31 in 6 bits and -128..127 in 8 where it is signed, 0..255 in 8 bits where not; unused, 0
abbrev pub Range : Number → Bits → ℤ → Type 0
Range signed_n p n = (neg_ℤ (pos (2 ^ (p.count - 1))) ≤ℤ n) × (n <ℤ pos (2 ^ (p.count - 1)))
Range unsigned_n p n = (pos 0 ≤ℤ n) × (n <ℤ pos (2 ^ p.count))

-- each part is in its range, and each unused part is 0
pub record InRange (i : Instruction) : Type 0 where
  pub a : RegisterRange (sheet_line i.kind).format.a i.a
  pub b : RegisterRange (sheet_line i.kind).format.b i.b
  pub d : RegisterRange (sheet_line i.kind).format.d i.d
  pub n : Range (sheet_line i.kind).number (sheet_line i.kind).format.n i.n

-- w with the bits cleared that reading ignores: NOT's bits 8..6, JALR's bits 5..0, bits 11..3 of EI, DI and RETI, GETIID's bits 11..6
abbrev pub cleared : Kind → ℕ → ℕ
cleared k w = w - placed (sheet_line k).format.ignored (field (sheet_line k).format.ignored w)

pub record Instructions : Type 0 where
  -- Every 16-bit word reads as unassigned, just where it is,
  pub unassigned_words : (w : ℕ) → w < 65536 → (read_of w ≡ unassigned) ↔ Unassigned w
  -- or as one of the 34 instructions, its parts in their ranges.
  pub assigned_words : (w : ℕ) → w < 65536 → (Unassigned w → ⊥) → (i : Instruction) × (read_of w ≡ instruction i) × InRange i
  -- Writing what was read returns the word with the ignored bits cleared.
  pub read_then_written : (w : ℕ) → w < 65536 → (i : Instruction) → read_of w ≡ instruction i → write_of i ≡ word (cleared i.kind w)
  -- An instruction that is written gives a 16-bit word, which reads back as that instruction.
  pub written_then_read : (i : Instruction) (w : ℕ) → write_of i ≡ word w → (w < 65536) × (read_of w ≡ instruction i)
  -- It is written exactly when each part is in its range and each unused part is 0,
  pub written : (i : Instruction) → InRange i ↔ ((w : ℕ) × (write_of i ≡ word w))
  -- and refused with 7 otherwise, and with no other number.
  pub refused_7 : (i : Instruction) → (InRange i → ⊥) ↔ (write_of i ≡ write_refused 7)
  pub no_other : (i : Instruction) (k : ℕ) → write_of i ≡ write_refused k → k ≡ 7
