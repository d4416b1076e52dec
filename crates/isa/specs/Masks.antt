-- Which registers an instruction touches (02, L4). In a mask of 8 bits, bit k stands for Rk.
use Rattle.std.specs.Prelude.{ℕ, ◌^◌, Bool, eqb, Option}
use Rattle.std.specs.declared.option.Option.TheVariants.{Some, None}
use Rattle.std.specs.Int.Bits.{bit_or}
use Rattle.word.specs.Fields.{Bits, bits, field, opcode, e_of, f_of}
use Rattle.word.specs.Word.{pick}
use Rattle.kinds.specs.declared.Kind.{Kind}
use Rattle.kinds.specs.declared.Kind.TheVariants.{Movhi}
use Rattle.kinds.specs.Kinds.{kind_number}
use Rattle.isa.specs.declared.Decoded.{Decoded}
use Rattle.isa.specs.Sheet.{sheet_line, kind_at}
use Rattle.isa.specs.Instructions.{Read, shown_reading, read_of}

-- the registers whose value the rule uses, and the one that it writes, if any
pub record Masks : Type 0 where
  pub reads : ℕ
  pub writes : ℕ

-- Rk is one of them
abbrev pub in_mask : ℕ → ℕ → Bool
in_mask mask k = eqb (field (bits k k) mask) 1

-- the register that stands in those bits of w, alone; none where the format lacks the part
abbrev pub register_mask : Bits → ℕ → ℕ
register_mask p w = pick (eqb p.count 0) 0 (2 ^ field p w)

-- MOVHI Rd, N8        Rd<15..8>=N8      keeps the low byte of Rd: it reads the register it writes
abbrev pub reads_destination : Kind → Bool
reads_destination k = eqb (kind_number k) (kind_number Movhi)

-- A rule uses Ra and Rb where its format has them; NOT's has no Rb.
abbrev pub reads_of : Kind → ℕ → ℕ
reads_of k w =
    bit_or
    (bit_or (register_mask (sheet_line k).format.a w) (register_mask (sheet_line k).format.b w))
    (pick (reads_destination k) (register_mask (sheet_line k).format.d w) 0)

-- It writes Rd where its format has it: ST, STB, BZ, BNZ, OUT, EI, DI and RETI write none.
abbrev pub writes_of : Kind → ℕ → ℕ
writes_of k w = register_mask (sheet_line k).format.d w

-- unassigned words give 0 and 0
abbrev pub masks_as : Option Kind → ℕ → Masks
masks_as (Some k) w = record { reads = reads_of k w; writes = writes_of k w }
masks_as None w = record { reads = 0; writes = 0 }

unfoldable pub masks_of : ℕ → Masks
masks_of w = masks_as (kind_at (opcode w) (e_of w) (f_of w)) w

-- ---- What reading a word answers: the instruction, and beside it the masks

pub record Decoding : Type 0 where
  pub reading : Read
  pub masks : Masks

abbrev pub shown_decoded : Decoded → Decoding
shown_decoded r = record { reading = shown_reading r.reading; masks = record { reads = r.reads; writes = r.writes } }

abbrev pub decoding_of : ℕ → Decoding
decoding_of w = record { reading = read_of w; masks = masks_of w }
