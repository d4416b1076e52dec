-- Reading and writing one instruction (01, "Reading and writing one instruction").
use Rattle.std.specs.Prelude.{ℕ, ◌+◌, ◌-◌, ◌*◌, ◌^◌, Bool, ◌&&◌, ltb, ℤ, pos, neg_ℤ, Option, Result}
use Rattle.std.specs.declared.option.Option.TheVariants.{Some, None}
use Rattle.std.specs.declared.result.Result.TheVariants.{Ok, Err}
use Rattle.std.specs.Int.Signed.{le_z, lt_z}
use Rattle.refusal.specs.declared.Refusal.{Refusal}
use Rattle.refusal.specs.Refusals.{refusal_number}
use Rattle.word.specs.Fields.{Bits, bits, field, opcode, e_of, f_of}
use Rattle.word.specs.Word.{pick, signed, low_bits}
use Rattle.kinds.specs.declared.Kind.{Kind}
use Rattle.isa.specs.declared.Instruction.{Instruction}
use Rattle.isa.specs.Sheet.{Code, F, E, only, Number, signed_n, unsigned_n, Line, sheet_line, kind_at}

-- ---- The registers of an instruction, each in a part of it

pub data Register : Type 0 where
  a_register b_register d_register : Register

abbrev pub register_part : Instruction → Register → ℕ
register_part i a_register = i.a
register_part i b_register = i.b
register_part i d_register = i.d

-- ---- Reading

-- What reading answers: an instruction, with its kind, a, b, d and n; or that the word is unassigned, which isn't a kind.
pub data Read : Type 0 where
  instruction : Instruction → Read
  unassigned : Read

abbrev pub shown_reading : Option Instruction → Read
shown_reading (Some i) = instruction i
shown_reading None = unassigned

-- the number that x in the bits of n stands for
abbrev pub number_in : Number → Bits → ℕ → ℤ
number_in signed_n p x = signed p.count x
number_in unsigned_n p x = pos x

-- each part is what stands in its bits; a part that the format lacks is 0
abbrev pub parts_of : Line → Kind → ℕ → Instruction
parts_of l k w =
    record {
      kind = k;
      a = field l.format.a w;
      b = field l.format.b w;
      d = field l.format.d w;
      n = number_in l.number l.format.n (field l.format.n w);
    }

abbrev pub read_as : Option Kind → ℕ → Read
read_as (Some k) w = instruction (parts_of (sheet_line k) k w)
read_as None w = unassigned

unfoldable pub read_of : ℕ → Read
read_of w = read_as (kind_at (opcode w) (e_of w) (f_of w)) w

-- ---- Writing

-- What writing answers: the word, or the number of the refusal.
pub data WriteReply : Type 0 where
  word : ℕ → WriteReply
  write_refused : ℕ → WriteReply

abbrev pub shown_writing : Result ℕ Refusal → WriteReply
shown_writing (Ok w) = word w
shown_writing (Err r) = write_refused (refusal_number r)

-- n is one of the numbers that its bits can stand for
abbrev pub in_range : Number → Bits → ℤ → Bool
in_range signed_n p n = le_z (neg_ℤ (pos (2 ^ (p.count - 1)))) n && lt_z n (pos (2 ^ (p.count - 1)))
in_range unsigned_n p n = le_z (pos 0) n && lt_z n (pos (2 ^ p.count))

-- each part is in its range; a part that the format lacks is 0, the one number of no bits
abbrev pub fits : Line → Instruction → Bool
fits l i =
    ltb i.a (2 ^ l.format.a.count)
    && ltb i.b (2 ^ l.format.b.count)
    && ltb i.d (2 ^ l.format.d.count)
    && in_range l.number l.format.n i.n

-- x in those bits of a word, and zeros elsewhere
abbrev pub placed : Bits → ℕ → ℕ
placed p x = x * 2 ^ p.lowest

abbrev pub code_bits : Code → ℕ
code_bits (F x) = placed (bits 2 0) x
code_bits (E x) = placed (bits 8 8) x
code_bits only = 0

-- opcode, f or e, the registers and the bits x of n, each in its place; ignored bits are 0
abbrev pub word_of : Line → ℕ → ℕ → ℕ → ℕ → ℕ
word_of l a b d x =
    placed (bits 15 12) l.opcode
    + code_bits l.code
    + placed l.format.a a
    + placed l.format.b b
    + placed l.format.d d
    + placed l.format.n x

abbrev pub write_as : Line → Instruction → WriteReply
write_as l i = pick (fits l i) (word (word_of l i.a i.b i.d (low_bits l.format.n.count i.n))) (write_refused 7)

unfoldable pub write_of : Instruction → WriteReply
write_of i = write_as (sheet_line i.kind) i
