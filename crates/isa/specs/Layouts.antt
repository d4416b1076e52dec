-- The sheet's lines in the numbers that the code computes with. Nothing here is promised to a caller: proofs/Lines.antt
-- shows that each layout says what the sheet's line says.
use Rattle.std.specs.Prelude.{ℕ, suc, ◌+◌, ◌-◌, ◌*◌, ◌/◌, ◌%◌, ◌^◌, ◌<◌, ◌≤◌, List, [], ◌∷◌, eqb, ltb, ℤ, pos, negsuc, length, get_or, Option, Result}
use Rattle.std.specs.declared.option.Option.TheVariants.{Some, None}
use Rattle.std.specs.declared.result.Result.TheVariants.{Ok, Err}
use Rattle.refusal.specs.declared.Refusal.{Refusal}
use Rattle.refusal.specs.declared.Refusal.TheVariants.{InstructionPart}
use Rattle.word.specs.Word.{pick}
use Rattle.kinds.specs.declared.Kind.{Kind}
use Rattle.isa.specs.declared.Instruction.{Instruction}
use Rattle.isa.specs.declared.layout.Form.{Form}
use Rattle.isa.specs.declared.layout.Form.TheVariants.{Abd, Axd, AdSigned, AbSigned, Adx, ASigned, AUnsigned, DSigned, DUnsigned, Xxx, Xxd}
use Rattle.isa.specs.declared.layout.Layout.{Layout}
use Rattle.kinds.specs.Kinds.{kinds, kind_number}

-- the number of an entry's kind; where there is none, how many kinds there are
abbrev pub entry_number : Option Kind → ℕ
entry_number (Some k) = kind_number k
entry_number None = length kinds

-- by the kind's number
abbrev pub forms : List Form
forms =
    Abd 0x0000 ∷ Abd 0x0001 ∷ Abd 0x0002 ∷ Axd 0x0003 ∷ Abd 0x0004 ∷ Abd 0x0005 ∷ Abd 0x0006 ∷ Abd 0x0007
    ∷ Abd 0x1000 ∷ Abd 0x1001 ∷ Abd 0x1003 ∷ Abd 0x1004 ∷ Abd 0x1005
    ∷ AdSigned 0x2000 ∷ AdSigned 0x3000 ∷ AbSigned 0x4000 ∷ AdSigned 0x5000 ∷ AbSigned 0x6000 ∷ Adx 0x7000
    ∷ ASigned 0x8000 ∷ ASigned 0x8100 ∷ DSigned 0x9000 ∷ DUnsigned 0x9100 ∷ DUnsigned 0xA000 ∷ AUnsigned 0xA100
    ∷ Abd 0xB000 ∷ Abd 0xB001 ∷ Abd 0xB002 ∷ Abd 0xB004 ∷ Abd 0xB005 ∷ Xxx 0xC000 ∷ Xxx 0xC001 ∷ Xxx 0xC002 ∷ Xxd 0xC003 ∷ []

abbrev pub form_of : Kind → Form
form_of k = get_or forms (kind_number k) (Abd 0)

abbrev pub numbers_of : ℕ → ℕ → ℕ → ℕ → ℕ → ℕ → ℕ → Layout
numbers_of base a b d weight size negatives = record { base = base; a = a; b = b; d = d; weight = weight; size = size; negatives = negatives }

abbrev pub layout_of : Form → Layout
layout_of (Abd x) = numbers_of x 8 8 8 8 1 0
layout_of (Axd x) = numbers_of x 8 1 8 8 1 0
layout_of (AdSigned x) = numbers_of x 8 1 8 64 64 32
layout_of (AbSigned x) = numbers_of x 8 8 1 64 64 32
layout_of (Adx x) = numbers_of x 8 1 8 64 1 0
layout_of (ASigned x) = numbers_of x 8 1 1 512 256 128
layout_of (AUnsigned x) = numbers_of x 8 1 1 512 256 0
layout_of (DSigned x) = numbers_of x 1 1 8 512 256 128
layout_of (DUnsigned x) = numbers_of x 1 1 8 512 256 0
layout_of (Xxx x) = numbers_of x 1 1 1 8 1 0
layout_of (Xxd x) = numbers_of x 1 1 8 8 1 0

-- the word of parts a, b, d and n's bits x
abbrev pub word_sum : Layout → ℕ → ℕ → ℕ → ℕ → ℕ
word_sum m a b d x = m.base + a * 512 + b * 64 + d * m.weight + x

-- Rk as a mask, of a part that has so many values; none where that is one, and the part unused
abbrev pub mask_in : ℕ → ℕ → ℕ
mask_in values k = pick (eqb values 1) 0 (2 ^ k)

-- what the code relies on
pub record Sound (m : Layout) : Type 0 where
  pub a_some : 0 < m.a
  pub a_few : m.a ≤ 8
  pub b_some : 0 < m.b
  pub b_few : m.b ≤ 8
  pub d_some : 0 < m.d
  pub d_few : m.d ≤ 8
  pub weight_some : 0 < m.weight
  pub weight_few : m.weight ≤ 512
  pub size_some : 0 < m.size
  pub size_few : m.size ≤ 256
  pub negatives_few : m.negatives < m.size
  pub room : (a b d x : ℕ) → a < m.a → b < m.b → d < m.d → x < m.size → word_sum m a b d x < 65536

-- x, or x - size where x is among the last `negatives` of the size values
abbrev pub number_of : ℕ → ℕ → ℕ → ℤ
number_of size negatives x = pick (ltb x (size - negatives)) (pos x) (negsuc (size - suc x))

-- the bits of n where -negatives ≤ n < size - negatives
abbrev pub bits_of : ℕ → ℕ → ℤ → Option ℕ
bits_of size negatives (pos x) = pick (ltb x (size - negatives)) (Some x) None
bits_of size negatives (negsuc y) = pick (ltb y negatives) (Some (size - suc y)) None

abbrev pub fields_of : Layout → Kind → ℕ → Instruction
fields_of m k w =
    record {
      kind = k;
      a = w / 512 % m.a;
      b = w / 64 % m.b;
      d = w / m.weight % m.d;
      n = number_of m.size m.negatives (w % m.size);
    }

abbrev pub write_bits : Layout → Instruction → Option ℕ → Result ℕ Refusal
write_bits m i None = Err InstructionPart
write_bits m i (Some x) = Ok (word_sum m i.a i.b i.d x)

abbrev pub write_in : Layout → Instruction → Result ℕ Refusal
write_in m i =
    pick (ltb i.a m.a)
    (pick (ltb i.b m.b)
    (pick (ltb i.d m.d) (write_bits m i (bits_of m.size m.negatives i.n)) (Err InstructionPart))
    (Err InstructionPart))
    (Err InstructionPart)
