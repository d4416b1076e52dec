-- The fields of an instruction word w (01, "Fields of w"). Bit 0 is the lowest.
use Rattle.std.specs.Prelude.{ℕ, ◌+◌, ◌-◌, ◌/◌, ◌%◌, ◌^◌}

-- Neighbouring bits of a word.
pub record Bits : Type 0 where
  pub lowest : ℕ
  pub count : ℕ

-- bits hi..lo
abbrev pub bits : ℕ → ℕ → Bits
bits hi lo = record { lowest = lo; count = hi + 1 - lo }

-- the number that stands in those bits of w
abbrev pub field : Bits → ℕ → ℕ
field p w = w / 2 ^ p.lowest % 2 ^ p.count

-- opcode = bits 15..12
abbrev pub opcode : ℕ → ℕ
opcode w = field (bits 15 12) w

-- a = bits 11..9
abbrev pub a_of : ℕ → ℕ
a_of w = field (bits 11 9) w

-- b = 8..6
abbrev pub b_of : ℕ → ℕ
b_of w = field (bits 8 6) w

-- f = 2..0
abbrev pub f_of : ℕ → ℕ
f_of w = field (bits 2 0) w

-- e = bit 8
abbrev pub e_of : ℕ → ℕ
e_of w = field (bits 8 8) w

-- N6 and N8 are the low 6 and 8 bits
abbrev pub N6 : ℕ → ℕ
N6 w = field (bits 5 0) w

abbrev pub N8 : ℕ → ℕ
N8 w = field (bits 7 0) w
