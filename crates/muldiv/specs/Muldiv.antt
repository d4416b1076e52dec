-- Products and quotients of words: the operations of opcode 11 (02, L6; 000, "Extensión aritmética"). x and y are words, numbers below
-- 65,536.
use Rattle.std.specs.Prelude.{ℕ, ◌*◌, ◌/◌, ◌%◌, List, [], ◌∷◌, ◌*ℤ◌, get_or}
use Rattle.std.specs.Int.Signed.{quot_z}
use Rattle.word.specs.Fields.{bits, field}
use Rattle.word.specs.Word.{signed, low_bits}

-- the high half of a product: its bits 31..16
abbrev pub high : ℕ → ℕ
high p = field (bits 31 16) p

-- MUL Rd, Ra, Rb      Rd = the low half of Ra * Rb, alike for signed and unsigned
abbrev pub mul : ℕ → ℕ → ℕ
mul x y = x * y % 65536

-- MULH Rd, Ra, Rb     Rd = the high half of Ra_s * Rb_s
abbrev pub mulh : ℕ → ℕ → ℕ
mulh x y = high (low_bits 32 (signed 16 x *ℤ signed 16 y))

-- MULHU Rd, Ra, Rb    Rd = the high half of Ra_u * Rb_u
abbrev pub mulhu : ℕ → ℕ → ℕ
mulhu x y = high (x * y)

-- DIV Rd, Ra, Rb      Rd = Ra_s / Rb_s rounded toward zero, its low 16 bits
abbrev pub div : ℕ → ℕ → ℕ
div x y = low_bits 16 (quot_z (signed 16 x) (signed 16 y))

-- DIVU Rd, Ra, Rb     Rd = Ra_u / Rb_u rounded down
abbrev pub divu : ℕ → ℕ → ℕ
divu x y = x / y

-- opcode 11, f = 0 MUL, 1 MULH, 2 MULHU, 4 DIV, 5 DIVU.
-- f = 3, 6, 7 are unassigned, and a machine can't step on a zero divisor: no step looks at the 0 that stands there (x / 0 is 0).
abbrev pub muldivs : ℕ → ℕ → List ℕ
muldivs x y =
    mul x y
    ∷ mulh x y
    ∷ mulhu x y
    -- f = 3
    ∷ 0
    ∷ div x y
    ∷ divu x y
    ∷ []

unfoldable pub muldiv : ℕ → ℕ → ℕ → ℕ
muldiv f x y = get_or (muldivs x y) f 0
