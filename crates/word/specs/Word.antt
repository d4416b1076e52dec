-- Arithmetic on 16 bits, and the operations of opcodes 0 and 1 (01, "The plain machine"; 004, footnotes 1 to 6).
-- x and y are words, numbers below 65,536.
use Rattle.std.specs.Prelude.{ℕ, suc, ◌+◌, ◌-◌, ◌*◌, ◌/◌, ◌%◌, ◌^◌, Bool, true, false, List, [], ◌∷◌, get_or, ℤ, pos, negsuc, ◌==◌, nat_le, nat_lt}
use Rattle.std.specs.Int.Bits.{bit_and, bit_or, bit_xor}
use Rattle.std.proofs.Math.IntN.{sub_ℕ}
use Rattle.std.specs.Int.Signed.{lt_z, le_z}
use Rattle.word.specs.Fields.{bits, field}

-- the first where the test holds, else the second
abbrev pub pick {ℓ} : {A : Type ℓ} → Bool → A → A → A
pick true a b = a
pick false a b = b

-- 1 where the test holds, else 0
abbrev pub flag : Bool → ℕ
flag true = 1
flag false = 0

-- Arithmetic on 16 bits is modulo 65,536.
abbrev pub add : ℕ → ℕ → ℕ
add x y = (x + y) % 65536

abbrev pub subtract : ℕ → ℕ → ℕ
subtract x y = (x + (65536 - y)) % 65536

-- x with bit 0 cleared:  x & (~1)
abbrev pub clear0 : ℕ → ℕ
clear0 x = x / 2 * 2

-- k bits x read as signed (two's complement): x, or x - 2^k where the highest of the k bits is set
unfoldable pub signed : ℕ → ℕ → ℤ
signed k x = pick (nat_lt x (2 ^ (k - 1))) (pos x) (sub_ℕ x (2 ^ k))

-- the low k bits of a number of ℤ: the number modulo 2^k   (negsuc x is -(x + 1))
unfoldable pub low_bits : ℕ → ℤ → ℕ
low_bits k (pos x) = x % 2 ^ k
low_bits k (negsuc x) = 2 ^ k - suc (x % 2 ^ k)

-- SE: k bits x, read as signed, as a word
unfoldable pub SE : ℕ → ℕ → ℕ
SE k x = low_bits 16 (signed k x)

-- x shifted by the amount s. Positive is left with zeros. Negative is right, and the places that come free,
-- the highest, get `fill`, a bit.
unfoldable pub shifted : ℕ → ℕ → ℤ → ℕ
shifted fill x (pos t) = x * 2 ^ t % 65536
shifted fill x (negsuc t) = x / 2 ^ suc t + fill * (65536 - 65536 / 2 ^ suc t)

-- the low 5 bits of Rb read as signed, -16 to 15
abbrev pub amount : ℕ → ℤ
amount y = signed 5 (field (bits 4 0) y)

-- SHA Rd, Ra, Rb      Rd = Ra_s * 2 ** Rb<4..0>_s      right: fills with Ra's bit 15
abbrev pub sha : ℕ → ℕ → ℕ
sha x y = shifted (field (bits 15 15) x) x (amount y)

-- SHL Rd, Ra, Rb      Rd = Ra_u * 2 ** Rb<4..0>_s      right: fills with zeros
abbrev pub shl : ℕ → ℕ → ℕ
shl x y = shifted 0 x (amount y)

-- opcode 0, f = 0..7: AND, OR, XOR, NOT (of Ra), ADD, SUB, SHA, SHL
abbrev pub operations : ℕ → ℕ → List ℕ
operations x y =
    -- AND Rd, Ra, Rb      Rd = Ra & Rb
    bit_and x y
    -- OR Rd, Ra, Rb       Rd = Ra | Rb
    ∷ bit_or x y
    -- XOR Rd, Ra, Rb      Rd = Ra ^ Rb
    ∷ bit_xor x y
    -- NOT Rd, Ra          Rd = ~Ra
    ∷ (65535 - x)
    -- ADD Rd, Ra, Rb      Rd = Ra + Rb
    ∷ add x y
    -- SUB Rd, Ra, Rb      Rd = Ra - Rb
    ∷ subtract x y
    -- SHA Rd, Ra, Rb
    ∷ sha x y
    -- SHL Rd, Ra, Rb
    ∷ shl x y
    ∷ []

unfoldable pub operation : ℕ → ℕ → ℕ → ℕ
operation f x y = get_or (operations x y) f 0

-- opcode 1: Rd is 1 or 0; f = 0 CMPLT, 1 CMPLE (signed), 3 CMPEQ, 4 CMPLTU, 5 CMPLEU (unsigned).
-- f = 2, 6, 7 are unassigned: no step looks at the 0 that stands there.
abbrev pub comparisons : ℕ → ℕ → List ℕ
comparisons x y =
    -- CMPLT Rd, Ra, Rb    if (Ra_s < Rb_s) Rd = 1 else Rd = 0
    flag (lt_z (signed 16 x) (signed 16 y))
    -- CMPLE Rd, Ra, Rb    if (Ra_s <= Rb_s) Rd = 1 else Rd = 0
    ∷ flag (le_z (signed 16 x) (signed 16 y))
    -- f = 2
    ∷ 0
    -- CMPEQ Rd, Ra, Rb    if (Ra == Rb) Rd = 1 else Rd = 0
    ∷ flag (x == y)
    -- CMPLTU Rd, Ra, Rb   if (Ra_u < Rb_u) Rd = 1 else Rd = 0
    ∷ flag (nat_lt x y)
    -- CMPLEU Rd, Ra, Rb   if (Ra_u <= Rb_u) Rd = 1 else Rd = 0
    ∷ flag (nat_le x y)
    ∷ []

unfoldable pub comparison : ℕ → ℕ → ℕ → ℕ
comparison f x y = get_or (comparisons x y) f 0
