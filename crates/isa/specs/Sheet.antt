-- The reference sheet (004): its instruction formats, its table, a line for each of its 25 instructions, and the opcodes; with the five
-- instructions of opcode 11 (02, L6) and the four of opcode 12 (02, L12).
use Rattle.std.specs.Prelude.{ℕ, List, [], ◌∷◌, eqb, get_or, Option}
use Rattle.std.specs.declared.option.Option.TheVariants.{Some, None}
use Rattle.word.specs.Fields.{Bits, bits}
use Rattle.word.specs.Word.{pick}
use Rattle.kinds.specs.declared.Kind.{Kind}
use Rattle.kinds.specs.declared.Kind.TheVariants.{And, Or, Xor, Not, Add, Sub, Sha, Shl, Cmplt, Cmple, Cmpeq, Cmpltu, Cmpleu, Addi, Ld, St, Ldb, Stb, Jalr, Bz, Bnz, Movi, Movhi, In, Out, Mul, Mulh, Mulhu, Div, Divu, Ei, Di, Reti, Getiid}

-- ---- Instruction formats: where the parts a, b, d and n stand in the word. A part that a format lacks is `no_bits`: no
-- instruction of that format uses it. `ignored` are the bits x, which reading ignores and writing sets to 0.
pub record Format : Type 0 where
  pub a : Bits
  pub b : Bits
  pub d : Bits
  pub n : Bits
  pub ignored : Bits

-- no bits
abbrev pub no_bits : Bits
no_bits = record { lowest = 0; count = 0 }

-- 3R   c c c c  a a a  b b b  d d d  f f f
abbrev pub R3 : Format
R3 = record { a = bits 11 9; b = bits 8 6; d = bits 5 3; n = no_bits; ignored = no_bits }

-- 3R   c c c c  a a a  x x x  d d d  f f f            NOT, which has no Rb
abbrev pub R3-NOT : Format
R3-NOT = record { a = bits 11 9; b = no_bits; d = bits 5 3; n = no_bits; ignored = bits 8 6 }

-- 2R   c c c c  a a a  b b b  n n n n n n             ST, STB
abbrev pub R2-ab : Format
R2-ab = record { a = bits 11 9; b = bits 8 6; d = no_bits; n = bits 5 0; ignored = no_bits }

-- 2R   c c c c  a a a  d d d  n n n n n n             ADDI, LD, LDB
abbrev pub R2-ad : Format
R2-ad = record { a = bits 11 9; b = no_bits; d = bits 8 6; n = bits 5 0; ignored = no_bits }

-- 2R   c c c c  a a a  d d d  x x x x x x             JALR, which has no N6
abbrev pub R2-JALR : Format
R2-JALR = record { a = bits 11 9; b = no_bits; d = bits 8 6; n = no_bits; ignored = bits 5 0 }

-- 1R   c c c c  a a a  e  n n n n n n n n             BZ, BNZ, OUT
abbrev pub R1-a : Format
R1-a = record { a = bits 11 9; b = no_bits; d = no_bits; n = bits 7 0; ignored = no_bits }

-- 1R   c c c c  d d d  e  n n n n n n n n             MOVI, MOVHI, IN
abbrev pub R1-d : Format
R1-d = record { a = no_bits; b = no_bits; d = bits 11 9; n = bits 7 0; ignored = no_bits }

-- 02, L12: our coding is opcode 12, f = 0, 1, 2, 3, destination bits 5..3. Unused bits are written 0 and ignored when read.

-- 0R   c c c c  x x x  x x x  x x x  f f f            EI, DI, RETI
abbrev pub R0 : Format
R0 = record { a = no_bits; b = no_bits; d = no_bits; n = no_bits; ignored = bits 11 3 }

-- 1R   c c c c  x x x  x x x  d d d  f f f            GETIID
abbrev pub R1-GETIID : Format
R1-GETIID = record { a = no_bits; b = no_bits; d = bits 5 3; n = no_bits; ignored = bits 11 6 }

-- ---- The table: the columns Format, Op. Code, e and F, and how the bits of n are read (footnote 5).

-- the sheet's F or e, or neither
pub data Code : Type 0 where
  F E : ℕ → Code
  only : Code

-- how n's k bits are read: as signed, -2^(k-1) to 2^(k-1) - 1, or as unsigned, 0 to 2^k - 1
pub data Number : Type 0 where
  signed_n unsigned_n : Number

pub record Line : Type 0 where
  pub format : Format
  pub opcode : ℕ
  pub code : Code
  pub number : Number

-- a line with n, and one without: of no bits, n is 0
abbrev line_n : Format → ℕ → Code → Number → Line
line_n r o c z = record { format = r; opcode = o; code = c; number = z }

abbrev line : Format → ℕ → Code → Line
line r o c = line_n r o c unsigned_n

abbrev pub sheet_line : Kind → Line
-- AND Rd, Ra, Rb      0000 aaa bbb ddd 000
sheet_line And = line R3 0 (F 0)
-- OR Rd, Ra, Rb       0000 aaa bbb ddd 001
sheet_line Or = line R3 0 (F 1)
-- XOR Rd, Ra, Rb      0000 aaa bbb ddd 010
sheet_line Xor = line R3 0 (F 2)
-- NOT Rd, Ra          0000 aaa xxx ddd 011
sheet_line Not = line R3-NOT 0 (F 3)
-- ADD Rd, Ra, Rb      0000 aaa bbb ddd 100
sheet_line Add = line R3 0 (F 4)
-- SUB Rd, Ra, Rb      0000 aaa bbb ddd 101
sheet_line Sub = line R3 0 (F 5)
-- SHA Rd, Ra, Rb      0000 aaa bbb ddd 110
sheet_line Sha = line R3 0 (F 6)
-- SHL Rd, Ra, Rb      0000 aaa bbb ddd 111
sheet_line Shl = line R3 0 (F 7)
-- CMPLT Rd, Ra, Rb    0001 aaa bbb ddd 000
sheet_line Cmplt = line R3 1 (F 0)
-- CMPLE Rd, Ra, Rb    0001 aaa bbb ddd 001
sheet_line Cmple = line R3 1 (F 1)
-- CMPEQ Rd, Ra, Rb    0001 aaa bbb ddd 011
sheet_line Cmpeq = line R3 1 (F 3)
-- CMPLTU Rd, Ra, Rb   0001 aaa bbb ddd 100
sheet_line Cmpltu = line R3 1 (F 4)
-- CMPLEU Rd, Ra, Rb   0001 aaa bbb ddd 101
sheet_line Cmpleu = line R3 1 (F 5)
-- ADDI Rd, Ra, N6     0010 aaa ddd nnnnnn
sheet_line Addi = line_n R2-ad 2 only signed_n
-- LD Rd, N6(Ra)       0011 aaa ddd nnnnnn
sheet_line Ld = line_n R2-ad 3 only signed_n
-- ST N6(Ra), Rb       0100 aaa bbb nnnnnn
sheet_line St = line_n R2-ab 4 only signed_n
-- LDB Rd, N6(Ra)      0101 aaa ddd nnnnnn
sheet_line Ldb = line_n R2-ad 5 only signed_n
-- STB N6(Ra), Rb      0110 aaa bbb nnnnnn
sheet_line Stb = line_n R2-ab 6 only signed_n
-- JALR Rd, Ra         0111 aaa ddd xxxxxx
sheet_line Jalr = line R2-JALR 7 only
-- BZ Ra, N8           1000 aaa 0 nnnnnnnn
sheet_line Bz = line_n R1-a 8 (E 0) signed_n
-- BNZ Ra, N8          1000 aaa 1 nnnnnnnn
sheet_line Bnz = line_n R1-a 8 (E 1) signed_n
-- MOVI Rd, N8         1001 ddd 0 nnnnnnnn
sheet_line Movi = line_n R1-d 9 (E 0) signed_n
-- MOVHI Rd, N8        1001 ddd 1 nnnnnnnn
sheet_line Movhi = line_n R1-d 9 (E 1) unsigned_n
-- IN Rd, N8           1010 ddd 0 nnnnnnnn
sheet_line In = line_n R1-d 0xA (E 0) unsigned_n
-- OUT N8, Ra          1010 aaa 1 nnnnnnnn
sheet_line Out = line_n R1-a 0xA (E 1) unsigned_n
-- MUL Rd, Ra, Rb      1011 aaa bbb ddd 000
sheet_line Mul = line R3 0xB (F 0)
-- MULH Rd, Ra, Rb     1011 aaa bbb ddd 001
sheet_line Mulh = line R3 0xB (F 1)
-- MULHU Rd, Ra, Rb    1011 aaa bbb ddd 010
sheet_line Mulhu = line R3 0xB (F 2)
-- DIV Rd, Ra, Rb      1011 aaa bbb ddd 100
sheet_line Div = line R3 0xB (F 4)
-- DIVU Rd, Ra, Rb     1011 aaa bbb ddd 101
sheet_line Divu = line R3 0xB (F 5)
-- EI                  1100 xxx xxx xxx 000
sheet_line Ei = line R0 0xC (F 0)
-- DI                  1100 xxx xxx xxx 001
sheet_line Di = line R0 0xC (F 1)
-- RETI                1100 xxx xxx xxx 010
sheet_line Reti = line R0 0xC (F 2)
-- GETIID Rd           1100 xxx xxx ddd 011
sheet_line Getiid = line R1-GETIID 0xC (F 3)

-- ---- The opcodes: what tells the instructions of one opcode apart is f, nothing, or e; or the opcode is unassigned.

pub data KindRow : Type 0 where
  by_f : List (Option Kind) → KindRow
  one : Kind → KindRow
  by_e : Kind → Kind → KindRow
  unassigned : KindRow

-- AND, OR, XOR, NOT, ADD, SUB, SHA, SHL
abbrev pub operation_kinds : List (Option Kind)
operation_kinds = Some And ∷ Some Or ∷ Some Xor ∷ Some Not ∷ Some Add ∷ Some Sub ∷ Some Sha ∷ Some Shl ∷ []

-- CMPLT, CMPLE, -, CMPEQ, CMPLTU, CMPLEU, -, -
abbrev pub comparison_kinds : List (Option Kind)
comparison_kinds = Some Cmplt ∷ Some Cmple ∷ None ∷ Some Cmpeq ∷ Some Cmpltu ∷ Some Cmpleu ∷ None ∷ None ∷ []

-- MUL, MULH, MULHU, -, DIV, DIVU, -, -
abbrev pub muldiv_kinds : List (Option Kind)
muldiv_kinds = Some Mul ∷ Some Mulh ∷ Some Mulhu ∷ None ∷ Some Div ∷ Some Divu ∷ None ∷ None ∷ []

-- EI, DI, RETI, GETIID, and other f unassigned
abbrev pub interrupt_kinds : List (Option Kind)
interrupt_kinds = Some Ei ∷ Some Di ∷ Some Reti ∷ Some Getiid ∷ None ∷ None ∷ None ∷ None ∷ []

abbrev pub kind_rows : List KindRow
kind_rows =
    -- 0 and 1
    by_f operation_kinds
    ∷ by_f comparison_kinds
    -- 2 to 7
    ∷ one Addi
    ∷ one Ld
    ∷ one St
    ∷ one Ldb
    ∷ one Stb
    ∷ one Jalr
    -- 8 to 10, e = 0, 1
    ∷ by_e Bz Bnz
    ∷ by_e Movi Movhi
    ∷ by_e In Out
    -- 11 and 12
    ∷ by_f muldiv_kinds
    ∷ by_f interrupt_kinds
    -- 13 to 15
    ∷ unassigned
    ∷ unassigned
    ∷ unassigned
    ∷ []

abbrev pub kind_in_row : KindRow → ℕ → ℕ → Option Kind
kind_in_row (by_f entries) e f = get_or entries f None
kind_in_row (one k) e f = Some k
kind_in_row (by_e k₀ k₁) e f = pick (eqb e 0) (Some k₀) (Some k₁)
kind_in_row unassigned e f = None

-- the kind of the words with this opcode, e and f
unfoldable pub kind_at : ℕ → ℕ → ℕ → Option Kind
kind_at op e f = kind_in_row (get_or kind_rows op unassigned) e f
