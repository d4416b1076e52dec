-- What some texts give: one for each kind and `.word`, as the sheet writes it, with its word worked out from the sheet's bits; and texts of 02
-- (L2) for ranks, values and names. Mnemonics, the order of operands, ranks and the value of a name are each defined once, for printing
-- and reading alike: this says them from a second side.
use Rattle.std.specs.Prelude.{ℕ, ◌≡◌, List, [], ◌∷◌, ◌++◌, map, length, get_or, Option}
use Prim.Native.String.{String}
use Rattle.word.specs.Fields.{opcode, e_of, f_of}
use Rattle.kinds.specs.Kinds.{kinds}
use Rattle.std.specs.declared.option.Option.TheVariants.{Some, None}
use Rattle.kinds.specs.declared.Kind.{Kind}
use Rattle.isa.specs.Sheet.{kind_at}
use Rattle.token.specs.Ascii.{ascii}
use Rattle.assembler.specs.Text.{words, stored, assemble_left}

-- a text and its words
pub record Example : Type 0 where
  pub text : String
  pub its_words : List ℕ

abbrev lines : String → List ℕ → Example
lines text ws = record { text = text; its_words = ws }

-- of one line
abbrev row : String → ℕ → Example
row text w = lines text (w ∷ [])

-- The sheet's column Assembler in the order of the kinds, each row with the bits of its word; among them (a) and (b) of 01.
abbrev pub sheet_rows : List Example
sheet_rows =
    row "AND R1, R2, R3" 0x04C8  -- 0000 010 011 001 000
    ∷ row "OR R2, R3, R4" 0x0711  -- 0000 011 100 010 001
    ∷ row "XOR R3, R4, R5" 0x095A  -- 0000 100 101 011 010
    ∷ row "NOT R4, R5" 0x0A23  -- 0000 101 000 100 011
    ∷ row "ADD R5, R6, R7" 0x0DEC  -- 0000 110 111 101 100
    ∷ row "SUB R1, R2, R3" 0x04CD  -- 0000 010 011 001 101
    ∷ row "SHA R7, R4, R1" 0x087E  -- 0000 100 001 111 110
    ∷ row "SHL R6, R7, R0" 0x0E37  -- 0000 111 000 110 111
    ∷ row "CMPLT R0, R1, R2" 0x1280  -- 0001 001 010 000 000
    ∷ row "CMPLE R1, R2, R3" 0x14C9  -- 0001 010 011 001 001
    ∷ row "CMPEQ R2, R3, R4" 0x1713  -- 0001 011 100 010 011
    ∷ row "CMPLTU R4, R5, R6" 0x1BA4  -- 0001 101 110 100 100
    ∷ row "CMPLEU R3, R1, R2" 0x129D  -- 0001 001 010 011 101
    ∷ row "ADDI R1, R2, -1" 0x247F  -- 0010 010 001 111111
    ∷ row "LD R1, 3(R0)" 0x3043  -- 0011 000 001 000011
    ∷ row "ST -2(R6), R5" 0x4D7E  -- 0100 110 101 111110
    ∷ row "LDB R3, 31(R4)" 0x58DF  -- 0101 100 011 011111
    ∷ row "STB -32(R2), R7" 0x65E0  -- 0110 010 111 100000
    ∷ row "JALR R5, R6" 0x7D40  -- 0111 110 101 000000
    ∷ row "BZ R1, 10" 0x8204  -- 1000 001 0 00000100
    ∷ row "BNZ R2, 0" 0x85FF  -- 1000 010 1 11111111
    ∷ row "MOVI R5, 0xF6" 0x9AF6  -- 1001 101 0 11110110
    ∷ row "MOVHI R5, 0x3A" 0x9B3A  -- 1001 101 1 00111010
    ∷ row "IN R3, 255" 0xA6FF  -- 1010 011 0 11111111
    ∷ row "OUT 3, R5" 0xAB03  -- 1010 101 1 00000011
    ∷ row "MUL R1, R2, R3" 0xB4C8  -- 1011 010 011 001 000
    ∷ row "MULH R2, R3, R4" 0xB711  -- 1011 011 100 010 001
    ∷ row "MULHU R3, R4, R5" 0xB95A  -- 1011 100 101 011 010
    ∷ row "DIV R4, R5, R6" 0xBBA4  -- 1011 101 110 100 100
    ∷ row "DIVU R5, R6, R7" 0xBDED  -- 1011 110 111 101 101
    ∷ row "EI" 0xC000  -- 1100 000 000 000 000
    ∷ row "DI" 0xC001  -- 1100 000 000 000 001
    ∷ row "RETI" 0xC002  -- 1100 000 000 000 010
    ∷ row "GETIID R3" 0xC01B  -- 1100 000 000 011 011
    ∷ row ".word 0xF000" 0xF000  -- 1111 0000 0000 0000, unassigned
    ∷ []

-- Expressions, the ranks tightest first.
abbrev pub value_rows : List Example
value_rows =
    -- unary minus (also repeated)
    row ".word -1 + 2" 1
    ∷ row ".word 2 * -3" 0xFFFA
    ∷ row ".word --5" 5
    ∷ row ".word ---5" 0xFFFB
    -- `*`, then `+` and `-`
    ∷ row ".word 1 + 2 * 3" 7
    ∷ row ".word 7 - 2 * 3" 1
    -- `<<`
    ∷ row ".word 1 << 2 + 1" 8
    ∷ row ".word 1 << 2 - 1" 2
    -- `&`
    ∷ row ".word 6 & 3 << 1" 6
    -- `|`
    ∷ row ".word 6 | 3 & 10" 6
    -- Equal ranks go left to right
    ∷ row ".word 9 - 4 - 3" 2
    ∷ row ".word 9 - 4 + 3" 8
    ∷ row ".word 1 << 1 << 2" 8
    -- parentheses
    ∷ row ".word (1 + 2) * 3" 9
    -- modulo 65,536, and a shift of 16 or more gives 0; literals are reduced too
    ∷ row ".word 65535 + 2" 1
    ∷ row ".word 256 * 257" 0x0100
    ∷ row ".word 1 << 15" 0x8000
    ∷ row ".word 1 << 16" 0
    ∷ row ".word 65537" 1
    ∷ row ".word 0xaF" 0xAF
    -- MOVI also takes 128 to 255 as the same eight bits
    ∷ row "MOVI R1, 200" 0x92C8
    ∷ row "MOVI R1, -56" 0x92C8
    ∷ []

-- A branch operand is its target address; a name is the address of the next word.
abbrev pub name_rows : List Example
name_rows =
    -- backward, from 2 to 0: 1000 001 1 11111110
    lines "loop: IN R1, 0\nBNZ R1, loop" (0xA200 ∷ 0x83FE ∷ [])
    -- forward, from 0 to 4: 1000 001 0 00000001
    ∷ lines "BZ R1, end\nNOT R1, R2\nend: .word end" (0x8201 ∷ 0x040B ∷ 4 ∷ [])
    ∷ []

-- `assemble` gives those words, in any program memory
abbrev pub Gives : Example → Type 0
Gives x =
    (program : List ℕ) → length program ≡ 65536
    → assemble_left (ascii x.text) program ≡ record { reply = words (length x.its_words); program = stored x.its_words program }

abbrev pub Each : List Example → Type 0
Each [] = Unit
Each (x ∷ xs) = Gives x × Each xs

-- the kind of its first word
abbrev pub kind_of : Example → Option Kind
kind_of x = let w = get_or x.its_words 0 0 in kind_at (opcode w) (e_of w) (f_of w)

pub record Examples : Type 0 where
  -- each of the kinds has a row, in their order, and `.word` the last, of an unassigned word
  pub every_kind : map kind_of sheet_rows ≡ map Some kinds ++ (None ∷ [])
  pub sheet : Each sheet_rows
  pub values : Each value_rows
  pub names : Each name_rows
