-- The table of statements as the code holds it: a text of twelve bytes a row, six for the mnemonic and six for its operands, in
-- which `a`, `b`, `d` are registers, `n` is an expression, and any other byte stands for itself. Nothing here is promised to a
-- caller: proofs/Tables.antt shows that it says what Syntax says.
use Rattle.std.specs.Prelude.{ℕ, ◌+◌, ◌*◌, ◌<◌, ◌≡◌, List, [], ◌∷◌, eqb, length, take, drop, Option, Some, None}
use Rattle.kinds.specs.Kinds.{kind_number}
use Rattle.word.specs.Word.{pick}
use Rattle.isa.specs.Instructions.{a_register, b_register, d_register}
use Rattle.token.specs.Ascii.{byte, ascii}
use Rattle.statement.specs.declared.rows.Field.{Field as Held}
use Rattle.statement.specs.declared.rows.Field.TheVariants.{Number, EightBits, Target}
use Rattle.statement.specs.declared.rows.Operation.{Operation}
use Rattle.statement.specs.declared.rows.Operation.TheVariants.{Instruction, Word}
use Rattle.statement.specs.Syntax.{Item, register, punctuation, N, Field, number, eight_bits, target, table}

abbrev pub row_text : List ℕ
row_text = ascii "AND   d,a,b OR    d,a,b XOR   d,a,b NOT   d,a   ADD   d,a,b SUB   d,a,b SHA   d,a,b SHL   d,a,b CMPLT d,a,b CMPLE d,a,b CMPEQ d,a,b CMPLTUd,a,b CMPLEUd,a,b ADDI  d,a,n LD    d,n(a)ST    n(a),bLDB   d,n(a)STB   n(a),bJALR  d,a   BZ    a,n   BNZ   a,n   MOVI  d,n   MOVHI d,n   IN    d,n   OUT   n,a   MUL   d,a,b MULH  d,a,b MULHU d,a,b DIV   d,a,b DIVU  d,a,b EI          DI          RETI        GETIIDd     .word n     "

-- the bytes of each mnemonic
abbrev pub mnemonic_lengths : List ℕ
mnemonic_lengths = 3 ∷ 2 ∷ 3 ∷ 3 ∷ 3 ∷ 3 ∷ 3 ∷ 3 ∷ 5 ∷ 5 ∷ 5 ∷ 6 ∷ 6 ∷ 4 ∷ 2 ∷ 2 ∷ 3 ∷ 3 ∷ 4 ∷ 2 ∷ 3 ∷ 4 ∷ 5 ∷ 2 ∷ 3 ∷ 3 ∷ 4 ∷ 5 ∷ 3 ∷ 4 ∷ 2 ∷ 2 ∷ 4 ∷ 6 ∷ 5 ∷ []

unfoldable pub item_of : ℕ → Item
item_of c =
    pick (eqb c (byte "a")) (register a_register)
    (pick (eqb c (byte "b")) (register b_register)
    (pick (eqb c (byte "d")) (register d_register)
    (pick (eqb c (byte "n")) N (punctuation c))))

-- the items of a row's operands, up to the first space
unfoldable pub items_of : List ℕ → List Item
items_of [] = []
items_of (c ∷ cs) = pick (eqb c (byte " ")) [] (item_of c ∷ items_of cs)

unfoldable pub cell : ℕ → List ℕ
cell k = take 6 (drop (12 * k + 6) row_text)

-- the field that one of the code stands for
abbrev pub field_of : Held → Field
field_of Number = number
field_of EightBits = eight_bits
field_of Target = target

-- the row of an operation
abbrev pub row_number : Operation → ℕ
row_number (Instruction kind) = kind_number kind
row_number Word = 34

-- the place of a row, where n is that or, where there is none, how many rows there are
abbrev pub RowIs : Option ℕ → ℕ → Type 0
RowIs (Some k) n = (k < length table) × (k ≡ n)
RowIs None n = length table ≡ n
