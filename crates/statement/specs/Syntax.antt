-- The lines of a trim's text (02, L2): 004's syntax, names before a colon, and `.word`.
use Rattle.std.specs.Prelude.{ℕ, ◌<◌, true, ◌≡◌, List, [], ◌∷◌, ◌++◌, length, get_or}
use Rattle.isa.specs.Instructions.{Register, a_register, b_register, d_register}
use Rattle.token.specs.Ascii.{byte, ascii}
use Rattle.token.specs.Tokens.{Token}
use Rattle.expression.specs.Operands.{register_of, is_name}
use Rattle.expression.specs.Grammar.{Tree, operand, Expression}

-- ---- The table: the sheet's column Assembler

-- what stands in the operands of a statement
pub data Item : Type 0 where
  register : Register → Item
  -- a comma or a parenthesis
  punctuation : ℕ → Item
  -- N6 or N8: an expression
  N : Item

abbrev Ra : Item
Ra = register a_register

abbrev Rb : Item
Rb = register b_register

abbrev Rd : Item
Rd = register d_register

abbrev comma : Item
comma = punctuation (byte ",")

abbrev opening : Item
opening = punctuation (byte "(")

abbrev closing : Item
closing = punctuation (byte ")")

-- how the value of N becomes the instruction's number n
pub data Field : Type 0 where
  -- read as signed
  number : Field
  -- MOVI, which also takes 128 to 255 as the same eight bits
  eight_bits : Field
  -- BZ, BNZ: the operand is the target address
  target : Field

-- a mnemonic and its operands
pub record Row : Type 0 where
  pub mnemonic : Token
  pub items : List Item
  pub field : Field

abbrev row : Token → List Item → Field → Row
row m is f = record { mnemonic = m; items = is; field = f }

-- Rd, Ra, Rb
abbrev d_a_b : List Item
d_a_b = Rd ∷ comma ∷ Ra ∷ comma ∷ Rb ∷ []

-- Rd, Ra
abbrev d_a : List Item
d_a = Rd ∷ comma ∷ Ra ∷ []

-- Rd, Ra, N6
abbrev d_a_n : List Item
d_a_n = Rd ∷ comma ∷ Ra ∷ comma ∷ N ∷ []

-- Rd, N6(Ra)
abbrev d_na : List Item
d_na = Rd ∷ comma ∷ N ∷ opening ∷ Ra ∷ closing ∷ []

-- N6(Ra), Rb
abbrev na_b : List Item
na_b = N ∷ opening ∷ Ra ∷ closing ∷ comma ∷ Rb ∷ []

-- Ra, N8
abbrev a_n : List Item
a_n = Ra ∷ comma ∷ N ∷ []

-- Rd, N8
abbrev d_n : List Item
d_n = Rd ∷ comma ∷ N ∷ []

-- N8, Ra
abbrev n_a : List Item
n_a = N ∷ comma ∷ Ra ∷ []

-- The kinds in their order, then `.word`, which gives a word.
abbrev pub table : List Row
table =
    row (ascii "AND") d_a_b number
    ∷ row (ascii "OR") d_a_b number
    ∷ row (ascii "XOR") d_a_b number
    ∷ row (ascii "NOT") d_a number
    ∷ row (ascii "ADD") d_a_b number
    ∷ row (ascii "SUB") d_a_b number
    ∷ row (ascii "SHA") d_a_b number
    ∷ row (ascii "SHL") d_a_b number
    ∷ row (ascii "CMPLT") d_a_b number
    ∷ row (ascii "CMPLE") d_a_b number
    ∷ row (ascii "CMPEQ") d_a_b number
    ∷ row (ascii "CMPLTU") d_a_b number
    ∷ row (ascii "CMPLEU") d_a_b number
    ∷ row (ascii "ADDI") d_a_n number
    ∷ row (ascii "LD") d_na number
    ∷ row (ascii "ST") na_b number
    ∷ row (ascii "LDB") d_na number
    ∷ row (ascii "STB") na_b number
    ∷ row (ascii "JALR") d_a number
    ∷ row (ascii "BZ") a_n target
    ∷ row (ascii "BNZ") a_n target
    ∷ row (ascii "MOVI") d_n eight_bits
    ∷ row (ascii "MOVHI") d_n number
    ∷ row (ascii "IN") d_n number
    ∷ row (ascii "OUT") n_a number
    ∷ row (ascii "MUL") d_a_b number
    ∷ row (ascii "MULH") d_a_b number
    ∷ row (ascii "MULHU") d_a_b number
    ∷ row (ascii "DIV") d_a_b number
    ∷ row (ascii "DIVU") d_a_b number
    -- 02, L12: GETIID alone with an operand, its register
    ∷ row (ascii "EI") [] number
    ∷ row (ascii "DI") [] number
    ∷ row (ascii "RETI") [] number
    ∷ row (ascii "GETIID") (Rd ∷ []) number
    ∷ row (ascii ".word") (N ∷ []) number
    ∷ []

abbrev pub row_at : ℕ → Row
row_at k = get_or table k (row [] [] number)

-- ---- The grammar of a line

-- the parts of a statement: its registers, and the expression that N is
pub record Parts (A : Type 0) : Type 0 where
  pub a : ℕ
  pub b : ℕ
  pub d : ℕ
  pub n : A

-- a part that does not stand there is 0
abbrev pub blank : Parts Tree
blank = record { a = 0; b = 0; d = 0; n = operand (ascii "0") }

module _ {A : Type 0} where
  -- the parts with register k
  abbrev pub put : Register → ℕ → Parts A → Parts A
  put a_register k p = record { a = k; b = p.b; d = p.d; n = p.n }
  put b_register k p = record { a = p.a; b = k; d = p.d; n = p.n }
  put d_register k p = record { a = p.a; b = p.b; d = k; n = p.n }

  -- and with N
  abbrev pub put_n : A → Parts A → Parts A
  put_n e p = record { a = p.a; b = p.b; d = p.d; n = e }

-- `Written is ts p q`: the tokens ts are the items is, which make the parts p into q
pub data Written : List Item → List Token → Parts Tree → Parts Tree → Type 0 where
  end : {p : Parts Tree} → Written [] [] p p
  -- R0 to R7
  a_register_there : {r : Register} {is : List Item} {t : Token} {ts : List Token} {p q : Parts Tree}
      → register_of t < 8 → Written is ts (put r (register_of t) p) q → Written (register r ∷ is) (t ∷ ts) p q
  punctuation_there : {m : ℕ} {is : List Item} {ts : List Token} {p q : Parts Tree}
      → Written is ts p q → Written (punctuation m ∷ is) ((m ∷ []) ∷ ts) p q
  -- parentheses nest to depth 16
  a_value_there : {is : List Item} {us ts : List Token} {e : Tree} {p q : Parts Tree}
      → Expression 16 5 us e → Written is ts (put_n e p) q → Written (N ∷ is) (us ++ ts) p q

-- what a line says: nothing, or row k of the table with its parts
pub data Statement (A : Type 0) : Type 0 where
  no_statement : Statement A
  of_row : ℕ → Parts A → Statement A

pub data IsStatement : List Token → Statement Tree → Type 0 where
  empty : IsStatement [] no_statement
  written : (k : ℕ) {ts : List Token} {p : Parts Tree}
      → k < length table → Written (row_at k).items ts blank p → IsStatement ((row_at k).mnemonic ∷ ts) (of_row k p)

-- a line: the name that it gives, if any, and its statement
pub record Line (A : Type 0) : Type 0 where
  pub label : List Token
  pub statement : Statement A

abbrev pub line : {A : Type 0} → List Token → Statement A → Line A
line l s = record { label = l; statement = s }

-- A line may begin with `name:`; it may be empty or `name:` alone.
pub data IsLine : List Token → Line Tree → Type 0 where
  plain : {ts : List Token} {s : Statement Tree} → IsStatement ts s → IsLine ts (line [] s)
  labelled : {w : Token} {ts : List Token} {s : Statement Tree}
      → is_name w ≡ true → IsStatement ts s → IsLine (w ∷ ascii ":" ∷ ts) (line (w ∷ []) s)
