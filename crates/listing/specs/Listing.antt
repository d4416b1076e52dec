-- A program listing (02, L4; the program `panellist`): each program word that a file has, as text. The text of an instruction is
-- 004's: its mnemonic and operands, numbers in decimal, a branch with its target address. A text is the list of its bytes.
use Rattle.std.specs.Prelude.{ℕ, suc, ◌+◌, ◌*◌, List, [], ◌∷◌, ◌++◌, eqb, ℤ, pos, negsuc}
use Rattle.word.specs.Word.{pick, add, low_bits}
use Rattle.kinds.specs.Kinds.{kind_number}
use Rattle.isa.specs.declared.Instruction.{Instruction}
use Rattle.isa.specs.Instructions.{register_part, Read, instruction, unassigned, read_of}
use Rattle.isa.specs.Masks.{in_mask, masks_of}
use Rattle.token.specs.Ascii.{byte, ascii}
use Rattle.statement.specs.Syntax.{Item, register, punctuation, N, Field, number, eight_bits, target, Row, row_at}
use Rattle.printing.specs.Text.{decimal, hex4, each}

-- ---- The text of a word

-- R0 to R7
abbrev pub register_text : ℕ → List ℕ
register_text k = byte "R" ∷ (byte "0" + k) ∷ []

-- a number in decimal, after a minus sign where it is negative (negsuc x is -(x + 1))
abbrev pub number_text : ℤ → List ℕ
number_text (pos x) = decimal x
number_text (negsuc x) = ascii "-" ++ decimal (suc x)

-- a word in hexadecimal
abbrev pub word_text : ℕ → List ℕ
word_text v = ascii "0x" ++ hex4 v

-- where a branch at the address goes to: PC+2+2·SE(N8)
abbrev pub target_of : ℕ → ℤ → ℕ
target_of address n = add (add address 2) (low_bits 16 n * 2)

-- the operand for n: n itself, or the target of a branch
abbrev pub operand_text : ℕ → Field → ℤ → List ℕ
operand_text address number n = number_text n
operand_text address eight_bits n = number_text n
operand_text address target n = word_text (target_of address n)

abbrev pub row_for : Instruction → Row
row_for i = row_at (kind_number i.kind)

module _ (address : ℕ) (i : Instruction) where
  -- a space after a comma
  abbrev pub item_text : Field → Item → List ℕ
  item_text f (register r) = register_text (register_part i r)
  item_text f (punctuation m) = pick (eqb m (byte ",")) (ascii ", ") (m ∷ [])
  item_text f N = operand_text address f i.n

  unfoldable pub items_text : Field → List Item → List ℕ
  items_text f [] = []
  items_text f (t ∷ ts) = item_text f t ++ items_text f ts

  -- a space before the operands; nothing where there are none
  abbrev pub operands_text : Field → List Item → List ℕ
  operands_text f [] = []
  operands_text f (t ∷ ts) = ascii " " ++ items_text f (t ∷ ts)

  unfoldable pub instruction_text : List ℕ
  instruction_text = (row_for i).mnemonic ++ operands_text (row_for i).field (row_for i).items

-- `.word` for an unassigned word
abbrev pub text_as : ℕ → ℕ → Read → List ℕ
text_as address w (instruction i) = instruction_text address i
text_as address w unassigned = ascii ".word " ++ word_text w

unfoldable pub text_of : ℕ → ℕ → List ℕ
text_of address w = text_as address w (read_of w)

-- ---- The line of a word: address, word, text, and the registers that it reads and writes, a tab between

-- the registers of a mask, each after a space
abbrev pub register_in : ℕ → ℕ → List ℕ
register_in mask k = pick (in_mask mask k) (ascii " " ++ register_text k) []

unfoldable pub registers_text : ℕ → List ℕ
registers_text mask = each (register_in mask) (0 ∷ 1 ∷ 2 ∷ 3 ∷ 4 ∷ 5 ∷ 6 ∷ 7 ∷ [])

unfoldable pub line_text : ℕ → ℕ → List ℕ
line_text address w =
    hex4 address
    ++ ascii "\t"
    ++ hex4 w
    ++ ascii "\t"
    ++ text_of address w
    ++ ascii "\treads"
    ++ registers_text (masks_of w).reads
    ++ ascii "\twrites"
    ++ registers_text (masks_of w).writes
    ++ ascii "\n"
