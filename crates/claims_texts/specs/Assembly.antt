-- Writing trims as text (02, L2): the reading of a line is unique; words are returned exactly where every line has a reading and
-- nothing turns it away, and they are those of the reading; and which line is turned away, with which number.
--
-- The grammar, as docs/TEXT.md has it. `{ x }` is any number of x, also none; `[ x ]` is x or nothing. A line is divided into
-- tokens, each as long as it can be, with any number of spaces between them.
--
--   text      = line { newline line }
--   line      = [ name ":" ] [ statement ]
--   statement = three R "," R "," R | two R "," R | "ADDI" R "," R "," value
--             | ( "LD" | "LDB" ) R "," value "(" R ")" | ( "ST" | "STB" ) value "(" R ")" "," R
--             | ( "BZ" | "BNZ" | "MOVI" | "MOVHI" | "IN" ) R "," value
--             | "OUT" value "," R | ".word" value | "EI" | "DI" | "RETI" | "GETIID" R
--   three     = "AND" | "OR" | "XOR" | "ADD" | "SUB" | "SHA" | "SHL"
--             | "CMPLT" | "CMPLE" | "CMPEQ" | "CMPLTU" | "CMPLEU"
--             | "MUL" | "MULH" | "MULHU" | "DIV" | "DIVU"
--   two       = "NOT" | "JALR"
--   R         = "R0" | "R1" | "R2" | "R3" | "R4" | "R5" | "R6" | "R7"
--   value     = masked { "|" masked }
--   masked    = shifted { "&" shifted }
--   shifted   = sum { "<<" sum }
--   sum       = product { ( "+" | "-" ) product }
--   product   = operand { "*" operand }
--   operand   = number | name | "-" operand | "(" value ")", nested at most 16 deep
--   number    = digit { digit } | "0x" hexdigit { hexdigit }
--   name      = letter { letter | digit }, at most 16 of them, and not R
--   token     = [ "." ] ( letter | digit ) { letter | digit } | "<<" | any other byte but the space
--
-- The definitions in reading order: token/specs/Tokens.antt (tokens), expression/specs/Operands.antt (numbers, names, what an
-- operator gives), expression/specs/Grammar.antt (values), statement/specs/Syntax.antt (lines and statements), encoding/specs/Words.antt
-- (the word of a statement, and what fits), assembler/specs/Text.antt (the lines of a text, names and addresses, the call).
use Rattle.std.specs.Prelude.{true, false, ◌≡◌, ◌⊎◌, ◌↔◌, List, [], ◌∷◌, ℕ, zero, suc, ◌+◌, ◌*◌, ◌%◌, ◌<◌, ◌≤◌, ℤ, length, take, get_or}
use Rattle.word.specs.Word.{add, signed, low_bits}
use Rattle.kinds.specs.declared.Kind.TheVariants.{And}
use Rattle.kinds.specs.Kinds.{kinds}
use Rattle.isa.specs.Sheet.{sheet_line}
use Rattle.isa.specs.Instructions.{in_range, word, write_of}
use Rattle.machine.specs.Machine.{word_at}
use Rattle.token.specs.Tokens.{Token, is_digit, Divided}
use Rattle.expression.specs.Operands.{Label, operand_value, Operator}
use Rattle.expression.specs.Grammar.{Tree, operand, negation, operation, value_of}
use Rattle.statement.specs.Syntax.{Field, number, eight_bits, target, row_at, Parts, of_row, Line, IsLine}
use Rattle.statement.specs.Reading.{ReadLine, outside, reads}
use Rattle.encoding.specs.Words.{odd, number_of}
use Rattle.assembler.specs.Text.{lines, text_lines, Place, start, admitted, after, names_from, text_verdicts, words_of, words, text_refused, stored, assemble_left}
use Rattle.claims_sheet.specs.Rules.{SE-n}

-- ---- A line's reading, from its bytes

pub record Reads (s : List ℕ) (l : Line Tree) : Type 0 where
  pub tokens : List Token
  pub divided : Divided s tokens
  pub parsed : IsLine tokens l

pub record Unique : Type 0 where
  -- two divisions of a line into tokens are one,
  pub one_division : (s : List ℕ) (ts us : List Token) → Divided s ts → Divided s us → ts ≡ us
  -- two readings of the same tokens are one,
  pub one_derivation : (ts : List Token) (l m : Line Tree) → IsLine ts l → IsLine ts m → l ≡ m
  -- so the reading is unique from the line's bytes
  pub one_reading : (s : List ℕ) (l m : Line Tree) → Reads s l → Reads s m → l ≡ m

-- ---- Names

-- w is among the names
pub data Named : List Label → Token → Type 0 where
  here : {l : Label} {ls : List Label} → Named (l ∷ ls) l.name
  there : {l : Label} {ls : List Label} {w : Token} → Named ls w → Named (l ∷ ls) w

-- w stands in the expression as a name: an operand that does not begin with a digit
pub data Uses : Tree → Token → Type 0 where
  the_name : {w : Token} → is_digit (get_or w 0 0) ≡ false → Uses (operand w) w
  negated : {t : Tree} {w : Token} → Uses t w → Uses (negation t) w
  left : {o : Operator} {t u : Tree} {w : Token} → Uses t w → Uses (operation o t u) w
  right : {o : Operator} {t u : Tree} {w : Token} → Uses u w → Uses (operation o t u) w

-- ---- Values: `.word` takes any; an instruction's number has to be one that its bits can stand for, and a distance even

abbrev pub Fits : ℕ → ℕ → ℕ → Type 0
Fits k address v =
    (k ≡ length kinds)
    ⊎ ((odd (row_at k).field address v ≡ false)
    × (in_range (sheet_line (get_or kinds k And)).number (sheet_line (get_or kinds k And)).format.n (number_of (row_at k).field address v) ≡ true))

-- ---- Words

-- n is what an instruction at an address has for the value v:
abbrev pub Stands : Field → ℕ → ℕ → ℤ → Type 0
-- the value read as signed;
Stands number address v n = n ≡ signed 16 v
-- for MOVI 128 to 255 also as the same eight bits;
Stands eight_bits address v n = (n ≡ signed 16 v) ⊎ ((128 ≤ v) × (v ≤ 255) × (low_bits 8 n ≡ v))
-- for BZ and BNZ the target address is v, modulo 65,536:  PC=PC+2; PC=PC+SE(N8)*2
Stands target address v n = add (address + 2) (SE-n n * 2) ≡ v % 65536

-- w is the word of row q with the parts p, at an address, where its expression comes to v:
pub data WordOf (q address v : ℕ) (p : Parts Tree) (w : ℕ) : Type 0 where
  -- of `.word` the value,
  of_value : q ≡ length kinds → w ≡ v → WordOf q address v p w
  -- of an instruction the word that `write` gives for its parts
  of_instruction : (n : ℤ) → q < length kinds → Stands (row_at q).field address v n
      → write_of (record { kind = get_or kinds q And; a = p.a; b = p.b; d = p.d; n = n }) ≡ word w → WordOf q address v p w

-- ---- The lines of a text

-- the place of line k, from 0, where the lines before it read as they do
unfoldable pub place_of : ℕ → Place → List (ReadLine Tree) → Place
place_of zero p ls = p
place_of (suc k) p [] = p
place_of (suc k) p (l ∷ ls) = place_of k (after p (admitted p l)) ls

-- A longer text is read up to the line holding its 65,537th byte.
abbrev pub text_parts : List ℕ → List (List ℕ)
text_parts text = lines (take 65536 text)

-- the value of an expression, by all names that the text gives
abbrev pub value_in : List ℕ → Tree → ℕ
value_in text t = (value_of (operand_value (names_from start (text_lines text))) t).word

module _ (text : List ℕ) (k : ℕ) where
  -- line k, from 0, and its place
  abbrev pub line_at : List ℕ
  line_at = get_or (text_parts text) k []

  abbrev pub place_at : Place
  place_at = place_of k start (text_lines text)

  -- number r holds of line k
  pub data Bad : ℕ → Type 0 where
    -- 10: the line holds the text's 65,537th byte,
    too_long : 65536 < length text → suc k ≡ length (text_parts text) → Bad 10
    -- is outside the grammar,
    no_reading : ((l : Line Tree) → Reads line_at l → ⊥) → Bad 10
    -- or would give a 65th name
    crowded : (l : Line Tree) (w : Token) → Reads line_at l → l.label ≡ w ∷ [] → (Named place_at.names w → ⊥) → 64 ≤ length place_at.names → Bad 10
    -- 11: an earlier line gave its name,
    repeated : (l : Line Tree) (w : Token) → Reads line_at l → l.label ≡ w ∷ [] → Named place_at.names w → Bad 11
    -- or it uses a name that no line gives
    unknown : (l : Line Tree) (q : ℕ) (p : Parts Tree) (w : Token)
        → Reads line_at l → l.statement ≡ of_row q p → Uses p.n w → (Named (names_from start (text_lines text)) w → ⊥) → Bad 11
    -- 12: its value does not fit its field
    misfit : (l : Line Tree) (q : ℕ) (p : Parts Tree)
        → Reads line_at l → l.statement ≡ of_row q p
        → (Fits q place_at.address (value_in text p.n) → ⊥) → Bad 12

-- The first bad line wins, then the lowest number.
pub record First (text : List ℕ) (k r : ℕ) : Type 0 where
  pub there : k < length (text_parts text)
  pub bad : Bad text k r
  pub lowest : (q : ℕ) → q < r → Bad text k q → ⊥
  pub before : (j q : ℕ) → j < k → Bad text j q → ⊥

-- ---- The claim

pub record Assembles (text program : List ℕ) : Type 0 where
  -- 1, with line 0: the destination is no program memory; it is tested first
  pub number_1 : ((assemble_left text program).reply ≡ text_refused 0 1) ↔ (length program ≡ 65536 → ⊥)
  -- Lines are numbered from 1.
  pub refuses : (k r : ℕ) → ((assemble_left text program).reply ≡ text_refused (suc k) r) ↔ ((length program ≡ 65536) × First text k r)
  -- Otherwise the words are returned, and their count,
  pub accepts :
      (n : ℕ) → ((assemble_left text program).reply ≡ words n)
      ↔ ((length program ≡ 65536) × ((k r : ℕ) → k < length (text_parts text) → Bad text k r → ⊥) × (n ≡ length (words_of (text_verdicts text))))
  -- stored from address 0 on, and bytes past the words stay;
  pub stores : (n : ℕ) → (assemble_left text program).reply ≡ words n → (assemble_left text program).program ≡ stored (words_of (text_verdicts text)) program
  -- so that the word at the address of a line is the one of what it says;
  pub holds :
      (n : ℕ) → (assemble_left text program).reply ≡ words n
      → (k : ℕ) (l : Line Tree) (q : ℕ) (p : Parts Tree) → k < length (text_parts text) → Reads (line_at text k) l → l.statement ≡ of_row q p
      → WordOf q (place_at text k).address (value_in text p.n) p (word_at (assemble_left text program).program (place_at text k).address)
  -- a refusal leaves the memory untouched.
  pub untouched : (k r : ℕ) → (assemble_left text program).reply ≡ text_refused k r → (assemble_left text program).program ≡ program

pub record Assembly : Type 0 where
  pub unique : Unique
  -- a line is taken as the grammar's reading of its bytes, where it has one, and else as outside the grammar
  pub readings :
      (text : List ℕ) (k : ℕ) (l : Line Tree) → k < length (text_parts text) → ((65536 < length text) × (suc k ≡ length (text_parts text)) → ⊥)
      → (get_or (text_lines text) k outside ≡ reads l) ↔ Reads (line_at text k) l
  -- a text's words fit the program memory: a line with a word is not empty, and a newline stands between two
  pub fits : (text : List ℕ) → length (words_of (text_verdicts text)) ≤ 32768
  pub assembles : (text program : List ℕ) → Assembles text program
