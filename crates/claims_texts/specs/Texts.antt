-- Every word has a text (02, L2 and L4): an instruction as 004 writes it, a branch by its target, `.word` for an unassigned word; and the
-- assembler gives the word back, with its ignored bits cleared. `text_of` and `instruction_text` are the listing's.
use Rattle.std.specs.Prelude.{◌≡◌, List, [], ◌∷◌, ◌++◌, map, ℕ, ◌+◌, ◌<◌, ◌≤◌, length}
use Rattle.isa.specs.declared.Instruction.{Instruction}
use Rattle.isa.specs.Instructions.{Read, instruction, unassigned, read_of, word, write_of}
use Rattle.token.specs.Ascii.{byte}
use Rattle.expression.specs.Operands.{operand_value}
use Rattle.expression.specs.Grammar.{Tree, value_of}
use Rattle.statement.specs.Syntax.{Line}
use Rattle.statement.specs.Reading.{reads, valued}
use Rattle.encoding.specs.Words.{gives}
use Rattle.listing.specs.Listing.{instruction_text, text_of}
use Rattle.assembler.specs.Text.{judged, words, stored, assemble_left}
use Rattle.claims_texts.specs.Assembly.{Reads}
use Rattle.claims_words.specs.Instructions.{cleared}

-- w with the bits cleared that reading ignores; an unassigned word as it is
abbrev pub cleared_as : Read → ℕ → ℕ
cleared_as (instruction i) w = cleared i.kind w
cleared_as unassigned w = w

abbrev pub cleared_word : ℕ → ℕ
cleared_word w = cleared_as (read_of w) w

-- the text of w at an address is a line without a name whose reading, taken at that address with no names, gives w back
pub record GivesBack (address w : ℕ) : Type 0 where
  pub line : Line Tree
  pub read : Reads (text_of address w) line
  pub unnamed : line.label ≡ []
  pub gives_back : judged (record { names = []; address = address }) (valued (value_of (operand_value [])) (reads line)) ≡ gives (cleared_word w)

-- the third column of a listing: the texts of words that run on from an address, a line each
unfoldable pub third_column : ℕ → List ℕ → List ℕ
third_column address [] = []
third_column address (w ∷ ws) = text_of address w ++ (byte "\n" ∷ third_column (address + 2) ws)

-- 16-bit words
pub data Words : List ℕ → Type 0 where
  none : Words []
  more : {w : ℕ} {ws : List ℕ} → w < 65536 → Words ws → Words (w ∷ ws)

pub record Texts : Type 0 where
  -- the text of every word, at every address, gives the word back,
  pub gives_back : (address w : ℕ) → w < 65536 → GivesBack address w
  -- so the third column of a listing, where it has at most 65,536 bytes, assembles to the listing's words, their ignored bits cleared,
  pub assembles :
      (ws program : List ℕ) → Words ws → length (third_column 0 ws) ≤ 65536 → length program ≡ 65536
      → assemble_left (third_column 0 ws) program ≡ record { reply = words (length ws); program = stored (map cleared_word ws) program }
  -- and the text of every instruction that `write` accepts assembles to its word
  pub instructions :
      (i : Instruction) (w : ℕ) (program : List ℕ) → write_of i ≡ word w → length program ≡ 65536
      → assemble_left (instruction_text 0 i) program ≡ record { reply = words 1; program = stored (w ∷ []) program }
