-- What a trim's text gives (02, L2): its words, or the first line that is turned away, and the number. `line_of` of Reading is the
-- one reading of a line's tokens by the grammar of Syntax, or `outside` where there is none.
use Rattle.std.specs.Prelude.{ℕ, suc, ◌+◌, ◌*◌, ◌/◌, ◌%◌, Bool, false, ◌&&◌, not, List, [], ◌∷◌, ◌++◌, eqb, ltb, leb, length, take, drop}
use Rattle.word.specs.Word.{pick}
use Rattle.token.specs.Ascii.{byte}
use Rattle.token.specs.Tokens.{Token}
use Rattle.token.specs.Scan.{tokens}
use Rattle.expression.specs.declared.Value.{Value}
use Rattle.expression.specs.Operands.{Label, name_value, operand_value}
use Rattle.expression.specs.Grammar.{Tree, value_of}
use Rattle.encoding.specs.Words.{words_in, Judged, bad, nothing, gives, stated}
use Rattle.statement.specs.Reading.{ReadLine, outside, reads, line_of, valued}

-- ---- Lines

unfoldable pub longer : ℕ → List (List ℕ) → List (List ℕ)
longer b [] = []
longer b (l ∷ ls) = (b ∷ l) ∷ ls

-- A newline ends a line; the last may lack it. (After a newline at the very end the last line is empty.)
unfoldable pub lines : List ℕ → List (List ℕ)
lines [] = [] ∷ []
lines (b ∷ s) = pick (eqb b (byte "\n")) ([] ∷ lines s) (longer b (lines s))

-- the readings of the lines; of a text that is too long, the last line that is read is outside the grammar
unfoldable pub readings : Bool → List (List ℕ) → List (ReadLine Tree)
readings long [] = []
readings long (l ∷ []) = pick long outside (line_of (tokens l)) ∷ []
readings long (l ∷ m ∷ ls) = line_of (tokens l) ∷ readings long (m ∷ ls)

-- At most 65,536 bytes; in a longer text reading ends in the line holding its 65,537th byte.
unfoldable pub text_lines : List ℕ → List (ReadLine Tree)
text_lines text = readings (ltb 65536 (length text)) (lines (take 65536 text))

-- ---- Names and addresses

-- where a line stands: the names given on the lines before it, and the address of the next word
pub record Place : Type 0 where
  pub names : List Label
  pub address : ℕ

-- Words run on from address 0.
abbrev pub start : Place
start = record { names = []; address = 0 }

unfoldable pub given : List Label → Token → Bool
given names w = (name_value names w).known

-- a line that would give a 65th name
unfoldable pub crowded : Place → List Token → Bool
crowded p [] = false
crowded p (w ∷ l) = not (given p.names w) && leb 64 (length p.names)

-- ... is past a stated size, and like one outside the grammar
unfoldable pub admitted : {A : Type 0} → Place → ReadLine A → ReadLine A
admitted p outside = outside
admitted p (reads l) = pick (crowded p l.label) outside (reads l)

-- the name that a line gives, unless an earlier line gave it, which then counts; its address is that of the next word
unfoldable pub new_labels : Place → List Token → List Label
new_labels p [] = []
new_labels p (w ∷ l) = pick (given p.names w) [] (record { name = w; address = p.address } ∷ [])

-- after a line; one outside the grammar gives no word or name
unfoldable pub after : {A : Type 0} → Place → ReadLine A → Place
after p outside = p
after p (reads l) = record { names = p.names ++ new_labels p l.label; address = p.address + 2 * words_in l.statement }

-- all names that are given, from a place on
unfoldable pub names_from : {A : Type 0} → Place → List (ReadLine A) → List Label
names_from p [] = p.names
names_from p (l ∷ ls) = names_from (after p (admitted p l)) ls

-- ---- What comes of a line

-- or given on an earlier line
unfoldable pub repeated : Place → List Token → Bool
repeated p [] = false
repeated p (w ∷ l) = given p.names w

-- 10: line outside the grammar or past a stated size. The lowest number counts.
unfoldable pub judged : Place → ReadLine Value → Judged
judged p outside = bad 10
judged p (reads l) = pick (repeated p l.label) (bad 11) (stated p.address l.statement)

-- what comes of each line: at its own place, by all names that the text gives
unfoldable pub verdicts : List Label → Place → List (ReadLine Tree) → List Judged
verdicts names p [] = []
verdicts names p (l ∷ ls) =
    judged p (valued (value_of (operand_value names)) (admitted p l)) ∷ verdicts names (after p (admitted p l)) ls

unfoldable pub text_verdicts : List ℕ → List Judged
text_verdicts text = verdicts (names_from start (text_lines text)) start (text_lines text)

-- ---- The call

-- the words, in order
unfoldable pub words_of : List Judged → List ℕ
words_of [] = []
words_of (bad r ∷ js) = words_of js
words_of (nothing ∷ js) = words_of js
words_of (gives w ∷ js) = w ∷ words_of js

-- low byte first
unfoldable pub bytes_of : List ℕ → List ℕ
bytes_of [] = []
bytes_of (w ∷ ws) = w % 256 ∷ w / 256 ∷ bytes_of ws

-- their count is returned; a refusal returns line and number
pub data Reply : Type 0 where
  words : ℕ → Reply
  text_refused : ℕ → ℕ → Reply

-- the first bad line wins; the lines are numbered from k
unfoldable pub reply_from : ℕ → ℕ → List Judged → Reply
reply_from k count [] = words count
reply_from k count (bad r ∷ js) = text_refused k r
reply_from k count (nothing ∷ js) = reply_from (suc k) count js
reply_from k count (gives w ∷ js) = reply_from (suc k) (suc count) js

-- what a call leaves: the reply and the program memory
pub record AssembleLeft : Type 0 where
  pub reply : Reply
  pub program : List ℕ

-- the words stand in the program from address 0, and bytes past them stay
unfoldable pub stored : List ℕ → List ℕ → List ℕ
stored ws program = bytes_of ws ++ drop (2 * length ws) program

-- a refusal leaves it untouched
unfoldable pub assemble_left_by : Reply → List Judged → List ℕ → AssembleLeft
assemble_left_by (words count) js program = record { reply = words count; program = stored (words_of js) program }
assemble_left_by (text_refused k r) js program = record { reply = text_refused k r; program = program }

-- The destination is a program memory, tested first for 1 (with line 0).
unfoldable pub assemble_left : List ℕ → List ℕ → AssembleLeft
assemble_left text program =
    pick (eqb (length program) 65536)
    (assemble_left_by (reply_from 1 0 (text_verdicts text)) (text_verdicts text) program)
    (record { reply = text_refused 0 1; program = program })
