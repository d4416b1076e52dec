-- Assembling leaves a program memory of bytes: every value is modulo 65,536, so every line's word has 16 bits.
-- Assumes nothing.
use mathlib.Core.Path.{◌≡◌, refl}
use mathlib.Core.List.{List, [], ◌∷◌, ◌++◌}
use Prim.Native.Nat.{ℕ, zero, suc, ◌+◌, ◌*◌, ◌^◌, ◌<◌}
use native.Mathlib.Nat.{mod-lt}
use native.Mathlib.Omega.{arith}
use lib.Bits.{and_le_l, or_lt}
use lib.Dec.{eqb, ltb}
use lib.ListN.{length, get_or, drop, length-append, length-drop}
use lib.Seq.{get_or-drop}
use Rattle.word.proofs.Tables.{Each}
use Rattle.word.proofs.Tests.{either}
use Rattle.kinds.specs.Kinds.{kinds}
use Rattle.isa.specs.declared.Instruction.{Instruction}
use Rattle.isa.specs.Instructions.{WriteReply, word, write_refused, write_of}
use Rattle.token.specs.Tokens.{Token, is_digit}
use Rattle.token.specs.Scan.{alike}
use Rattle.expression.specs.declared.Value.{Value}
use Rattle.expression.specs.Operands.{hexed, literal_word, Label, name_value, operand_value, Operator, times, plus, minus, shift, and, or, shift_left, operated_of, operated, negated}
use Rattle.expression.specs.Grammar.{Tree, operand, negation, operation, value_of}
use Rattle.statement.specs.Syntax.{row_at, Statement, no_statement, of_row}
use Rattle.statement.specs.Reading.{ReadLine, outside, reads, valued_parts, valued_statement, valued}
use Rattle.encoding.specs.Words.{odd, Judged, bad, nothing, gives, written, encoded, stated}
use Rattle.assembler.specs.Text.{text_lines, Place, start, admitted, after, names_from, repeated, judged, verdicts, text_verdicts, words_of, bytes_of, Reply, words, text_refused, reply_from, AssembleLeft, stored, assemble_left_by, assemble_left}
use Rattle.assembler.proofs.Writing.{bytes_length}
use Rattle.journal.specs.Ranges.{Numbers}
use Rattle.claims_words.proofs.Written.{written_then_read}
use Rattle.claims_texts.proofs.Widths.{fits}

abbrev IsWord : ℕ → Type 0
IsWord w = w < 65536

-- ---- Values

operated_small : (o : Operator) (x y : ℕ) → IsWord x → IsWord y → IsWord (operated_of o x y)
unfolding operated_of shift_left
operated_small times x y h k = mod-lt (x * y) (omega arith)
operated_small plus x y h k = omega arith
operated_small minus x y h k = omega arith
operated_small shift x y h k = either IsWord (ltb y 16) (mod-lt (x * 2 ^ y) (omega arith)) (omega arith)
operated_small and x y h k = omega (arith, and_le_l x y)
operated_small or x y h k = or_lt 16 x y h k

name_small : (names : List Label) (w : Token) → IsWord (name_value names w).word
unfolding name_value
name_small [] w = omega arith
name_small (l ∷ ls) w = either (λ (v : Value). IsWord v.word) (alike w l.name) (omega arith) (name_small ls w)

literal_small : (w : Token) → IsWord (literal_word w)
unfolding literal_word
literal_small w = either IsWord (hexed w) (omega arith) (omega arith)

-- what a line that gives a word gives
abbrev Small : Judged → Type 0
Small (bad r) = Unit {0}
Small nothing = Unit {0}
Small (gives w) = IsWord w

module _ (names : List Label) where
  abbrev value : Tree → Value
  value = value_of (operand_value names)

  value_small : (t : Tree) → IsWord (value t).word
  unfolding value_of operand_value operated negated
  value_small (operand w) = either (λ (v : Value). IsWord v.word) (is_digit (get_or w 0 0)) (literal_small w) (name_small names w)
  value_small (negation t) = omega arith
  value_small (operation o x y) = operated_small o (value x).word (value y).word (value_small x) (value_small y)

  -- ---- Lines

  written_small : (i : Instruction) → Small (written (write_of i))
  unfolding written
  written_small i = by_reply (write_of i) refl
    where
      by_reply : (x : WriteReply) → write_of i ≡ x → Small (written x)
      by_reply (word w) e = (written_then_read i w e).0
      by_reply (write_refused r) e = tt

  stated_small : (address : ℕ) (s : Statement Tree) → Small (stated address (valued_statement value s))
  unfolding stated encoded valued_statement valued_parts
  stated_small address no_statement = tt
  stated_small address (of_row k p) =
      either Small (value p.n).known
      (either Small (eqb k (length kinds)) (value_small p.n) (either Small (odd (row_at k).field address (value p.n).word) tt (written_small _)))
      tt

  line_small : (p : Place) (l : ReadLine Tree) → Small (judged p (valued value l))
  unfolding judged valued
  line_small p outside = tt
  line_small p (reads l) = either Small (repeated p l.label) tt (stated_small p.address l.statement)

  lines_small : (p : Place) (ls : List (ReadLine Tree)) → Each Small (verdicts names p ls)
  unfolding verdicts
  lines_small p [] = tt
  lines_small p (l ∷ ls) = (line_small p (admitted p l), lines_small (after p (admitted p l)) ls)

words_small : (js : List Judged) → Each Small js → Each IsWord (words_of js)
unfolding words_of
words_small [] s = tt
words_small (bad r ∷ js) s = words_small js s.1
words_small (nothing ∷ js) s = words_small js s.1
words_small (gives w ∷ js) s = (s.0, words_small js s.1)

-- ---- The program

stored_below : (ws rest : List ℕ) → Each IsWord ws → ((k : ℕ) → get_or rest k 0 < 256) → (k : ℕ) → get_or (bytes_of ws ++ rest) k 0 < 256
unfolding bytes_of
stored_below [] rest s h k = h k
stored_below (w ∷ ws) rest s h zero = omega arith
stored_below (w ∷ ws) rest s h (suc zero) = omega (arith, s.0)
stored_below (w ∷ ws) rest s h (suc (suc k)) = stored_below ws rest s.1 h k

module _ (text program : List ℕ) (r : Numbers 65536 256 program) where
  abbrev js : List Judged
  js = text_verdicts text

  stored_bytes : Numbers 65536 256 (stored (words_of js) program)
  unfolding text_verdicts stored
  stored_bytes =
      let ws = words_of js in
      let rest = drop (2 * length ws) program in
      record {
        many = omega (arith, length-append (bytes_of ws) rest, bytes_length ws, length-drop (2 * length ws) program, r.many, fits text);
        below = stored_below ws rest (words_small js (lines_small (names_from start (text_lines text)) start (text_lines text)))
            (λ k. rw (get_or-drop (2 * length ws) program k 0) (r.below (2 * length ws + k)));
      }

  pub assembled_bytes : Numbers 65536 256 (assemble_left text program).program
  unfolding assemble_left assemble_left_by
  assembled_bytes = either (λ (l : AssembleLeft). Numbers 65536 256 l.program) (eqb (length program) 65536) (by_reply (reply_from 1 0 js)) r
    where
      by_reply : (x : Reply) → Numbers 65536 256 (assemble_left_by x js program).program
      by_reply (words count) = stored_bytes
      by_reply (text_refused k n) = r
