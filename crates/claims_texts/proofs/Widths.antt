-- A text's words fit the program memory: a line that gives one is not empty, and a newline stands between two.
-- Assumes nothing.
use Prim.Native.Nat.{ℕ, suc, ◌+◌, ◌*◌, ◌≤◌}
use mathlib.Core.Bool.{Bool, true, false}
use mathlib.Core.Path.{◌≡◌, refl}
use mathlib.Core.List.{List, [], ◌∷◌}
use native.Mathlib.Omega.{arith}
use lib.Dec.{eqb, ltb}
use lib.ListN.{length, take, length-take}
use Rattle.word.specs.Word.{pick}
use Rattle.token.specs.Scan.{ended, scan, tokens}
use Rattle.expression.specs.declared.Value.{Value}
use Rattle.expression.specs.Operands.{Label, operand_value}
use Rattle.expression.specs.Grammar.{Tree, value_of}
use Rattle.statement.specs.Reading.{outside, statement_of, line_by, line_of, valued_statement, valued}
use Rattle.encoding.specs.Words.{Judged, bad, nothing, gives, stated}
use Rattle.assembler.specs.Text.{longer, lines, readings, text_lines, Place, start, names_from, crowded, admitted, after, repeated, judged, verdicts, text_verdicts, words_of}
use Rattle.claims_texts.specs.Assembly.{text_parts}

-- ---- The bytes of lines, each with its newline

bytes : List (List ℕ) → ℕ
bytes [] = 0
bytes (l ∷ ls) = suc (length l) + bytes ls

bytes_longer : (b n : ℕ) (ls : List (List ℕ)) → bytes ls ≡ suc n → bytes (longer b ls) ≡ suc (suc n)
unfolding bytes longer
bytes_longer b n [] e = absurd (omega arith)
bytes_longer b n (l ∷ ls) e = omega arith

bytes_lines : (s : List ℕ) → bytes (lines s) ≡ suc (length s)
unfolding bytes lines
bytes_lines [] = refl
bytes_lines (b ∷ s) = go (eqb b 10) (bytes_lines s)
  where
    go : (t : Bool) → bytes (lines s) ≡ suc (length s) → bytes (pick t ([] ∷ lines s) (longer b (lines s))) ≡ suc (suc (length s))
    go true e = omega arith
    go false e = bytes_longer b (length s) (lines s) e

-- ---- Words

words_next : (j : Judged) (js : List Judged) → length (words_of (j ∷ js)) ≡ length (words_of (j ∷ [])) + length (words_of js)
unfolding words_of
words_next (bad r) js = omega arith
words_next nothing js = omega arith
words_next (gives w) js = omega arith

one_at_most : (j : Judged) → length (words_of (j ∷ [])) ≤ 1
unfolding words_of
one_at_most (bad r) = omega arith
one_at_most nothing = omega arith
one_at_most (gives w) = omega arith

module _ (names : List Label) where
  abbrev value : Tree → Value
  value = value_of (operand_value names)

  -- an empty line gives none
  line_words : (p : Place) (long : Bool) (l : List ℕ) → 2 * length (words_of (judged p (valued value (admitted p (pick long outside (line_of (tokens l))))) ∷ [])) ≤ suc (length l)
  unfolding words_of judged valued admitted crowded repeated line_of line_by statement_of tokens scan ended valued_statement stated
  line_words p true l = omega arith
  line_words p false [] = omega arith
  line_words p false (b ∷ s) = omega (arith, one_at_most (judged p (valued value (admitted p (line_of (tokens (b ∷ s)))))))

  words_bytes : (p : Place) (long : Bool) (ls : List (List ℕ)) → 2 * length (words_of (verdicts names p (readings long ls))) ≤ bytes ls
  unfolding words_of verdicts readings bytes
  words_bytes p long [] = omega arith
  words_bytes p long (l ∷ []) = omega (arith, line_words p long l)
  words_bytes p long (l ∷ m ∷ ls) =
      let x = admitted p (line_of (tokens l)) in
      omega (arith, words_next (judged p (valued value x)) (verdicts names (after p x) (readings long (m ∷ ls))), line_words p false l, words_bytes (after p x) long (m ∷ ls))

pub fits : (text : List ℕ) → length (words_of (text_verdicts text)) ≤ 32768
unfolding text_verdicts text_lines
fits text =
    let n = names_from start (text_lines text) in
    omega (arith, words_bytes n start (ltb 65536 (length text)) (text_parts text), bytes_lines (take 65536 text), length-take 65536 text)
