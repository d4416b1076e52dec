-- What some texts give: by one test of them all, which antt computes.
-- Assumes nothing.
use Prim.Native.Nat.{ℕ, suc, ◌+◌}
use mathlib.Core.Bool.{Bool, true, false}
use mathlib.Core.Path.{◌≡◌, refl, ap, ◌∙◌}
use mathlib.Core.List.{List, [], ◌∷◌}
use native.Mathlib.Omega.{arith}
use lib.Dec.{T, eqb, eqb→eq}
use lib.ListN.{length}
use borrow.Author.Tests.{eq-eqb}
use Rattle.word.specs.Word.{signed, low_bits}
use Rattle.word.proofs.Computed.{both, both_split}
use Rattle.isa.specs.Sheet.{kind_at}
use Rattle.isa.specs.Instructions.{write_of}
use Rattle.token.specs.Ascii.{ascii}
use Rattle.token.specs.Tokens.{between, is_digit, is_letter, is_letter_or_digit}
use Rattle.token.specs.Scan.{goes_on_at, joins, ended, begun, scan, tokens, symbol_of, alike}
use Rattle.expression.specs.Operands.{digit_of, all_digits, numeral, hexed, is_literal, literal_word, register_of, is_name, name_value, is_operand, operand_value, rank_of, shift_left, operated_of, operated, negated}
use Rattle.expression.specs.Grammar.{value_of}
use Rattle.expression.specs.Reading.{operator_by, rank_by, operator_of, rank, bind, mapped, closed, leaf, prefixed, rest, follow, chain, ranked, inside, parse}
use Rattle.statement.specs.Reading.{row_from, row_of, one_register, a_punctuation, finished, read_item, read_items, statement_of, line_by, line_of, valued_parts, valued_statement, valued}
use Rattle.encoding.specs.Words.{words_in, distance, odd, number_of, Judged, bad, nothing, gives, written, encoded, stated}
use Rattle.assembler.specs.Text.{longer, lines, readings, text_lines, given, crowded, admitted, new_labels, after, names_from, repeated, judged, verdicts, text_verdicts, words_of, words, reply_from, assemble_left_by, assemble_left}
use Rattle.claims_texts.specs.Examples.{Example, sheet_rows, value_rows, name_rows, Gives, Each, Examples}

-- ---- The test

-- no line is turned away, and the words are these
unfoldable come_to : List Judged → List ℕ → Bool
come_to [] [] = true
come_to [] (w ∷ ws) = false
come_to (bad r ∷ js) ws = false
come_to (nothing ∷ js) ws = come_to js ws
come_to (gives v ∷ js) [] = false
come_to (gives v ∷ js) (w ∷ ws) = both (eqb v w) (come_to js ws)

their_words : (js : List Judged) (ws : List ℕ) → T (come_to js ws) → words_of js ≡ ws
unfolding come_to words_of
their_words [] [] t = refl
their_words [] (w ∷ ws) t = absurd t
their_words (bad r ∷ js) ws t = absurd t
their_words (nothing ∷ js) ws t = their_words js ws t
their_words (gives v ∷ js) [] t = absurd t
their_words (gives v ∷ js) (w ∷ ws) t =
    let (a, b) = both_split (eqb v w) (come_to js ws) t in
    let e = eqb→eq v w a in
    let f = their_words js ws b in
    cc

their_count : (k n : ℕ) (js : List Judged) (ws : List ℕ) → T (come_to js ws) → reply_from k n js ≡ words (n + length ws)
unfolding come_to reply_from
their_count k n [] [] t = ap words (omega arith)
their_count k n [] (w ∷ ws) t = absurd t
their_count k n (bad r ∷ js) ws t = absurd t
their_count k n (nothing ∷ js) ws t = their_count (suc k) n js ws t
their_count k n (gives v ∷ js) [] t = absurd t
their_count k n (gives v ∷ js) (w ∷ ws) t =
    their_count (suc k) (suc n) js ws (both_split (eqb v w) (come_to js ws) t).1 ∙ ap words (omega arith)

-- ---- Each of a list

tests : List Example → Bool
tests [] = true
tests (x ∷ xs) = both (come_to (text_verdicts (ascii x.text)) x.its_words) (tests xs)

one : (x : Example) → T (come_to (text_verdicts (ascii x.text)) x.its_words) → Gives x
unfolding assemble_left assemble_left_by
one x t program m =
    let s : 0 + length x.its_words ≡ length x.its_words = omega arith in
    rw (eq-eqb (length program) 65536 m, their_count 1 0 (text_verdicts (ascii x.text)) x.its_words t, their_words (text_verdicts (ascii x.text)) x.its_words t, s)

each : (xs : List Example) → T (tests xs) → Each xs
unfolding tests
each [] t = tt
each (x ∷ xs) t =
    let (a, b) = both_split (come_to (text_verdicts (ascii x.text)) x.its_words) (tests xs) t in
    (one x a, each xs b)

tested : T (both (tests sheet_rows) (both (tests value_rows) (tests name_rows)))
unfolding tests come_to signed low_bits write_of between is_digit is_letter is_letter_or_digit goes_on_at joins ended begun scan tokens symbol_of alike
    digit_of all_digits numeral hexed is_literal literal_word register_of is_name name_value is_operand operand_value rank_of shift_left operated_of operated negated
    operator_by rank_by operator_of rank
    value_of bind mapped closed leaf prefixed rest follow chain ranked inside parse
    row_from row_of one_register a_punctuation finished read_item read_items statement_of line_by line_of valued_parts valued_statement valued
    words_in distance odd number_of written encoded stated
    longer lines readings text_lines given crowded admitted new_labels after names_from repeated judged verdicts text_verdicts
tested = tt

pub examples : Examples
unfolding kind_at
examples =
    let (s, t) = both_split (tests sheet_rows) (both (tests value_rows) (tests name_rows)) tested in
    let (v, n) = both_split (tests value_rows) (tests name_rows) t in
    record { every_kind = refl; sheet = each sheet_rows s; values = each value_rows v; names = each name_rows n }
