-- A text whose lines each give a word, with no names, assembles to those words.
-- Assumes nothing.
use Prim.Native.Nat.{ℕ, suc, ◌+◌, ◌≤◌}
use mathlib.Core.Bool.{Bool, false}
use mathlib.Core.Path.{◌≡◌, refl, ap, ◌∙◌}
use mathlib.Core.List.{List, [], ◌∷◌, map}
use native.Mathlib.Nat.{zero-add}
use native.Mathlib.Omega.{arith}
use lib.ListN.{length, take}
use lib.Seq.{take_all}
use borrow.Author.Tests.{le-ltb, eq-eqb}
use Rattle.word.proofs.Tests.{clash}
use Rattle.token.specs.Scan.{ended, scan, tokens}
use Rattle.expression.specs.Grammar.{Tree}
use Rattle.statement.specs.Syntax.{Statement, no_statement, of_row, Line, line}
use Rattle.statement.specs.Reading.{ReadLine, reads, statement_of, line_by, line_of, valued_statement, valued}
use Rattle.encoding.specs.Words.{words_in, gives, stated}
use Rattle.assembler.specs.Text.{lines, readings, text_lines, Place, names_from, new_labels, crowded, admitted, after, repeated, judged, verdicts, text_verdicts, words_of, words, reply_from, stored, assemble_left_by, assemble_left}
use Rattle.claims_texts.specs.Assembly.{Reads}
use Rattle.claims_texts.proofs.Readings.{found}
use Rattle.claims_texts.proofs.Joined.{broken}
use Rattle.claims_texts.proofs.Operands.{worth}

-- ---- A line that gives a word

abbrev pub at : ℕ → Place
at address = record { names = []; address = address }

-- the text s, of one line, gives w at the address
pub record Gives (address : ℕ) (s : List ℕ) (w : ℕ) : Type 0 where
  pub line : Line Tree
  pub read : Reads s line
  pub unnamed : line.label ≡ []
  pub gives_back : judged (at address) (valued worth (reads line)) ≡ gives w
  pub whole : broken s ≡ false
  pub short : length s ≤ 300

-- what gives a word is a statement
one_word : (p : Place) (s : Statement Tree) (w : ℕ) → judged p (valued worth (reads (line [] s))) ≡ gives w → words_in s ≡ 1
unfolding judged valued repeated valued_statement stated words_in
one_word p no_statement w e = clash (cc)
one_word p (of_row k q) w e = refl

plain_line : (p : Place) (l : Line Tree) → l.label ≡ [] → admitted p (reads l) ≡ reads l
unfolding admitted crowded
plain_line p l u = rw u

after_line : (address : ℕ) (l : Line Tree) → l.label ≡ [] → words_in l.statement ≡ 1 → after (at address) (reads l) ≡ at (address + 2)
unfolding after new_labels
after_line address l u n = rw (u, n)

module _ {address : ℕ} {s : List ℕ} {w : ℕ} (g : Gives address s w) where
  abbrev its_line : ReadLine Tree
  its_line = admitted (at address) (line_of (tokens s))

  its_reading : its_line ≡ reads g.line
  its_reading = ap (admitted (at address)) ((found s g.line).1 g.read) ∙ plain_line (at address) g.line g.unnamed

  verdict : judged (at address) (valued worth its_line) ≡ gives w
  verdict = rw its_reading g.gives_back

  onward : after (at address) its_line ≡ at (address + 2)
  onward =
      rw its_reading (after_line address g.line g.unnamed (one_word (at address) g.line.statement w (rw g.unnamed at g.gives_back)))

-- ---- Lines that give words, from an address on; the last may be empty

pub data Lines : ℕ → List (List ℕ) → List ℕ → Type 0 where
  no_line : {address : ℕ} → Lines address [] []
  empty : {address : ℕ} → Lines address ([] ∷ []) []
  a_word : {address w : ℕ} {s : List ℕ} {ls : List (List ℕ)} {ws : List ℕ} → Gives address s w → Lines (address + 2) ls ws → Lines address (s ∷ ls) (w ∷ ws)

abbrev read_all : List (List ℕ) → List (ReadLine Tree)
read_all ls = map (λ l. line_of (tokens l)) ls

readings_all : (ls : List (List ℕ)) → readings false ls ≡ read_all ls
unfolding readings
readings_all [] = refl
readings_all (l ∷ []) = refl
readings_all (l ∷ m ∷ ls) = ap (λ (rs : List (ReadLine Tree)). line_of (tokens l) ∷ rs) (readings_all (m ∷ ls))

-- what comes of them
record Come (address : ℕ) (ls : List (List ℕ)) (ws : List ℕ) : Type 0 where
  no_names : names_from (at address) (read_all ls) ≡ []
  their_words : words_of (verdicts [] (at address) (read_all ls)) ≡ ws
  count : (k c : ℕ) → reply_from k c (verdicts [] (at address) (read_all ls)) ≡ words (c + length ws)

come : {address : ℕ} {ls : List (List ℕ)} {ws : List ℕ} → Lines address ls ws → Come address ls ws
unfolding names_from verdicts words_of reply_from tokens scan ended line_of line_by statement_of admitted crowded after new_labels judged valued valued_statement repeated stated
come no_line = record { no_names = refl; their_words = refl; count = λ k c. ap words (omega arith) }
come empty = record { no_names = refl; their_words = refl; count = λ k c. ap words (omega arith) }
come (a_word {w = w} {ls = ls} {ws = ws} g r) =
    let c = come r in
    record {
      no_names = ap (λ (p : Place). names_from p (read_all ls)) (onward g) ∙ c.no_names;
      their_words = rw (verdict g, onward g) (ap (λ (ws : List ℕ). w ∷ ws) c.their_words);
      count = λ k n. rw (verdict g, onward g) (c.count (suc k) (suc n) ∙ ap words (omega arith));
    }

-- ---- The call

text_read : (text : List ℕ) → length text ≤ 65536 → text_lines text ≡ read_all (lines text)
unfolding text_lines
text_read text h =
    ap (λ (b : Bool). readings b (lines (take 65536 text))) (le-ltb 65536 (length text) h)
    ∙ ap (λ (t : List ℕ). readings false (lines t)) (take_all 65536 text h)
    ∙ readings_all (lines text)

pub assembled : (text program ws : List ℕ) → Lines 0 (lines text) ws → length text ≤ 65536 → length program ≡ 65536
    → assemble_left text program ≡ record { reply = words (length ws); program = stored ws program }
unfolding assemble_left text_verdicts assemble_left_by
assembled text program ws g h m =
    let c = come g in
    rw (eq-eqb (length program) 65536 m, text_read text h, c.no_names, c.count 1 0, c.their_words, zero-add (length ws))
