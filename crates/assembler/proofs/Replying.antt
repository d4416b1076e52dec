-- From the passes to the reply.
use Prim.Native.Nat.{ℕ, suc, ◌-◌, ◌<◌, ◌≤◌}
use mathlib.Core.Bool.{Bool, true, false}
use mathlib.Core.Path.{◌≡◌, refl, sym, ap, ◌∙◌}
use mathlib.Core.List.{List, [], ◌∷◌}
use native.Mathlib.Omega.{arith}
use lib.ListN.{length, take, drop}
use lib.Seq.{take_all}
use borrow.Author.Tests.{eq-eqb, ne_eqb, lt-ltb, le-ltb}
use Rattle.word.proofs.Tests.{clash, never}
use Rattle.refusal.specs.declared.Refusal.TheVariants.{LentLength}
use Rattle.refusal.specs.Refusals.{refusal_number}
use Rattle.expression.specs.declared.Label.{Label as Held}
use Rattle.expression.specs.declared.Value.{Value}
use Rattle.expression.specs.Operands.{Label, operand_value}
use Rattle.expression.specs.Grammar.{Tree, value_of}
use Rattle.expression.specs.Reading.{labels}
use Rattle.std.proofs.Common.{Result, Ok, Err, is_err}
use Rattle.assembler.specs.declared.Rejected.{Rejected}
use Rattle.assembler.specs.declared.passes.Progress.{Progress}
use Rattle.statement.specs.Reading.{ReadLine, line_of, valued}
use Rattle.token.specs.Scan.{tokens}
use Rattle.assembler.specs.Text.{Place, start, lines, readings, text_lines, admitted, after, names_from, judged, verdicts, text_verdicts, Reply, words, text_refused, reply_from, words_of, stored, AssembleLeft, assemble_left_by, assemble_left}
use Rattle.encoding.specs.Words.{Judged, bad, nothing, gives}
use Rattle.assembler.specs.Passes.{lines_from, finish, finish_by, Scanned, Fine, WrittenBy, AssembledBy, shown_assembly}
use Rattle.assembler.proofs.LineEnds.{first_and_more}
use Rattle.assembler.proofs.Numbering.{Numbered, turned_away_numbered}

-- ---- In a long text a line is turned away

long_refused : (names : List Label) (l : List ℕ) (ls : List (List ℕ)) (p : Place) (k n m : ℕ) → reply_from k n (verdicts names p (readings true (l ∷ ls))) ≡ words m → ⊥
unfolding readings verdicts reply_from admitted valued judged
long_refused names l [] p k n m e = clash (cc)
long_refused names l (s ∷ ls) p k n m e =
    go (judged p L) e (λ k n q. long_refused names s ls (after p (admitted p (line_of (tokens l)))) k n m q)
  where
    L : ReadLine Value
    L = valued (value_of (operand_value names)) (admitted p (line_of (tokens l)))

    js : List Judged
    js = verdicts names (after p (admitted p (line_of (tokens l)))) (readings true (s ∷ ls))

    go : (j : Judged) → reply_from k n (j ∷ js) ≡ words m → ((k n : ℕ) → reply_from k n js ≡ words m → ⊥) → ⊥
    go (bad i) q f = clash (cc)
    go nothing q f = f (suc k) n q
    go (gives w) q f = f (suc k) (suc n) q

-- ---- The two passes

-- the first n of a table, as the code takes them
abbrev part_of : ℕ → List Held → List Held
part_of n table = take (n - 0) (drop 0 table)

module _ (long : Bool) (text : List ℕ) where
  abbrev all : List (ReadLine Tree)
  all = lines_from long text 0

  abbrev names : List Label
  names = names_from start all

  abbrev come_to : List Judged
  come_to = verdicts names start all

  module _ {table₀ table table' : List Held} {p r : Progress} (first : Scanned long text table₀ table p) (second : Scanned long text (part_of p.labels table) table' r) where
    given : labels (part_of p.labels table) ≡ names
    given = ap (λ (k : ℕ). labels (take k table)) (let e : p.labels - 0 ≡ p.labels = omega arith in e) ∙ first.given

    reply : finish r [] ≡ reply_from 1 0 come_to
    reply = second.reply ∙ ap (λ (ns : List Label). reply_from 1 0 (verdicts ns start all)) given

    refused_reply : {f : Rejected} → r.reply ≡ Err f → reply_from 1 0 come_to ≡ text_refused f.line (refusal_number f.refusal)
    refused_reply e = sym reply ∙ ap (finish_by r.line []) e

    pub numbered : {f : Rejected} → r.reply ≡ Err f → Numbered (refusal_number f.refusal)
    numbered e = turned_away_numbered names all start 1 0 _ _ (refused_reply e)

    words_reply : {n : ℕ} → r.reply ≡ Ok n → reply_from 1 0 come_to ≡ words n
    unfolding reply_from
    words_reply e = sym reply ∙ ap (finish_by r.line []) e

    pub left_refused : {program program' : List ℕ} → is_err r.reply ≡ true → program' ≡ program → AssembledBy long text program program' r.reply
    unfolding assemble_left_by
    left_refused {program} {program'} h q = go r.reply refl h
      where
        go : (x : Result ℕ Rejected) → r.reply ≡ x → is_err x ≡ true → AssembledBy long text program program' x
        go (Ok n) e h = never h
        go (Err f) e h =
            ap (λ (x : List ℕ). record { reply = text_refused f.line (refusal_number f.refusal); program = x }) q
            ∙ sym (ap (λ (x : Reply). assemble_left_by x come_to program) (refused_reply e))

    short : {n : ℕ} → r.reply ≡ Ok n → long ≡ false
    unfolding lines_from
    short {n} e = go long refl
      where
        go : (b : Bool) → long ≡ b → long ≡ false
        go true q =
            absurd (long_refused names _ _ start 1 0 n
            (ap (λ (x : List (ReadLine Tree)). reply_from 1 0 (verdicts names start x)) (sym (ap (λ (b : Bool). lines_from b text 0) q ∙ ap (readings true) (first_and_more (drop 0 text)))) ∙ words_reply e))
        go false q = q

    through_table : verdicts (labels (part_of p.labels table)) start all ≡ come_to
    through_table = ap (λ (ns : List Label). verdicts ns start all) given

    can_write : (program : List ℕ) {n : ℕ} → r.reply ≡ Ok n → length text ≤ 65536 → length program ≡ 65536 → Fine text (part_of p.labels table) program
    can_write program {n} e h k =
        record {
          short = h;
          room = k;
          count = n;
          fine =
              ap (λ (b : Bool). reply_from 1 0 (verdicts (labels (part_of p.labels table)) start (lines_from b text 0))) (sym (short e))
              ∙ ap (reply_from 1 0) through_table
              ∙ words_reply e;
        }

    pub left_words : {program program' : List ℕ} → is_err r.reply ≡ false → length text ≤ 65536 → length program ≡ 65536
        → (long ≡ false → Fine text (part_of p.labels table) program → WrittenBy text (part_of p.labels table) program program')
        → AssembledBy long text program program' r.reply
    unfolding assemble_left_by
    left_words {program} {program'} h l k w = go r.reply refl h
      where
        go : (x : Result ℕ Rejected) → r.reply ≡ x → is_err x ≡ false → AssembledBy long text program program' x
        go (Err f) e h = never (sym h)
        go (Ok n) e h =
            ap (λ (x : List ℕ). record { reply = words n; program = x })
            (w (short e) (can_write program e l k)
            ∙ ap (λ (b : Bool). stored (words_of (verdicts (labels (part_of p.labels table)) start (lines_from b text 0))) program) (sym (short e))
            ∙ ap (λ (x : List Judged). stored (words_of x) program) through_table)
            ∙ sym (ap (λ (x : Reply). assemble_left_by x come_to program) (words_reply e))

-- ---- The call

pub wrong_length : (text program : List ℕ) → (length program ≡ 65536 → ⊥)
    → ◌≡◌ {A = AssembleLeft} (record { reply = shown_assembly (Err (record { line = 0; refusal = LentLength })); program = program }) (assemble_left text program)
unfolding assemble_left
wrong_length text program n = rw (ne_eqb (length program) 65536 n)

module _ (text program program' : List ℕ) (r : Result ℕ Rejected) (h : length program ≡ 65536) where
  abbrev Left : Type 0
  Left = ◌≡◌ {A = AssembleLeft} (record { reply = shown_assembly r; program = program' }) (assemble_left text program)

  whole : (long : Bool) (read : List ℕ) → lines_from long read 0 ≡ text_lines text → AssembledBy long read program program' r → Left
  unfolding assemble_left text_verdicts
  whole long read e a =
      rw (eq-eqb (length program) 65536 h)
      (a ∙ ap (λ (x : List (ReadLine Tree)). assemble_left_by (reply_from 1 0 (verdicts (names_from start x) start x)) (verdicts (names_from start x) start x) program) e)

  pub long_text : 65536 < length text → AssembledBy true (take 65536 text) program program' r → Left
  unfolding text_lines lines_from
  long_text l a = whole true (take 65536 text) (ap (λ (b : Bool). readings b (lines (take 65536 text))) (sym (lt-ltb 65536 (length text) l))) a

  pub short_text : length text ≤ 65536 → AssembledBy false text program program' r → Left
  unfolding text_lines lines_from
  short_text l a =
      whole false text
      (ap (λ (x : List ℕ). readings false (lines x)) (sym (take_all 65536 text l))
      ∙ ap (λ (b : Bool). readings b (lines (take 65536 text))) (sym (le-ltb 65536 (length text) l)))
      a
