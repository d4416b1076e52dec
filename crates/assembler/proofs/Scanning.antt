-- The pass that gathers names and finds the first line turned away: what stands at each line's beginning.
use Prim.Native.Nat.{ℕ, ◌+◌, ◌*◌, ◌<◌, ◌≤◌}
use mathlib.Core.Bool.{Bool, true, false, ◌&&◌}
use mathlib.Core.Path.{◌≡◌, refl, sym, ap, ◌∙◌}
use mathlib.Core.List.{List, [], ◌∷◌}
use native.Mathlib.Omega.{arith}
use lib.Dec.{eqb}
use lib.ListN.{length}
use borrow.Author.Tests.{eq-eqb, ne_eqb}
use Rattle.word.specs.Word.{pick}
use Rattle.token.specs.Scan.{tokens_at}
use Rattle.expression.specs.declared.Label.{Label as Held}
use Rattle.expression.specs.declared.Value.{Value}
use Rattle.expression.specs.Operands.{operand_value}
use Rattle.expression.specs.Grammar.{Tree, value_of}
use Rattle.expression.specs.Reading.{labels}
use Rattle.std.proofs.Common.{Result, Ok, Err, IfOk, Option, None}
use Rattle.assembler.specs.declared.Rejected.{Rejected}
use Rattle.assembler.specs.declared.passes.Progress.{Progress}
use Rattle.statement.specs.declared.line.Content.{Content}
use Rattle.statement.specs.Reading.{ReadLine, outside, line_by, line_of, valued}
use Rattle.assembler.specs.Text.{Place, start, admitted, after, names_from, verdicts, judged, reply_from}
use Rattle.statement.specs.Parts.{shown_line, expression_of, blank_value}
use Rattle.assembler.specs.Passes.{LineEnd, LineRead, place_with, lines_from, finish, Ready, Taken, Scanned}
use Rattle.statement.proofs.Valued.{read_valued}
use Rattle.assembler.proofs.LineEnds.{next_line, last_line}
use Rattle.assembler.proofs.Taking.{after_valued, admitted_valued}

never_both : (b : Bool) → (b && false) ≡ false
never_both true = refl
never_both false = refl

itself : (b : Bool) → (b && true) ≡ b
itself true = refl
itself false = refl

at_most : {k m : ℕ} (r : Result ℕ Rejected) → k ≤ m → IfOk r (λ n. n ≤ k) → IfOk r (λ n. n ≤ m)
at_most (Ok n) l h = omega arith
at_most (Err f) l h = tt

below : {k m : ℕ} (r : Result ℕ Rejected) → k < m → IfOk r (λ n. n ≤ k) → IfOk r (λ n. n < m)
below (Ok n) l h = omega arith
below (Err f) l h = tt

module _ (long : Bool) (text : List ℕ) (names : List Held) where
  abbrev values_of : Tree → Value
  values_of = value_of (operand_value (labels names))

  -- at the beginning of a line: the names and the reply that the lines from here come to are those of the text
  pub record Scanning (at : ℕ) (p : Progress) (table : List Held) : Type 0 where
    pub given : names_from (place_with table p.labels p.address) (lines_from long text at) ≡ names_from start (lines_from long text 0)
    pub reply : finish p (verdicts (labels names) (place_with table p.labels p.address) (lines_from long text at))
        ≡ reply_from 1 0 (verdicts (labels names) start (lines_from long text 0))
    pub room : length table ≡ 64
    pub few : p.labels ≤ 64
    pub inside : at ≤ length text
    pub lines : p.line ≤ at + 1
    pub words : IfOk p.reply (λ n. n ≤ at)
    pub bytes : p.address ≤ 2 * at

  pub scanning : (table : List Held) → length table ≡ 64 → Scanning 0 (record { line = 1; labels = 0; address = 0; reply = Ok 0 }) table
  unfolding place_with labels
  scanning table h =
      record {
        given = refl;
        reply = refl;
        room = h;
        few = omega arith;
        inside = omega arith;
        lines = omega arith;
        words = omega arith;
        bytes = omega arith;
      }

  -- over the line l, whose values L are
  module _ (at : ℕ) (p : Progress) (table : List Held) (s : Scanning at p table) (l : ReadLine Tree) (L : ReadLine Value) (v : L ≡ valued values_of l)
      (table' : List Held) (r : Progress) (t : Taken table L p table' r) where
    abbrev here : Place
    here = place_with table p.labels p.address

    abbrev there : Place
    there = place_with table' r.labels r.address

    moves : there ≡ after here (admitted here l)
    moves =
        t.place
        ∙ ap (λ (x : ReadLine Value). after here (admitted here x)) v
        ∙ ap (after here) (admitted_valued values_of here l)
        ∙ after_valued values_of here (admitted here l)

    names_on : (ls : List (ReadLine Tree)) → names_from here (l ∷ ls) ≡ names_from there ls
    unfolding names_from
    names_on ls = ap (λ (q : Place). names_from q ls) (sym moves)

    reply_on_lem : (ls : List (ReadLine Tree))
        → finish p (verdicts (labels names) here (l ∷ ls)) ≡ finish r (verdicts (labels names) there ls)
    unfolding verdicts
    reply_on_lem ls =
        ap (λ (x : ReadLine Value). finish p (judged here x ∷ verdicts (labels names) (after here (admitted here l)) ls))
        (sym (ap (admitted here) v ∙ admitted_valued values_of here l))
        ∙ t.reply (verdicts (labels names) (after here (admitted here l)) ls)
        ∙ ap (λ (q : Place). finish r (verdicts (labels names) q ls)) (sym moves)

    module _ (end : ℕ) (e : LineEnd text at end) where
      pub scan_on : end < length text → l ≡ line_of (tokens_at text at) → Scanning (end + 1) r table'
      scan_on h q =
          let ls : List (ReadLine Tree) = lines_from long text (end + 1) in
          let c : lines_from long text at ≡ l ∷ ls = next_line text at end e long h ∙ ap (λ (x : ReadLine Tree). x ∷ ls) (sym q) in
          record {
            given = sym (names_on ls) ∙ ap (names_from here) (sym c) ∙ s.given;
            reply = sym (reply_on_lem ls) ∙ ap (λ (x : List (ReadLine Tree)). finish p (verdicts (labels names) here x)) (sym c) ∙ s.reply;
            room = t.room;
            few = t.few;
            inside = omega arith;
            lines = omega (arith, t.line, s.lines, e.after);
            words = at_most r.reply (omega (arith, e.after)) (t.count at s.words);
            bytes = omega (arith, t.bytes, s.bytes, e.after);
          }

      pub scan_last : end ≡ length text → l ≡ pick long outside (line_of (tokens_at text at)) → Scanned long text names table' r
      unfolding place_with names_from verdicts
      scan_last h q =
          let c : lines_from long text at ≡ l ∷ [] = last_line text at end e long h ∙ ap (λ (x : ReadLine Tree). x ∷ []) (sym q) in
          record {
            given = sym (names_on []) ∙ ap (names_from here) (sym c) ∙ s.given;
            reply = sym (reply_on_lem []) ∙ ap (λ (x : List (ReadLine Tree)). finish p (verdicts (labels names) here x)) (sym c) ∙ s.reply;
            few = t.few;
            room = t.room;
          }

  -- ---- What the code hands on

  module _ (at end : ℕ) where
    abbrev last_outside : Bool
    last_outside = long && eqb end (length text)

    abbrev line_there : ReadLine Tree
    line_there = pick last_outside outside (line_of (tokens_at text at))

    pub outside_read : last_outside ≡ true → LineRead long text names at end None
    unfolding shown_line valued
    outside_read e =
        record { same = sym (ap (λ (b : Bool). valued values_of (pick b outside (line_of (tokens_at text at)))) e) }

    pub line_read : (f : Option Content) → last_outside ≡ false → shown_line f ≡ line_by (expression_of names) blank_value (tokens_at text at) → LineRead long text names at end f
    line_read f e m =
        record {
          same = m ∙ read_valued names (tokens_at text at) ∙ sym (ap (λ (b : Bool). valued values_of (pick b outside (line_of (tokens_at text at)))) e);
        }

    module _ (p : Progress) (table : List Held) (s : Scanning at p table) (f : Option Content) (q : LineRead long text names at end f) where
      pub ready : length text ≤ 65536 → Ready table p
      ready h =
          record {
            room = s.room;
            few = s.few;
            lines = omega (arith, s.lines, s.inside);
            words = below p.reply (omega (arith, s.inside)) s.words;
            bytes = omega (arith, s.bytes, s.inside);
          }

      module _ (e : LineEnd text at end) (table' : List Held) (r : Progress) (t : Taken table (shown_line f) p table' r) where
        pub scanned_on : (end ≡ length text → ⊥) → Scanning (end + 1) r table'
        scanned_on n =
            scan_on at p table s line_there (shown_line f) q.same table' r t end e (omega (arith, e.inside))
            (ap (λ (b : Bool). pick b outside (line_of (tokens_at text at))) (ap (λ (b : Bool). long && b) (ne_eqb _ _ n) ∙ never_both long))

        pub scanned_last : end ≡ length text → Scanned long text names table' r
        scanned_last h =
            scan_last at p table s line_there (shown_line f) q.same table' r t end e h
            (ap (λ (b : Bool). pick b outside (line_of (tokens_at text at))) (ap (λ (b : Bool). long && b) (eq-eqb _ _ h) ∙ itself long))
