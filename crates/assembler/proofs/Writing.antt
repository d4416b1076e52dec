-- The pass that writes the words: what stands at each line's beginning.
use Prim.Native.Nat.{ℕ, suc, ◌+◌, ◌-◌, ◌*◌, ◌/◌, ◌%◌, ◌<◌, ◌≤◌}
use mathlib.Core.Bool.{Bool, true, false}
use mathlib.Core.Path.{◌≡◌, refl, sym, ap, ◌∙◌, subst}
use mathlib.Core.List.{List, [], ◌∷◌, ◌++◌, append_assoc, append-nil}
use native.Mathlib.Omega.{arith}
use lib.Dec.{eqb}
use lib.ListN.{length, take, drop, get_or, length-append}
use Rattle.std.proofs.Common.{Option, Some, None, Ok, Err}
use lib.Seq.{take_at, drop_at, drop-drop}
use Rattle.word.specs.Word.{pick}
use Rattle.word.proofs.Tests.{clash, either}
use Rattle.refusal.specs.declared.Refusal.{Refusal}
use Rattle.kinds.specs.declared.Kind.TheVariants.{And}
use Rattle.kinds.specs.Kinds.{kinds}
use Rattle.isa.specs.declared.Instruction.{Instruction}
use Rattle.isa.specs.Instructions.{WriteReply, word, write_refused, write_of}
use Rattle.token.specs.Scan.{first_line, tokens_at}
use Rattle.expression.specs.declared.Label.{Label as Held}
use Rattle.expression.specs.declared.Value.{Value}
use Rattle.expression.specs.Operands.{operand_value}
use Rattle.expression.specs.Grammar.{Tree, value_of}
use Rattle.expression.specs.Reading.{labels}
use Rattle.statement.specs.declared.line.Content.{Content}
use Rattle.encoding.specs.declared.Judged.{Judged as Outcome}
use Rattle.statement.specs.Syntax.{row_at, Parts, Statement, no_statement, of_row, Line, line}
use Rattle.statement.specs.Reading.{ReadLine, outside, reads, line_of, valued}
use Rattle.assembler.specs.Text.{Place, start, crowded, repeated, admitted, after, judged, verdicts, words, reply_from, words_of, bytes_of, stored}
use Rattle.encoding.specs.Words.{words_in, odd, number_of, written, encoded, stated, Judged, bad, nothing, gives}
use Rattle.statement.specs.Parts.{shown_statement, shown_content, shown_line, label_of, expression_of, blank_value}
use Rattle.encoding.specs.Numbers.{shown_word, OneWord}
use Rattle.assembler.specs.Passes.{LineEnd, LineRead, line_bytes, lines_from, Wrote, no_line, no_word, bad_word, one_word, WordRoom, WroteLine, WrittenBy}
use Rattle.assembler.proofs.LineEnds.{line_bytes_lem, next_line, last_line}
use Rattle.statement.proofs.Valued.{read_valued}
use Rattle.assembler.proofs.Widths.{line_wide}
use Rattle.assembler.proofs.Taking.{after_valued, admitted_valued}

-- no line is turned away
abbrev pub AllFine : List Judged → Type 0
AllFine [] = Unit
AllFine (bad r ∷ js) = ⊥
AllFine (nothing ∷ js) = AllFine js
AllFine (gives w ∷ js) = AllFine js

pub all_fine : (k n m : ℕ) (js : List Judged) → reply_from k n js ≡ words m → AllFine js
unfolding reply_from
all_fine k n m [] e = tt
all_fine k n m (bad r ∷ js) e = clash (cc)
all_fine k n m (nothing ∷ js) e = all_fine (suc k) n m js e
all_fine k n m (gives w ∷ js) e = all_fine (suc k) (suc n) m js e

-- ---- How many words a statement takes the place of

abbrev Placed : ℕ → Judged → Type 0
Placed n (bad r) = Unit
Placed n nothing = n ≡ 0
Placed n (gives w) = n ≡ 1

written_placed : (w : WriteReply) → Placed 1 (written w)
unfolding written
written_placed (word w) = refl
written_placed (write_refused r) = tt

-- the instruction of row k
abbrev instruction_of : ℕ → ℕ → Parts Value → Instruction
instruction_of k address p =
    record { kind = get_or kinds k And; a = p.a; b = p.b; d = p.d; n = number_of (row_at k).field address p.n.word }

stated_placed : (address : ℕ) (s : Statement Value) → Placed (words_in s) (stated address s)
unfolding stated encoded words_in
stated_placed address no_statement = refl
stated_placed address (of_row k p) =
    either (Placed 1) p.n.known {x = encoded k address p} {y = bad 11}
    (either (Placed 1) (eqb k (length kinds)) refl (either (Placed 1) (odd (row_at k).field address p.n.word) tt (written_placed (write_of (instruction_of k address p)))))
    tt

none_placed : (address : ℕ) (s : Statement Value) → stated address s ≡ nothing → words_in s ≡ 0
none_placed address s e = subst (Placed (words_in s)) e (stated_placed address s)

one_placed : (address w : ℕ) (s : Statement Value) → stated address s ≡ gives w → words_in s ≡ 1
one_placed address w s e = subst (Placed (words_in s)) e (stated_placed address s)

-- ---- A line that is not turned away

pub record FineLine (p : Place) (l : Line Value) : Type 0 where
  pub verdict : judged p (admitted p (reads l)) ≡ stated p.address l.statement
  pub moves : (after p (admitted p (reads l))).address ≡ p.address + 2 * words_in l.statement

pub fine_line : (p : Place) (l : Line Value) (js : List Judged) → AllFine (judged p (admitted p (reads l)) ∷ js) → FineLine p l
unfolding judged admitted after
fine_line p l js f = go (crowded p l.label) refl (repeated p l.label) refl
  where
    go : (b : Bool) → crowded p l.label ≡ b → (d : Bool) → repeated p l.label ≡ d → FineLine p l
    go true e d q = absurd (subst (λ (x : Bool). AllFine (judged p (pick x outside (reads l)) ∷ js)) e f)
    go false e true q =
        let f' : AllFine (judged p (reads l) ∷ js) = subst (λ (x : Bool). AllFine (judged p (pick x outside (reads l)) ∷ js)) e f in
        absurd (subst (λ (x : Bool). AllFine (pick x (bad 11) (stated p.address l.statement) ∷ js)) q f')
    go false e false q =
        record {
          verdict = ap (λ (x : Bool). judged p (pick x outside (reads l))) e ∙ ap (λ (x : Bool). pick x (bad 11) (stated p.address l.statement)) q;
          moves = ap (λ (x : Bool). (after p (pick x outside (reads l))).address) e;
        }

pub outside_bad : (p : Place) (js : List Judged) → AllFine (judged p (admitted p outside) ∷ js) → ⊥
unfolding judged admitted
outside_bad p js f = f

rest_fine : (j : Judged) (js : List Judged) → AllFine (j ∷ js) → AllFine js
rest_fine (bad r) js f = absurd f
rest_fine nothing js f = f
rest_fine (gives w) js f = f

-- ---- The bytes of words

pub bytes_length : (ws : List ℕ) → length (bytes_of ws) ≡ 2 * length ws
unfolding bytes_of
bytes_length [] = refl
bytes_length (w ∷ ws) = let e : length (bytes_of ws) ≡ 2 * length ws = bytes_length ws in omega arith

bytes_append : (ws : List ℕ) (w : ℕ) → bytes_of (ws ++ (w ∷ [])) ≡ bytes_of ws ++ (w % 256 ∷ w / 256 ∷ [])
unfolding bytes_of
bytes_append [] w = refl
bytes_append (x ∷ ws) w = ap (λ (r : List ℕ). x % 256 ∷ x / 256 ∷ r) (bytes_append ws w)

module _ (program done : List ℕ) (address w : ℕ) (e : length (bytes_of done) ≡ address) where
  -- one word more
  word_more : take address (bytes_of done ++ drop address program) ++ (w % 256 ∷ w / 256 ∷ drop (address + 2) (bytes_of done ++ drop address program))
      ≡ bytes_of (done ++ (w ∷ [])) ++ drop (address + 2) program
  word_more =
      let front : take address (bytes_of done ++ drop address program) ≡ bytes_of done = take_at (bytes_of done) (drop address program) address e in
      let back : drop (address + 2) (bytes_of done ++ drop address program) ≡ drop (address + 2) program =
      sym (drop-drop 2 address (bytes_of done ++ drop address program)) ∙ ap (drop 2) (drop_at (bytes_of done) (drop address program) address e) ∙ drop-drop 2 address program in
      ap (λ (r : List ℕ). r ++ (w % 256 ∷ w / 256 ∷ drop (address + 2) (bytes_of done ++ drop address program))) front
      ∙ ap (λ (r : List ℕ). bytes_of done ++ (w % 256 ∷ w / 256 ∷ r)) back
      ∙ sym (append_assoc (bytes_of done) (w % 256 ∷ w / 256 ∷ []) (drop (address + 2) program))
      ∙ ap (λ (r : List ℕ). r ++ drop (address + 2) program) (sym (bytes_append done w))

-- ---- One line, as the code hands it on

module _ (text : List ℕ) (names : List Held) (at address : ℕ) (program : List ℕ) (f : Option Content) (end : ℕ) (q : LineRead false text names at end f) where
  told_line : valued (value_of (operand_value (labels names))) (line_of (tokens_at text at)) ≡ shown_line f
  told_line = sym q.same

  pub wrote_nothing : f ≡ None → WroteLine text names at address program program address
  unfolding shown_line
  wrote_nothing e = no_line (told_line ∙ ap shown_line e)

  module _ (c : Content) (e : f ≡ Some c) (j : Outcome) (o : OneWord c.statement address j) where
    content : valued (value_of (operand_value (labels names))) (line_of (tokens_at text at))
        ≡ reads (line (label_of c.label) (shown_statement c.statement))
    unfolding shown_line shown_content
    content = told_line ∙ ap shown_line e

    pub wrote_no_word : j.word ≡ Ok None → WroteLine text names at address program program address
    wrote_no_word z = no_word _ content (sym o.comes_to ∙ ap shown_word z)

    pub wrote_bad_word : {r : Refusal} → j.word ≡ Err r → WroteLine text names at address program program address
    wrote_bad_word z = bad_word _ _ content (sym o.comes_to ∙ ap shown_word z)

    module _ {w : ℕ} (z : j.word ≡ Ok (Some w)) where
      stands : stated address (shown_statement c.statement) ≡ gives w
      stands = sym o.comes_to ∙ ap shown_word z

      pub wide : 2 ≤ length (first_line (drop at text))
      wide =
          line_wide (expression_of names) blank_value text at _
          (read_valued names (tokens_at text at) ∙ content) (one_placed address w _ stands)

      pub wrote_word : (program' : List ℕ) → program' ≡ take address program ++ (w % 256 ∷ w / 256 ∷ drop (address + 2) program)
          → WroteLine text names at address program program' (address + 2)
      wrote_word program' s =
          subst (λ (x : List ℕ). WroteLine text names at address program x (address + 2)) (sym s) (one_word _ w content stands wide)

-- ---- The pass

module _ (text : List ℕ) (names : List Held) (program : List ℕ) where
  abbrev values_of : Tree → Value
  values_of = value_of (operand_value (labels names))

  abbrev rest : Place → ℕ → List Judged
  rest p at = verdicts (labels names) p (lines_from false text at)

  -- at the beginning of a line: the words so far stand in the program, and no line from here is turned away
  pub record Writing (at address : ℕ) (now : List ℕ) : Type 0 where
    pub place : Place
    pub there : place.address ≡ address
    pub fine : AllFine (rest place at)
    pub done : List ℕ
    pub count : length (bytes_of done) ≡ address
    pub stands : now ≡ bytes_of done ++ drop address program
    pub words : done ++ words_of (rest place at) ≡ words_of (rest start 0)
    pub behind : address ≤ at
    pub inside : at ≤ length text

  pub writing : AllFine (rest start 0) → Writing 0 0 program
  unfolding bytes_of
  writing f =
      record { place = start; there = refl; fine = f; done = []; count = refl; stands = refl; words = refl; behind = omega arith; inside = omega arith }

  -- over the line l, whose values L are; the lines after it are ls
  module _ (at address : ℕ) (now : List ℕ) (w : Writing at address now) (l : ReadLine Tree) (ls : List (ReadLine Tree)) (c : lines_from false text at ≡ l ∷ ls)
      (L : ReadLine Value) (v : L ≡ valued values_of l) where
    abbrev here : Place
    here = w.place

    abbrev onward : List Judged
    onward = verdicts (labels names) (after here (admitted here L)) ls

    split : rest here at ≡ judged here (admitted here L) ∷ onward
    unfolding verdicts
    split =
        let q : admitted here L ≡ valued values_of (admitted here l) = ap (admitted here) v ∙ admitted_valued values_of here l in
        ap (verdicts (labels names) here) c
        ∙ ap (λ (x : ReadLine Value). judged here x ∷ verdicts (labels names) (after here (admitted here l)) ls) (sym q)
        ∙ ap (λ (x : Place). judged here (admitted here L) ∷ verdicts (labels names) x ls)
        (sym (ap (after here) q ∙ after_valued values_of here (admitted here l)))

    pub fine_here : AllFine (judged here (admitted here L) ∷ onward)
    fine_here = subst AllFine split w.fine

    -- what the line gave: nothing, or one word, and the program with it
    pub record Gave (address' : ℕ) (now' : List ℕ) : Type 0 where
      pub there : (after here (admitted here L)).address ≡ address'
      pub done : List ℕ
      pub count : length (bytes_of done) ≡ address'
      pub stands : now' ≡ bytes_of done ++ drop address' program
      pub words : done ++ words_of onward ≡ words_of (rest start 0)

    -- a line that is read is not turned away
    module _ (m : Line Value) (e : L ≡ reads m) where
      fine_m : FineLine here m
      fine_m = fine_line here m onward (subst (λ (x : ReadLine Value). AllFine (judged here (admitted here x) ∷ onward)) e fine_here)

      verdict_of_lem : judged here (admitted here L) ≡ stated address m.statement
      verdict_of_lem =
          ap (λ (x : ReadLine Value). judged here (admitted here x)) e ∙ fine_m.verdict ∙ ap (λ (a : ℕ). stated a m.statement) w.there

      moves_of : (after here (admitted here L)).address ≡ here.address + 2 * words_in m.statement
      moves_of = ap (λ (x : ReadLine Value). (after here (admitted here x)).address) e ∙ fine_m.moves

      words_on : {j : Judged} → stated address m.statement ≡ j → w.done ++ words_of (j ∷ onward) ≡ words_of (rest start 0)
      words_on q =
          ap (λ (x : List Judged). w.done ++ words_of x) (sym (split ∙ ap (λ (x : Judged). x ∷ onward) (verdict_of_lem ∙ q))) ∙ w.words

      gave_nothing : stated address m.statement ≡ nothing → Gave address now
      unfolding words_of
      gave_nothing q =
          let z : words_in m.statement ≡ 0 = none_placed address m.statement q in
          record {
            there = moves_of ∙ (let k : here.address + 2 * words_in m.statement ≡ address = omega (arith, w.there) in k);
            done = w.done;
            count = w.count;
            stands = w.stands;
            words = words_on q;
          }

      not_bad : {r : ℕ} → stated address m.statement ≡ bad r → ⊥
      not_bad q = subst (λ (x : Judged). AllFine (x ∷ onward)) (verdict_of_lem ∙ q) fine_here

      gave_word : {v : ℕ} → stated address m.statement ≡ gives v → Gave (address + 2) (take address now ++ (v % 256 ∷ v / 256 ∷ drop (address + 2) now))
      unfolding words_of
      gave_word {v} q =
          let z : words_in m.statement ≡ 1 = one_placed address v m.statement q in
          record {
            there = moves_of ∙ (let k : here.address + 2 * words_in m.statement ≡ address + 2 = omega (arith, w.there) in k);
            done = w.done ++ (v ∷ []);
            count =
                bytes_length (w.done ++ (v ∷ []))
                ∙ (let k : length (w.done ++ (v ∷ [])) ≡ length w.done + 1 = length-append w.done (v ∷ []) in
                let m : length (bytes_of w.done) ≡ 2 * length w.done = bytes_length w.done in
                let q : 2 * length (w.done ++ (v ∷ [])) ≡ address + 2 = omega (arith, w.count) in
                q);
            stands =
                ap (λ (x : List ℕ). take address x ++ (v % 256 ∷ v / 256 ∷ drop (address + 2) x)) w.stands
                ∙ word_more program w.done address v w.count;
            words = append_assoc w.done (v ∷ []) (words_of onward) ∙ words_on q;
          }

    -- as `write_line` says it
    pub gave : {bytes address' : ℕ} {now' : List ℕ} → Wrote L bytes address now now' address' → Gave address' now'
    gave (no_line e) = absurd (outside_bad here onward (subst (λ (x : ReadLine Value). AllFine (judged here (admitted here x) ∷ onward)) e fine_here))
    gave (no_word m e q) = gave_nothing m e q
    gave (bad_word m r e q) = absurd (not_bad m e q)
    gave (one_word m v e q h) = gave_word m e q

    pub behind : {bytes address' : ℕ} {now' : List ℕ} → Wrote L bytes address now now' address' → address' ≤ address + bytes
    behind (no_line e) = omega arith
    behind (no_word m e q) = omega arith
    behind (bad_word m r e q) = omega arith
    behind (one_word m v e q h) = omega arith

    module _ (address' : ℕ) (now' : List ℕ) (g : Gave address' now') where
      pub write_on : (end : ℕ) → ls ≡ lines_from false text (end + 1) → address' ≤ end + 1 → end < length text → Writing (end + 1) address' now'
      write_on end q b i =
          record {
            place = after here (admitted here L);
            there = g.there;
            fine = subst (λ (x : List (ReadLine Tree)). AllFine (verdicts (labels names) (after here (admitted here L)) x)) q (rest_fine (judged here (admitted here L)) onward fine_here);
            done = g.done;
            count = g.count;
            stands = g.stands;
            words = ap (λ (x : List (ReadLine Tree)). g.done ++ words_of (verdicts (labels names) (after here (admitted here L)) x)) (sym q) ∙ g.words;
            behind = b;
            inside = omega arith;
          }

      pub write_last : ls ≡ [] → WrittenBy text names program now'
      unfolding verdicts words_of stored
      write_last q =
          let all : g.done ≡ words_of (rest start 0) =
          sym (append-nil g.done) ∙ ap (λ (x : List (ReadLine Tree)). g.done ++ words_of (verdicts (labels names) (after here (admitted here L)) x)) (sym q) ∙ g.words in
          g.stands
          ∙ ap (λ (k : ℕ). bytes_of g.done ++ drop k program) (sym g.count ∙ bytes_length g.done)
          ∙ ap (λ (x : List ℕ). bytes_of x ++ drop (2 * length x) program) all

  -- as the code goes on: over the line to `end`
  module _ (at address : ℕ) (now : List ℕ) (w : Writing at address now) (end : ℕ) (e : LineEnd text at end) where
    pub word_room : length text ≤ 65536 → length program ≡ 65536 → length now ≡ length program → WordRoom text at address now
    word_room h k q =
        let b : line_bytes text at ≡ end - at = line_bytes_lem text at end e in
        (λ n. omega (arith, w.behind, e.inside, e.after), omega (arith, w.behind, w.inside))

    module _ (now' : List ℕ) (address' : ℕ) (r : WroteLine text names at address now now' address') where
      abbrev L : ReadLine Value
      L = valued values_of (line_of (tokens_at text at))

      pub written_on : (end ≡ length text → ⊥) → Writing (end + 1) address' now'
      written_on n =
          let c : lines_from false text at ≡ line_of (tokens_at text at) ∷ lines_from false text (end + 1) = next_line text at end e false (omega (arith, e.inside)) in
          let b : line_bytes text at ≡ end - at = line_bytes_lem text at end e in
          let k : address' ≤ address + line_bytes text at = behind at address now w (line_of (tokens_at text at)) (lines_from false text (end + 1)) c L refl r in
          write_on at address now w (line_of (tokens_at text at)) (lines_from false text (end + 1)) c L refl address' now'
          (gave at address now w (line_of (tokens_at text at)) (lines_from false text (end + 1)) c L refl r) end refl
          (omega (arith, w.behind, e.after)) (omega (arith, e.inside))

      pub written_last : end ≡ length text → WrittenBy text names program now'
      written_last h =
          let c : lines_from false text at ≡ line_of (tokens_at text at) ∷ [] = last_line text at end e false h in
          write_last at address now w (line_of (tokens_at text at)) [] c L refl address' now'
          (gave at address now w (line_of (tokens_at text at)) [] c L refl r) refl
