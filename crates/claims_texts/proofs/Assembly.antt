-- Writing trims as text: the theorem.
-- Assumes nothing.
use Prim.Native.Nat.{ℕ, suc, ◌+◌, ◌*◌, ◌<◌}
use mathlib.Core.Bool.{Bool, true, false}
use mathlib.Core.Path.{◌≡◌, refl, sym, ap, ◌∙◌, subst, subst₂}
use mathlib.Core.Logic.{◌⊎◌, inl, inr}
use mathlib.Core.List.{List}
use native.Mathlib.Omega.{arith}
use lib.Dec.{eqb, ltb}
use lib.ListN.{length, get_or}
use borrow.Author.Tests.{ltb-true, ltb-false, eqb-true, eqb-false}
use Rattle.word.proofs.Tests.{clash}
use Rattle.machine.specs.Machine.{word_at}
use Rattle.expression.specs.declared.Value.{Value}
use Rattle.expression.specs.Operands.{Label, operand_value}
use Rattle.expression.specs.Grammar.{Tree, value_of}
use Rattle.statement.specs.Syntax.{table, Parts, of_row, Line}
use Rattle.statement.specs.Reading.{ReadLine, reads, valued_parts, valued}
use Rattle.encoding.specs.Words.{Judged, bad, nothing, gives, encoded}
use Rattle.assembler.specs.Text.{text_lines, start, admitted, judged, names_from, text_verdicts, words_of, words, text_refused, AssembleLeft, stored, assemble_left_by, assemble_left}
use Rattle.claims_texts.specs.Assembly.{Reads, WordOf, text_parts, value_in, line_at, place_at, Bad, too_long, First, Assembles, Assembly}
use Rattle.claims_texts.proofs.Readings.{found, readings_unique, readings_length, taken}
use Rattle.claims_texts.proofs.Judging.{ten, Rightly, rightly_at}
use Rattle.claims_texts.proofs.Fitting.{Sized, line_sized}
use Rattle.claims_texts.proofs.Placed.{word_of, line_word, placed, word_stored}
use Rattle.claims_texts.proofs.Widths.{fits}
use Rattle.claims_texts.proofs.Replies.{Fine, FirstBad, Turned, Counted, replied, verdict_at_lem, verdicts_length}

-- ---- Lines

-- a number that is lowest is so alone
one_least : (P : ℕ → Type 0) (m n : ℕ) → P m → P n → ((j : ℕ) → j < m → P j → ⊥) → ((j : ℕ) → j < n → P j → ⊥) → m ≡ n
one_least P m n a b f g = go (ltb m n) refl (ltb n m) refl
  where
    go : (x : Bool) → ltb m n ≡ x → (y : Bool) → ltb n m ≡ y → m ≡ n
    go true e y d = absurd (g m (ltb-true m n e) a)
    go false e true d = absurd (f n (ltb-true n m d) b)
    go false e false d = omega (arith, ltb-false m n e, ltb-false n m d)

-- of a line that is not turned away no number holds
fine_good : (Q : ℕ → Type 0) (j : Judged) → Fine j → Rightly Q j → (q : ℕ) → Q q → ⊥
fine_good Q (bad r) f h = absurd f
fine_good Q nothing f h = h
fine_good Q (gives w) f h = h

module _ (text : List ℕ) where
  lines_length : length (text_lines text) ≡ length (text_parts text)
  unfolding text_lines
  lines_length = readings_length (ltb 65536 (length text)) (text_parts text)

  rightly : (k : ℕ) → k < length (text_parts text) → Rightly (Bad text k) (get_or (text_verdicts text) k nothing)
  unfolding text_verdicts
  rightly k h =
      subst (Rightly (Bad text k)) (sym (verdict_at_lem (names_from start (text_lines text)) start (text_lines text) k (omega (arith, lines_length)))) (rightly_at text k h)

  good : (k : ℕ) → k < length (text_parts text) → Fine (get_or (text_verdicts text) k nothing) → (q : ℕ) → Bad text k q → ⊥
  good k h f = fine_good (Bad text k) (get_or (text_verdicts text) k nothing) f (rightly k h)

  -- the first line that is turned away is the first bad one, and that is the only one
  first : (k r : ℕ) → FirstBad (text_verdicts text) k r → First text k r
  unfolding text_verdicts
  first k r b =
      let e : length (text_verdicts text) ≡ length (text_lines text) = verdicts_length (names_from start (text_lines text)) start (text_lines text) in
      let h : k < length (text_parts text) = omega (arith, lines_length, b.inside) in
      let x : Rightly (Bad text k) (bad r) = subst (Rightly (Bad text k)) b.there (rightly k h) in
      record { there = h; bad = x.0; lowest = x.1; before = λ j q l. good j (omega arith) (b.before j l) q }

  one_first : (k i r q : ℕ) → First text k r → First text i q → (k ≡ i) × (r ≡ q)
  one_first k i r q f g =
      let e : k ≡ i = one_least (λ j. (s : ℕ) × Bad text j s) k i (r, f.bad) (q, g.bad) (λ j h b. f.before j b.0 h b.1) (λ j h b. g.before j b.0 h b.1) in
      let f' : First text i r = subst (λ (j : ℕ). First text j r) e f in
      (e, one_least (Bad text i) r q f'.bad g.bad f'.lowest g.lowest)

  -- no line is turned away, and no number holds of any
  abbrev AllFine : Type 0
  AllFine = (k : ℕ) → Fine (get_or (text_verdicts text) k nothing)

  abbrev Good : Type 0
  Good = (k r : ℕ) → k < length (text_parts text) → Bad text k r → ⊥

  abbrev count : ℕ
  count = length (words_of (text_verdicts text))

  -- ---- The words

  abbrev names : List Label
  names = names_from start (text_lines text)

  abbrev value : Tree → Value
  value = value_of (operand_value names)

  -- a line that says a statement, and is not turned away, gives the statement's word
  line_gives : (k : ℕ) (l : Line Tree) (q : ℕ) (p : Parts Tree) → k < length (text_parts text) → Reads (line_at text k) l → l.statement ≡ of_row q p
      → Fine (get_or (text_verdicts text) k nothing)
      → (w : ℕ) × (get_or (text_verdicts text) k nothing ≡ gives w) × (encoded q (place_at text k).address (valued_parts value p) ≡ gives w)
  unfolding text_verdicts
  line_gives k l q p h r s f =
      let t = taken text k h (λ c. good k h f 10 (too_long c.0 c.1)) ∙ (found (line_at text k) l).1 r in
      let v : get_or (text_verdicts text) k nothing ≡ judged (place_at text k) (valued value (admitted (place_at text k) (reads l)))
      = verdict_at_lem names start (text_lines text) k (omega (arith, lines_length)) ∙ ap (λ (x : ReadLine Tree). judged (place_at text k) (valued value (admitted (place_at text k) x))) t in
      let (w, x, y) = line_word value (place_at text k) l q p s (subst Fine v f) in
      (w, v ∙ x, y)

  -- it stands at the line's address
  word_at_lem : (k w : ℕ) → AllFine → get_or (text_verdicts text) k nothing ≡ gives w
      → (program : List ℕ) → word_at (stored (words_of (text_verdicts text)) program) (place_at text k).address ≡ w
  unfolding text_verdicts
  word_at_lem k w g e program =
      let (i, a, h, b) = placed names start (text_lines text) k w g e in
      let c : (place_at text k).address ≡ 2 * i = omega arith in
      ap (word_at (stored (words_of (text_verdicts text)) program)) c ∙ word_stored (words_of (text_verdicts text)) program i h (fits text) ∙ b

  sized : (l : Line Tree) (q : ℕ) (p : Parts Tree) {s : List ℕ} → Reads s l → l.statement ≡ of_row q p → q < length table
  sized l q p r e = (subst Sized e (line_sized r.parsed)).0

  -- ---- The call

  module _ (program : List ℕ) where
    abbrev left : AssembleLeft
    left = assemble_left text program

    abbrev Memory : Type 0
    Memory = length program ≡ 65536

    -- what it comes to
    data Outcome : Type 0 where
      no_memory : (Memory → ⊥) → left.reply ≡ text_refused 0 1 → left.program ≡ program → Outcome
      refused : Memory → (k r : ℕ) → First text k r → left.reply ≡ text_refused (suc k) r → left.program ≡ program → Outcome
      accepted : Memory → AllFine → left.reply ≡ words count → left.program ≡ stored (words_of (text_verdicts text)) program → Outcome

    outcome : Outcome
    unfolding assemble_left assemble_left_by
    outcome = go (eqb (length program) 65536) refl (replied 1 0 (text_verdicts text))
      where
        reply_of_lem : {x y : AssembleLeft} → x ≡ y → x.reply ≡ y.reply
        reply_of_lem e = ap (λ (z : AssembleLeft). z.reply) e

        program_of : {x y : AssembleLeft} → x ≡ y → x.program ≡ y.program
        program_of e = ap (λ (z : AssembleLeft). z.program) e

        go : (b : Bool) → eqb (length program) 65536 ≡ b → Turned 1 0 (text_verdicts text) ⊎ Counted 1 0 (text_verdicts text) → Outcome
        go false e t =
            let x : left ≡ record { reply = text_refused 0 1; program = program } = rw e in
            no_memory (eqb-false _ _ e) (reply_of_lem x) (program_of x)
        go true e (inl t) =
            let (i, r, b, q) = t in
            let s : 1 + i ≡ suc i = omega arith in
            let x : left ≡ record { reply = text_refused (suc i) r; program = program } = rw (e, q, s) in
            refused (eqb-true _ _ e) i r (first i r b) (reply_of_lem x) (program_of x)
        go true e (inr t) =
            let s : 0 + count ≡ count = omega arith in
            let x : left ≡ record { reply = words count; program = stored (words_of (text_verdicts text)) program } = rw (e, t.1, s) in
            accepted (eqb-true _ _ e) t.0 (reply_of_lem x) (program_of x)

    -- each part of the claim, by what it comes to
    memory_not_1 : left.reply ≡ text_refused 0 1 → Memory → Outcome → ⊥
    memory_not_1 e m (no_memory n x y) = n m
    memory_not_1 e m (refused h k r f x y) = let z : suc k ≡ 0 = cc in omega arith
    memory_not_1 e m (accepted h g x y) = clash (cc)

    no_memory_1 : (Memory → ⊥) → Outcome → left.reply ≡ text_refused 0 1
    no_memory_1 m (no_memory n x y) = x
    no_memory_1 m (refused h k r f x y) = absurd (m h)
    no_memory_1 m (accepted h g x y) = absurd (m h)

    refused_first : (k r : ℕ) → left.reply ≡ text_refused (suc k) r → Outcome → Memory × First text k r
    refused_first k r e (no_memory n x y) = let z : 0 ≡ suc k = cc in absurd (omega arith)
    refused_first k r e (refused h i q f x y) =
        let z : suc i ≡ suc k = cc in
        let a : i ≡ k = omega arith in
        let b : q ≡ r = cc in
        (h, subst₂ (λ (j s : ℕ). First text j s) a b f)
    refused_first k r e (accepted h g x y) = clash (cc)

    first_refused : (k r : ℕ) → Memory → First text k r → Outcome → left.reply ≡ text_refused (suc k) r
    first_refused k r m f (no_memory n x y) = absurd (n m)
    first_refused k r m f (refused h i q g x y) = let (a, b) = one_first i k q r g f in cc (x, a, b)
    first_refused k r m f (accepted h g x y) = absurd (good k f.there (g k) r f.bad)

    accepted_good : (n : ℕ) → left.reply ≡ words n → Outcome → Memory × Good × (n ≡ count)
    accepted_good n e (no_memory m x y) = clash (cc)
    accepted_good n e (refused h k r f x y) = clash (cc)
    accepted_good n e (accepted h g x y) = (h, λ k r l. good k l (g k) r, cc)

    good_accepted : (n : ℕ) → Memory → Good → n ≡ count → Outcome → left.reply ≡ words n
    good_accepted n m g e (no_memory a x y) = absurd (a m)
    good_accepted n m g e (refused h k r f x y) = absurd (g k r f.there f.bad)
    good_accepted n m g e (accepted h a x y) = x ∙ ap words (sym e)

    accepted_stored : (n : ℕ) → left.reply ≡ words n → Outcome → left.program ≡ stored (words_of (text_verdicts text)) program
    accepted_stored n e (no_memory m x y) = clash (cc)
    accepted_stored n e (refused h k r f x y) = clash (cc)
    accepted_stored n e (accepted h g x y) = y

    accepted_holds :
        (n : ℕ) → left.reply ≡ words n
        → (k : ℕ) (l : Line Tree) (q : ℕ) (p : Parts Tree) → k < length (text_parts text) → Reads (line_at text k) l → l.statement ≡ of_row q p
        → Outcome → WordOf q (place_at text k).address (value_in text p.n) p (word_at left.program (place_at text k).address)
    accepted_holds n e k l q p h r s (no_memory m x y) = clash (cc)
    accepted_holds n e k l q p h r s (refused m i t f x y) = clash (cc)
    accepted_holds n e k l q p h r s (accepted m g x y) =
        let (w, u, v) = line_gives k l q p h r s (g k) in
        let c = word_at_lem k w g u in
        subst (WordOf q (place_at text k).address (value_in text p.n) p) (sym (ap (λ (z : List ℕ). word_at z (place_at text k).address) y ∙ c program))
        (word_of value q (place_at text k).address w p (sized l q p r s) v)

    refused_untouched : (k r : ℕ) → left.reply ≡ text_refused k r → Outcome → left.program ≡ program
    refused_untouched k r e (no_memory n x y) = y
    refused_untouched k r e (refused h i q f x y) = y
    refused_untouched k r e (accepted h g x y) = clash (cc)

    -- no refusal has the number 0
    pub refused_not_0 : (k r : ℕ) → left.reply ≡ text_refused k r → r ≡ 0 → ⊥
    refused_not_0 k r e z = go outcome
      where
        go : Outcome → ⊥
        go (no_memory n x y) = let q : 1 ≡ r = cc in omega arith
        go (refused h i q f x y) = let s : q ≡ r = cc in omega (arith, ten text i f.bad)
        go (accepted h g x y) = clash (cc)

    assembles : Assembles text program
    assembles =
        record {
          number_1 = (λ e m. memory_not_1 e m outcome, λ m. no_memory_1 m outcome);
          refuses = λ k r. (λ e. refused_first k r e outcome, λ p. first_refused k r p.0 p.1 outcome);
          accepts = λ n. (λ e. accepted_good n e outcome, λ p. good_accepted n p.0 p.1 p.2 outcome);
          stores = λ n e. accepted_stored n e outcome;
          holds = λ n e k l q p h r s. accepted_holds n e k l q p h r s outcome;
          untouched = λ k r e. refused_untouched k r e outcome;
        }

pub assembly : Assembly
assembly =
    record {
      unique = readings_unique;
      readings = λ text k l h n. (λ e. (found (line_at text k) l).0 (sym (taken text k h n) ∙ e), λ r. taken text k h n ∙ (found (line_at text k) l).1 r);
      fits = fits;
      assembles = assembles;
    }
