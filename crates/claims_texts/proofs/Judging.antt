-- What comes of each line: the lowest number that holds of it, or that none does.
-- Assumes nothing.
use Prim.Native.Nat.{ℕ, ◌<◌, ◌≤◌}
use mathlib.Core.Bool.{Bool, true, false, ◌&&◌, not}
use mathlib.Core.Path.{◌≡◌, refl, sym, ap, ◌∙◌, subst}
use mathlib.Core.Logic.{◌⊎◌, inl, inr}
use mathlib.Core.List.{List, [], ◌∷◌}
use native.Mathlib.Omega.{arith}
use lib.Dec.{leb}
use lib.ListN.{length, get_or}
use borrow.Author.Tests.{le-leb, leb-true}
use Rattle.word.specs.Word.{pick}
use Rattle.word.proofs.Tests.{never}
use Rattle.token.specs.Tokens.{Token}
use Rattle.expression.specs.declared.Value.{Value}
use Rattle.expression.specs.Operands.{Label, operand_value}
use Rattle.expression.specs.Grammar.{Tree, value_of}
use Rattle.statement.specs.Syntax.{Parts, Statement, no_statement, of_row, Line, IsLine, plain, labelled}
use Rattle.statement.specs.Reading.{ReadLine, outside, reads, valued, valued_parts, valued_statement}
use Rattle.encoding.specs.Words.{encoded, stated, Judged, bad, nothing, gives}
use Rattle.assembler.specs.Text.{text_lines, Place, start, given, crowded, admitted, names_from, repeated, judged}
use Rattle.claims_texts.specs.Assembly.{Reads, Named, Fits, text_parts, line_at, place_at, Bad, too_long, no_reading, crowded as crowds, repeated as repeats, unknown, misfit}
use Rattle.claims_texts.proofs.Readings.{one_reading, Last, not_read, is_read}
use Rattle.claims_texts.proofs.Names.{known_named, unknown_unnamed, unknown_uses, uses_unknown}
use Rattle.claims_texts.proofs.Fitting.{Sized, line_sized, Encodes, encodes}

-- ---- The name that a line gives

-- it is one at most
abbrev AtMostOne : List Token → Type 0
AtMostOne [] = Unit
AtMostOne (w ∷ ws) = ws ≡ []

one_name : {ts : List Token} {l : Line Tree} → IsLine ts l → AtMostOne l.label
one_name (plain s) = tt
one_name (labelled n s) = refl

-- the test that a line is crowded, by whether its name was given
crowding : (g b : Bool) → (not g && b) ≡ true → (g ≡ false) × (b ≡ true)
crowding true b e = never e
crowding false b e = (refl, e)

module _ (p : Place) where
  -- what each test says where it passes, and where it does not
  crowded_by : (ws : List Token) → AtMostOne ws → crowded p ws ≡ true → (w : Token) × (ws ≡ w ∷ []) × (Named p.names w → ⊥) × (64 ≤ length p.names)
  unfolding crowded given
  crowded_by [] o e = never e
  crowded_by (w ∷ ws) o e =
      let (g, b) = crowding (given p.names w) (leb 64 (length p.names)) e in
      (w, ap (λ (us : List Token). w ∷ us) o, unknown_unnamed p.names w g, leb-true 64 (length p.names) b)

  uncrowded : (w : Token) → crowded p (w ∷ []) ≡ false → (Named p.names w → ⊥) → 64 ≤ length p.names → ⊥
  unfolding crowded given
  uncrowded w e n l = go (given p.names w) refl
    where
      go : (b : Bool) → given p.names w ≡ b → ⊥
      go true g = n (known_named p.names w g)
      go false g = never (sym e ∙ rw (g, le-leb 64 (length p.names) l))

  repeated_by : (ws : List Token) → AtMostOne ws → repeated p ws ≡ true → (w : Token) × (ws ≡ w ∷ []) × Named p.names w
  unfolding repeated given
  repeated_by [] o e = never e
  repeated_by (w ∷ ws) o e = (w, ap (λ (us : List Token). w ∷ us) o, known_named p.names w e)

  unrepeated : (w : Token) → repeated p (w ∷ []) ≡ false → Named p.names w → ⊥
  unfolding repeated given
  unrepeated w e n = unknown_unnamed p.names w e n

-- ---- One line

-- a number that holds, and no lower one; or none
abbrev pub Rightly : (ℕ → Type 0) → Judged → Type 0
Rightly Q (bad r) = Q r × ((q : ℕ) → q < r → Q q → ⊥)
Rightly Q nothing = (q : ℕ) → Q q → ⊥
Rightly Q (gives w) = (q : ℕ) → Q q → ⊥

module _ (text : List ℕ) (k : ℕ) where
  abbrev names : List Label
  names = names_from start (text_lines text)

  abbrev value : Tree → Value
  value = value_of (operand_value names)

  abbrev place : Place
  place = place_at text k

  -- no number is lower
  pub ten : {q : ℕ} → Bad text k q → 10 ≤ q
  ten (too_long h e) = omega arith
  ten (no_reading n) = omega arith
  ten (crowds l w r e n h) = omega arith
  ten (repeats l w r e n) = omega arith
  ten (unknown l i p w r e u n) = omega arith
  ten (misfit l i p r e n) = omega arith

  -- a line that is read
  module _ (l : Line Tree) (read : Reads (line_at text k) l) (whole : Last text k → ⊥) where
    -- every name in it is known, and its value fits
    abbrev Known : Statement Tree → Type 0
    Known no_statement = Unit
    Known (of_row i p) = (value p.n).known ≡ true

    abbrev Fitting : Statement Tree → Type 0
    Fitting no_statement = Unit
    Fitting (of_row i p) = Fits i place.address (value p.n).word

    -- no number holds where none of its conditions does
    abbrev Refutes : ℕ → Type 0
    Refutes q =
        (q ≡ 10 → crowded place l.label ≡ false)
        × (q ≡ 11 → repeated place l.label ≡ false)
        × (q ≡ 11 → Known l.statement)
        × (q ≡ 12 → Fitting l.statement)

    -- any other reading of the line is this one
    label_is : (m : Line Tree) (w : Token) → Reads (line_at text k) m → m.label ≡ w ∷ [] → l.label ≡ w ∷ []
    label_is m w r e = ap (λ (x : Line Tree). x.label) (one_reading (line_at text k) l m read r) ∙ e

    statement_is : (m : Line Tree) (i : ℕ) (p : Parts Tree) → Reads (line_at text k) m → m.statement ≡ of_row i p → l.statement ≡ of_row i p
    statement_is m i p r e = ap (λ (x : Line Tree). x.statement) (one_reading (line_at text k) l m read r) ∙ e

    refuted : {q : ℕ} → Refutes q → Bad text k q → ⊥
    refuted f (too_long h e) = whole (h, e)
    refuted f (no_reading n) = n l read
    refuted f (crowds m w r e n h) = uncrowded place w (rw (label_is m w r e) at (f.0 refl)) n h
    refuted f (repeats m w r e n) = unrepeated place w (rw (label_is m w r e) at (f.1 refl)) n
    refuted f (unknown m i p w r e u n) = never (sym (uses_unknown names u n) ∙ subst Known (statement_is m i p r e) (f.2 refl))
    refuted f (misfit m i p r e n) = n (subst Fitting (statement_is m i p r e) (f.3 refl))

    -- of a line that is not crowded none below 11 does
    below_11 : crowded place l.label ≡ false → (q : ℕ) → q < 11 → Bad text k q → ⊥
    below_11 c q h = refuted {q = q} (λ f. c, λ f. absurd (omega arith), λ f. absurd (omega arith), λ f. absurd (omega arith))

    -- one that is neither crowded nor gives a name twice goes by its statement
    module _ (c : crowded place l.label ≡ false) (d : repeated place l.label ≡ false) where
      statement_rightly : (s : Statement Tree) → l.statement ≡ s → Sized s → Rightly (Bad text k) (stated place.address (valued_statement value s))
      unfolding stated valued_statement valued_parts
      statement_rightly no_statement e o = λ q. refuted {q = q} (λ f. c, λ f. d, λ f. subst Known (sym e) tt, λ f. subst Fitting (sym e) tt)
      statement_rightly (of_row i p) e o = go (value p.n).known refl (encodes i place.address (valued_parts value p) o)
        where
          go : (b : Bool) → (value p.n).known ≡ b → Encodes i place.address (valued_parts value p)
              → Rightly (Bad text k) (pick (value p.n).known (encoded i place.address (valued_parts value p)) (bad 11))
          go false g x =
              let (w, u, n) = unknown_uses names p.n g in
              rw g (unknown l i p w read e u n, below_11 c)
          go true g (inl x) =
              rw (x.1.1, g) (λ q. refuted {q = q} (λ f. c, λ f. d, λ f. subst Known (sym e) g, λ f. subst Fitting (sym e) x.0))
          go true g (inr x) =
              rw (x.1, g) (
                misfit l i p read e x.0,
                λ q h. refuted {q = q} (λ f. c, λ f. d, λ f. subst Known (sym e) g, λ f. absurd (omega arith)),
              )

    -- by its name first
    line_rightly : Rightly (Bad text k) (judged place (valued value (admitted place (reads l))))
    unfolding judged valued admitted
    line_rightly = go (crowded place l.label) refl (repeated place l.label) refl
      where
        go : (a : Bool) → crowded place l.label ≡ a → (b : Bool) → repeated place l.label ≡ b
            → Rightly (Bad text k) (judged place (valued value (admitted place (reads l))))
        go true c b d =
            let (w, e, n, m) = crowded_by place l.label (one_name read.parsed) c in
            rw c (crowds l w read e n m, λ q h x. absurd (omega (arith, ten x)))
        go false c true d =
            let (w, e, n) = repeated_by place l.label (one_name read.parsed) d in
            rw (c, d) (repeats l w read e n, below_11 c)
        go false c false d = rw (c, d) (statement_rightly c d l.statement refl (line_sized read.parsed))

  -- a line that is not read
  outside_bad : Last text k ⊎ ((l : Line Tree) → Reads (line_at text k) l → ⊥) → Bad text k 10
  outside_bad (inl h) = too_long h.0 h.1
  outside_bad (inr n) = no_reading n

  pub rightly_at : k < length (text_parts text) → Rightly (Bad text k) (judged place (valued value (admitted place (get_or (text_lines text) k outside))))
  unfolding judged valued admitted
  rightly_at h = go (get_or (text_lines text) k outside) refl
    where
      go : (x : ReadLine Tree) → get_or (text_lines text) k outside ≡ x → Rightly (Bad text k) (judged place (valued value (admitted place x)))
      go outside e = (outside_bad (not_read text k h e), λ q l x. absurd (omega (arith, ten x)))
      go (reads l) e = let (r, n) = is_read text k h l e in line_rightly l r n
