-- The lines of a text, one position after another.
use Prim.Native.Nat.{ℕ, zero, suc, ◌+◌, ◌-◌, ◌<◌, ◌≤◌}
use mathlib.Core.Bool.{Bool, true, false}
use mathlib.Core.Path.{◌≡◌, refl, sym, ap, ◌∙◌}
use mathlib.Core.List.{List, [], ◌∷◌}
use native.Mathlib.Omega.{arith}
use native.Mathlib.Numerals.{add-one}
use lib.Dec.{eqb}
use lib.ListN.{length, drop, get_or, drop_of_length-le}
use lib.Seq.{drop-cons}
use borrow.Author.Tests.{eq-eqb, ne_eqb, eqb-true, eqb-false}
use Rattle.word.specs.Word.{pick}
use Rattle.token.specs.Scan.{first_line, tokens, tokens_at}
use Rattle.statement.specs.Reading.{outside, line_of}
use Rattle.assembler.specs.Text.{longer, lines, readings}
use Rattle.assembler.specs.Passes.{LineEnd, lines_from}

-- the lines after the first
unfoldable pub more : List ℕ → List (List ℕ)
more [] = []
more (b ∷ s) = pick (eqb b 10) (lines s) (more s)

pub first_and_more : (s : List ℕ) → lines s ≡ first_line s ∷ more s
unfolding lines first_line more longer
first_and_more [] = refl
first_and_more (b ∷ s) = go (first_and_more s) (eqb b 10)
  where
    go : lines s ≡ first_line s ∷ more s → (t : Bool)
        → pick t ([] ∷ lines s) (longer b (lines s)) ≡ pick t [] (b ∷ first_line s) ∷ pick t (lines s) (more s)
    go e true = refl
    go e false = ap (longer b) e

-- no newline from a position up to another
abbrev pub NoNewline : List ℕ → ℕ → ℕ → Type 0
NoNewline text at r = (i : ℕ) → at ≤ i → i < r → get_or text i 0 ≡ 10 → ⊥

pub none_yet : (text : List ℕ) (at : ℕ) → NoNewline text at at
none_yet text at i h k = absurd (omega arith)

pub one_more : (text : List ℕ) (at r : ℕ) → NoNewline text at r → (get_or text r 0 ≡ 10 → ⊥) → NoNewline text at (r + 1)
one_more text at r n m i h k = go (eqb i r) refl
  where
    go : (t : Bool) → eqb i r ≡ t → get_or text i 0 ≡ 10 → ⊥
    go true e q = m (sym (ap (λ (x : ℕ). get_or text x 0) (eqb-true i r e)) ∙ q)
    go false e q = let f : i ≡ r → ⊥ = eqb-false i r e in n i h (omega arith) q

module _ (text : List ℕ) where
  byte_at : (i : ℕ) → i < length text → drop i text ≡ get_or text i 0 ∷ drop (i + 1) text
  byte_at i h = rw (add-one, drop-cons text i 0)

  -- over a byte that is no newline
  pass : (i : ℕ) → i < length text → (get_or text i 0 ≡ 10 → ⊥) → more (drop i text) ≡ more (drop (i + 1) text)
  unfolding more
  pass i h n =
      ap more (byte_at i h) ∙ ap (λ (t : Bool). pick t (lines (drop (i + 1) text)) (more (drop (i + 1) text))) (ne_eqb _ _ n)

  more_from : (r : ℕ) → r ≤ length text → (d at : ℕ) → at + d ≡ r → NoNewline text at r
      → more (drop at text) ≡ more (drop r text)
  more_from r l zero at e n = ap (λ (k : ℕ). more (drop k text)) (let q : at ≡ r = omega arith in q)
  more_from r l (suc d) at e n =
      pass at (omega arith) (n at (omega arith) (omega arith))
      ∙ more_from r l d (at + 1) (omega arith) (λ i h k. n i (omega arith) k)

  -- the bytes up to the end of a line
  bytes_from : (r : ℕ) → r ≤ length text → (r < length text → get_or text r 0 ≡ 10) → (d at : ℕ) → at + d ≡ r → NoNewline text at r
      → length (first_line (drop at text)) ≡ d
  unfolding first_line
  bytes_from r l b zero at e n = go (eqb r (length text)) refl
    where
      q : at ≡ r
      q = omega arith

      go : (t : Bool) → eqb r (length text) ≡ t → length (first_line (drop at text)) ≡ 0
      go true f =
          ap (λ (k : ℕ). length (first_line (drop k text))) q
          ∙ ap (λ (s : List ℕ). length (first_line s)) (drop_of_length-le text {i = r} (omega (arith, eqb-true r (length text) f)))
      go false f =
          let k : r < length text = let m : r ≡ length text → ⊥ = eqb-false r (length text) f in omega arith in
          ap (λ (k : ℕ). length (first_line (drop k text))) q
          ∙ ap (λ (s : List ℕ). length (first_line s)) (byte_at r k)
          ∙ ap (λ (t : Bool). length (pick t [] (get_or text r 0 ∷ first_line (drop (r + 1) text)))) (eq-eqb _ _ (b k))
  bytes_from r l b (suc d) at e n =
      ap (λ (s : List ℕ). length (first_line s)) (byte_at at (omega arith))
      ∙ ap (λ (t : Bool). length (pick t [] (get_or text at 0 ∷ first_line (drop (at + 1) text)))) (ne_eqb _ _ (n at (omega arith) (omega arith)))
      ∙ ap suc (bytes_from r l b d (at + 1) (omega arith) (λ i h k. n i (omega arith) k))

  module _ (at r : ℕ) (e : LineEnd text at r) where
    pub line_bytes_lem : length (first_line (drop at text)) ≡ r - at
    line_bytes_lem = bytes_from r e.inside e.newline (r - at) at (omega (arith, e.after)) e.none

    to_end : more (drop at text) ≡ more (drop r text)
    to_end = more_from r e.inside (r - at) at (omega (arith, e.after)) e.none

    more_newline : r < length text → more (drop at text) ≡ lines (drop (r + 1) text)
    unfolding more
    more_newline h =
        to_end ∙ ap more (byte_at r h)
        ∙ ap (λ (t : Bool). pick t (lines (drop (r + 1) text)) (more (drop (r + 1) text))) (eq-eqb _ _ (e.newline h))

    more_none : r ≡ length text → more (drop at text) ≡ []
    unfolding more
    more_none h = to_end ∙ ap more (drop_of_length-le text {i = r} (omega arith))

    module _ (long : Bool) where
      pub next_line : r < length text → lines_from long text at ≡ line_of (tokens_at text at) ∷ lines_from long text (r + 1)
      unfolding lines_from readings tokens_at
      next_line h =
          ap (readings long)
          (first_and_more (drop at text)
          ∙ ap (λ (m : List (List ℕ)). first_line (drop at text) ∷ m) (more_newline h ∙ first_and_more (drop (r + 1) text)))
          ∙ ap (λ (m : List (List ℕ)). line_of (tokens (first_line (drop at text))) ∷ readings long m) (sym (first_and_more (drop (r + 1) text)))

      pub last_line : r ≡ length text → lines_from long text at ≡ pick long outside (line_of (tokens_at text at)) ∷ []
      unfolding lines_from readings tokens_at
      last_line h =
          ap (readings long) (first_and_more (drop at text) ∙ ap (λ (m : List (List ℕ)). first_line (drop at text) ∷ m) (more_none h))
