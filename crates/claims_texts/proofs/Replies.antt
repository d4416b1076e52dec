-- The reply to a list of lines: the first that is turned away, or how many words there are.
-- Assumes nothing.
use Prim.Native.Nat.{ℕ, zero, suc, ◌+◌, ◌<◌}
use mathlib.Core.Path.{◌≡◌, refl, sym, ap, ◌∙◌}
use mathlib.Core.Logic.{◌⊎◌, inl, inr}
use mathlib.Core.List.{List, [], ◌∷◌}
use native.Mathlib.Omega.{arith}
use lib.ListN.{length, get_or}
use Rattle.expression.specs.Operands.{Label, operand_value}
use Rattle.expression.specs.Grammar.{Tree, value_of}
use Rattle.statement.specs.Reading.{ReadLine, outside, valued}
use Rattle.encoding.specs.Words.{Judged, bad, nothing, gives}
use Rattle.assembler.specs.Text.{Place, admitted, after, judged, verdicts, words_of, words, text_refused, reply_from}
use Rattle.claims_texts.specs.Assembly.{place_of}

-- not turned away
abbrev pub Fine : Judged → Type 0
Fine (bad r) = ⊥
Fine nothing = Unit
Fine (gives w) = Unit

pub record FirstBad (js : List Judged) (i r : ℕ) : Type 0 where
  pub inside : i < length js
  pub there : get_or js i nothing ≡ bad r
  pub before : (j : ℕ) → j < i → Fine (get_or js j nothing)

-- ---- After one more line that is not turned away

next_bad : (j : Judged) (js : List Judged) (i r : ℕ) → Fine j → FirstBad js i r → FirstBad (j ∷ js) (suc i) r
next_bad j js i r f b = record { inside = omega (arith, b.inside); there = b.there; before = go }
  where
    go : (m : ℕ) → m < suc i → Fine (get_or (j ∷ js) m nothing)
    go zero h = f
    go (suc m) h = b.before m (omega arith)

next_fine : (j : Judged) (js : List Judged) → Fine j → ((i : ℕ) → Fine (get_or js i nothing)) → (i : ℕ) → Fine (get_or (j ∷ js) i nothing)
next_fine j js f a zero = f
next_fine j js f a (suc i) = a i

-- ---- The reply

-- the lines are numbered from k, and n words came before
abbrev pub Turned : ℕ → ℕ → List Judged → Type 0
Turned k n js = (i : ℕ) × (r : ℕ) × FirstBad js i r × (reply_from k n js ≡ text_refused (k + i) r)

abbrev pub Counted : ℕ → ℕ → List Judged → Type 0
Counted k n js = ((i : ℕ) → Fine (get_or js i nothing)) × (reply_from k n js ≡ words (n + length (words_of js)))

onward :
    (j : Judged) (js : List Judged) (k n m : ℕ) → Fine j → reply_from k n (j ∷ js) ≡ reply_from (suc k) m js
    → n + length (words_of (j ∷ js)) ≡ m + length (words_of js)
    → Turned (suc k) m js ⊎ Counted (suc k) m js → Turned k n (j ∷ js) ⊎ Counted k n (j ∷ js)
onward j js k n m f e c (inl t) =
    let (i, r, b, q) = t in
    let s : suc k + i ≡ k + suc i = omega arith in
    inl (suc i, r, next_bad j js i r f b, e ∙ q ∙ ap (λ (x : ℕ). text_refused x r) s)
onward j js k n m f e c (inr t) = inr (next_fine j js f t.0, e ∙ t.1 ∙ ap words (sym c))

pub replied : (k n : ℕ) (js : List Judged) → Turned k n js ⊎ Counted k n js
unfolding reply_from words_of
replied k n [] = let e : n ≡ n + 0 = omega arith in inr (λ i. tt, ap words e)
replied k n (bad r ∷ js) =
    let e : k ≡ k + 0 = omega arith in
    inl (0, r, record { inside = omega arith; there = refl; before = λ j h. absurd (omega arith) }, ap (λ (x : ℕ). text_refused x r) e)
replied k n (nothing ∷ js) = onward nothing js k n n tt refl refl (replied (suc k) n js)
replied k n (gives w ∷ js) = onward (gives w) js k n (suc n) tt refl (omega arith) (replied (suc k) (suc n) js)

-- ---- What comes of line k

module _ (names : List Label) where
  pub verdict_at_lem :
      (p : Place) (ls : List (ReadLine Tree)) (k : ℕ) → k < length ls
      → get_or (verdicts names p ls) k nothing
      ≡ judged (place_of k p ls) (valued (value_of (operand_value names)) (admitted (place_of k p ls) (get_or ls k outside)))
  unfolding verdicts place_of
  verdict_at_lem p [] k h = absurd (omega arith)
  verdict_at_lem p (l ∷ ls) zero h = refl
  verdict_at_lem p (l ∷ ls) (suc k) h = verdict_at_lem (after p (admitted p l)) ls k (omega arith)

  pub verdicts_length : (p : Place) (ls : List (ReadLine Tree)) → length (verdicts names p ls) ≡ length ls
  unfolding verdicts
  verdicts_length p [] = refl
  verdicts_length p (l ∷ ls) = ap suc (verdicts_length (after p (admitted p l)) ls)
