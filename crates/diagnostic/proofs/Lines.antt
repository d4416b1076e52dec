-- The lines of a text are the parts between its newlines; and the line under the message.
-- Assumes nothing.
use Prim.Native.Nat.{ℕ, suc, ◌-◌, ◌*◌, ◌≤◌}
use mathlib.Core.Path.{◌≡◌, refl, sym, ap, ◌∙◌}
use mathlib.Core.Bool.{Bool, true, false, cond}
use mathlib.Core.List.{List, [], ◌∷◌, ◌++◌, map}
use native.Mathlib.Omega.{arith}
use lib.Dec.{eqb}
use lib.ListN.{length, get_or, take, length-take}
use Rattle.std.specs.List.{slice_split, onto_first}
use Rattle.word.specs.Word.{pick}
use Rattle.token.specs.Ascii.{ascii}
use Rattle.printing.specs.Text.{each}
use Rattle.printing.specs.Writing.{Wrote}
use Rattle.printing.proofs.Writing.{wrote_nothing, at_most}
use Rattle.assembler.specs.Text.{longer, lines}
use Rattle.assembler.proofs.LineEnds.{first_and_more}
use Rattle.diagnostic.specs.Diagnostic.{shown_byte, shown_line, source}

module _ (b : ℕ) (s : List ℕ) (e : lines s ≡ slice_split (λ b. eqb b 10) s) where
  longer_is : longer b (lines s) ≡ onto_first b (slice_split (λ b. eqb b 10) s)
  unfolding longer
  longer_is = ap (longer b) (first_and_more s) ∙ sym (ap (onto_first b) (first_and_more s)) ∙ ap (onto_first b) e

  by_test : (t : Bool) → pick t ([] ∷ lines s) (longer b (lines s)) ≡ cond t ([] ∷ slice_split (λ b. eqb b 10) s) (onto_first b (slice_split (λ b. eqb b 10) s))
  by_test true = ap (λ l. [] ∷ l) e
  by_test false = longer_is

pub lines_are : (s : List ℕ) → lines s ≡ slice_split (λ b. eqb b 10) s
unfolding lines
lines_are [] = refl
lines_are (b ∷ s) = by_test b s (lines_are s) (eqb b 10)

each_byte : (l : List ℕ) → each (λ b. shown_byte b ∷ []) l ≡ map shown_byte l
unfolding each
each_byte [] = refl
each_byte (b ∷ l) = ap (λ k. shown_byte b ∷ k) (each_byte l)

-- the first 200 bytes of a line, as they are shown
pub line_is : (l : List ℕ) {t r : List ℕ} → Wrote (1 * length (take 200 l)) (each (λ b. shown_byte b ∷ []) (take 200 l)) t r → Wrote 200 (shown_line l) t r
line_is l w =
    let m : 1 * length (take 200 l) ≤ 200 = rw length-take (omega arith) in
    at_most m (rw (each_byte (take 200 l)) at w)

pub no_source : (text : List ℕ) {line : ℕ} {t : List ℕ} → line ≡ 0 → Wrote 205 (source text line) t t
unfolding source
no_source text e = rw e wrote_nothing

pub source_is : (text : List ℕ) {l : List ℕ} {line : ℕ} {t r : List ℕ} → (line ≡ 0 → ⊥) → l ≡ get_or (lines text) (line - 1) []
    → Wrote 205 (ascii "    " ++ shown_line l ++ ascii "\n") t r → Wrote 205 (source text line) t r
unfolding source
source_is text {line} z e w =
    let m : line ≡ suc (line - 1) = omega arith in
    rw m (rw e at w)
