-- Line k of a listing.
-- Assumes nothing.
use Prim.Native.Nat.{ℕ, zero, suc, ◌+◌, ◌*◌, ◌/◌, ◌%◌, ◌<◌, ◌≤◌}
use mathlib.Core.Bool.{Bool, true, false}
use mathlib.Core.Path.{◌≡◌, refl, sym, ap, ◌∙◌}
use mathlib.Core.Logic.{inl, inr}
use mathlib.Core.List.{List, [], ◌∷◌}
use native.Mathlib.Omega.{arith}
use borrow.Author.Tests.{lt-leb, le-leb}
use lib.Dec.{leb}
use lib.ListN.{length, get_or, take, drop, get_or-append, length-drop}
use lib.Seq.{length-take-le, get_or-take, get_or-drop}
use Rattle.std.specs.Prelude.{Option}
use Rattle.std.specs.declared.option.Option.TheVariants.{None, Some}
use Rattle.std.proofs.lemmas.Option.{slice_get-get_or, slice_get_past, slice_get_cases}
use Rattle.refusal.specs.Refusals.{Verdict, accepted, refused}
use Rattle.word.specs.Word.{pick}
use Rattle.machine.specs.Machine.{word_at}
use Rattle.image.specs.declared.Part.{Part}
use Rattle.machine.specs.declared.Board.TheVariants.{TwoMemories}
use Rattle.image.specs.Image.{W, memory_of, file_reply}
use Rattle.image.specs.Parts.{program_part, ReadAs}
use Rattle.image.specs.Parts.{Placeable}
use Rattle.image.proofs.Fits.{file_fits}
use Rattle.report.specs.Printed.{refused_line}
use Rattle.listing.specs.Listing.{line_text}
use Rattle.listing.specs.File.{program_word, lines_from, word_lines, listing_by, listing, listed_line}

-- ---- Any listing

module _ (lines : List (List ℕ)) {k : ℕ} where
  line_there_lem : {l text : List ℕ} → k < length lines → get_or lines k [] ≡ l → text ≡ l → Some text ≡ listed_line lines k
  line_there_lem h e p = ap Some (p ∙ sym e) ∙ sym (slice_get-get_or lines k [] h)

  past_the_end : length lines ≤ k → None ≡ listed_line lines k
  past_the_end h = sym (slice_get_past lines k h)

-- ---- A refusal's line alone

module _ (l : List ℕ) {k : ℕ} where
  pub first_line_lem : {text : List ℕ} → k ≡ 0 → text ≡ l → Some text ≡ listed_line (l ∷ []) k
  first_line_lem e p = rw e (ap Some p)

  pub no_other_line : (k ≡ 0 → ⊥) → None ≡ listed_line (l ∷ []) k
  no_other_line n = past_the_end (l ∷ []) {k = k} (omega arith)

-- ---- The lines of the words

lines_length : (file : List ℕ) (k n : ℕ) → length (lines_from file k n) ≡ n
unfolding lines_from
lines_length file k zero = refl
lines_length file k (suc n) = ap suc (lines_length file (suc k) n)

lines_at : (file : List ℕ) (k n i : ℕ) → i < n → get_or (lines_from file k n) i [] ≡ line_text (2 * (k + i)) (program_word file (k + i))
unfolding lines_from
lines_at file k zero i h = absurd (omega arith)
lines_at file k (suc n) zero h = ap (λ j. line_text (2 * j) (program_word file j)) (omega arith)
lines_at file k (suc n) (suc i) h =
    lines_at file (suc k) n i (omega arith) ∙ ap (λ j. line_text (2 * j) (program_word file j)) (omega arith)

line_is_word : (file : List ℕ) (k : ℕ) → k < W file → get_or (word_lines file) k [] ≡ line_text (2 * k) (program_word file k)
line_is_word file k h = lines_at file 0 (W file) k h ∙ ap (λ j. line_text (2 * j) (program_word file j)) (omega arith)

-- ---- A word of the program part

module _ (file : List ℕ) (offset count : ℕ) (inside : offset + count ≤ length file) where
  byte_at : (j : ℕ) → j < count → get_or (memory_of file offset count) j 0 ≡ get_or file (offset + j) 0
  byte_at j h =
      let n : length (take count (drop offset file)) ≡ count = length-take-le _ _ (rw length-drop (omega arith)) in
      get_or-append (take count (drop offset file)) _ 0 j (rw n h) ∙ get_or-take count (drop offset file) j 0 h ∙ get_or-drop offset file j 0

  word_at_lem : (k : ℕ) → 2 * k + 1 < count → count ≤ 65536
      → get_or file (offset + 2 * k) 0 + 256 * get_or file (offset + 2 * k + 1) 0 ≡ word_at (memory_of file offset count) (2 * k)
  word_at_lem k h few =
      let e : (2 * k + 1) % 65536 ≡ 2 * k + 1 = omega arith in
      let a : offset + 2 * k + 1 ≡ offset + (2 * k + 1) = omega arith in
      rw (e, byte_at (2 * k) (omega arith), byte_at (2 * k + 1) h, a)

-- ---- A file that load takes

module _ (file : List ℕ) {k : ℕ} {read : Part} (r : ReadAs (program_part file) read) where
  pub no_word : read.count / 2 ≤ k → None ≡ listed_line (word_lines file) k
  no_word h = past_the_end (word_lines file) {k = k} (rw lines_length (omega (arith, r.count)))

  module _ (f : Placeable file) (h : k < read.count / 2) where
    pub word_inside : read.offset + 2 * k + 1 < length file
    word_inside = omega (arith, f.program, r.offset, r.count)

    pub address_fits : 2 * k < 65536
    address_fits = omega (arith, f.program, r.count)

    pub word_there : {w : ℕ} {text : List ℕ} → w ≡ get_or file (read.offset + 2 * k) 0 + 256 * get_or file (read.offset + 2 * k + 1) 0
        → text ≡ line_text (2 * k) w → Some text ≡ listed_line (word_lines file) k
    word_there {w} e p =
        let few : k < W file = omega (arith, r.count) in
        let is : w ≡ program_word file k =
        e ∙ rw r.offset (word_at_lem file _ _ f.program.inside_file k (omega arith) f.program.inside_memory)
        in
        line_there_lem (word_lines file) {k = k} (rw lines_length few) (line_is_word file k few) (p ∙ ap (line_text (2 * k)) is)

-- ---- Any file

module _ (file : List ℕ) (k : ℕ) {r : Option (List ℕ)} where
  pub too_long : 65536 < length file → r ≡ listed_line (refused_line 8 ∷ []) k → r ≡ listed_line (listing file) k
  unfolding listing
  too_long h e = rw (lt-leb (length file) 65536 h) e

  pub by_reply : {x : Verdict} → length file ≤ 65536 → x ≡ file_reply file TwoMemories → r ≡ listed_line (listing_by x file) k → r ≡ listed_line (listing file) k
  unfolding listing
  by_reply h e p = rw (le-leb (length file) 65536 h, ← e) p

-- ---- What a program that prints the lines needs

listing_short : (file : List ℕ) → length (listing file) ≤ 65536
unfolding listing
listing_short file = go (leb (length file) 65536) (file_reply file TwoMemories) refl
  where
    go : (b : Bool) (x : Verdict) → x ≡ file_reply file TwoMemories → length (pick b (listing_by x file) (refused_line 8 ∷ [])) ≤ 65536
    go true accepted e = rw lines_length (omega (arith, (file_fits file TwoMemories e).0.program.inside_memory))
    go true (refused q) e = omega arith
    go false x e = omega arith

module _ (file : List ℕ) (k : ℕ) {text : List ℕ} (e : Some text ≡ listed_line (listing file) k) where
  pub still_there : k < length (listing file)
  still_there = elim (slice_get_cases (listing file) k).1 [ inl h ↦ h.1 | inr h ↦ cc ]

  pub few_lines : k < 65536
  few_lines = omega (arith, still_there, listing_short file)
