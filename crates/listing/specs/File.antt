-- The listing of a trim file: the lines that `panellist` prints for it.
use Rattle.std.specs.Prelude.{ℕ, zero, suc, ◌*◌, List, [], ◌∷◌, leb, length, slice_get, Option}
use Rattle.refusal.specs.Refusals.{Verdict, accepted, refused}
use Rattle.word.specs.Word.{pick}
use Rattle.machine.specs.Machine.{word_at}
use Rattle.machine.specs.declared.Board.TheVariants.{TwoMemories}
use Rattle.image.specs.Image.{W, program_offset, memory_of, file_reply}
use Rattle.report.specs.Printed.{refused_line}
use Rattle.listing.specs.Listing.{line_text}

-- word k of the program memory that a load of the file leaves
abbrev pub program_word : List ℕ → ℕ → ℕ
program_word file k = word_at (memory_of file (program_offset file) (2 * W file)) (2 * k)

-- the lines of n words from word k on; a word has two addresses
unfoldable pub lines_from : List ℕ → ℕ → ℕ → List (List ℕ)
lines_from file k zero = []
lines_from file k (suc n) = line_text (2 * k) (program_word file k) ∷ lines_from file (suc k) n

-- a line for each of the W program words that the file has, in order
abbrev pub word_lines : List ℕ → List (List ℕ)
word_lines file = lines_from file 0 (W file)

abbrev pub listing_by : Verdict → List ℕ → List (List ℕ)
listing_by accepted file = word_lines file
listing_by (refused number) file = refused_line number ∷ []

-- A refusal is the one line that `panelrun` prints: 8 for a file over 65,536 bytes, then load's.
unfoldable pub listing : List ℕ → List (List ℕ)
listing file = pick (leb (length file) 65536) (listing_by (file_reply file TwoMemories) file) (refused_line 8 ∷ [])

-- line k, from 0, or none past the end
abbrev pub listed_line : List (List ℕ) → ℕ → Option (List ℕ)
listed_line lines k = slice_get lines k
