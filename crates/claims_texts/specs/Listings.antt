-- A whole listing (02, L4): what the program `panellist` writes, which asks for line after line, from 0 on, until there is none.
use Rattle.std.specs.Prelude.{ℕ, zero, suc, ◌≤◌, ◌≡◌, length, Option, None, Some}
use mathlib.Core.List.{List, [], ◌++◌, flatten}
use Rattle.listing.specs.File.{listing, listed_line}

-- the lines from k on, in at most so many turns
unfoldable pub written_from : (ℕ → Option (List ℕ)) → ℕ → ℕ → List ℕ
written_from line k zero = []
written_from line k (suc turns) = elim (line k) [ Some text ↦ text ++ written_from line (suc k) turns | None ↦ [] ]

pub record Listings : Type 0 where
  -- where each line is what `line_at` promises, the lines of the listing are written, each once and in order, and no others
  pub whole :
      (file : List ℕ) (line : ℕ → Option (List ℕ)) → ((k : ℕ) → line k ≡ listed_line (listing file) k)
      → (turns : ℕ) → length (listing file) ≤ turns → written_from line 0 turns ≡ flatten (listing file)
