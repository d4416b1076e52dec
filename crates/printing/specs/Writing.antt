-- A text with more bytes written after it: what the functions that write promise.
use Rattle.std.specs.Prelude.{ℕ, ◌-◌, ◌≤◌, ◌≡◌, List, ◌++◌, length, take}

-- r is t with the text written after it, as far as there is room; the text has at most so many bytes
pub record Wrote (most : ℕ) (text t r : List ℕ) : Type 0 where
  pub written : r ≡ t ++ take (4096 - length t) text
  pub short : length text ≤ most
