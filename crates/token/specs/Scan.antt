-- The division into tokens as a function, and what the code's parts say of it: proofs/Division.antt shows that `tokens` is the
-- one division by the rule of Tokens. Definitions of the crates above use `tokens` and `alike`; the rest serves inner contracts.
use Rattle.std.specs.Prelude.{ℕ, ◌-◌, ◌<◌, ◌≤◌, Bool, true, false, ◌≡◌, List, [], ◌∷◌, ◌++◌, length, take, drop, get_or, eqb, ltb, Option, Some, None}
use Rattle.word.specs.Word.{pick}
use Rattle.token.specs.declared.Token.{Token as Found}
use Rattle.token.specs.declared.Symbol.{Symbol}
use Rattle.token.specs.declared.Symbol.TheVariants.{Byte, Shift, Row}
use Rattle.token.specs.Ascii.{byte}
use Rattle.token.specs.Tokens.{Token, is_letter_or_digit}

-- whether b goes on the token that begins with the byte c and has n bytes so far
unfoldable pub goes_on_at : ℕ → ℕ → ℕ → Bool
goes_on_at c n b =
    pick (is_letter_or_digit b) (pick (is_letter_or_digit c) true (eqb c (byte ".")))
    (pick (eqb b (byte "<")) (pick (eqb c (byte "<")) (eqb n 1) false) false)

unfoldable pub joins : Token → ℕ → Bool
joins [] b = false
joins (c ∷ t) b = goes_on_at c (length (c ∷ t)) b

-- the token that was being read, if any
unfoldable pub ended : Token → List Token
ended [] = []
ended (b ∷ t) = (b ∷ t) ∷ []

unfoldable pub begun : ℕ → Token
begun b = pick (eqb b (byte " ")) [] (b ∷ [])

-- t is the part already read of a token
unfoldable pub scan : Token → List ℕ → List Token
scan t [] = ended t
scan t (b ∷ s) = pick (joins t b) (scan (t ++ (b ∷ [])) s) (ended t ++ scan (begun b) s)

unfoldable pub tokens : List ℕ → List Token
tokens s = scan [] s

-- the line that a text begins with: its bytes before the first newline
unfoldable pub first_line : List ℕ → List ℕ
first_line [] = []
first_line (b ∷ s) = pick (eqb b (byte "\n")) [] (b ∷ first_line s)

-- the tokens from a position of a text to the end of its line
unfoldable pub tokens_at : List ℕ → ℕ → List Token
tokens_at text at = tokens (first_line (drop at text))

-- the number of a token: of a token of one byte the byte, 256 for `<<`, 257 for any other
unfoldable pub symbol_of : Token → ℕ
symbol_of [] = 257
symbol_of (b ∷ []) = pick (ltb b 256) b 257
symbol_of (b ∷ c ∷ []) = pick (eqb b (byte "<")) (pick (eqb c (byte "<")) 256 257) 257
symbol_of (b ∷ c ∷ d ∷ t) = 257

-- the bytes from start to end
abbrev pub part : ℕ → ℕ → List ℕ → List ℕ
part start end s = take (end - start) (drop start s)

-- whether two lists of bytes are alike
unfoldable pub alike : List ℕ → List ℕ → Bool
alike [] [] = true
alike [] (c ∷ u) = false
alike (b ∷ t) [] = false
alike (b ∷ t) (c ∷ u) = pick (eqb b c) (alike t u) false

-- what `after_spaces` says
pub record Skipped (s : List ℕ) (at r : ℕ) : Type 0 where
  pub same : tokens_at s at ≡ tokens_at s r
  pub solid : r < length s → get_or s r 0 ≡ byte " " → ⊥

-- what `token_end` says
pub record Ended (s : List ℕ) (start r : ℕ) : Type 0 where
  pub split : tokens_at s start ≡ part start r s ∷ tokens_at s r
  pub order : start < r
  pub inside : r ≤ length s

-- the number of the code's symbol
abbrev pub symbol_number : Symbol → ℕ
symbol_number (Byte b) = b
symbol_number Shift = 256
symbol_number Row = 257

-- what `token_at` says of a token that it finds
pub record At (s : List ℕ) (at : ℕ) (t : Found) : Type 0 where
  pub split : tokens_at s at ≡ t.word.now ∷ tokens_at s t.end
  pub number : symbol_number t.symbol ≡ symbol_of t.word.now
  pub bytes : t.word.now ≡ part (t.end - length t.word.now) t.end s
  pub some : 0 < length t.word.now
  pub before : length t.word.now ≤ t.end
  pub inside : t.end ≤ length s

abbrev pub TokenAt : List ℕ → ℕ → Option Found → Type 0
TokenAt s at None = tokens_at s at ≡ []
TokenAt s at (Some t) = At s at t
