-- The tokens of a line of text (02, L2, which calls them marks). A line is the list of its bytes, without the newline.
use Rattle.std.specs.Prelude.{ℕ, Bool, true, false, ◌≡◌, List, [], ◌∷◌, ◌++◌, leb}
use Rattle.word.specs.Word.{pick}
use Rattle.token.specs.Ascii.{byte, ascii}

abbrev pub Token : Type 0
Token = List ℕ

-- the byte b is one from low to high
unfoldable pub between : ℕ → ℕ → ℕ → Bool
between low high b = pick (leb low b) (leb b high) false

unfoldable pub is_digit : ℕ → Bool
is_digit b = between (byte "0") (byte "9") b

unfoldable pub is_letter : ℕ → Bool
is_letter b = pick (between (byte "A") (byte "Z") b) true (between (byte "a") (byte "z") b)

unfoldable pub is_letter_or_digit : ℕ → Bool
is_letter_or_digit b = pick (is_digit b) true (is_letter b)

-- letters and digits in a row
pub data Alphanumeric : Token → Type 0 where
  last : {b : ℕ} → is_letter_or_digit b ≡ true → Alphanumeric (b ∷ [])
  then : {b : ℕ} {t : Token} → is_letter_or_digit b ≡ true → Alphanumeric t → Alphanumeric (b ∷ t)

-- What a token is.
pub data IsToken : Token → Type 0 where
  -- letters and digits in a row are one token,
  alphanumeric : {t : Token} → Alphanumeric t → IsToken t
  -- and so they are with a point before;
  pointed : {t : Token} → Alphanumeric t → IsToken (byte "." ∷ t)
  -- so is `<<`;
  shift : IsToken (ascii "<<")
  -- any other byte but the space is a token of its own.
  single : {b : ℕ} → is_letter_or_digit b ≡ false → (b ≡ byte " " → ⊥) → IsToken (b ∷ [])

-- the token t is the longest that begins there: the byte that follows would not make it a longer one
abbrev pub Longest : Token → List ℕ → Type 0
Longest t [] = Unit
Longest t (b ∷ s) = IsToken (t ++ (b ∷ [])) → ⊥

-- `Divided s ts`: the line s has the tokens ts. Spaces may stand anywhere outside tokens.
pub data Divided : List ℕ → List Token → Type 0 where
  end : Divided [] []
  space : {s : List ℕ} {ts : List Token} → Divided s ts → Divided (byte " " ∷ s) ts
  token : {s : List ℕ} {ts : List Token} (t : Token) → IsToken t → Longest t s → Divided s ts → Divided (t ++ s) (t ∷ ts)
