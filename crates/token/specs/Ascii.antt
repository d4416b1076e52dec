-- Characters and words of a text. A text is the list of its bytes.
use Rattle.std.specs.Prelude.{ℕ, List, [], ◌∷◌}
use Prim.Native.Char.{Char, code}
use Prim.Native.String.{String, [] as none, ◌∷◌ as ◌before◌}

-- the ASCII code of a character
abbrev pub byte : Char → ℕ
byte c = code c

-- the ASCII codes of a word
abbrev pub ascii : String → List ℕ
ascii none = []
ascii (c before s) = byte c ∷ ascii s
