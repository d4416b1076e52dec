-- Numbers as text. A text is the list of its bytes.
use Rattle.std.specs.Prelude.{ℕ, zero, suc, ◌+◌, ◌-◌, ◌/◌, ◌%◌, true, false, List, [], ◌∷◌, ◌++◌, ltb}
use Rattle.word.specs.Word.{pick}
use Rattle.token.specs.Ascii.{byte}

-- ---- Numbers

-- a digit, capitals: 0 to 9, then A to F
unfoldable pub digit : ℕ → ℕ
digit d = pick (ltb d 10) (byte "0" + d) (byte "A" + (d - 10))

-- n in decimal, in at most so many digits: one, or those of n / 10 and then the last. n + 1 digits are always enough (`decimal_is`
-- of proofs/Decimal.antt).
unfoldable pub digits : ℕ → ℕ → List ℕ
digits zero n = []
digits (suc most) n = elim (ltb n 10) [ true ↦ digit n ∷ [] | false ↦ digits most (n / 10) ++ (digit (n % 10) ∷ []) ]

unfoldable pub decimal : ℕ → List ℕ
decimal n = digits (n + 1) n

-- Value, PC and registers are four hexadecimal digits, capitals.
unfoldable pub hex4 : ℕ → List ℕ
hex4 v = digit (v / 4096) ∷ digit (v / 256 % 16) ∷ digit (v / 16 % 16) ∷ digit (v % 16) ∷ []

-- ---- Texts

-- the texts of the elements, one after another
unfoldable pub each : (ℕ → List ℕ) → List ℕ → List ℕ
each text [] = []
each text (x ∷ xs) = text x ++ each text xs
