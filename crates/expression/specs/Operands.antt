-- The operands and operators of an expression (02, L2), and their values, which are modulo 65,536.
use Rattle.std.specs.Prelude.{ℕ, ◌+◌, ◌-◌, ◌*◌, ◌%◌, ◌^◌, Bool, true, false, ◌&&◌, List, [], ◌∷◌, length, drop, ◌==◌, bit_and, bit_or, nat_le, nat_lt, slice_index}
use Rattle.word.specs.Word.{pick, add, subtract}
use Rattle.token.specs.Ascii.{byte, ascii}
use Rattle.token.specs.Tokens.{Token, between, is_digit, is_letter}
use Rattle.token.specs.Scan.{alike}
use Rattle.expression.specs.declared.Value.{Value}

-- ---- Literals: decimal, or 0x and digits of either case

-- 0 to 15 for a digit, 16 for no digit
unfoldable pub digit_of : ℕ → ℕ
digit_of b =
    pick (between (byte "0") (byte "9") b) (b - byte "0")
    (pick (between (byte "A") (byte "F") b) (b - byte "A" + 10)
    (pick (between (byte "a") (byte "f") b) (b - byte "a" + 10)
    16))

unfoldable pub all_digits : ℕ → List ℕ → Bool
all_digits base [] = true
all_digits base (b ∷ w) = pick (nat_lt (digit_of b) base) (all_digits base w) false

-- the number that the digits w make after those of n
unfoldable pub numeral : ℕ → ℕ → List ℕ → ℕ
numeral base n [] = n
numeral base n (b ∷ w) = numeral base (n * base + digit_of b) w

-- 0x and at least one byte more
unfoldable pub hexed : Token → Bool
hexed w = pick (nat_lt 2 (length w)) (pick (slice_index w 0 == (byte "0")) (slice_index w 1 == (byte "x")) false) false

unfoldable pub is_literal : Token → Bool
is_literal w = pick (hexed w) (all_digits 16 (drop 2 w)) (all_digits 10 w)

-- Literals are reduced too.
unfoldable pub literal_word : Token → ℕ
literal_word w = pick (hexed w) (numeral 16 0 (drop 2 w) % 65536) (numeral 10 0 w % 65536)

-- ---- Names

-- 0 to 7 for R0 to R7, 8 for any other token
unfoldable pub register_of : Token → ℕ
register_of [] = 8
register_of (r ∷ []) = 8
register_of (r ∷ k ∷ []) = pick (r == (byte "R")) (pick (between (byte "0") (byte "7") k) (k - byte "0") 8) 8
register_of (r ∷ k ∷ b ∷ w) = 8

-- Names have 1 to 16 letters or digits, begin with a letter, aren't R0 to R7. (A token that begins with a letter has only
-- letters and digits.)
unfoldable pub is_name : Token → Bool
is_name w = pick (is_letter (slice_index w 0)) (pick (nat_le (length w) 16) (register_of w == 8) false) false

-- a name that a line gave, and its address
pub record Label : Type 0 where
  pub name : Token
  pub address : ℕ

-- the value of a name, if it was given: the address of the first label of that name, modulo 65,536 as every value
unfoldable pub name_value : List Label → Token → Value
name_value [] w = record { word = 0; known = false }
name_value (l ∷ ls) w = pick (alike w l.name) (record { word = l.address % 65536; known = true }) (name_value ls w)

-- ---- Operands: a token that begins with a digit is a literal or nothing, any other a name or nothing

unfoldable pub is_operand : Token → Bool
is_operand w = pick (is_digit (slice_index w 0)) (is_literal w) (is_name w)

unfoldable pub operand_value : List Label → Token → Value
operand_value names w = pick (is_digit (slice_index w 0)) (record { word = literal_word w; known = true }) (name_value names w)

-- ---- Operators

pub data Operator : Type 0 where
  times plus minus shift and or : Operator

-- how each is written
abbrev pub operator_text : Operator → Token
operator_text times = ascii "*"
operator_text plus = ascii "+"
operator_text minus = ascii "-"
operator_text shift = ascii "<<"
operator_text and = ascii "&"
operator_text or = ascii "|"

-- The ranks, tightest first, after unary minus: `*`, then `+` and `-`, `<<`, `&`, `|`.
unfoldable pub rank_of : Operator → ℕ
rank_of times = 1
rank_of plus = 2
rank_of minus = 2
rank_of shift = 3
rank_of and = 4
rank_of or = 5

-- A shift of 16 or more gives 0.
unfoldable pub shift_left : ℕ → ℕ → ℕ
shift_left x y = pick (nat_lt y 16) (x * 2 ^ y % 65536) 0

-- Every operator works modulo 65,536.
unfoldable pub operated_of : Operator → ℕ → ℕ → ℕ
operated_of times x y = x * y % 65536
operated_of plus x y = add x y
operated_of minus x y = subtract x y
operated_of shift x y = shift_left x y
operated_of and x y = bit_and x y
operated_of or x y = bit_or x y

-- a value is known where both operands are
unfoldable pub operated : Operator → Value → Value → Value
operated o x y = record { word = operated_of o x.word y.word; known = x.known && y.known }

unfoldable pub negated : Value → Value
negated x = record { word = subtract 0 x.word; known = x.known }
