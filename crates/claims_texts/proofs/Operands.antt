-- The operand for an instruction's number n: its text is an expression, whose value makes n again. All numbers are tried, and a
-- branch's target at one address: the distance to it is the same at every other.
-- Assumes nothing.
use Prim.Native.Nat.{ℕ, suc, ◌+◌, ◌-◌, ◌*◌, ◌/◌, ◌%◌, ◌<◌}
use mathlib.Core.Bool.{Bool, true, false, not}
use mathlib.Core.Path.{◌≡◌, refl, sym, ap, ◌∙◌}
use mathlib.Core.List.{List, [], ◌∷◌, ◌++◌}
use native.Mathlib.Nat.{mod-lt, mod-add-mod, add-mod_right}
use native.Mathlib.Omega.{arith}
use lib.Dec.{T, eqb, eqb→eq}
use lib.IntN.{ℤ, pos, negsuc}
use lib.ListN.{get_or}
use borrow.Author.Tests.{lt-ltb}
use Rattle.word.specs.Word.{subtract, signed, low_bits}
use Rattle.word.proofs.Tests.{is_true}
use Rattle.word.proofs.Computed.{both, both_split, all, all_at}
use Rattle.token.specs.Ascii.{ascii}
use Rattle.token.specs.Tokens.{Token, between, is_digit, is_letter, is_letter_or_digit}
use Rattle.printing.specs.Text.{digit, digits, decimal, hex4}
use Rattle.expression.specs.declared.Value.{Value}
use Rattle.expression.specs.Operands.{digit_of, all_digits, numeral, hexed, is_literal, literal_word, is_operand, operand_value, negated}
use Rattle.expression.specs.Grammar.{Tree, operand, negation, value_of, Expression, single, unary_minus, tighter}
use Rattle.statement.specs.Syntax.{Field, number, eight_bits, target}
use Rattle.encoding.specs.Words.{distance, odd, number_of}
use Rattle.listing.specs.Listing.{number_text, word_text, target_of, operand_text}
use Rattle.claims_texts.proofs.Joined.{is_false, row_test, word_test, plain, dividing, Parted, Text, wider, word_before_lem, mark_before}

-- ---- Literals

-- the token t is a literal of value v
record Literal (t : Token) (v : ℕ) : Type 0 where
  token : T (plain t)
  first : is_digit (get_or t 0 0) ≡ true
  is : is_operand t ≡ true
  value : literal_word t ≡ v

-- x in decimal
decimal_test : ℕ → Bool
decimal_test x = both (plain (decimal x)) (both (is_digit (get_or (decimal x) 0 0)) (both (is_operand (decimal x)) (eqb (literal_word (decimal x)) x)))

decimal_literal : (x : ℕ) → x < 257 → Literal (decimal x) x
unfolding all decimal_test plain row_test word_test is_digit is_letter_or_digit is_letter between decimal digits digit is_operand is_literal hexed all_digits digit_of literal_word numeral
decimal_literal x h =
    let (p, q) = both_split (plain (decimal x)) _ (all_at 257 decimal_test tt x h) in
    let (d, r) = both_split (is_digit (get_or (decimal x) 0 0)) _ q in
    let (o, e) = both_split (is_operand (decimal x)) _ r in
    record { token = p; first = is_true _ d; is = is_true _ o; value = eqb→eq _ _ e }

-- a hexadecimal digit
hex_test : ℕ → Bool
hex_test d = both (is_letter_or_digit (digit d)) (eqb (digit_of (digit d)) d)

hex_digit : (d : ℕ) → d < 16 → (is_letter_or_digit (digit d) ≡ true) × (digit_of (digit d) ≡ d)
unfolding all hex_test is_digit is_letter_or_digit is_letter between digit digit_of
hex_digit d h =
    let (l, e) = both_split (is_letter_or_digit (digit d)) _ (all_at 16 hex_test tt d h) in
    (is_true _ l, eqb→eq _ _ e)

-- four of them
hex_literal : (v x y z w : ℕ) → x < 16 → y < 16 → z < 16 → w < 16 → v < 65536 → ((x * 16 + y) * 16 + z) * 16 + w ≡ v
    → Literal (ascii "0x" ++ (digit x ∷ digit y ∷ digit z ∷ digit w ∷ [])) v
unfolding plain row_test word_test is_digit is_letter_or_digit is_letter between is_operand is_literal hexed all_digits literal_word numeral
hex_literal v x y z w hx hy hz hw h e =
    let (lx, dx) = hex_digit x hx in
    let (ly, dy) = hex_digit y hy in
    let (lz, dz) = hex_digit z hz in
    let (lw, dw) = hex_digit w hw in
    record {
      token = rw (lx, ly, lz, lw) tt;
      first = refl;
      is = rw (dx, dy, dz, dw, lt-ltb x 16 hx, lt-ltb y 16 hy, lt-ltb z 16 hz, lt-ltb w 16 hw);
      value = rw (dx, dy, dz, dw) (omega arith);
    }

word_literal : (v : ℕ) → v < 65536 → Literal (word_text v) v
unfolding hex4
word_literal v h =
    hex_literal v (v / 4096) (v / 256 % 16) (v / 16 % 16) (v % 16) (omega arith) (omega arith) (omega arith) (omega arith) h (omega arith)

-- ---- Expressions

abbrev known : ℕ → Value
known v = record { word = v; known = true }

-- what an expression without names is worth
abbrev pub worth : Tree → Value
worth t = value_of (operand_value []) t

-- the text s is an expression of value v, wherever it stands
pub record Means (s : List ℕ) (v : ℕ) : Type 0 where
  pub tokens : List Token
  pub tree : Tree
  pub before : {most : ℕ} {r : List ℕ} {ts : List Token} → Parted r → Text most r ts → Text (most + 40) (s ++ r) (tokens ++ ts)
  pub read : Expression 16 5 tokens tree
  pub value : worth tree ≡ known v

any_rank : {ts : List Token} {t : Tree} → Expression 16 0 ts t → Expression 16 5 ts t
any_rank e = tighter (tighter (tighter (tighter (tighter e))))

literal_means : (t : Token) (v : ℕ) → Literal t v → Means t v
unfolding value_of operand_value
literal_means t v l =
    record {
      tokens = t ∷ [];
      tree = operand t;
      before = λ p x. wider (omega arith) (word_before_lem t l.token p x);
      read = any_rank (single l.is);
      value = rw l.first (ap known l.value);
    }

negative_means : (t : Token) (v : ℕ) → Literal t v → Means (45 ∷ t) (subtract 0 v)
unfolding value_of negated operand_value dividing is_letter_or_digit is_letter is_digit between
negative_means t v l =
    record {
      tokens = ascii "-" ∷ t ∷ [];
      tree = negation (operand t);
      before = λ p x. wider (omega arith) (mark_before 45 tt (word_before_lem t l.token p x));
      read = any_rank (unary_minus (single l.is));
      value = rw l.first (ap (λ (v : ℕ). known (subtract 0 v)) l.value);
    }

pub word_means : (v : ℕ) → v < 65536 → Means (word_text v) v
word_means v h = literal_means (word_text v) v (word_literal v h)

-- ---- Every number of a field

-- n is below the limit and not below -128
abbrev pub Near : ℕ → ℤ → Type 0
Near limit (pos x) = x < limit
Near limit (negsuc y) = y < 128

abbrev pub limit : Field → ℕ
limit number = 256
limit eight_bits = 128
limit target = 128

abbrev number_value : ℤ → ℕ
number_value (pos x) = x
number_value (negsuc y) = subtract 0 (suc y)

-- the value of the operand
abbrev pub value_in : ℕ → Field → ℤ → ℕ
value_in address number n = number_value n
value_in address eight_bits n = number_value n
value_in address target n = target_of address n

number_means : (most : ℕ) (n : ℤ) → Near most n → most < 257 → Means (number_text n) (number_value n)
number_means most (pos x) h l = literal_means (decimal x) x (decimal_literal x (omega arith))
number_means most (negsuc y) h l = negative_means (decimal (suc y)) (suc y) (decimal_literal (suc y) (omega arith))

pub operand_means : (address : ℕ) (f : Field) (n : ℤ) → Near (limit f) n → Means (operand_text address f n) (value_in address f n)
operand_means address number n h = number_means 256 n h (omega arith)
operand_means address eight_bits n h = number_means 128 n h (omega arith)
operand_means address target n h = word_means (target_of address n) (mod-lt _ (omega arith))

near_all : (most : ℕ) (f : ℤ → Bool) → T (all most (λ x. f (pos x))) → T (all 128 (λ y. f (negsuc y))) → (n : ℤ) → Near most n → T (f n)
near_all most f p q (pos x) h = all_at most (λ x. f (pos x)) p x h
near_all most f p q (negsuc y) h = all_at 128 (λ y. f (negsuc y)) q y h

same : ℤ → ℤ → Bool
same (pos x) (pos y) = eqb x y
same (pos x) (negsuc y) = false
same (negsuc x) (pos y) = false
same (negsuc x) (negsuc y) = eqb x y

same_is : (m n : ℤ) → T (same m n) → m ≡ n
unfolding same
same_is (pos x) (pos y) h = ap pos (eqb→eq x y h)
same_is (pos x) (negsuc y) h = absurd h
same_is (negsuc x) (pos y) h = absurd h
same_is (negsuc x) (negsuc y) h = ap negsuc (eqb→eq x y h)

-- the value gives n, at address 0
good : Field → ℤ → Bool
good f n = both (not (odd f 0 (value_in 0 f n))) (same (number_of f 0 (value_in 0 f n)) n)

all_good : (f : Field) (n : ℤ) → Near (limit f) n → T (good f n)
unfolding all good same between odd number_of distance signed low_bits
all_good number n h = near_all 256 (good number) tt tt n h
all_good eight_bits n h = near_all 128 (good eight_bits) tt tt n h
all_good target n h = near_all 128 (good target) tt tt n h

-- the value v makes n
abbrev Makes : ℕ → Field → ℤ → ℕ → Type 0
Makes address f n v = (odd f address v ≡ false) × (number_of f address v ≡ n)

good_makes : (f : Field) (n : ℤ) → Near (limit f) n → Makes 0 f n (value_in 0 f n)
unfolding good
good_makes f n h =
    let (o, e) = both_split (not (odd f 0 (value_in 0 f n))) _ (all_good f n h) in
    (is_false _ o, same_is _ _ e)

-- back from a target
back : (s m : ℕ) → s < 65536 → subtract ((s + m) % 65536) s ≡ m % 65536
back s m h =
    let e : s + m + (65536 - s) ≡ m + 65536 = omega arith in
    mod-add-mod (s + m) 65536 (65536 - s) ∙ ap (λ (x : ℕ). x % 65536) e ∙ add-mod_right m 65536

distance_is : (address : ℕ) (n : ℤ) → distance address (target_of address n) ≡ low_bits 16 n * 2 % 65536
unfolding distance
distance_is address n = back ((address + 2) % 65536) (low_bits 16 n * 2) (mod-lt _ (omega arith))

distance_same : (address : ℕ) (n : ℤ) → distance address (target_of address n) ≡ distance 0 (target_of 0 n)
distance_same address n = distance_is address n ∙ sym (distance_is 0 n)

makes : (address : ℕ) (f : Field) (n : ℤ) → Near (limit f) n → Makes address f n (value_in address f n)
unfolding odd number_of
makes address number n h = good_makes number n h
makes address eight_bits n h = good_makes eight_bits n h
makes address target n h = rw (distance_same address n) (good_makes target n h)

-- ---- Trees

-- the tree stands for n: its value is known, and makes n
abbrev pub Stands : ℕ → Field → ℤ → Tree → Type 0
Stands address f n t = ((worth t).known ≡ true) × (odd f address (worth t).word ≡ false) × (number_of f address (worth t).word ≡ n)

stands : (address : ℕ) (f : Field) (n : ℤ) (t : Tree) (v : ℕ) → worth t ≡ known v → Makes address f n v → Stands address f n t
stands address f n t v e m = (rw e, rw e m.0, rw e m.1)

pub operand_stands : (address : ℕ) (f : Field) (n : ℤ) (h : Near (limit f) n) → Stands address f n (operand_means address f n h).tree
operand_stands address f n h = stands address f n _ (value_in address f n) (operand_means address f n h).value (makes address f n h)

-- where no operand stands, n is 0
pub blank_stands : (address : ℕ) → Stands address number (pos 0) (operand (ascii "0"))
unfolding value_of operand_value literal_word hexed numeral digit_of is_digit between odd number_of signed
blank_stands address = stands address number (pos 0) (operand (ascii "0")) 0 refl (refl, refl)
