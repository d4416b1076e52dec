-- A text of one line and its tokens: what may be put before it so that the division goes on.
-- Assumes nothing.
use Prim.Native.Nat.{ℕ, ◌+◌, ◌≤◌}
use mathlib.Core.Bool.{Bool, true, false, not}
use mathlib.Core.Path.{◌≡◌, refl, sym, ap, ◌∙◌}
use mathlib.Core.List.{List, [], ◌∷◌, ◌++◌, append-nil}
use native.Mathlib.Omega.{arith}
use lib.Dec.{T, eqb, leb, leb→le}
use lib.ListN.{length, length-append}
use borrow.Author.Tests.{ne_eqb, eqb-true, eqb-false}
use Rattle.word.specs.Word.{pick}
use Rattle.word.proofs.Tests.{never, is_true, either}
use Rattle.word.proofs.Computed.{both, both_split}
use Rattle.token.specs.Tokens.{Token, between, is_digit, is_letter, is_letter_or_digit, Alphanumeric, last, then, IsToken, alphanumeric, pointed, single, Divided, end, space, token}
use Rattle.token.specs.Scan.{goes_on_at, joins}
use Rattle.token.proofs.Scanning.{Over}
use Rattle.token.proofs.Division.{some_byte, over_longest}
use Rattle.assembler.specs.Text.{longer, lines}

pub is_false : (b : Bool) → T (not b) → b ≡ false
is_false true h = absurd h
is_false false h = refl

-- ---- Newlines

-- a newline stands there
unfoldable pub broken : List ℕ → Bool
broken [] = false
broken (b ∷ s) = pick (eqb b 10) true (broken s)

whole_append : (s t : List ℕ) → broken s ≡ false → broken t ≡ false → broken (s ++ t) ≡ false
unfolding broken
whole_append [] t e f = f
whole_append (b ∷ s) t e f = go (eqb b 10) refl (whole_append s t)
  where
    go : (x : Bool) → eqb b 10 ≡ x → (broken s ≡ false → broken t ≡ false → broken (s ++ t) ≡ false) → broken ((b ∷ s) ++ t) ≡ false
    go true q r = never (sym (rw q at e))
    go false q r = rw q (r (rw q at e) f)

joined_lines : (s t l : List ℕ) (ls : List (List ℕ)) → broken s ≡ false → lines t ≡ l ∷ ls → lines (s ++ t) ≡ (s ++ l) ∷ ls
unfolding lines longer broken
joined_lines [] t l ls e f = f
joined_lines (b ∷ s) t l ls e f = go (eqb b 10) refl (λ e. joined_lines s t l ls e f)
  where
    go : (x : Bool) → eqb b 10 ≡ x → (broken s ≡ false → lines (s ++ t) ≡ (s ++ l) ∷ ls) → lines ((b ∷ s) ++ t) ≡ ((b ∷ s) ++ l) ∷ ls
    go true q r = never (sym (rw q at e))
    go false q r = rw (q, r (rw q at e))

-- a text with no newline is one line, and the first where a newline follows
pub one_line : (s : List ℕ) → broken s ≡ false → lines s ≡ s ∷ []
unfolding lines
one_line s e = ap lines (sym (append-nil s)) ∙ joined_lines s [] [] [] e refl ∙ ap (λ (l : List ℕ). l ∷ []) (append-nil s)

pub first_line_lem : (s t : List ℕ) → broken s ≡ false → lines (s ++ (10 ∷ t)) ≡ s ∷ lines t
unfolding lines
first_line_lem s t e = joined_lines s (10 ∷ t) [] (lines t) e refl ∙ ap (λ (l : List ℕ). l ∷ lines t) (append-nil s)

-- ---- Tests of tokens

unfoldable pub row_test : Token → Bool
row_test [] = false
row_test (b ∷ []) = is_letter_or_digit b
row_test (b ∷ c ∷ t) = both (is_letter_or_digit b) (row_test (c ∷ t))

-- letters and digits, or a point and those
unfoldable pub word_test : Token → Bool
word_test [] = false
word_test (b ∷ t) = pick (eqb b 46) (row_test t) (row_test (b ∷ t))

-- and at most 20 bytes
unfoldable pub plain : Token → Bool
plain t = both (word_test t) (leb (length t) 20)

-- a byte that is a token whatever stands before or after it
unfoldable pub dividing : ℕ → Bool
dividing b = both (not (is_letter_or_digit b)) (both (not (eqb b 32)) (both (not (eqb b 46)) (both (not (eqb b 60)) (not (eqb b 10)))))

row_tested : (t : Token) → T (row_test t) → Alphanumeric t
unfolding row_test
row_tested [] h = absurd h
row_tested (b ∷ []) h = last (is_true (is_letter_or_digit b) h)
row_tested (b ∷ c ∷ t) h =
    let (x, y) = both_split (is_letter_or_digit b) (row_test (c ∷ t)) h in
    then (is_true (is_letter_or_digit b) x) (row_tested (c ∷ t) y)

no_newline : (b : ℕ) → is_letter_or_digit b ≡ true → eqb b 10 ≡ false
unfolding is_letter_or_digit is_digit is_letter between
no_newline b h = ne_eqb b 10 (λ e. never (ap is_letter_or_digit (sym e) ∙ h))

row_whole : {t : Token} → Alphanumeric t → broken t ≡ false
unfolding broken
row_whole (last {b} h) = rw (no_newline b h)
row_whole (then {b} h r) = rw (no_newline b h) (row_whole r)

word_tested : (t : Token) → T (word_test t) → IsToken t × (broken t ≡ false)
unfolding word_test broken
word_tested [] h = absurd h
word_tested (b ∷ t) h = go (eqb b 46) refl h
  where
    go : (x : Bool) → eqb b 46 ≡ x → T (pick x (row_test t) (row_test (b ∷ t))) → IsToken (b ∷ t) × (broken (b ∷ t) ≡ false)
    go true e h = rw (eqb-true b 46 e) (pointed (row_tested t h), row_whole (row_tested t h))
    go false e h = (alphanumeric (row_tested (b ∷ t) h), row_whole (row_tested (b ∷ t) h))

record Dividing (b : ℕ) : Type 0 where
  no_row : is_letter_or_digit b ≡ false
  no_space : eqb b 32 ≡ false
  no_point : eqb b 46 ≡ false
  no_shift : eqb b 60 ≡ false
  whole : eqb b 10 ≡ false

divides : (b : ℕ) → T (dividing b) → Dividing b
unfolding dividing
divides b h =
    let (r, x) = both_split (not (is_letter_or_digit b)) _ h in
    let (s, y) = both_split (not (eqb b 32)) _ x in
    let (p, z) = both_split (not (eqb b 46)) _ y in
    let (m, n) = both_split (not (eqb b 60)) _ z in
    record { no_row = is_false _ r; no_space = is_false _ s; no_point = is_false _ p; no_shift = is_false _ m; whole = is_false _ n }

-- ---- Texts

-- the tokens of s are ts, no newline stands in it, and it has at most so many bytes
pub record Text (most : ℕ) (s : List ℕ) (ts : List Token) : Type 0 where
  pub divided : Divided s ts
  pub whole : broken s ≡ false
  pub short : length s ≤ most

-- no token goes on with s: it is empty, or begins with a space or a byte that divides
abbrev pub Parted : List ℕ → Type 0
Parted s = (t : Token) → Over t s

parted : (b : ℕ) (s : List ℕ) → is_letter_or_digit b ≡ false → eqb b 60 ≡ false → Parted (b ∷ s)
unfolding joins goes_on_at
parted b s r m [] = refl
parted b s r m (c ∷ t) = rw (r, m)

pub space_parted : (s : List ℕ) → Parted (32 ∷ s)
unfolding is_letter_or_digit is_digit is_letter between
space_parted s = parted 32 s refl refl

pub mark_parted : (b : ℕ) (s : List ℕ) → T (dividing b) → Parted (b ∷ s)
mark_parted b s h = parted b s (divides b h).no_row (divides b h).no_shift

over_dividing : (b : ℕ) (s : List ℕ) → Dividing b → Over (b ∷ []) s
unfolding joins goes_on_at
over_dividing b [] d = tt
over_dividing b (c ∷ s) d =
    rw (d.no_row, d.no_point, d.no_shift)
    (either (λ x. x ≡ false) (is_letter_or_digit c) refl (either (λ x. x ≡ false) (eqb c 60) refl refl))

pub nothing_there : Text 0 [] []
unfolding broken
nothing_there = record { divided = end; whole = refl; short = omega arith }

module _ {most : ℕ} {s : List ℕ} {ts : List Token} where
  pub wider : {more : ℕ} → most ≤ more → Text most s ts → Text more s ts
  wider h x = record { divided = x.divided; whole = x.whole; short = omega (arith, x.short) }

  token_before : (t : Token) → IsToken t → broken t ≡ false → length t ≤ 20 → Over t s → Text most s ts → Text (most + 20) (t ++ s) (t ∷ ts)
  token_before t i e h o x =
      record {
        divided = token t i (over_longest t s (some_byte i) o) x.divided;
        whole = whole_append t s e x.whole;
        short = rw (length-append t s) (omega (arith, x.short));
      }

  -- a word before a text that does not go on it,
  pub word_before_lem : (t : Token) → T (plain t) → Parted s → Text most s ts → Text (most + 20) (t ++ s) (t ∷ ts)
  unfolding plain
  word_before_lem t h p x =
      let (w, l) = both_split (word_test t) _ h in
      let (i, e) = word_tested t w in
      token_before t i e (leb→le _ _ l) (p t) x

  -- a byte that divides before any text,
  pub mark_before : (b : ℕ) → T (dividing b) → Text most s ts → Text (most + 20) (b ∷ s) ((b ∷ []) ∷ ts)
  unfolding broken
  mark_before b h x =
      let d = divides b h in
      token_before (b ∷ []) (single d.no_row (eqb-false b 32 d.no_space)) (rw d.whole) (omega arith) (over_dividing b s d) x

  -- and a space before any
  pub space_before : Text most s ts → Text (most + 1) (32 ∷ s) ts
  unfolding broken
  space_before x = record { divided = space x.divided; whole = x.whole; short = omega (arith, x.short) }

-- so a word and a space before any
pub spaced_before : {most : ℕ} {s : List ℕ} {ts : List Token} (t : Token) → T (plain t) → Text most s ts → Text (most + 1 + 20) (t ++ (32 ∷ s)) (t ∷ ts)
spaced_before {s} t h x = word_before_lem t h (space_parted s) (space_before x)
