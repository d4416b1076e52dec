-- Tokens, one byte at a time; parts of a text.
-- Assumes nothing.
use Prim.Native.Nat.{ℕ, suc, ◌+◌, ◌-◌, ◌<◌, ◌≤◌, min}
use mathlib.Core.Bool.{Bool, true, false}
use mathlib.Core.Path.{◌≡◌, refl, sym, ap, ◌∙◌, subst}
use mathlib.Core.Logic.{◌⊎◌, inl, inr}
use mathlib.Core.List.{List, [], ◌∷◌, ◌++◌}
use native.Mathlib.Omega.{arith}
use native.Mathlib.Numerals.{add-one}
use lib.Dec.{eqb, ltb}
use lib.ListN.{length, drop, get_or, length-take, length-drop, drop_of_length-le}
use lib.Seq.{drop-cons, take-suc, get_or-drop}
use borrow.Author.Tests.{eq-eqb, ne_eqb, eqb-true, ltb-true, ltb-false}
use Rattle.word.specs.Word.{pick}
use Rattle.word.proofs.Tests.{never, either}
use Rattle.token.specs.Tokens.{Token, between, is_digit, is_letter, is_letter_or_digit}
use Rattle.token.specs.Scan.{goes_on_at, joins, ended, begun, scan, tokens, first_line, tokens_at, part, Ended}

-- ---- Lists of bytes

-- the token t ends at the end of s, and before a byte that does not go on it
abbrev pub Over : Token → List ℕ → Type 0
Over t [] = Unit {0}
Over t (b ∷ s) = joins t b ≡ false

pub over : (t s : List ℕ) → 0 < length t → Over t s → scan t s ≡ t ∷ tokens s
unfolding scan tokens joins ended
over [] s h o = absurd (omega arith)
over (c ∷ t) [] h o = refl
over (c ∷ t) (b ∷ s) h o = rw o

line_over : (t : Token) (s : List ℕ) → Over t s → Over t (first_line s)
unfolding first_line
line_over t [] o = tt
line_over t (b ∷ s) o = either (Over t) (eqb b 10) tt o

no_newline : (c n b : ℕ) → goes_on_at c n b ≡ true → eqb b 10 ≡ false
unfolding goes_on_at is_letter_or_digit is_digit is_letter between
no_newline c n b e = go (eqb b 10) refl
  where
    go : (t : Bool) → eqb b 10 ≡ t → t ≡ false
    go true f = never (sym (ap (goes_on_at c n) (eqb-true b 10 f)) ∙ e)
    go false f = refl

goes_on :
    (t : Token) (b : ℕ) (s : List ℕ) → joins t b ≡ true → eqb b 10 ≡ false
    → scan t (first_line (b ∷ s)) ≡ scan (t ++ (b ∷ [])) (first_line s)
unfolding scan first_line
goes_on t b s j e = rw (e, j)

-- ---- Positions of a text

module _ (s : List ℕ) where
  byte_at : (i : ℕ) → i < length s → drop i s ≡ get_or s i 0 ∷ drop (i + 1) s
  byte_at i h = rw (add-one, drop-cons s i 0)

  pub part_next : (start end : ℕ) → start < end → start < length s → part start end s ≡ get_or s start 0 ∷ part (start + 1) end s
  part_next start end h k =
      let e : end - start ≡ suc (end - (start + 1)) = omega arith in
      rw (e, byte_at start k)

  pub part_cons : (start end : ℕ) → start < end → end ≤ length s → part start end s ≡ get_or s start 0 ∷ part (start + 1) end s
  part_cons start end h l = part_next start end h (omega arith)

  -- the end may lie past the text
  pub part_reach : (start end : ℕ) → length (part start end s) ≡ min end (length s) - start
  part_reach start end = simp (length-take, length-drop) (omega arith)

  pub part_length : (start end : ℕ) → end ≤ length s → length (part start end s) ≡ end - start
  part_length start end l = rw (part_reach start end) (omega arith)

  part_snoc : (start i : ℕ) → start < i → i < length s → part start i s ++ (get_or s i 0 ∷ []) ≡ part start (i + 1) s
  part_snoc start i h l =
      let e : i + 1 - start ≡ suc (i - start) = omega arith in
      let k : i - start < length (drop start s) = simp length-drop (omega arith) in
      let q : start + (i - start) ≡ i = omega arith in
      sym (rw (e, take-suc (drop start s) (i - start) 0 k, get_or-drop start s (i - start) 0, q))

  pub line_end : (i : ℕ) → length s ≤ i → tokens_at s i ≡ []
  unfolding tokens_at tokens scan ended first_line
  line_end i h = rw (drop_of_length-le s h)

  pub newline : (i : ℕ) → i < length s → get_or s i 0 ≡ 10 → tokens_at s i ≡ []
  unfolding tokens_at tokens scan ended first_line
  newline i h e = rw (byte_at i h, e)

  pub skip : (i : ℕ) → i < length s → get_or s i 0 ≡ 32 → tokens_at s i ≡ tokens_at s (i + 1)
  unfolding tokens_at tokens scan joins ended begun first_line
  skip i h e = rw (byte_at i h, e)

-- the token that begins at start is read up to i
pub record Reading (s : List ℕ) (start i : ℕ) : Type 0 where
  pub so_far : tokens_at s start ≡ scan (part start i s) (first_line (drop i s))
  pub order : start < i
  pub inside : i ≤ length s

pub begin :
    {s : List ℕ} {i : ℕ} → i < length s → (get_or s i 0 ≡ 32 → ⊥) → (get_or s i 0 ≡ 10 → ⊥)
    → Reading s i (i + 1)
unfolding tokens_at tokens scan joins ended begun first_line
begin {s} {i} h e f =
    let q : i + 1 - i ≡ 1 = omega arith in
    record { so_far = rw (byte_at s i h, ne_eqb _ _ f, ne_eqb _ _ e, q); order = omega arith; inside = omega arith }

module _ {s : List ℕ} {start i : ℕ} (r : Reading s start i) where
  joins_part : (b : ℕ) → joins (part start i s) b ≡ goes_on_at (get_or s start 0) (i - start) b
  unfolding joins
  joins_part b =
      let e = part_cons s start i r.order r.inside in
      rw e (ap (λ (n : ℕ). goes_on_at (get_or s start 0) n b) (sym (ap length e) ∙ part_length s start i r.inside))

  closed : Over (part start i s) (drop i s) → Ended s start i
  unfolding tokens_at
  closed o =
      let n : 0 < length (part start i s) = rw (part_length s start i r.inside) (omega arith) in
      record {
        split = r.so_far ∙ over (part start i s) (first_line (drop i s)) n (line_over (part start i s) (drop i s) o);
        order = r.order;
        inside = r.inside;
      }

  pub past : length s ≤ i → Ended s start i
  past k = closed (subst (Over (part start i s)) (sym (drop_of_length-le s k)) tt)

  -- the text ends there
  pub past_end : length s ≤ i → Ended s start (length s)
  past_end k = let e : i ≡ length s = omega (arith, r.inside) in subst (Ended s start) e (past k)

  module _ (k : i < length s) where
    pub off : goes_on_at (get_or s start 0) (i - start) (get_or s i 0) ≡ false → Ended s start i
    off e = closed (subst (Over (part start i s)) (sym (byte_at s i k)) (joins_part (get_or s i 0) ∙ e))

    pub on : goes_on_at (get_or s start 0) (i - start) (get_or s i 0) ≡ true → Reading s start (i + 1)
    on e =
        record {
          so_far =
              r.so_far
              ∙ ap (λ x. scan (part start i s) (first_line x)) (byte_at s i k)
              ∙ goes_on (part start i s) (get_or s i 0) (drop (i + 1) s) (joins_part (get_or s i 0) ∙ e) (no_newline _ _ _ e)
              ∙ ap (λ t. scan t (first_line (drop (i + 1) s))) (part_snoc s start i r.order k);
          order = omega arith;
          inside = omega arith;
        }

-- ---- The token that begins with a byte

-- a letter, a digit or a point
abbrev pub RowStart : ℕ → Type 0
RowStart c = (is_letter_or_digit c ≡ true) ⊎ (c ≡ 46)

row_start_not : (c k : ℕ) → RowStart c → is_letter_or_digit k ≡ false → eqb k 46 ≡ false → c ≡ k → ⊥
row_start_not c k (inl e) n m q = never (sym n ∙ ap is_letter_or_digit (sym q) ∙ e)
row_start_not c k (inr e) n m q = never (sym m ∙ eq-eqb k 46 (sym q ∙ e))

module _ (c : ℕ) (r : RowStart c) where
  no_less : c ≡ 60 → ⊥
  unfolding is_letter_or_digit is_digit is_letter between
  no_less = row_start_not c 60 r refl refl

  no_space : c ≡ 32 → ⊥
  unfolding is_letter_or_digit is_digit is_letter between
  no_space = row_start_not c 32 r refl refl

  no_line_end : c ≡ 10 → ⊥
  unfolding is_letter_or_digit is_digit is_letter between
  no_line_end = row_start_not c 10 r refl refl

  -- is gone on by letters and digits alone
  pub row_on : (n b : ℕ) → goes_on_at c n b ≡ is_letter_or_digit b
  unfolding goes_on_at
  row_on n b = go (is_letter_or_digit b) r
    where
      go : (t : Bool) → RowStart c → pick t (pick (is_letter_or_digit c) true (eqb c 46)) (pick (eqb b 60) (pick (eqb c 60) (eqb n 1) false) false) ≡ t
      go true (inl e) = rw e
      go true (inr e) = either (λ (x : Bool). x ≡ true) (is_letter_or_digit c) refl (eq-eqb c 46 e)
      go false s = rw (ne_eqb c 60 no_less) (either (λ (x : Bool). x ≡ false) (eqb b 60) refl refl)

pub row_begin : {s : List ℕ} {i : ℕ} → i < length s → RowStart (get_or s i 0) → Reading s i (i + 1)
row_begin h r = begin h (no_space _ r) (no_line_end _ r)

-- any other byte is a token of its own, but `<` before another
pub alone : (c n b : ℕ) → is_letter_or_digit c ≡ false → (c ≡ 46 → ⊥) → (c ≡ 60 → ⊥) ⊎ ((b ≡ 60 → ⊥) ⊎ (n ≡ 1 → ⊥)) → goes_on_at c n b ≡ false
unfolding goes_on_at
alone c n b e f g = rw (e, ne_eqb c 46 f) (either Off (is_letter_or_digit b) refl (go g))
  where
    Off : Bool → Type 0
    Off x = x ≡ false

    go : (c ≡ 60 → ⊥) ⊎ ((b ≡ 60 → ⊥) ⊎ (n ≡ 1 → ⊥)) → pick (eqb b 60) (pick (eqb c 60) (eqb n 1) false) false ≡ false
    go (inl h) = rw (ne_eqb c 60 h) (either Off (eqb b 60) refl refl)
    go (inr (inl h)) = rw (ne_eqb b 60 h)
    go (inr (inr h)) = rw (ne_eqb n 1 h) (either Off (eqb b 60) (either Off (eqb c 60) refl refl) refl)

pub shift_on : (c n b : ℕ) → c ≡ 60 → n ≡ 1 → b ≡ 60 → goes_on_at c n b ≡ true
unfolding goes_on_at is_letter_or_digit is_digit is_letter between
shift_on c n b e f g = rw (e, f, g)

-- a token that no byte goes on ends
pub stop : {s : List ℕ} {start i : ℕ} → Reading s start i → ((b : ℕ) → goes_on_at (get_or s start 0) (i - start) b ≡ false) → Ended s start i
stop {s} {start} {i} r f = go (ltb i (length s)) refl
  where
    go : (t : Bool) → ltb i (length s) ≡ t → Ended s start i
    go true e = off r (ltb-true _ _ e) (f _)
    go false e = past r (ltb-false _ _ e)

module _ {s : List ℕ} {start : ℕ} (h : start < length s) (no_space : get_or s start 0 ≡ 32 → ⊥) (no_newline : get_or s start 0 ≡ 10 → ⊥)
    (e : is_letter_or_digit (get_or s start 0) ≡ false) (f : get_or s start 0 ≡ 46 → ⊥) where
  begun_there : Reading s start (start + 1)
  begun_there = begin h no_space no_newline

  pub lone : (get_or s start 0 ≡ 60 → ⊥) → Ended s start (start + 1)
  lone n = stop begun_there (λ b. alone _ _ b e f (inl n))

  pub last_byte : length s ≤ start + 1 → Ended s start (start + 1)
  last_byte l = past begun_there l

  module _ (k : start + 1 < length s) where
    pub less : (get_or s (start + 1) 0 ≡ 60 → ⊥) → Ended s start (start + 1)
    less n = off begun_there k (alone _ _ _ e f (inr (inl n)))

    pub less_less : get_or s start 0 ≡ 60 → get_or s (start + 1) 0 ≡ 60 → Ended s start (start + 1 + 1)
    less_less q r =
        stop (on begun_there k (shift_on _ (start + 1 - start) _ q (omega arith) r))
        (λ b. alone _ (start + 1 + 1 - start) b e f (inr (inr (λ z. omega arith))))

-- the steps of `after_spaces`, `row_end`, `token_end` and `token_at`
pub ruleset space_steps = (skip, line_end)

pub ruleset row_steps = (row_begin, row_on, on, off, past_end)

pub ruleset token_ends = (lone, last_byte, less, less_less)

pub ruleset line_ends = (line_end, newline)
