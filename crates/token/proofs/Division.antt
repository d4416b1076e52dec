-- `tokens` divides a line by the rule of Tokens, and no other division does.
-- Assumes nothing.
use Prim.Native.Nat.{ℕ, ◌<◌}
use mathlib.Core.Bool.{Bool, true, false}
use mathlib.Core.Path.{◌≡◌, refl, sym, ap, ◌∙◌}
use mathlib.Core.List.{List, [], ◌∷◌, ◌++◌, append_assoc}
use native.Mathlib.Omega.{arith}
use lib.Dec.{eqb}
use lib.ListN.{length}
use borrow.Author.Tests.{ne_eqb, eqb-true, eqb-false}
use Rattle.word.specs.Word.{pick}
use Rattle.word.proofs.Tests.{clash, never, either}
use Rattle.token.specs.Tokens.{Token, between, is_digit, is_letter, is_letter_or_digit}
use Rattle.token.specs.Tokens.{Alphanumeric, last, then, IsToken, alphanumeric, pointed, shift, single, Longest, Divided, end, space, token}
use Rattle.token.specs.Scan.{goes_on_at, joins, ended, begun, scan, tokens}
use Rattle.token.proofs.Scanning.{Over, over}

-- ---- When a byte goes on a token

-- a letter or digit is another byte than one that is neither
other_than : (k c : ℕ) → is_letter_or_digit k ≡ false → is_letter_or_digit c ≡ true → eqb c k ≡ false
other_than k c n h = go (eqb c k) refl
  where
    go : (t : Bool) → eqb c k ≡ t → t ≡ false
    go true e = never (sym n ∙ ap is_letter_or_digit (sym (eqb-true c k e)) ∙ h)
    go false e = refl

-- a row goes on with letters and digits only
row_on : (c : ℕ) (t : Token) (b : ℕ) → eqb c 60 ≡ false → joins (c ∷ t) b ≡ true → is_letter_or_digit b ≡ true
unfolding joins goes_on_at
row_on c t b e j = go (is_letter_or_digit b) refl
  where
    go : (x : Bool) → is_letter_or_digit b ≡ x → x ≡ true
    go true f = refl
    go false f = never (sym (rw (f, e) (either (λ x. x ≡ false) (eqb b 60) refl refl)) ∙ j)

row_snoc : {t : Token} (b : ℕ) → Alphanumeric t → is_letter_or_digit b ≡ true → Alphanumeric (t ++ (b ∷ []))
row_snoc b (last h) k = then h (last k)
row_snoc b (then h r) k = then h (row_snoc b r k)

single_on : (c b : ℕ) → is_letter_or_digit c ≡ false → goes_on_at c 1 b ≡ true → IsToken (c ∷ b ∷ [])
unfolding goes_on_at
single_on c b h j = go (is_letter_or_digit b) refl (eqb c 46) refl (eqb b 60) refl (eqb c 60) refl (rw h at j)
  where
    go :
        (x : Bool) → is_letter_or_digit b ≡ x → (y : Bool) → eqb c 46 ≡ y
        → (z : Bool) → eqb b 60 ≡ z → (w : Bool) → eqb c 60 ≡ w
        → pick x y (pick z (pick w true false) false) ≡ true → IsToken (c ∷ b ∷ [])
    go true f true e z p w q j = rw (eqb-true c 46 e) (pointed (last f))
    go true f false e z p w q j = never j
    go false f y e true p true q j = rw (eqb-true c 60 q, eqb-true b 60 p) shift
    go false f y e true p false q j = never j
    go false f y e false p w q j = never j

joined : {t : Token} (b : ℕ) → IsToken t → joins t b ≡ true → IsToken (t ++ (b ∷ []))
unfolding joins goes_on_at is_letter_or_digit is_digit is_letter between
joined b (alphanumeric (last {b = c} h)) j = alphanumeric (row_snoc b (last h) (row_on c [] b (other_than 60 c refl h) j))
joined b (alphanumeric (then {b = c} {t} h r)) j = alphanumeric (row_snoc b (then h r) (row_on c t b (other_than 60 c refl h) j))
joined b (pointed {t} r) j = pointed (row_snoc b r (row_on 46 t b refl j))
joined b shift j =
    never (sym (either (λ x. x ≡ false) (is_letter_or_digit b) refl (either (λ x. x ≡ false) (eqb b 60) refl refl)) ∙ j)
joined b (single {b = c} h n) j = single_on c b h j

no_snoc : {A : Type 0} (w : List ℕ) (b : ℕ) → [] ≡ w ++ (b ∷ []) → A
no_snoc [] b e = clash (cc)
no_snoc (x ∷ w) b e = clash (cc)

row_first : {u : Token} {c : ℕ} {w : List ℕ} → Alphanumeric u → u ≡ c ∷ w → is_letter_or_digit c ≡ true
row_first {c} (last {b = x} h) e = let q : c ≡ x = cc in ap is_letter_or_digit q ∙ h
row_first {c} (then {b = x} h r) e = let q : c ≡ x = cc in ap is_letter_or_digit q ∙ h

row_last : {u : Token} → Alphanumeric u → (w : List ℕ) (b : ℕ) → u ≡ w ++ (b ∷ []) → is_letter_or_digit b ≡ true
row_last (last h) [] b e = row_first (last h) e
row_last (last h) (y ∷ w) b e = no_snoc w b (cc)
row_last (then h r) [] b e = row_first (then h r) e
row_last (then h r) (y ∷ w) b e = row_last r w b (cc)

-- a row may follow c: a letter, a digit or a point
abbrev Opens : ℕ → Type 0
Opens c = pick (is_letter_or_digit c) true (eqb c 46) ≡ true

opens_row : (c : ℕ) → is_letter_or_digit c ≡ true → Opens c
opens_row c h = rw h

row_joins : (c : ℕ) (t : Token) (b : ℕ) → Opens c → is_letter_or_digit b ≡ true → joins (c ∷ t) b ≡ true
unfolding joins goes_on_at
row_joins c t b o h = rw h o

joins_on : {u : Token} → IsToken u → (c : ℕ) (w : List ℕ) (b : ℕ) → u ≡ c ∷ (w ++ (b ∷ [])) → joins (c ∷ w) b ≡ true
unfolding joins goes_on_at is_letter_or_digit is_digit is_letter between
joins_on (alphanumeric r) c w b e = row_joins c w b (opens_row c (row_first r e)) (row_last r (c ∷ w) b e)
joins_on (pointed r) c w b e =
    let q : c ≡ 46 = cc in
    rw q (row_joins 46 w b refl (row_last r w b (cc)))
joins_on shift c [] b e =
    let q : c ≡ 60 = cc in
    let p : b ≡ 60 = cc in
    rw (q, p)
joins_on shift c (x ∷ w) b e = no_snoc w b (cc)
joins_on (single h n) c w b e = no_snoc w b (cc)

-- ---- Where a token ends

pub some_byte : {t : Token} → IsToken t → 0 < length t
some_byte (alphanumeric (last h)) = omega arith
some_byte (alphanumeric (then h r)) = omega arith
some_byte (pointed r) = omega arith
some_byte shift = omega arith
some_byte (single h n) = omega arith

longest_over : (t s : List ℕ) → IsToken t → Longest t s → Over t s
longest_over t [] i l = tt
longest_over t (b ∷ s) i l = go (joins t b) refl
  where
    go : (x : Bool) → joins t b ≡ x → x ≡ false
    go true e = absurd (l (joined b i e))
    go false e = refl

pub over_longest : (t s : List ℕ) → 0 < length t → Over t s → Longest t s
over_longest t [] n o = tt
over_longest [] (b ∷ s) n o = absurd (omega arith)
over_longest (c ∷ t) (b ∷ s) n o = λ i. never (sym o ∙ joins_on i c t b refl)

-- ---- `tokens` divides

byte : (b : ℕ) → (b ≡ 32 → ⊥) → IsToken (b ∷ [])
byte b n = go (is_letter_or_digit b) refl
  where
    go : (x : Bool) → is_letter_or_digit b ≡ x → IsToken (b ∷ [])
    go true h = alphanumeric (last h)
    go false h = single h n

close : (t s : List ℕ) → IsToken t → Over t s → Divided s (tokens s) → Divided (t ++ s) (scan t s)
close t s i o d = rw (over t s (some_byte i) o) (token t i (over_longest t s (some_byte i) o) d)

-- whatever token has begun
abbrev Rest : List ℕ → Type 0
Rest s = (t : Token) → IsToken t → Divided (t ++ s) (scan t s)

next : (b : ℕ) (s : List ℕ) → Divided s (tokens s) → Rest s → Divided (b ∷ s) (tokens (b ∷ s))
unfolding tokens scan joins ended begun
next b s d r = go (eqb b 32) refl
  where
    go : (x : Bool) → eqb b 32 ≡ x → Divided (b ∷ s) (scan (pick x [] (b ∷ [])) s)
    go true e = rw (eqb-true b 32 e) (space d)
    go false e = r (b ∷ []) (byte b (eqb-false b 32 e))

rest : (b : ℕ) (s : List ℕ) → Divided (b ∷ s) (tokens (b ∷ s)) → Rest s → Rest (b ∷ s)
unfolding scan
rest b s d r t i = go (joins t b) refl
  where
    go : (x : Bool) → joins t b ≡ x → Divided (t ++ (b ∷ s)) (scan t (b ∷ s))
    go true e = rw (e, ← append_assoc t (b ∷ []) s) (r (t ++ (b ∷ [])) (joined b i e))
    go false e = close t (b ∷ s) i e d

both : (s : List ℕ) → Divided s (tokens s) × Rest s
unfolding tokens scan ended
both [] = (end, λ t i. close t [] i tt end)
both (b ∷ s) =
    let (d, r) = both s in
    let d' = next b s d r in
    (d', rest b s d' r)

pub divided : (s : List ℕ) → Divided s (tokens s)
divided s = (both s).0

-- ---- A division is what `tokens` gives

row_read : (c : ℕ) (t : Token) {w : Token} (s : List ℕ) → Opens c → Alphanumeric w → scan (c ∷ t) (w ++ s) ≡ scan (c ∷ (t ++ w)) s
unfolding scan
row_read c t s o (last {b} h) = rw (row_joins c t b o h)
row_read c t s o (then {b} {t = w} h r) =
    rw (row_joins c t b o h) (row_read c (t ++ (b ∷ [])) s o r ∙ rw (append_assoc t (b ∷ []) w))

solid : (c : ℕ) → is_letter_or_digit c ≡ true → eqb c 32 ≡ false
unfolding is_letter_or_digit is_digit is_letter between
solid c h = other_than 32 c refl h

read : {t : Token} (s : List ℕ) → IsToken t → tokens (t ++ s) ≡ scan t s
unfolding tokens scan joins ended begun goes_on_at is_letter_or_digit is_digit is_letter between
read s (alphanumeric (last {b} h)) = rw (solid b h)
read s (alphanumeric (then {b} h r)) = rw (solid b h) (row_read b [] s (opens_row b h) r)
read s (pointed r) = row_read 46 [] s refl r
read s shift = refl
read s (single {b} h n) = rw (ne_eqb b 32 n)

is_tokens : {s : List ℕ} {ts : List Token} → Divided s ts → tokens s ≡ ts
unfolding tokens scan joins ended begun
is_tokens end = refl
is_tokens (space d) = is_tokens d
is_tokens (token {s} t i l d) =
    read s i ∙ over t s (some_byte i) (longest_over t s i l) ∙ ap (λ us. t ∷ us) (is_tokens d)

pub unique : {s : List ℕ} {ts us : List Token} → Divided s ts → Divided s us → ts ≡ us
unique d e = sym (is_tokens d) ∙ is_tokens e
