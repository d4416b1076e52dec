-- The number of a token.
-- Assumes nothing.
use Prim.Native.Nat.{ℕ, ◌<◌}
use mathlib.Core.Bool.{Bool, true, false}
use mathlib.Core.Path.{◌≡◌, refl, sym}
use mathlib.Core.List.{[], ◌∷◌}
use native.Mathlib.Omega.{arith}
use lib.Dec.{eqb, ltb}
use lib.ListN.{length, get_or}
use borrow.Author.Tests.{lt-ltb, ltb-true, eqb-true}
use Rattle.word.specs.Word.{pick}
use Rattle.token.specs.Ascii.{ascii}
use Rattle.token.specs.Tokens.{Token}
use Rattle.token.specs.Scan.{symbol_of}

-- a token of several bytes has a number past the bytes
pub one_byte : (t : Token) (b : ℕ) → b < 256 → symbol_of t ≡ b → t ≡ b ∷ []
unfolding symbol_of
one_byte [] b h e = absurd (omega arith)
one_byte (c ∷ []) b h e = go (ltb c 256) e
  where
    go : (x : Bool) → pick x c 257 ≡ b → c ∷ [] ≡ b ∷ []
    go true e = rw e
    go false e = absurd (omega arith)
one_byte (c ∷ d ∷ []) b h e = go (eqb c 60) (eqb d 60) e
  where
    go : (x y : Bool) → pick x (pick y 256 257) 257 ≡ b → c ∷ d ∷ [] ≡ b ∷ []
    go true true e = absurd (omega arith)
    go true false e = absurd (omega arith)
    go false y e = absurd (omega arith)
one_byte (c ∷ d ∷ f ∷ t) b h e = absurd (omega arith)

pub byte_symbol : (b : ℕ) → b < 256 → symbol_of (b ∷ []) ≡ b
unfolding symbol_of
byte_symbol b h = rw (lt-ltb b 256 h)

-- 256 is the number of `<<` alone
pub shift_symbol : (t : Token) → symbol_of t ≡ 256 → t ≡ ascii "<<"
unfolding symbol_of
shift_symbol [] e = absurd (omega arith)
shift_symbol (b ∷ []) e = go (ltb b 256) refl e
  where
    go : (x : Bool) → ltb b 256 ≡ x → ◌≡◌ {A = ℕ} (pick x b 257) 256 → b ∷ [] ≡ ascii "<<"
    go true h e = absurd (omega (arith, ltb-true b 256 h))
    go false h e = absurd (omega arith)
shift_symbol (b ∷ c ∷ []) e = go (eqb b 60) refl (eqb c 60) refl e
  where
    go : (x : Bool) → eqb b 60 ≡ x → (y : Bool) → eqb c 60 ≡ y → ◌≡◌ {A = ℕ} (pick x (pick y 256 257) 257) 256 → b ∷ c ∷ [] ≡ ascii "<<"
    go true h true l e = rw (eqb-true b 60 h, eqb-true c 60 l)
    go true h false l e = absurd (omega arith)
    go false h y l e = absurd (omega arith)
shift_symbol (b ∷ c ∷ d ∷ t) e = absurd (omega arith)

-- the number of a token, by its length and bytes
pub symbol_one : (w : Token) → length w ≡ 1 → get_or w 0 0 < 256 → get_or w 0 0 ≡ symbol_of w
symbol_one [] e h = absurd (omega arith)
symbol_one (b ∷ []) e h = sym (byte_symbol b h)
symbol_one (b ∷ c ∷ t) e h = absurd (omega arith)

pub symbol_two : (w : Token) → length w ≡ 2 → symbol_of w ≡ pick (eqb (get_or w 0 0) 60) (pick (eqb (get_or w 1 0) 60) 256 257) 257
unfolding symbol_of
symbol_two [] e = absurd (omega arith)
symbol_two (b ∷ []) e = absurd (omega arith)
symbol_two (b ∷ c ∷ []) e = refl
symbol_two (b ∷ c ∷ d ∷ t) e = absurd (omega arith)

pub symbol_other : (w : Token) → (length w ≡ 1 → ⊥) → (length w ≡ 2 → ⊥) → 257 ≡ symbol_of w
unfolding symbol_of
symbol_other [] m n = refl
symbol_other (b ∷ []) m n = absurd (m refl)
symbol_other (b ∷ c ∷ []) m n = absurd (n refl)
symbol_other (b ∷ c ∷ d ∷ t) m n = refl

-- the cases of `symbol_of`
pub ruleset symbols = (symbol_one, symbol_two, symbol_other)
