-- A name is known where it is among the names, and an expression's value where each name in it is.
-- Assumes nothing.
use mathlib.Core.Bool.{Bool, true, false, ◌&&◌}
use mathlib.Core.Path.{◌≡◌, refl, sym, ap, ◌∙◌}
use mathlib.Core.List.{List, [], ◌∷◌}
use lib.ListN.{get_or}
use Rattle.word.proofs.Tests.{never, either}
use Rattle.token.specs.Tokens.{Token, is_digit}
use Rattle.token.specs.Scan.{alike}
use Rattle.token.proofs.Alike.{alike_refl, alike_same}
use Rattle.expression.specs.declared.Value.{Value}
use Rattle.expression.specs.Operands.{Label, name_value, operand_value, operated, negated as negatedValue}
use Rattle.expression.specs.Grammar.{Tree, operand, negation, operation, value_of}
use Rattle.claims_texts.specs.Assembly.{Named, here, there, Uses, the_name, negated, left, right}

pub known_named : (names : List Label) (w : Token) → (name_value names w).known ≡ true → Named names w
unfolding name_value
known_named [] w e = never e
known_named (l ∷ ls) w e = go (alike w l.name) refl (known_named ls w)
  where
    go : (b : Bool) → alike w l.name ≡ b → ((name_value ls w).known ≡ true → Named ls w) → Named (l ∷ ls) w
    go true a r = rw (alike_same w l.name a) here
    go false a r = there (r (rw a at e))

named_known : {names : List Label} {w : Token} → Named names w → (name_value names w).known ≡ true
unfolding name_value
named_known (here {l = l}) = rw (alike_refl l.name)
named_known (there {l = l} {w = w} n) = either (λ (v : Value). v.known ≡ true) (alike w l.name) refl (named_known n)

pub unknown_unnamed : (names : List Label) (w : Token) → (name_value names w).known ≡ false → Named names w → ⊥
unknown_unnamed names w e n = never (sym e ∙ named_known n)

unnamed_unknown : (names : List Label) (w : Token) → (Named names w → ⊥) → (name_value names w).known ≡ false
unnamed_unknown names w n = go (name_value names w).known refl
  where
    go : (b : Bool) → (name_value names w).known ≡ b → b ≡ false
    go true e = absurd (n (known_named names w e))
    go false e = refl

-- ---- Expressions

-- an operand is a literal, which is known, or a name
literal_known : (names : List Label) (w : Token) → is_digit (get_or w 0 0) ≡ true → (operand_value names w).known ≡ true
unfolding operand_value
literal_known names w d = rw d

by_name : (names : List Label) (w : Token) → is_digit (get_or w 0 0) ≡ false → (operand_value names w).known ≡ (name_value names w).known
unfolding operand_value
by_name names w d = rw d

and_left : (a b : Bool) → a ≡ false → (a && b) ≡ false
and_left a b e = rw e

and_right : (a b : Bool) → b ≡ false → (a && b) ≡ false
and_right true b e = e
and_right false b e = refl

module _ (names : List Label) where
  abbrev known : Tree → Bool
  known t = (value_of (operand_value names) t).known

  -- a name that stands in the expression and that is not among the names
  abbrev Unnamed : Tree → Type 0
  Unnamed t = (w : Token) × Uses t w × (Named names w → ⊥)

  pub unknown_uses : (t : Tree) → known t ≡ false → Unnamed t
  unfolding value_of operated negatedValue
  unknown_uses (operand w) e = go (is_digit (get_or w 0 0)) refl
    where
      go : (b : Bool) → is_digit (get_or w 0 0) ≡ b → Unnamed (operand w)
      go true d = never (sym e ∙ literal_known names w d)
      go false d = (w, the_name d, unknown_unnamed names w (sym (by_name names w d) ∙ e))
  unknown_uses (negation t) e = let (w, u, n) = unknown_uses t e in (w, negated u, n)
  unknown_uses (operation o t u) e = go (known t) refl (unknown_uses t) (unknown_uses u)
    where
      go : (b : Bool) → known t ≡ b → (known t ≡ false → Unnamed t) → (known u ≡ false → Unnamed u) → Unnamed (operation o t u)
      go true k f g = let (w, x, n) = g (sym (ap (λ (b : Bool). b && known u) k) ∙ e) in (w, right x, n)
      go false k f g = let (w, x, n) = f k in (w, left x, n)

  pub uses_unknown : {t : Tree} {w : Token} → Uses t w → (Named names w → ⊥) → known t ≡ false
  unfolding value_of operated negatedValue
  uses_unknown (the_name {w = w} d) n = by_name names w d ∙ unnamed_unknown names w n
  uses_unknown (negated u) n = uses_unknown u n
  uses_unknown (left {t = t} {u = u} h) n = and_left (known t) (known u) (uses_unknown h n)
  uses_unknown (right {t = t} {u = u} h) n = and_right (known t) (known u) (uses_unknown h n)
