-- Minus signs before an operand.
-- Assumes nothing.
use Rattle.std.proofs.Common.{◌≡◌, ℕ, zero, suc, ◌<◌, Bool, true, false, not, eqb, List, [], length, sym, refl, ap, ◌∙◌, arith, Some, None}
use Rattle.word.specs.Word.{pick, subtract}
use Rattle.token.specs.declared.Token.{Token as Found}
use Rattle.token.specs.Tokens.{Token}
use Rattle.token.specs.Scan.{tokens_at, symbol_number, At}
use Rattle.expression.specs.declared.Value.{Value}
use Rattle.expression.specs.Operands.{negated}
use Rattle.expression.specs.Grammar.{Tree, negation, value_of}
use Rattle.expression.specs.Reading.{Out, refused, read, bind, mapped, closed, leaf, prefixed, negated_by, odd, Led}

-- ---- So many minus signs

back : (x : ℕ) → x < 65536 → subtract 0 (subtract 0 x) ≡ x
back x h = omega arith

negated_twice : (v : Value) → v.word < 65536 → negated (negated v) ≡ v
unfolding negated
negated_twice v h = rw (back v.word h)

-- two of them cancel
signed_by : (v : Value) → v.word < 65536 → (n : ℕ) (ts : List Token) → negated_by n (read v ts) ≡ read (pick (odd n) (negated v) v) ts
unfolding negated_by odd mapped
signed_by v h zero ts = refl
signed_by v h (suc n) ts = rw (signed_by v h n ts) (go (odd n))
  where
    go : (b : Bool) → read (negated (pick b (negated v) v)) ts ≡ read (pick (not b) (negated v) v) ts
    go true = rw (negated_twice v h)
    go false = refl

module _ (v : Value) (h : v.word < 65536) (n : ℕ) where
  pub signed_odd : true ≡ odd n → {w : Value} → w ≡ negated v → (ts : List Token) → read w ts ≡ negated_by n (read v ts)
  signed_odd e f ts = sym (signed_by v h n ts ∙ rw (← e, f))

  pub signed_even : false ≡ odd n → (ts : List Token) → read v ts ≡ negated_by n (read v ts)
  signed_even e ts = sym (signed_by v h n ts ∙ rw (← e))

pub negated_refused : (n : ℕ) → negated_by n refused ≡ refused
unfolding negated_by mapped
negated_refused zero = refl
negated_refused (suc n) = rw (negated_refused n)

one_more : (n : ℕ) (o : Out Value) → negated_by n (mapped negated o) ≡ negated_by (suc n) o
unfolding negated_by
one_more zero o = refl
one_more (suc n) o = ap (mapped negated) (one_more n o)

-- ---- What stands before an operand

-- minus signs, an odd number of them if `negative`, stand before the token t
pub record Leading (s : List ℕ) (at : ℕ) (negative : Bool) (t : Found) : Type 0 where
  pub signs : ℕ
  pub parity : negative ≡ odd signs
  pub here : ℕ
  pub found : At s here t
  pub same : (mean : Token → Value) (inner : List Token → Out Tree)
      → mapped (value_of mean) (prefixed inner (tokens_at s at)) ≡ negated_by signs (mapped (value_of mean) (prefixed inner (tokens_at s here)))

pub leading : {s : List ℕ} {at : ℕ} {t : Found} → At s at t → Leading s at false t
unfolding negated_by odd
leading {at = at} f = record { signs = 0; parity = refl; here = at; found = f; same = λ mean inner. refl }

pub lead_none : (s : List ℕ) (at : ℕ) → tokens_at s at ≡ [] → Led s at None
unfolding prefixed mapped
lead_none s at e mean inner = rw e

map_negation : (mean : Token → Value) (o : Out Tree) → mapped (value_of mean) (mapped negation o) ≡ mapped negated (mapped (value_of mean) o)
unfolding mapped value_of
map_negation mean refused = refl
map_negation mean (read t r) = refl

module _ {s : List ℕ} {at : ℕ} {negative : Bool} {t : Found} (l : Leading s at negative t) where
  -- the value by what begins with t
  split : (mean : Token → Value) (inner : List Token → Out Tree)
      → mapped (value_of mean) (prefixed inner (tokens_at s at))
      ≡ negated_by l.signs (mapped (value_of mean) (pick (eqb (symbol_number t.symbol) 45) (mapped negation (prefixed inner (tokens_at s t.end)))
      (pick (eqb (symbol_number t.symbol) 40) (bind (inner (tokens_at s t.end)) closed) (leaf t.word.now (tokens_at s t.end)))))
  unfolding prefixed
  split mean inner = l.same mean inner ∙ rw (l.found.split, l.found.number)

  pub lead_other : eqb (symbol_number t.symbol) 45 ≡ false → Led s at (Some (record { negative = negative; first = t }))
  lead_other n = record { signs = l.signs; parity = l.parity; same = λ mean inner. split mean inner ∙ rw n }

  module _ (m : eqb (symbol_number t.symbol) 45 ≡ true) where
    minus : (mean : Token → Value) (inner : List Token → Out Tree)
        → mapped (value_of mean) (prefixed inner (tokens_at s at)) ≡ negated_by (suc l.signs) (mapped (value_of mean) (prefixed inner (tokens_at s t.end)))
    minus mean inner = split mean inner ∙ rw (m, map_negation mean (prefixed inner (tokens_at s t.end)), one_more l.signs)

    pub lead_end : tokens_at s t.end ≡ [] → Led s at None
    unfolding prefixed mapped
    lead_end e mean inner = minus mean inner ∙ rw e (negated_refused (suc l.signs))

    pub lead_minus : {u : Found} → At s t.end u → {b : Bool} → b ≡ not negative → Leading s at b u
    unfolding odd
    lead_minus f e = record { signs = suc l.signs; parity = e ∙ rw l.parity; here = t.end; found = f; same = minus }

  pub lead_less : {u : Found} → At s t.end u → length (tokens_at s u.end) < length (tokens_at s t.end)
  lead_less f = rw f.split (omega arith)

-- the steps of `signed` and of `lead_at`
pub ruleset signs = (signed_odd, signed_even)

pub ruleset lead_steps = (leading, lead_none, lead_other, lead_minus, lead_less)
