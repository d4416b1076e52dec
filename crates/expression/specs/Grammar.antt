-- The grammar of expressions (02, L2), and what an expression is worth.
use Rattle.std.specs.Prelude.{◌≡◌, ℕ, suc, true, List, [], ◌∷◌, ◌++◌}
use Rattle.token.specs.Ascii.{ascii}
use Rattle.token.specs.Tokens.{Token}
use Rattle.expression.specs.declared.Value.{Value}
use Rattle.expression.specs.Operands.{is_operand, Operator, operator_text, rank_of, operated, negated}

-- an expression, as it is grouped
pub data Tree : Type 0 where
  operand : Token → Tree
  negation : Tree → Tree
  operation : Operator → Tree → Tree → Tree

-- its value, given the names
unfoldable pub value_of : (Token → Value) → Tree → Value
value_of mean (operand w) = mean w
value_of mean (negation t) = negated (value_of mean t)
value_of mean (operation o x y) = operated o (value_of mean x) (value_of mean y)

-- `Expression d k ts t`: the tokens ts are an expression of rank k, with parentheses nested to depth d at most, and t is its tree.
-- Rank 0 is an operand, or unary minus before one; rank 5 is any expression.
pub data Expression : ℕ → ℕ → List Token → Tree → Type 0 where
  -- Operands are decimal, 0x, names
  single : {d : ℕ} {w : Token} → is_operand w ≡ true → Expression d 0 (w ∷ []) (operand w)
  -- unary minus (also repeated)
  unary_minus : {d : ℕ} {ts : List Token} {t : Tree} → Expression d 0 ts t → Expression d 0 (ascii "-" ∷ ts) (negation t)
  -- parentheses
  bracketed : {d : ℕ} {ts : List Token} {t : Tree} → Expression d 5 ts t → Expression (suc d) 0 (ascii "(" ∷ (ts ++ (ascii ")" ∷ []))) t
  -- an expression of a tighter rank
  tighter : {d k : ℕ} {ts : List Token} {t : Tree} → Expression d k ts t → Expression d (suc k) ts t
  -- Equal ranks go left to right: the left side has the operator's own rank, the right side a tighter one.
  joined : {d k : ℕ} {ts us : List Token} {x y : Tree} (o : Operator)
      → rank_of o ≡ suc k → Expression d (suc k) ts x → Expression d k us y → Expression d (suc k) (ts ++ (operator_text o ∷ us)) (operation o x y)
