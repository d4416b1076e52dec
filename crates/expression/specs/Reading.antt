-- The reading of an expression as a function on tokens, and what the code's parts say of it. Nothing here is promised to a
-- caller: proofs/Unique.antt and proofs/Sound.antt show that `parse` finds the readings of the grammar and no other.
use Rattle.std.specs.Prelude.{◌≡◌, ℕ, zero, suc, ◌+◌, ◌*◌, ◌%◌, ◌≤◌, Bool, false, not, List, [], ◌∷◌, length, drop, ◌==◌, Option, Some, None}
use Rattle.word.specs.Word.{pick}
use Rattle.token.specs.declared.Symbol.{Symbol}
use Rattle.token.specs.Ascii.{byte}
use Rattle.token.specs.Tokens.{Token}
use Rattle.token.specs.Scan.{tokens_at, symbol_of, symbol_number}
use Rattle.expression.specs.declared.Label.{Label as Held}
use Rattle.expression.specs.declared.Value.{Value}
use Rattle.expression.specs.declared.Parsed.{Parsed}
use Rattle.expression.specs.declared.Join.{Join}
use Rattle.expression.specs.declared.prefix.Lead.{Lead}
use Rattle.expression.specs.declared.arithmetic.Operator.{Operator as Sign}
use Rattle.expression.specs.declared.arithmetic.Operator.TheVariants.{Times, Plus, Minus, Shift, And, Or}
use Rattle.expression.specs.Operands.{Label, all_digits, digit_of, hexed, is_operand, operand_value, Operator, times, plus, minus, shift, and, or, rank_of, negated}
use Rattle.expression.specs.Grammar.{Tree, operand, negation, operation, value_of}

-- ---- Operands

-- `numeral`, reduced at each digit
unfoldable pub reduced : ℕ → ℕ → List ℕ → ℕ
reduced base n [] = n
reduced base n (b ∷ w) = reduced base ((n * base + digit_of b) % 65536) w

-- what `number` says of the digits w after those of n
unfoldable pub number_leaf : ℕ → ℕ → List ℕ → Option ℕ
number_leaf base n w = pick (all_digits base w) (Some (reduced base n w)) None

-- what `literal` says
unfoldable pub literal_leaf : Token → Option ℕ
literal_leaf w = pick (hexed w) (number_leaf 16 0 (drop 2 w)) (number_leaf 10 0 w)

unfoldable pub leaf_of : List Label → Token → Option Value
leaf_of names w = pick (is_operand w) (Some (operand_value names w)) None

-- the labels that the code holds
unfoldable pub labels : List Held → List Label
labels [] = []
labels (l ∷ ls) = record { name = l.name.now; address = l.address } ∷ labels ls

-- ---- Operators, by the symbols of their tokens

-- the operator of a symbol; the last one too where the symbol is no operator's
unfoldable pub operator_by : ℕ → Operator
operator_by s =
    pick (s == (byte "*")) times
    (pick (s == (byte "+")) plus
    (pick (s == (byte "-")) minus
    (pick (s == 256) shift
    (pick (s == (byte "&")) and or))))

-- its rank; 0 where the symbol is no operator's
unfoldable pub rank_by : ℕ → ℕ
rank_by s =
    pick (s == (byte "*")) 1
    (pick (s == (byte "+")) 2
    (pick (s == (byte "-")) 2
    (pick (s == 256) 3
    (pick (s == (byte "&")) 4
    (pick (s == (byte "|")) 5 0)))))

-- the operator that the code holds
abbrev pub shown_operator : Sign → Operator
shown_operator Times = times
shown_operator Plus = plus
shown_operator Minus = minus
shown_operator Shift = shift
shown_operator And = and
shown_operator Or = or

-- what `Operator::of` says
abbrev pub OperatorOf : Symbol → Option Sign → Type 0
OperatorOf s None = rank_by (symbol_number s) ≡ 0
OperatorOf s (Some o) = (operator_by (symbol_number s) ≡ shown_operator o) × (rank_by (symbol_number s) ≡ rank_of (shown_operator o))

unfoldable pub operator_of : Token → Operator
operator_of t = operator_by (symbol_of t)

unfoldable pub rank : Token → ℕ
rank t = rank_by (symbol_of t)

-- ---- Expressions

-- what was read and the tokens after it, or nothing
pub data Out (A : Type 0) : Type 0 where
  refused : Out A
  read : A → List Token → Out A

module _ {A : Type 0} where
  unfoldable pub bind : Out A → (A → List Token → Out A) → Out A
  bind refused f = refused
  bind (read v r) f = f v r

  unfoldable pub mapped : {B : Type 0} → (A → B) → Out A → Out B
  mapped f refused = refused
  mapped f (read v r) = read (f v) r

  -- the closing parenthesis after what stands in parentheses
  unfoldable pub closed : A → List Token → Out A
  closed v [] = refused
  closed v (t ∷ r) = pick (symbol_of t == byte ")") (read v r) refused

unfoldable pub leaf : Token → List Token → Out Tree
leaf t r = pick (is_operand t) (read (operand t) r) refused

-- rank 0: an operand, or any number of minus signs before one; `inner` reads what stands in parentheses
unfoldable pub prefixed : (List Token → Out Tree) → List Token → Out Tree
prefixed inner [] = refused
prefixed inner (t ∷ r) =
    pick (symbol_of t == byte "-") (mapped negation (prefixed inner r)) (pick (symbol_of t == byte "(") (bind (inner r) closed) (leaf t r))

-- the operators of rank k that follow x, left to right; `next` reads an operand of them
unfoldable pub rest : (List Token → Out Tree) → ℕ → ℕ → Tree → List Token → Out Tree
rest next k zero x ts = read x ts
rest next k (suc n) x [] = read x []
rest next k (suc n) x (o ∷ ts) =
    pick (rank o == k) (bind (next ts) (λ y r. rest next k n (operation (operator_of o) x y) r)) (read x (o ∷ ts))

unfoldable pub follow : (List Token → Out Tree) → ℕ → Tree → List Token → Out Tree
follow next k x ts = rest next k (length ts) x ts

unfoldable pub chain : (List Token → Out Tree) → ℕ → List Token → Out Tree
chain next k ts = bind (next ts) (follow next k)

unfoldable pub ranked : (List Token → Out Tree) → ℕ → List Token → Out Tree
ranked inner zero = prefixed inner
ranked inner (suc k) = chain (ranked inner k) (suc k)

-- what stands in parentheses, where d of them may be open
unfoldable pub inside : ℕ → List Token → Out Tree
inside zero = λ ts. refused
inside (suc d) = ranked (inside d) 5

-- an expression of rank k with parentheses nested to depth d at most
unfoldable pub parse : ℕ → ℕ → List Token → Out Tree
parse d k = ranked (inside d) k

-- what the code has read of a text
unfoldable pub told : List ℕ → Option Parsed → Out Value
told text None = refused
told text (Some p) = read p.value (tokens_at text p.next)

-- the promise of `operand`, `ranked` and `value_at`: of a text, the names, a position, depth and rank
abbrev pub Answers : List ℕ → List Held → ℕ → ℕ → ℕ → Option Parsed → Type 0
Answers text names at d k r = told text r ≡ mapped (value_of (operand_value (labels names))) (parse d k (tokens_at text at))

-- the rank of the operator that comes first
unfoldable pub head_rank : List Token → ℕ
head_rank [] = 0
head_rank (o ∷ ts) = rank o

-- what `operator_at` says of an operator that it finds
pub record JoinedBy (text : List ℕ) (at : ℕ) (j : Join) : Type 0 where
  pub mark : Token
  pub split : tokens_at text at ≡ mark ∷ tokens_at text j.end
  pub same : operator_of mark ≡ shown_operator j.operator
  pub ranks : rank mark ≡ rank_of (shown_operator j.operator)

abbrev pub Between : List ℕ → ℕ → ℕ → ℕ → Option Join → Type 0
Between text at low high None = (k : ℕ) → low ≤ k → k ≤ high → head_rank (tokens_at text at) ≡ k → ⊥
Between text at low high (Some j) = JoinedBy text at j × (low ≤ rank_of (shown_operator j.operator)) × (rank_of (shown_operator j.operator) ≤ high)

-- so many minus signs before what was read
unfoldable pub negated_by : ℕ → Out Value → Out Value
negated_by zero o = o
negated_by (suc n) o = mapped negated (negated_by n o)

unfoldable pub odd : ℕ → Bool
odd zero = false
odd (suc n) = not (odd n)

-- what `lead_at` says: the same value for every meaning of operands, and for every reading of parentheses
pub record LedBy (text : List ℕ) (at : ℕ) (r : Lead) : Type 0 where
  pub signs : ℕ
  pub parity : r.negative ≡ odd signs
  pub same : (mean : Token → Value) (inner : List Token → Out Tree) →
      mapped (value_of mean) (prefixed inner (tokens_at text at))
      ≡ negated_by signs (mapped (value_of mean) (pick (symbol_number r.first.symbol == byte "(")
      (bind (inner (tokens_at text r.first.end)) closed)
      (leaf r.first.word.now (tokens_at text r.first.end))))

abbrev pub Led : List ℕ → ℕ → Option Lead → Type 0
Led text at None = (mean : Token → Value) (inner : List Token → Out Tree) → mapped (value_of mean) (prefixed inner (tokens_at text at)) ≡ refused
Led text at (Some r) = LedBy text at r

-- what `signed` says
abbrev pub Signed : Bool → Parsed → Parsed → Type 0
Signed negative p r = (n : ℕ) → negative ≡ odd n → (text : List ℕ) → told text (Some r) ≡ negated_by n (told text (Some p))
