-- What follows a value: an operator, or a closing parenthesis.
-- Assumes nothing.
use Rattle.std.proofs.Common.{◌≡◌, ℕ, ◌≤◌, eqb, List, [], sym, ap, ◌∙◌, arith, Some, None}
use Rattle.word.specs.Word.{pick}
use Rattle.token.specs.declared.Token.{Token as Found}
use Rattle.token.specs.Scan.{tokens_at, symbol_number, At}
use Rattle.expression.specs.declared.Value.{Value}
use Rattle.expression.specs.declared.arithmetic.Operator.{Operator as Sign}
use Rattle.expression.specs.Operands.{rank_of}
use Rattle.expression.specs.Reading.{rank_by, rank, refused, read, closed, head_rank, shown_operator, OperatorOf, operator_of, JoinedBy, Between}

pub no_token : (s : List ℕ) (at low high : ℕ) → tokens_at s at ≡ [] → 1 ≤ low → Between s at low high None
unfolding head_rank
no_token s at low high e h k l m z = let w : 0 ≡ k = sym (ap head_rank e) ∙ z in omega arith

module _ (s : List ℕ) (at : ℕ) (t : Found) (f : At s at t) where
  pub closed_at : (v : Value) → closed v (tokens_at s at) ≡ pick (eqb (symbol_number t.symbol) 41) (read v (tokens_at s t.end)) refused
  unfolding closed
  closed_at v = rw (f.split, ← f.number)

  head_at : head_rank (tokens_at s at) ≡ rank_by (symbol_number t.symbol)
  unfolding head_rank rank
  head_at = rw (f.split, f.number)

  pub no_operator : (low high : ℕ) → rank_by (symbol_number t.symbol) ≡ 0 → 1 ≤ low → Between s at low high None
  no_operator low high e h k l m z = let w : 0 ≡ k = sym (head_at ∙ e) ∙ z in omega arith

  module _ (o : Sign) (g : OperatorOf t.symbol (Some o)) where
    pub operator : JoinedBy s at (record { operator = o; end = t.end })
    unfolding operator_of rank
    operator = record { mark = t.word.now; split = f.split; same = rw (← f.number) g.0; ranks = rw (← f.number) g.1 }

    pub other_rank : (low high : ℕ) → (low ≤ rank_of (shown_operator o) → rank_of (shown_operator o) ≤ high → ⊥) → Between s at low high None
    other_rank low high n k l m z =
        let e : rank_of (shown_operator o) ≡ k = sym (head_at ∙ g.1) ∙ z in
        n (omega arith) (omega arith)
