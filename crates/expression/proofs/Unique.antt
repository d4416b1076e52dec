-- `parse` finds each reading of the grammar, so there is only one.
-- Assumes nothing.
use Rattle.std.proofs.Common.{◌≡◌, ℕ, zero, suc, ◌<◌, ◌≤◌, true, false, eqb, ◌⊎◌, List, [], ◌∷◌, ◌++◌, sym, refl, ap, ◌∙◌, inl, inr, append_assoc, arith, ne_eqb}
use mathlib.Core.Bool.{false≢true}
use Rattle.token.specs.Tokens.{Token, between, is_digit, is_letter}
use Rattle.token.specs.Scan.{symbol_of}
use Rattle.token.proofs.Symbols.{one_byte}
use Rattle.expression.specs.Operands.{is_name, is_operand, Operator, operator_text, rank_of}
use Rattle.expression.specs.Grammar.{Tree, negation, operation, Expression, single, unary_minus, bracketed, tighter, joined}
use Rattle.expression.specs.Reading.{rank_by, rank, Out, read, bind, mapped, closed, leaf, prefixed, follow, chain, ranked, inside, parse, head_rank}
use Rattle.expression.proofs.Operators.{text_operator, text_rank}
use Rattle.expression.proofs.Laws.{follow_stop, follow_more, within_parse}

-- no operator tighter than rank k comes first
abbrev pub Stops : ℕ → List Token → Type 0
Stops k r = (head_rank r ≡ 0) ⊎ (k ≤ head_rank r)

looser : (k : ℕ) (r : List Token) → Stops (suc k) r → Stops k r
looser k r (inl e) = inl e
looser k r (inr h) = inr (omega arith)

none_tighter : (k : ℕ) (r : List Token) → Stops (suc (suc k)) r → head_rank r ≡ suc k → ⊥
none_tighter k r (inl e) f = omega arith
none_tighter k r (inr h) f = omega arith

-- a token of one byte that is no operand is not the operand w
not_this : (w : Token) (b : ℕ) → b < 256 → is_operand (b ∷ []) ≡ false → is_operand w ≡ true → symbol_of w ≡ b → ⊥
not_this w b h n o e = false≢true (sym n ∙ ap is_operand (sym (one_byte w b h e)) ∙ o)

operand_starts : (w : Token) → is_operand w ≡ true → (eqb (symbol_of w) 45 ≡ false) × (eqb (symbol_of w) 40 ≡ false)
unfolding is_operand is_name is_digit is_letter between
operand_starts w o = (ne_eqb _ _ (not_this w 45 (omega arith) refl o), ne_eqb _ _ (not_this w 40 (omega arith) refl o))

-- after t, the operators of rank k that follow
abbrev goes_on_at : ℕ → ℕ → Tree → List Token → Out Tree
goes_on_at d zero t r = read t r
goes_on_at d (suc k) t r = follow (parse d k) (suc k) t r

ends : (d k : ℕ) (t : Tree) (r : List Token) → Stops (suc k) r → goes_on_at d k t r ≡ read t r
ends d zero t r s = refl
ends d (suc k) t r s = follow_stop (parse d k) (suc k) t r (none_tighter k r s)

chained : (d k : ℕ) (t : Tree) (ts r : List Token) → parse d k ts ≡ read t r → parse d (suc k) ts ≡ follow (parse d k) (suc k) t r
unfolding parse ranked chain bind
chained d k t ts r e = rw e

-- an operator of that rank comes first
next_stops : {k : ℕ} (o : Operator) (r : List Token) → rank_of o ≡ k → Stops k (operator_text o ∷ r)
unfolding head_rank
next_stops o r e = inr (omega (arith, text_rank o, e))

complete : {d k : ℕ} {ts : List Token} {t : Tree} → Expression d k ts t → (r : List Token) → Stops k r → parse d k (ts ++ r) ≡ goes_on_at d k t r
unfolding parse ranked prefixed leaf bind closed mapped inside head_rank rank rank_by symbol_of
complete (single {w = w} e) r s = let (m, b) = operand_starts w e in rw (m, b, e)
complete (unary_minus h) r s = ap (mapped negation) (complete h r (inr (omega arith)))
complete (bracketed {d = d} {ts = ts} {t = t} h) r s =
    let c : List Token = (41 ∷ []) ∷ r in
    let e : parse d 5 (ts ++ c) ≡ read t c = complete h c (inl refl) ∙ ends d 5 t c (inl refl) in
    rw append_assoc (ap (λ x. bind x closed) e)
complete (tighter {d = d} {k = k} {ts = ts} {t = t} h) r s =
    chained d k t (ts ++ r) r (complete h r (looser k r s) ∙ ends d k t r s)
complete (joined {d = d} {k = k} {us = us} {x = x} {y = y} o e h g) r s =
    rw append_assoc
    (complete h (operator_text o ∷ (us ++ r)) (next_stops o (us ++ r) e)
    ∙ follow_more (parse d k) (suc k) (within_parse d k) x (operator_text o) (us ++ r) (text_rank o ∙ e)
    ∙ ap (λ z. bind (parse d k (us ++ r)) (λ u q. follow (parse d k) (suc k) (operation z x u) q)) (text_operator o)
    ∙ ap (λ z. bind z (λ u q. follow (parse d k) (suc k) (operation o x u) q))
    (complete g r (looser k r s) ∙ ends d k y r s))

-- an expression is what `parse` finds where it stops before r
pub whole : {d k : ℕ} {ts : List Token} {v : Tree} → Expression d k ts v → (r : List Token) → Stops (suc k) r → parse d k (ts ++ r) ≡ read v r
whole {d} {k} {ts} {v} h r s = complete h r (looser k r s) ∙ ends d k v r s

-- there is only one, also where other tokens follow: how far it goes, and its tree
pub unique :
    {d k : ℕ} {ts us : List Token} {v w : Tree} (r q : List Token) → Expression d k ts v → Expression d k us w
    → Stops (suc k) r → Stops (suc k) q → ts ++ r ≡ us ++ q → (v ≡ w) × (r ≡ q)
unique {d} {k} {ts} {us} {v} {w} r q g h s t e =
    let f : read v r ≡ read w q = sym (whole g r s) ∙ ap (parse d k) e ∙ whole h q t in
    (cc, cc)
