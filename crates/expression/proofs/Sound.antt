-- What `parse` finds is a reading by the grammar: with `Unique.whole`, it finds one exactly where there is one.
-- Assumes nothing.
use Rattle.std.proofs.Common.{◌≡◌, ℕ, zero, suc, Bool, true, false, eqb, List, [], ◌∷◌, ◌++◌, length, sym, refl, ap, ◌∙◌, subst, append_assoc, arith, eqb-true}
use Rattle.word.specs.Word.{pick}
use Rattle.word.proofs.Tests.{clash}
use Rattle.token.specs.Tokens.{Token}
use Rattle.token.specs.Scan.{symbol_of}
use Rattle.token.proofs.Symbols.{one_byte}
use Rattle.expression.specs.Operands.{is_operand}
use Rattle.expression.specs.Grammar.{Tree, operand, negation, operation, Expression, single, unary_minus, bracketed, tighter, joined}
use Rattle.expression.specs.Reading.{operator_of, rank, Out, refused, read, bind, mapped, closed, leaf, prefixed, rest, follow, chain, ranked, inside, parse}
use Rattle.expression.proofs.Operators.{of_rank}
use Rattle.expression.proofs.Unique.{Stops, whole}

-- the tokens begin with an expression, and the rest is left
abbrev Sound : ℕ → ℕ → List Token → Out Tree → Type 0
Sound d k ts refused = Unit
Sound d k ts (read v r) = (us : List Token) × (ts ≡ us ++ r) × Expression d k us v

-- with parentheses round it, it is an expression of rank 0
abbrev Enclosed : ℕ → List Token → Out Tree → Type 0
Enclosed d ts refused = Unit
Enclosed d ts (read v r) = (us : List Token) × (ts ≡ us ++ r) × Expression d 0 ((40 ∷ []) ∷ (us ++ ((41 ∷ []) ∷ []))) v

-- ---- Rank 0

module _ (d : ℕ) (r : List Token) where
  sound_minus : (o : Out Tree) → Sound d 0 r o → Sound d 0 ((45 ∷ []) ∷ r) (mapped negation o)
  unfolding mapped
  sound_minus refused h = tt
  sound_minus (read v q) (us, e, x) = ((45 ∷ []) ∷ us, ap (λ ts. (45 ∷ []) ∷ ts) e, unary_minus x)

  sound_closed : (v : Tree) (q : List Token) → Enclosed d r (read v q) → Sound d 0 ((40 ∷ []) ∷ r) (closed v q)
  unfolding closed
  sound_closed v [] h = tt
  sound_closed v (t ∷ q) (us, e, x) = go (eqb (symbol_of t) 41) refl
    where
      go : (b : Bool) → eqb (symbol_of t) 41 ≡ b → Sound d 0 ((40 ∷ []) ∷ r) (pick b (read v q) refused)
      go true f =
          let c : t ≡ 41 ∷ [] = one_byte t 41 (omega arith) (eqb-true _ _ f) in
          ((40 ∷ []) ∷ (us ++ ((41 ∷ []) ∷ [])), rw (e, c, append_assoc), x)
      go false f = tt

  sound_bracket : (o : Out Tree) → Enclosed d r o → Sound d 0 ((40 ∷ []) ∷ r) (bind o closed)
  unfolding bind
  sound_bracket refused h = tt
  sound_bracket (read v q) h = sound_closed v q h

  sound_leaf : (w : Token) (b : Bool) → is_operand w ≡ b → Sound d 0 (w ∷ r) (pick b (read (operand w) r) refused)
  sound_leaf w true e = (w ∷ [], refl, single e)
  sound_leaf w false e = tt

sound_prefixed : (d : ℕ) (inner : List Token → Out Tree) → ((ts : List Token) → Enclosed d ts (inner ts)) → (ts : List Token) → Sound d 0 ts (prefixed inner ts)
unfolding prefixed leaf
sound_prefixed d inner h [] = tt
sound_prefixed d inner h (t ∷ r) = go (eqb (symbol_of t) 45) refl (eqb (symbol_of t) 40) refl (sound_prefixed d inner h r)
  where
    go : (x : Bool) → eqb (symbol_of t) 45 ≡ x → (y : Bool) → eqb (symbol_of t) 40 ≡ y → Sound d 0 r (prefixed inner r)
        → Sound d 0 (t ∷ r) (pick x (mapped negation (prefixed inner r)) (pick y (bind (inner r) closed) (leaf t r)))
    go true e y f i = rw (one_byte t 45 (omega arith) (eqb-true _ _ e)) (sound_minus d r (prefixed inner r) i)
    go false e true f i = rw (one_byte t 40 (omega arith) (eqb-true _ _ f)) (sound_bracket d r (inner r) (h r))
    go false e false f i = sound_leaf d r t (is_operand t) refl

-- ---- The other ranks

module _ (d k : ℕ) (next : List Token → Out Tree) (h : (ts : List Token) → Sound d k ts (next ts)) where
  sound_rest : (n : ℕ) (all us ts : List Token) (x : Tree) → all ≡ us ++ ts → Expression d (suc k) us x → Sound d (suc k) all (rest next (suc k) n x ts)
  unfolding rest bind
  sound_rest zero all us ts x e l = (us, e, l)
  sound_rest (suc n) all us [] x e l = (us, e, l)
  sound_rest (suc n) all us (o ∷ ts) x e l = go (eqb (rank o) (suc k)) refl (λ vs r y. sound_rest n all vs r y)
    where
      Again : Type 0
      Again = (vs r : List Token) (y : Tree) → all ≡ vs ++ r → Expression d (suc k) vs y → Sound d (suc k) all (rest next (suc k) n y r)

      second : Again → (q : Out Tree) → Sound d k ts q → rank o ≡ suc k → Sound d (suc k) all (bind q (λ y r. rest next (suc k) n (operation (operator_of o) x y) r))
      second again refused s z = tt
      second again (read y r) (vs, p, m) z =
          let (t, q) = of_rank o z in
          again (us ++ (o ∷ vs)) r (operation (operator_of o) x y) (rw (e, p, append_assoc))
          (subst (λ u. Expression d (suc k) (us ++ (u ∷ vs)) (operation (operator_of o) x y)) t (joined (operator_of o) q l m))

      go : (b : Bool) → eqb (rank o) (suc k) ≡ b → Again
          → Sound d (suc k) all (pick b (bind (next ts) (λ y r. rest next (suc k) n (operation (operator_of o) x y) r)) (read x (o ∷ ts)))
      go true f again = second again (next ts) (h ts) (eqb-true _ _ f)
      go false f again = (us, e, l)

  sound_chain : (ts : List Token) → Sound d (suc k) ts (chain next (suc k) ts)
  unfolding chain bind follow
  sound_chain ts = go (next ts) (h ts)
    where
      go : (q : Out Tree) → Sound d k ts q → Sound d (suc k) ts (bind q (follow next (suc k)))
      go refused s = tt
      go (read x r) (us, e, l) = sound_rest (length r) ts us r x e (tighter l)

sound_ranked : (d : ℕ) (inner : List Token → Out Tree) → ((ts : List Token) → Enclosed d ts (inner ts)) → (k : ℕ) (ts : List Token) → Sound d k ts (ranked inner k ts)
unfolding ranked
sound_ranked d inner h zero = sound_prefixed d inner h
sound_ranked d inner h (suc k) = sound_chain d k (ranked inner k) (sound_ranked d inner h k)

enclose : (d : ℕ) (ts : List Token) (o : Out Tree) → Sound d 5 ts o → Enclosed (suc d) ts o
enclose d ts refused s = tt
enclose d ts (read v r) (us, e, x) = (us, e, bracketed x)

sound_inside : (d : ℕ) (ts : List Token) → Enclosed d ts (inside d ts)
unfolding inside
sound_inside zero ts = tt
sound_inside (suc d) ts = enclose d ts (ranked (inside d) 5 ts) (sound_ranked d (inside d) (sound_inside d) 5 ts)

sound_parse : (d k : ℕ) (ts : List Token) → Sound d k ts (parse d k ts)
unfolding parse
sound_parse d k ts = sound_ranked d (inside d) (sound_inside d) k ts

-- what `parse` reads is an expression
pub sound : (d k : ℕ) (ts : List Token) (v : Tree) (r : List Token) → parse d k ts ≡ read v r → (us : List Token) × (ts ≡ us ++ r) × Expression d k us v
sound d k ts v r e = subst (Sound d k ts) e (sound_parse d k ts)

-- where it refuses, no part of the tokens that it could stop after is an expression
pub refuses : (d k : ℕ) (ts r : List Token) (v : Tree) → parse d k (ts ++ r) ≡ refused → Stops (suc k) r → Expression d k ts v → ⊥
refuses d k ts r v e s h = let w : refused ≡ read v r = sym e ∙ whole h r s in clash (cc)
