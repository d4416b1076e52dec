-- The reading of expressions: it leaves no more tokens than it was given, and the operators of a rank follow one by one.
-- Assumes nothing.
use Rattle.std.proofs.Common.{◌≡◌, ℕ, zero, suc, ◌≤◌, eqb, List, [], ◌∷◌, length, refl, le_trans, le_refl, arith, eq-eqb, ne_eqb}
use Rattle.word.proofs.Tests.{either}
use Rattle.token.specs.Tokens.{Token}
use Rattle.token.specs.Scan.{symbol_of}
use Rattle.expression.specs.Operands.{is_operand}
use Rattle.expression.specs.Grammar.{Tree, negation, operation}
use Rattle.expression.specs.Reading.{operator_of, rank, Out, refused, read, bind, mapped, closed, leaf, prefixed, rest, follow, chain, ranked, inside, parse, head_rank}

-- ---- What is left

abbrev pub Within : ℕ → Out Tree → Type 0
Within n refused = Unit
Within n (read t r) = length r ≤ n

abbrev pub Shrinks : (List Token → Out Tree) → Type 0
Shrinks f = (ts : List Token) → Within (length ts) (f ts)

within_more : (o : Out Tree) {n m : ℕ} → n ≤ m → Within n o → Within m o
within_more refused h w = tt
within_more (read t r) h w = le_trans w h

within_mapped : (f : Tree → Tree) (o : Out Tree) (n : ℕ) → Within n o → Within n (mapped f o)
unfolding mapped
within_mapped f refused n w = tt
within_mapped f (read t r) n w = w

within_bind :
    (o : Out Tree) (n : ℕ) → Within n o → (f : Tree → List Token → Out Tree) → ((t : Tree) (r : List Token) → Within (length r) (f t r))
    → Within n (bind o f)
unfolding bind
within_bind refused n w f h = tt
within_bind (read t r) n w f h = within_more (f t r) w (h t r)

bind_ext :
    (o : Out Tree) (n : ℕ) → Within n o → (f g : Tree → List Token → Out Tree)
    → ((t : Tree) (r : List Token) → length r ≤ n → f t r ≡ g t r) → bind o f ≡ bind o g
unfolding bind
bind_ext refused n w f g h = refl
bind_ext (read t r) n w f g h = h t r w

within_closed : (v : Tree) (r : List Token) → Within (length r) (closed v r)
unfolding closed
within_closed v [] = tt
within_closed v (t ∷ r) = either (Within (length (t ∷ r))) (eqb (symbol_of t) 41) (omega arith) tt

within_leaf : (t : Token) (r : List Token) → Within (length r) (leaf t r)
unfolding leaf
within_leaf t r = either (Within (length r)) (is_operand t) (le_refl (length r)) tt

within_prefixed : (inner : List Token → Out Tree) → Shrinks inner → Shrinks (prefixed inner)
unfolding prefixed
within_prefixed inner h [] = tt
within_prefixed inner h (t ∷ r) =
    within_more (prefixed inner (t ∷ r)) {n = length r} (omega arith)
    (either (Within (length r)) (eqb (symbol_of t) 45)
    (within_mapped negation (prefixed inner r) (length r) (within_prefixed inner h r))
    (either (Within (length r)) (eqb (symbol_of t) 40)
    (within_bind (inner r) (length r) (h r) closed within_closed)
    (within_leaf t r)))

module _ (next : List Token → Out Tree) (k : ℕ) (h : Shrinks next) where
  within_rest : (n : ℕ) (x : Tree) (ts : List Token) → Within (length ts) (rest next k n x ts)
  unfolding rest
  within_rest zero x ts = le_refl (length ts)
  within_rest (suc n) x [] = le_refl zero
  within_rest (suc n) x (o ∷ ts) =
      let f : Tree → List Token → Out Tree = λ y r. rest next k n (operation (operator_of o) x y) r in
      either (Within (length (o ∷ ts))) (eqb (rank o) k)
      (within_more (bind (next ts) f) {n = length ts} (omega arith)
      (within_bind (next ts) (length ts) (h ts) f (λ y r. within_rest n (operation (operator_of o) x y) r)))
      (le_refl (length (o ∷ ts)))

  within_chain : Shrinks (chain next k)
  unfolding chain follow
  within_chain ts = within_bind (next ts) (length ts) (h ts) (follow next k) (λ x r. within_rest (length r) x r)

within_ranked : (inner : List Token → Out Tree) → Shrinks inner → (k : ℕ) → Shrinks (ranked inner k)
unfolding ranked
within_ranked inner h zero = within_prefixed inner h
within_ranked inner h (suc k) = within_chain (ranked inner k) (suc k) (within_ranked inner h k)

within_inside : (d : ℕ) → Shrinks (inside d)
unfolding inside
within_inside zero = λ ts. tt
within_inside (suc d) = within_ranked (inside d) (within_inside d) 5

pub within_parse : (d k : ℕ) → Shrinks (parse d k)
unfolding parse
within_parse d k = within_ranked (inside d) (within_inside d) k

-- ---- The operators of a rank

module _ (next : List Token → Out Tree) (k : ℕ) where
  -- none comes first
  pub follow_stop : (x : Tree) (ts : List Token) → (head_rank ts ≡ k → ⊥) → follow next k x ts ≡ read x ts
  unfolding follow rest head_rank
  follow_stop x [] n = refl
  follow_stop x (o ∷ ts) n = rw (ne_eqb (rank o) k n)

  module _ (h : Shrinks next) where
    -- how many may follow is no bound where it is as many as the tokens
    enough : (n m : ℕ) (x : Tree) (ts : List Token) → length ts ≤ n → length ts ≤ m → rest next k n x ts ≡ rest next k m x ts
    unfolding rest
    enough zero zero x ts p q = refl
    enough zero (suc m) x [] p q = refl
    enough zero (suc m) x (o ∷ ts) p q = absurd (omega arith)
    enough (suc n) zero x [] p q = refl
    enough (suc n) zero x (o ∷ ts) p q = absurd (omega arith)
    enough (suc n) (suc m) x [] p q = refl
    enough (suc n) (suc m) x (o ∷ ts) p q =
        rw (bind_ext (next ts) (length ts) (h ts) _ _ (λ y r w. enough n m (operation (operator_of o) x y) r (omega arith) (omega arith)))

    -- one comes first
    pub follow_more :
        (x : Tree) (o : Token) (ts : List Token) → rank o ≡ k
        → follow next k x (o ∷ ts) ≡ bind (next ts) (λ y r. follow next k (operation (operator_of o) x y) r)
    unfolding follow rest
    follow_more x o ts e =
        rw (eq-eqb (rank o) k e)
        (bind_ext (next ts) (length ts) (h ts) _ _ (λ y r w. enough (length ts) (length r) (operation (operator_of o) x y) r w (le_refl (length r))))
