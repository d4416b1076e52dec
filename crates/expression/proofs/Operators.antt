-- The operators and their symbols.
-- Assumes nothing.
use Rattle.std.proofs.Common.{◌≡◌, ℕ, suc, ◌<◌, Bool, true, false, eqb, [], ◌∷◌, sym, refl, arith, eqb-true}
use Rattle.word.specs.Word.{pick}
use Rattle.token.specs.Tokens.{Token}
use Rattle.token.specs.Scan.{symbol_of}
use Rattle.token.proofs.Symbols.{one_byte, shift_symbol}
use Rattle.expression.specs.Operands.{Operator, times, plus, minus, shift, and, or, operator_text, rank_of}
use Rattle.expression.specs.Reading.{operator_by, rank_by, operator_of, rank}

-- an operator's text stands for it, and has its rank
pub text_operator : (o : Operator) → operator_of (operator_text o) ≡ o
unfolding operator_of operator_by symbol_of
text_operator times = refl
text_operator plus = refl
text_operator minus = refl
text_operator shift = refl
text_operator and = refl
text_operator or = refl

pub text_rank : (o : Operator) → rank (operator_text o) ≡ rank_of o
unfolding rank rank_by rank_of symbol_of
text_rank times = refl
text_rank plus = refl
text_rank minus = refl
text_rank shift = refl
text_rank and = refl
text_rank or = refl

-- a token that has a rank is the text of the operator that it stands for, which has that rank
pub of_rank : (t : Token) {k : ℕ} → rank t ≡ suc k → (operator_text (operator_of t) ≡ t) × (rank_of (operator_of t) ≡ suc k)
unfolding rank rank_by rank_of operator_of operator_by
of_rank t {k} e =
    go (eqb s 42) (eqb s 43) (eqb s 45) (eqb s 256) (eqb s 38) (eqb s 124) (eqb-true s 42) (eqb-true s 43) (eqb-true s 45) (eqb-true s 256) (eqb-true s 38)
    (eqb-true s 124) e
  where
    s : ℕ
    s = symbol_of t

    one : (b : ℕ) → b < 256 → s ≡ b → b ∷ [] ≡ t
    one b h e = sym (one_byte t b h e)

    go : (a b c d e f : Bool) → (a ≡ true → s ≡ 42) → (b ≡ true → s ≡ 43) → (c ≡ true → s ≡ 45) → (d ≡ true → s ≡ 256) → (e ≡ true → s ≡ 38) → (f ≡ true → s ≡ 124)
        → pick a 1 (pick b 2 (pick c 2 (pick d 3 (pick e 4 (pick f 5 0))))) ≡ suc k
        → (operator_text (pick a times (pick b plus (pick c minus (pick d shift (pick e and or))))) ≡ t)
        × (rank_of (pick a times (pick b plus (pick c minus (pick d shift (pick e and or))))) ≡ suc k)
    go true b c d e f p q r u v w z = (one 42 (omega arith) (p refl), z)
    go false true c d e f p q r u v w z = (one 43 (omega arith) (q refl), z)
    go false false true d e f p q r u v w z = (one 45 (omega arith) (r refl), z)
    go false false false true e f p q r u v w z = (sym (shift_symbol t (u refl)), z)
    go false false false false true f p q r u v w z = (one 38 (omega arith) (v refl), z)
    go false false false false false true p q r u v w z = (one 124 (omega arith) (w refl), z)
    go false false false false false false p q r u v w z = absurd (omega arith)
