-- The reading of a line as a function on its tokens: proofs/Grammar.antt shows that `line_of` finds the reading of the grammar,
-- where there is one. What a text gives is defined with `line_of` and `valued`; the rest serves inner contracts.
use Rattle.std.specs.Prelude.{ℕ, suc, List, [], ◌∷◌, eqb, ltb, length}
use Rattle.word.specs.Word.{pick}
use Rattle.isa.specs.Instructions.{Register}
use Rattle.token.specs.Ascii.{byte}
use Rattle.token.specs.Tokens.{Token}
use Rattle.token.specs.Scan.{symbol_of, alike}
use Rattle.expression.specs.declared.Value.{Value}
use Rattle.expression.specs.Operands.{register_of, is_name}
use Rattle.expression.specs.Grammar.{Tree}
use Rattle.expression.specs.Reading.{Out, refused, read, bind, mapped, parse}
use Rattle.statement.specs.Syntax.{Item, register, punctuation, N, Row, table, row_at, Parts, put, put_n, blank, Statement, no_statement, of_row, Line, line}

-- a line's reading, if it has one
pub data ReadLine (A : Type 0) : Type 0 where
  outside : ReadLine A
  reads : Line A → ReadLine A

-- the place of the row with that mnemonic; where there is none, how many rows there are
unfoldable pub row_from : List Row → Token → ℕ
row_from [] m = 0
row_from (r ∷ rs) m = pick (alike m r.mnemonic) 0 (suc (row_from rs m))

unfoldable pub row_of : Token → ℕ
row_of m = row_from table m

module _ {A : Type 0} where
  unfoldable pub one_register : Register → Parts A → List Token → Out (Parts A)
  one_register r p [] = refused
  one_register r p (t ∷ ts) = pick (ltb (register_of t) 8) (read (put r (register_of t) p) ts) refused

  unfoldable pub a_punctuation : ℕ → Parts A → List Token → Out (Parts A)
  a_punctuation m p [] = refused
  a_punctuation m p (t ∷ ts) = pick (eqb (symbol_of t) m) (read p ts) refused

  -- nothing may follow the operands of row k; l is the name that the line gives, if any
  unfoldable pub finished : ℕ → List Token → Out (Parts A) → ReadLine A
  finished k l refused = outside
  finished k l (read p []) = reads (line l (of_row k p))
  finished k l (read p (t ∷ ts)) = outside

-- `expression` reads what N is
module _ {A : Type 0} (expression : List Token → Out A) where
  unfoldable pub read_item : Item → Parts A → List Token → Out (Parts A)
  read_item (register r) p ts = one_register r p ts
  read_item (punctuation m) p ts = a_punctuation m p ts
  read_item N p ts = mapped (λ e. put_n e p) (expression ts)

  unfoldable pub read_items : List Item → Parts A → List Token → Out (Parts A)
  read_items [] p ts = read p ts
  read_items (i ∷ is) p ts = bind (read_item i p ts) (read_items is)

  -- the statement of a line; `empty` are the parts where nothing stands
  unfoldable pub statement_of : Parts A → List Token → List Token → ReadLine A
  statement_of empty l [] = reads (line l no_statement)
  statement_of empty l (m ∷ ts) =
      pick (ltb (row_of m) (length table)) (finished (row_of m) l (read_items (row_at (row_of m)).items empty ts)) outside

  unfoldable pub line_by : Parts A → List Token → ReadLine A
  line_by empty [] = statement_of empty [] []
  line_by empty (w ∷ []) = statement_of empty [] (w ∷ [])
  line_by empty (w ∷ c ∷ ts) =
      pick (eqb (symbol_of c) (byte ":")) (pick (is_name w) (statement_of empty (w ∷ []) ts) outside) (statement_of empty [] (w ∷ c ∷ ts))

-- the reading of a line's tokens
unfoldable pub line_of : List Token → ReadLine Tree
line_of ts = line_by (parse 16 5) blank ts

-- with the values of its expressions, given the names
unfoldable pub valued_parts : (Tree → Value) → Parts Tree → Parts Value
valued_parts v p = record { a = p.a; b = p.b; d = p.d; n = v p.n }

unfoldable pub valued_statement : (Tree → Value) → Statement Tree → Statement Value
valued_statement v no_statement = no_statement
valued_statement v (of_row k p) = of_row k (valued_parts v p)

unfoldable pub valued : (Tree → Value) → ReadLine Tree → ReadLine Value
valued v outside = outside
valued v (reads l) = reads (line l.label (valued_statement v l.statement))
