-- A line read with values is the line read with expressions, and then valued.
use Prim.Native.Nat.{ℕ}
use mathlib.Core.Bool.{Bool, true, false}
use mathlib.Core.Path.{◌≡◌, refl, sym, ap, ◌∙◌}
use mathlib.Core.List.{List, [], ◌∷◌}
use lib.Dec.{eqb, ltb}
use lib.ListN.{length}
use Rattle.word.specs.Word.{pick}
use Rattle.isa.specs.Instructions.{Register, a_register, b_register, d_register}
use Rattle.token.specs.Tokens.{Token, between, is_digit}
use Rattle.token.specs.Scan.{symbol_of}
use Rattle.expression.specs.declared.Label.{Label as Given}
use Rattle.expression.specs.declared.Value.{Value}
use Rattle.expression.specs.Operands.{Label, register_of, is_name, operand_value, literal_word, hexed, numeral, digit_of}
use Rattle.expression.specs.Grammar.{Tree, value_of}
use Rattle.expression.specs.Reading.{Out, refused, read, bind, mapped, parse, labels}
use Rattle.statement.specs.Syntax.{Item, register, punctuation, N, row_at, table, Parts, put, put_n, blank}
use Rattle.statement.specs.Reading.{outside, row_of, one_register, a_punctuation, finished, read_item, read_items, statement_of, line_by, line_of, valued_parts, valued_statement, valued}
use Rattle.statement.specs.Parts.{expression_of, blank_value}

module _ (v : Tree → Value) (expression : List Token → Out Tree) where
  abbrev values : List Token → Out Value
  values ts = mapped v (expression ts)

  abbrev with_values : Out (Parts Tree) → Out (Parts Value)
  with_values o = mapped (valued_parts v) o

  put_valued : (r : Register) (k : ℕ) (p : Parts Tree) → put r k (valued_parts v p) ≡ valued_parts v (put r k p)
  unfolding valued_parts
  put_valued a_register k p = refl
  put_valued b_register k p = refl
  put_valued d_register k p = refl

  a_register_valued : (r : Register) (p : Parts Tree) (ts : List Token) → one_register r (valued_parts v p) ts ≡ with_values (one_register r p ts)
  unfolding one_register mapped
  a_register_valued r p [] = refl
  a_register_valued r p (t ∷ ts) = go (ltb (register_of t) 8)
    where
      go : (b : Bool) → pick b (read (put r (register_of t) (valued_parts v p)) ts) refused ≡ with_values (pick b (read (put r (register_of t) p) ts) refused)
      go true = ap (λ (q : Parts Value). read q ts) (put_valued r (register_of t) p)
      go false = refl

  a_mark_valued : (m : ℕ) (p : Parts Tree) (ts : List Token) → a_punctuation m (valued_parts v p) ts ≡ with_values (a_punctuation m p ts)
  unfolding a_punctuation mapped
  a_mark_valued m p [] = refl
  a_mark_valued m p (t ∷ ts) = go (eqb (symbol_of t) m)
    where
      go : (b : Bool) → pick b (read (valued_parts v p) ts) refused ≡ with_values (pick b (read p ts) refused)
      go true = refl
      go false = refl

  n_valued : (p : Parts Tree) (o : Out Tree) → mapped (λ e. put_n e (valued_parts v p)) (mapped v o) ≡ with_values (mapped (λ e. put_n e p) o)
  unfolding mapped valued_parts
  n_valued p refused = refl
  n_valued p (read e ts) = refl

  item_valued : (i : Item) (p : Parts Tree) (ts : List Token) → read_item values i (valued_parts v p) ts ≡ with_values (read_item expression i p ts)
  unfolding read_item
  item_valued (register r) p ts = a_register_valued r p ts
  item_valued (punctuation m) p ts = a_mark_valued m p ts
  item_valued N p ts = n_valued p (expression ts)

  items_valued : (is : List Item) (p : Parts Tree) (ts : List Token) → read_items values is (valued_parts v p) ts ≡ with_values (read_items expression is p ts)
  unfolding read_items mapped bind
  items_valued [] p ts = refl
  items_valued (i ∷ is) p ts = ap (λ (o : Out (Parts Value)). bind o (read_items values is)) (item_valued i p ts) ∙ go (λ q us. items_valued is q us) (read_item expression i p ts)
    where
      go : ((q : Parts Tree) (us : List Token) → read_items values is (valued_parts v q) us ≡ with_values (read_items expression is q us))
          → (o : Out (Parts Tree)) → bind (with_values o) (read_items values is) ≡ with_values (bind o (read_items expression is))
      go h refused = refl
      go h (read q us) = h q us

  finished_valued : (k : ℕ) (l : List Token) (o : Out (Parts Tree)) → finished k l (with_values o) ≡ valued v (finished k l o)
  unfolding finished mapped valued valued_statement
  finished_valued k l refused = refl
  finished_valued k l (read p []) = refl
  finished_valued k l (read p (t ∷ ts)) = refl

  statement_valued : (empty : Parts Tree) (l ts : List Token) → statement_of values (valued_parts v empty) l ts ≡ valued v (statement_of expression empty l ts)
  unfolding statement_of valued valued_statement
  statement_valued empty l [] = refl
  statement_valued empty l (m ∷ ts) = go (ltb (row_of m) (length table))
    where
      go : (b : Bool) → pick b (finished (row_of m) l (read_items values (row_at (row_of m)).items (valued_parts v empty) ts)) outside
          ≡ valued v (pick b (finished (row_of m) l (read_items expression (row_at (row_of m)).items empty ts)) outside)
      go true =
          ap (finished (row_of m) l) (items_valued (row_at (row_of m)).items empty ts)
          ∙ finished_valued (row_of m) l (read_items expression (row_at (row_of m)).items empty ts)
      go false = refl

  line_valued : (empty : Parts Tree) (ts : List Token) → line_by values (valued_parts v empty) ts ≡ valued v (line_by expression empty ts)
  unfolding line_by valued
  line_valued empty [] = statement_valued empty [] []
  line_valued empty (w ∷ []) = statement_valued empty [] (w ∷ [])
  line_valued empty (w ∷ c ∷ ts) = go (eqb (symbol_of c) 58) (is_name w)
    where
      named : (b : Bool) → pick b (statement_of values (valued_parts v empty) (w ∷ []) ts) outside ≡ valued v (pick b (statement_of expression empty (w ∷ []) ts) outside)
      named true = statement_valued empty (w ∷ []) ts
      named false = refl

      go : (b d : Bool)
          → pick b (pick d (statement_of values (valued_parts v empty) (w ∷ []) ts) outside) (statement_of values (valued_parts v empty) [] (w ∷ c ∷ ts))
          ≡ valued v (pick b (pick d (statement_of expression empty (w ∷ []) ts) outside) (statement_of expression empty [] (w ∷ c ∷ ts)))
      go true d = named d
      go false d = statement_valued empty [] (w ∷ c ∷ ts)

-- a part that does not stand there is 0, whatever the names
blank_valued : (names : List Label) → valued_parts (value_of (operand_value names)) blank ≡ blank_value
unfolding valued_parts value_of operand_value is_digit between literal_word hexed numeral digit_of
blank_valued names = refl

pub read_valued : (names : List Given) (ts : List Token)
    → line_by (expression_of names) blank_value ts ≡ valued (value_of (operand_value (labels names))) (line_of ts)
unfolding expression_of line_of
read_valued names ts =
    ap (λ (p : Parts Value). line_by (expression_of names) p ts) (sym (blank_valued (labels names)))
    ∙ line_valued (value_of (operand_value (labels names))) (parse 16 5) blank ts
