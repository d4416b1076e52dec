-- `line_of` finds each reading by the grammar of lines, and no other: so there is only one.
-- Assumes nothing.
use Prim.Native.Nat.{ℕ, suc, ◌<◌}
use mathlib.Core.Bool.{Bool, true, false}
use mathlib.Core.Path.{◌≡◌, refl, sym, ◌∙◌, subst}
use mathlib.Core.Logic.{inl}
use mathlib.Core.List.{List, [], ◌∷◌}
use native.Mathlib.Omega.{arith}
use lib.Dec.{T, eqb, ltb, eqb→eq, ltb→lt}
use lib.ListN.{length, get_or}
use borrow.Author.Tests.{lt-ltb, ltb-true, eq-eqb, ne_eqb, eqb-true}
use Rattle.word.specs.Word.{pick}
use Rattle.word.proofs.Tests.{clash}
use Rattle.word.proofs.Computed.{both, both_split, all, all_at}
use Rattle.token.specs.Tokens.{Token, between, is_digit, is_letter}
use Rattle.token.specs.Scan.{symbol_of, alike}
use Rattle.token.proofs.Symbols.{one_byte, byte_symbol}
use Rattle.token.proofs.Alike.{alike_same}
use Rattle.expression.specs.Operands.{register_of, is_name, is_operand}
use Rattle.expression.specs.Grammar.{Tree}
use Rattle.expression.specs.Reading.{rank_by, rank, Out, refused, read, bind, mapped, leaf, prefixed, chain, ranked, parse, head_rank}
use Rattle.expression.proofs.Unique.{Stops, whole}
use Rattle.expression.proofs.Sound.{sound as expression-sound}
use Rattle.statement.specs.Syntax.{Item, register, punctuation, N, Row, table, row_at, Parts, put, put_n, blank, Written, end, a_register_there, punctuation_there, a_value_there, Statement, no_statement, of_row, IsStatement, empty, written, Line, line, IsLine, plain, labelled}
use Rattle.statement.specs.Reading.{ReadLine, outside, reads, row_from, row_of, one_register, a_punctuation, finished, read_item, read_items, statement_of, line_by, line_of}

-- the reading of operands
abbrev operands : List Item → Parts Tree → List Token → Out (Parts Tree)
operands = read_items (parse 16 5)

-- the reading of a statement, after the name that the line gives, if any
abbrev statement : List Token → List Token → ReadLine Tree
statement = statement_of (parse 16 5) blank

-- what holds of each choice, where the test says that it is the one, holds of the one chosen
chosen : {A : Type 0} (Q : A → Type 0) (t : Bool) {x y : A} → (t ≡ true → Q x) → (t ≡ false → Q y) → Q (pick t x y)
chosen Q true p q = p refl
chosen Q false p q = q refl

-- ---- The table

-- an expression ends before the items: there are none, or first comes a mark that is no operator
abbrev ending : List Item → Bool
ending [] = true
ending (register r ∷ is) = false
ending (punctuation m ∷ is) = eqb (rank (m ∷ [])) 0
ending (N ∷ is) = false

-- each expression ends before the items after it, and each mark is a byte below `:`
abbrev ordered : List Item → Bool
ordered [] = true
ordered (register r ∷ is) = ordered is
ordered (punctuation m ∷ is) = both (ltb m 58) (ordered is)
ordered (N ∷ is) = both (ending is) (ordered is)

-- what that says of a mark and of the items after it
after_mark : (m : ℕ) (is : List Item) → T (ordered (punctuation m ∷ is)) → (m < 58) × T (ordered is)
after_mark m is o =
    let (h, l) = both_split (ltb m 58) (ordered is) o in
    (ltb→lt m 58 h, l)

-- so it is in each row
rows_ordered : (k : ℕ) → k < length table → T (ordered (row_at k).items)
unfolding all rank rank_by symbol_of
rows_ordered k h = all_at (length table) (λ j. ordered (row_at j).items) tt k h

-- each mnemonic is found at its own place
placed : (k : ℕ) → k < length table → row_of (row_at k).mnemonic ≡ k
unfolding all row_of row_from alike
placed k h = eqb→eq _ _ (all_at (length table) (λ j. eqb (row_of (row_at j).mnemonic) j) tt k h)

-- at the place found stands the mnemonic that was looked for
named : (rs : List Row) (m : Token) (d : Row) → row_from rs m < length rs → (get_or rs (row_from rs m) d).mnemonic ≡ m
unfolding row_from
named [] m d h = absurd (omega arith)
named (r ∷ rs) m d h =
    chosen (λ n. n < suc (length rs) → (get_or (r ∷ rs) n d).mnemonic ≡ m) (alike m r.mnemonic) (λ e l. sym (alike_same m _ e))
    (λ e l. named rs m d (omega arith)) h

-- ---- What the grammar allows is read

-- an expression ends before what is written for those items
ends : {is : List Item} {ts : List Token} {p q : Parts Tree} → Written is ts p q → T (ending is) → Stops 6 ts
unfolding head_rank
ends end e = inl refl
ends (a_register_there h w) e = absurd e
ends (punctuation_there w) e = inl (eqb→eq _ _ e)
ends (a_value_there x w) e = absurd e

-- what is written as a row's operands is read, and no token is left
read_operands : {is : List Item} {ts : List Token} {p q : Parts Tree} → Written is ts p q → T (ordered is) → operands is p ts ≡ read q []
unfolding read_items read_item one_register a_punctuation bind mapped
read_operands end o = refl
read_operands (a_register_there {t = t} h w) o = rw (lt-ltb (register_of t) 8 h) (read_operands w o)
read_operands (punctuation_there {m = m} {is = is} w) o =
    let (h, l) = after_mark m is o in
    rw (byte_symbol m (omega arith), eq-eqb m m refl) (read_operands w l)
read_operands (a_value_there {is = is} {ts = ts} x w) o =
    let (e, l) = both_split (ending is) (ordered is) o in
    rw (whole x ts (ends w e)) (read_operands w l)

-- a statement is read, whatever name stands before it
read_statement : {ts : List Token} {s : Statement Tree} → IsStatement ts s → (l : List Token) → statement l ts ≡ reads (line l s)
unfolding statement_of finished
read_statement empty l = refl
read_statement (written k h w) l = rw (placed k h, lt-ltb k (length table) h, read_operands w (rows_ordered k h))

-- operands do not begin with `:`
no_colon : (is : List Item) (p q : Parts Tree) (ts : List Token) → T (ordered is) → operands is p ((58 ∷ []) ∷ ts) ≡ read q [] → ⊥
unfolding read_items read_item one_register a_punctuation bind mapped symbol_of register_of parse ranked chain prefixed leaf is_operand is_name is_digit is_letter between
no_colon [] p q ts o e = clash (cc)
no_colon (register r ∷ is) p q ts o e = clash (cc)
no_colon (punctuation m ∷ is) p q ts o e = clash (cc (ne_eqb 58 m (λ f. omega (arith, (after_mark m is o).0))))
no_colon (N ∷ is) p q ts o e = clash (cc)

-- so a line that is a statement gives no name
unnamed : (m : Token) (is : List Item) (q : Parts Tree) (ts : List Token) → T (ordered is) → operands is blank ts ≡ read q [] → line_of (m ∷ ts) ≡ statement [] (m ∷ ts)
unfolding line_of line_by
unnamed m is q [] o e = refl
unnamed m is q (c ∷ ts) o e =
    rw (ne_eqb (symbol_of c) 58 (λ f. no_colon is blank q ts o (rw (one_byte c 58 (omega arith) f) at e)))

-- each reading by the grammar is found
pub complete : {ts : List Token} {l : Line Tree} → IsLine ts l → line_of ts ≡ reads l
unfolding line_of line_by symbol_of
complete (plain empty) = read_statement empty []
complete (plain (written k {ts} {p} h w)) =
    let o = rows_ordered k h in
    unnamed (row_at k).mnemonic (row_at k).items p ts o (read_operands w o) ∙ read_statement (written k h w) []
complete (labelled {w = w} n h) = rw n (read_statement h (w ∷ []))

-- so there is only one
pub unique : {ts : List Token} {l m : Line Tree} → IsLine ts l → IsLine ts m → l ≡ m
unique {l} {m} g h = let e : reads l ≡ reads m = sym (complete g) ∙ complete h in cc

-- ---- What is read, the grammar allows

-- what is read past a test has passed it
past : (t : Bool) (is : List Item) (p q : Parts Tree) (ts : List Token) → bind (pick t (read p ts) refused) (operands is) ≡ read q []
    → (t ≡ true) × (operands is p ts ≡ read q [])
unfolding bind
past true is p q ts e = (refl, e)
past false is p q ts e = clash (cc)

-- the operands that are read, with no token left, are written there
there : (is : List Item) → T (ordered is) → (p q : Parts Tree) (ts : List Token) → operands is p ts ≡ read q [] → Written is ts p q
unfolding read_items read_item one_register a_punctuation bind mapped
there [] o p q [] e = let f : q ≡ p = cc in rw f end
there [] o p q (t ∷ ts) e = clash (cc)
there (register r ∷ is) o p q [] e = clash (cc)
there (register r ∷ is) o p q (t ∷ ts) e =
    let (f, g) = past (ltb (register_of t) 8) is (put r (register_of t) p) q ts e in
    a_register_there (ltb-true _ _ f) (there is o _ q ts g)
there (punctuation m ∷ is) o p q [] e = clash (cc)
there (punctuation m ∷ is) o p q (t ∷ ts) e =
    let (h, l) = after_mark m is o in
    let (f, g) = past (eqb (symbol_of t) m) is p q ts e in
    rw (one_byte t m (omega arith) (eqb-true _ _ f)) (punctuation_there (there is l p q ts g))
there (N ∷ is) o p q ts e = go (parse 16 5 ts) refl e (there is (both_split (ending is) (ordered is) o).1)
  where
    go : (x : Out Tree) → parse 16 5 ts ≡ x → bind (mapped (λ t. put_n t p) x) (operands is) ≡ read q []
        → ((a b : Parts Tree) (us : List Token) → operands is a us ≡ read b [] → Written is us a b) → Written (N ∷ is) ts p q
    go refused f e h = clash (cc)
    go (read t r) f e h =
        let (us, g, x) = expression-sound 16 5 ts t r f in
        rw g (a_value_there x (h (put_n t p) q r e))

-- the line that is read is a line of the grammar
abbrev Right : List Token → ReadLine Tree → Type 0
Right ts outside = Unit
Right ts (reads l) = IsLine ts l

-- it is, where what was read of the operands makes it one
right_finished : (ts : List Token) (k : ℕ) (l : List Token) (o : Out (Parts Tree)) → ((p : Parts Tree) → o ≡ read p [] → IsLine ts (line l (of_row k p))) → Right ts (finished k l o)
unfolding finished
right_finished ts k l refused h = tt
right_finished ts k l (read p []) h = h p refl
right_finished ts k l (read p (t ∷ r)) h = tt

-- a mnemonic that is found, and operands that are read, are a statement
row_there : (m : Token) (p : Parts Tree) (ts : List Token) → row_of m < length table → operands (row_at (row_of m)).items blank ts ≡ read p []
    → IsStatement (m ∷ ts) (of_row (row_of m) p)
unfolding row_of
row_there m p ts h e =
    rw (named table m _ h) at (written (row_of m) h (there (row_at (row_of m)).items (rows_ordered (row_of m) h) blank p ts e))

-- us is a whole line: one that gives the name l, if ts is a statement
right_statement : (us l ts : List Token) → ((s : Statement Tree) → IsStatement ts s → IsLine us (line l s)) → Right us (statement l ts)
unfolding statement_of
right_statement us l [] h = h no_statement empty
right_statement us l (m ∷ ts) h =
    chosen (Right us) (ltb (row_of m) (length table))
    (λ e. right_finished us (row_of m) l _ (λ p f. h _ (row_there m p ts (ltb-true _ _ e) f)))
    (λ e. tt)

-- a line without a name
right_plain : (ts : List Token) → Right ts (statement [] ts)
right_plain ts = right_statement ts [] ts (λ s h. plain h)

-- a line that begins with a name and a colon
right_named : (w c : Token) (ts : List Token) → symbol_of c ≡ 58 → Right (w ∷ c ∷ ts) (pick (is_name w) (statement (w ∷ []) ts) outside)
right_named w c ts e =
    chosen (Right (w ∷ c ∷ ts)) (is_name w)
    (λ n. right_statement (w ∷ c ∷ ts) (w ∷ []) ts (λ s h. rw (one_byte c 58 (omega arith) e) (labelled n h)))
    (λ n. tt)

right : (ts : List Token) → Right ts (line_of ts)
unfolding line_of line_by
right [] = right_plain []
right (w ∷ []) = right_plain (w ∷ [])
right (w ∷ c ∷ ts) =
    chosen (Right (w ∷ c ∷ ts)) (eqb (symbol_of c) 58) (λ e. right_named w c ts (eqb-true _ _ e)) (λ e. right_plain (w ∷ c ∷ ts))

-- what is found is a reading by the grammar
pub sound : (ts : List Token) (l : Line Tree) → line_of ts ≡ reads l → IsLine ts l
sound ts l e = subst (Right ts) e (right ts)
