-- A line that gives a word has two bytes or more: its mnemonic has.
use Prim.Native.Nat.{ℕ, suc, ◌+◌, ◌<◌, ◌≤◌}
use mathlib.Core.Bool.{Bool, true, false}
use mathlib.Core.Path.{◌≡◌, refl, sym, subst}
use mathlib.Core.List.{List, [], ◌∷◌, ◌++◌}
use native.Mathlib.Omega.{arith}
use lib.Dec.{eqb, ltb}
use lib.ListN.{length, drop, length-append}
use borrow.Author.Tests.{ltb-true}
use Rattle.word.specs.Word.{pick}
use Rattle.word.proofs.Tables.{Each}
use Rattle.word.proofs.Tests.{clash}
use Rattle.token.specs.Tokens.{Token, Divided, end, space, token}
use Rattle.token.specs.Scan.{first_line, tokens_at, symbol_of, alike}
use Rattle.token.proofs.Alike.{alike_same}
use Rattle.token.proofs.Division.{divided}
use Rattle.expression.specs.Operands.{is_name}
use Rattle.expression.specs.Reading.{Out, refused, read}
use Rattle.statement.specs.Syntax.{Row, table, row_at, Parts, Line}
use Rattle.statement.specs.Reading.{ReadLine, outside, reads, row_from, row_of, finished, read_items, statement_of, line_by}
use Rattle.encoding.specs.Words.{words_in}

-- no token is longer than its line
abbrev Within : ℕ → Token → Type 0
Within n t = length t ≤ n

longer : (n m : ℕ) → n ≤ m → (ts : List Token) → Each (Within n) ts → Each (Within m) ts
longer n m h [] e = tt
longer n m h (t ∷ ts) e = (omega (arith, e.0), longer n m h ts e.1)

within : {s : List ℕ} {ts : List Token} → Divided s ts → Each (Within (length s)) ts
within end = tt
within (space {s = s} {ts = ts} d) = longer (length s) (suc (length s)) (omega arith) ts (within d)
within (token {s = s} {ts = ts} t i l d) =
    let e : length (t ++ s) ≡ length t + length s = length-append t s in
    (omega arith, longer (length s) (length (t ++ s)) (omega arith) ts (within d))

-- a mnemonic has two bytes or more
mnemonic_width : (rs : List Row) (m : Token) → Each (λ r. 2 ≤ length r.mnemonic) rs → row_from rs m < length rs → 2 ≤ length m
unfolding row_from
mnemonic_width [] m e h = absurd (omega arith)
mnemonic_width (r ∷ rs) m e h = go (alike m r.mnemonic) refl h (mnemonic_width rs m e.1)
  where
    go : (b : Bool) → alike m r.mnemonic ≡ b → pick b 0 (suc (row_from rs m)) < suc (length rs)
        → (row_from rs m < length rs → 2 ≤ length m) → 2 ≤ length m
    go true q k f = subst (λ (t : Token). 2 ≤ length t) (sym (alike_same m r.mnemonic q)) e.0
    go false q k f = f (omega arith)

widths : Each (λ r. 2 ≤ length r.mnemonic) table
widths = search arith

module _ {A : Type 0} (expression : List Token → Out A) (empty : Parts A) (n : ℕ) where
  -- what is to be shown of a reading
  abbrev Wide : ReadLine A → Type 0
  Wide outside = Unit
  Wide (reads l) = words_in l.statement ≡ 1 → 2 ≤ n

  wide_finished : (k : ℕ) (l : List Token) → 2 ≤ n → (o : Out (Parts A)) → Wide (finished k l o)
  unfolding finished
  wide_finished k l h refused = tt
  wide_finished k l h (read p []) = λ e. h
  wide_finished k l h (read p (t ∷ ts)) = tt

  wide_statement : (l ts : List Token) → Each (Within n) ts → Wide (statement_of expression empty l ts)
  unfolding statement_of words_in row_of
  wide_statement l [] w = λ e. clash (cc)
  wide_statement l (m ∷ ts) w = go (ltb (row_of m) (length table)) refl
    where
      go : (b : Bool) → ltb (row_of m) (length table) ≡ b
          → Wide (pick b (finished (row_of m) l (read_items expression (row_at (row_of m)).items empty ts)) outside)
      go true q =
          let h : 2 ≤ length m = mnemonic_width table m widths (ltb-true _ _ q) in
          wide_finished (row_of m) l (omega (arith, w.0)) (read_items expression (row_at (row_of m)).items empty ts)
      go false q = tt

  wide_line : (ts : List Token) → Each (Within n) ts → Wide (line_by expression empty ts)
  unfolding line_by
  wide_line [] w = wide_statement [] [] tt
  wide_line (t ∷ []) w = wide_statement [] (t ∷ []) w
  wide_line (t ∷ c ∷ ts) w = go (eqb (symbol_of c) 58) (is_name t)
    where
      go : (b d : Bool)
          → Wide (pick b (pick d (statement_of expression empty (t ∷ []) ts) outside) (statement_of expression empty [] (t ∷ c ∷ ts)))
      go true true = wide_statement (t ∷ []) ts w.1.1
      go true false = tt
      go false d = wide_statement [] (t ∷ c ∷ ts) w

pub line_wide : {A : Type 0} (expression : List Token → Out A) (empty : Parts A) (text : List ℕ) (at : ℕ) (l : Line A)
    → line_by expression empty (tokens_at text at) ≡ reads l → words_in l.statement ≡ 1 → 2 ≤ length (first_line (drop at text))
unfolding tokens_at
line_wide expression empty text at l e =
    let n : ℕ = length (first_line (drop at text)) in
    subst (Wide expression empty n) e (wide_line expression empty n (tokens_at text at) (within (divided (first_line (drop at text)))))
