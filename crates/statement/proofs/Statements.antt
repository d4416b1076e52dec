-- Statements and lines, as the code puts them together.
-- Assumes nothing.
use Prim.Native.Nat.{ℕ, ◌<◌}
use mathlib.Core.Bool.{true, false}
use mathlib.Core.Path.{◌≡◌, sym, ◌∙◌}
use mathlib.Core.List.{List, [], ◌∷◌}
use borrow.Author.Tests.{lt-ltb}
use lib.Dec.{eqb}
use lib.ListN.{length}
use Rattle.std.proofs.Common.{Some, None}
use Rattle.word.specs.Word.{pick}
use Rattle.token.specs.declared.Token.{Token as Found}
use Rattle.token.specs.Tokens.{Token}
use Rattle.token.specs.Scan.{tokens_at, symbol_number, At}
use Rattle.expression.specs.declared.Value.{Value}
use Rattle.expression.specs.Operands.{is_name}
use Rattle.expression.specs.Reading.{Out}
use Rattle.statement.specs.declared.operands.Taken.{Taken}
use Rattle.statement.specs.Syntax.{Parts, table, no_statement, of_row, line}
use Rattle.statement.specs.Reading.{outside, reads, row_of, read_items, finished, statement_of, line_by}
use Rattle.statement.specs.Table.{items_of, cell, RowIs}
use Rattle.statement.specs.Parts.{shown_parts, blank_value, told_parts}
use Rattle.statement.proofs.Tables.{items_row}

-- ---- Statements

module _ (expression : List Token → Out Value) (s : List ℕ) (l : List Token) {at : ℕ} {t : Found} (h : At s at t) where
  pub no_mnemonic : RowIs None (row_of t.word.now) → outside ≡ statement_of expression blank_value l (tokens_at s at)
  unfolding statement_of
  no_mnemonic e = rw (h.split, ← e)

  module _ {k : ℕ} (r : RowIs (Some k) (row_of t.word.now)) where
    n : k < length table
    n = r.0

    e : k ≡ row_of t.word.now
    e = r.1

    by_row : statement_of expression blank_value l (tokens_at s at) ≡ finished k l (read_items expression (items_of (cell k)) blank_value (tokens_at s t.end))
    unfolding statement_of
    by_row = rw (h.split, ← e, lt-ltb k (length table) n, ← items_row k n)

    pub no_operands : told_parts s None ≡ read_items expression (items_of (cell k)) blank_value (tokens_at s t.end)
        → outside ≡ statement_of expression blank_value l (tokens_at s at)
    unfolding finished told_parts
    no_operands f = sym (by_row ∙ rw (← f))

    module _ (p : Taken) (f : told_parts s (Some p) ≡ read_items expression (items_of (cell k)) blank_value (tokens_at s t.end)) where
      pub more_follows : {u : Found} → At s p.next u → outside ≡ statement_of expression blank_value l (tokens_at s at)
      unfolding finished told_parts
      more_follows g = sym (by_row ∙ rw (← f, g.split))

      pub nothing_follows : tokens_at s p.next ≡ [] → reads (line l (of_row k (shown_parts p.parts))) ≡ statement_of expression blank_value l (tokens_at s at)
      unfolding finished told_parts
      nothing_follows g = sym (by_row ∙ rw (← f, g))

-- ---- Lines

module _ (expression : List Token → Out Value) (p : Parts Value) {ts : List Token} where
  pub no_token : ts ≡ [] → reads (line [] no_statement) ≡ line_by expression p ts
  unfolding line_by statement_of
  no_token e = rw e

module _ (expression : List Token → Out Value) (p : Parts Value) {s : List ℕ} {at : ℕ} {t : Found} (h : At s at t) where
  pub one_token : tokens_at s t.end ≡ [] → statement_of expression p [] (tokens_at s at) ≡ line_by expression p (tokens_at s at)
  unfolding line_by
  one_token f = rw (h.split, f)

  module _ {u : Found} (g : At s t.end u) where
    two_tokens : line_by expression p (tokens_at s at)
        ≡ pick (eqb (symbol_number u.symbol) 58) (pick (is_name t.word.now) (statement_of expression p (t.word.now ∷ []) (tokens_at s u.end)) outside)
        (statement_of expression p [] (tokens_at s at))
    unfolding line_by
    two_tokens = rw (h.split, g.split, ← g.number)

    pub no_colon : eqb (symbol_number u.symbol) 58 ≡ false → statement_of expression p [] (tokens_at s at) ≡ line_by expression p (tokens_at s at)
    no_colon n = sym (two_tokens ∙ rw n)

    module _ (n : eqb (symbol_number u.symbol) 58 ≡ true) where
      pub a_label : is_name t.word.now ≡ true → statement_of expression p (t.word.now ∷ []) (tokens_at s u.end) ≡ line_by expression p (tokens_at s at)
      a_label m = sym (two_tokens ∙ rw (n, m))

      pub no_label : is_name t.word.now ≡ false → outside ≡ line_by expression p (tokens_at s at)
      no_label m = sym (two_tokens ∙ rw (n, m))

-- the steps of `statement_at` and of `line_at`
pub ruleset statement_steps = (no_operands, more_follows)

pub ruleset line_steps = (no_token, one_token, no_colon, a_label, no_label)
