-- The search for a mnemonic.
-- Assumes nothing.
use Prim.Native.Nat.{ℕ, suc, ◌+◌, ◌<◌, ◌≤◌}
use mathlib.Core.Bool.{Bool, true, false}
use mathlib.Core.Path.{◌≡◌, sym, ap, ◌∙◌}
use mathlib.Core.List.{List}
use native.Mathlib.Numerals.{add-one}
use native.Mathlib.Omega.{arith}
use Rattle.std.proofs.Common.{Some, None}
use lib.ListN.{length, drop}
use lib.Seq.{drop-cons}
use Rattle.word.specs.Word.{pick}
use Rattle.token.specs.Tokens.{Token}
use Rattle.token.specs.Scan.{alike}
use Rattle.statement.specs.Syntax.{table, row_at}
use Rattle.statement.specs.Reading.{row_from, row_of}
use Rattle.statement.specs.Table.{row_text, RowIs}
use Rattle.statement.proofs.Tables.{mnemonic_in, mnemonic_row}

-- m is none of the first k mnemonics
pub record Searching (m : Token) (k : ℕ) : Type 0 where
  pub left : row_of m ≡ k + row_from (drop k table) m
  pub within : k ≤ length table

pub searching : {m : Token} → Searching m 0
unfolding row_of
searching = record { left = omega arith; within = omega arith }

pub searched : {m : Token} {k : ℕ} → Searching m k → length table ≤ k → RowIs None (row_of m)
unfolding row_from
searched {m} {k} s h =
    let e : k ≡ length table = omega arith in
    sym (s.left ∙ ap (λ n. n + row_from (drop n table) m) e)

-- t: whether m is the mnemonic that stands in row k of the text
module _ {m : Token} {k : ℕ} (s : Searching m k) (l : k < length table) {rows : List ℕ} (e : rows ≡ row_text) {t : Bool}
    (same : t ≡ alike m (mnemonic_in rows k)) where
  turn : row_of m ≡ k + pick t 0 (suc (row_from (drop (suc k) table) m))
  unfolding row_from
  turn = s.left ∙ rw (drop-cons table k (row_at (length table)) l, ← (rw (e, mnemonic_row k l) at same))

  pub found : t ≡ true → RowIs (Some k) (row_of m)
  found h = (l, sym (turn ∙ rw h (omega arith)))

  pub passed_by : t ≡ false → Searching m (k + 1)
  passed_by h = record { left = turn ∙ rw (h, add-one k) (omega arith); within = omega arith }

-- the steps of `row_of`
pub ruleset search_steps = (searching, searched, found, passed_by)
