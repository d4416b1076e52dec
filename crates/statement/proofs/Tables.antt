-- The code's tables say what the table of Syntax says, row by row.
-- Assumes nothing.
use Prim.Native.Nat.{ℕ, zero, suc, ◌+◌, ◌*◌, ◌<◌, ◌≤◌}
use mathlib.Core.Path.{◌≡◌, refl, sym, ap, ◌∙◌}
use mathlib.Core.List.{List, [], ◌∷◌, map}
use native.Mathlib.Omega.{arith}
use lib.Dec.{eqb, leb, eqb→eq}
use lib.ListN.{length, get_or, get_or-map}
use borrow.Author.Tests.{leb-true}
use Rattle.kinds.specs.declared.Kind.TheVariants.{And}
use Rattle.kinds.specs.Kinds.{kinds, kind_number}
use Rattle.word.proofs.Computed.{all, all_at}
use Rattle.word.proofs.Tests.{is_true}
use Rattle.token.specs.Scan.{part}
use Rattle.statement.specs.Syntax.{Row, table, row_at}
use Rattle.statement.specs.Table.{row_text, mnemonic_lengths, item_of, items_of, cell}

-- what f gives at the n numbers from k on
abbrev values : {A : Type 0} → (ℕ → A) → ℕ → ℕ → List A
values f k zero = []
values f k (suc n) = f k ∷ values f (suc k) n

value_at : {A : Type 0} (f : ℕ → A) (k n i : ℕ) (d : A) → i < n → get_or (values f k n) i d ≡ f (k + i)
value_at f k zero i d h = absurd (omega arith)
value_at f k (suc n) zero d h = ap f (omega arith)
value_at f k (suc n) (suc i) d h = value_at f (suc k) n i d (omega arith) ∙ ap f (omega arith)

-- f gives a column of the table where it does so in every row, which antt compares
pub column : {A : Type 0} (f : ℕ → A) (g : Row → A) → values f 0 (length table) ≡ map g table → (k : ℕ) → k < length table → f k ≡ g (row_at k)
column f g e k h =
    ap f (omega arith)
    ∙ sym (value_at f 0 (length table) k (g (row_at (length table))) h)
    ∙ ap (λ l. get_or l k (g (row_at (length table)))) e
    ∙ get_or-map g table k (row_at (length table))

-- what stands in a text at the mnemonic of row k
abbrev pub mnemonic_in : List ℕ → ℕ → List ℕ
mnemonic_in rows k = part (12 * k) (12 * k + get_or mnemonic_lengths k 0) rows

pub mnemonic_row : (k : ℕ) → k < length table → mnemonic_in row_text k ≡ (row_at k).mnemonic
mnemonic_row = column (mnemonic_in row_text) (λ r. r.mnemonic) refl

-- a mnemonic has at most six bytes
pub short_row : (k : ℕ) → k < length table → get_or mnemonic_lengths k 0 ≤ 6
unfolding all
short_row k h = leb-true _ _ (is_true _ (all_at (length table) (λ n. leb (get_or mnemonic_lengths n 0) 6) tt k h))

pub items_row : (k : ℕ) → k < length table → items_of (cell k) ≡ (row_at k).items
unfolding item_of items_of cell
items_row = column (λ k. items_of (cell k)) (λ r. r.items) refl

-- a kind's number leads back to it
pub kind_row : (k : ℕ) → k < length kinds → kind_number (get_or kinds k And) ≡ k
unfolding all
kind_row k h = eqb→eq _ _ (all_at (length kinds) (λ n. eqb (kind_number (get_or kinds n And)) n) tt k h)
