-- The text of an instruction, from the row of its kind, and of a word, from its reading.
-- Assumes nothing.
use Prim.Native.Nat.{ℕ, ◌+◌, ◌-◌, ◌*◌, ◌<◌, ◌≤◌}
use mathlib.Core.Path.{◌≡◌, refl, ap}
use mathlib.Core.List.{List, [], ◌∷◌, ◌++◌, append-nil}
use native.Mathlib.Omega.{arith}
use borrow.Author.Tests.{ne_eqb}
use lib.ListN.{length, take, drop, get_or, length-take}
use Rattle.kinds.specs.declared.Kind.{Kind}
use Rattle.kinds.specs.Kinds.{kind_number}
use Rattle.isa.specs.declared.Instruction.{Instruction}
use Rattle.isa.specs.Instructions.{Read, read_of}
use Rattle.isa.proofs.Every.{listed}
use Rattle.token.specs.Scan.{part}
use Rattle.token.proofs.Scanning.{part_cons}
use Rattle.statement.specs.Syntax.{Item, Field, table as rows, row_at}
use Rattle.statement.specs.Table.{row_text, mnemonic_lengths, items_of, cell}
use Rattle.statement.proofs.Tables.{mnemonic_row, short_row, items_row}
use Rattle.printing.specs.Writing.{Wrote}
use Rattle.printing.proofs.Writing.{◌then◌, at_most}
use Rattle.listing.specs.Listing.{items_text, operands_text, instruction_text, text_as, text_of}

pub row_small : (k : Kind) {row : ℕ} → row ≡ kind_number k → row < length rows
row_small k e = omega (arith, (listed k).0)

-- a row, and how many bytes its mnemonic has
module _ {row n : ℕ} (h : row < length rows) (l : n ≡ get_or mnemonic_lengths row 0) where
  pub name_short : n ≤ 6
  name_short = omega (arith, short_row row h)

  name_written : {m : ℕ} {table : List ℕ} {t u : List ℕ} → table ≡ row_text
      → Wrote m (part (12 * row) (12 * row + n) table) t u → Wrote 6 (row_at row).mnemonic t u
  name_written {m} {table} p w =
      let same : part (12 * row) (12 * row + n) table ≡ (row_at row).mnemonic = rw (p, l) (mnemonic_row row h) in
      let short : length (part (12 * row) (12 * row + n) table) ≤ 6 = rw length-take (omega (arith, name_short)) in
      record { written = rw same at w.written; short = rw same at short }

-- the items of the six bytes at a place
abbrev items_at : List ℕ → ℕ → List Item
items_at table at = items_of (take 6 (drop at table))

-- there are none where the first of them is a space
module _ (address : ℕ) (i : Instruction) (f : Field) (table : List ℕ) (at : ℕ) (h : at + 6 ≤ length table) where
  from_first : take 6 (drop at table) ≡ get_or table at 0 ∷ part (at + 1) (at + 6) table
  from_first = let n : at + 6 - at ≡ 6 = omega arith in rw n at (part_cons table at (at + 6) (omega arith) h)

  no_operands : get_or table at 0 ≡ 32 → operands_text address i f (items_at table at) ≡ []
  unfolding items_of
  no_operands e = rw (from_first, e)

  some_operands : (get_or table at 0 ≡ 32 → ⊥) → operands_text address i f (items_at table at) ≡ 32 ∷ items_text address i f (items_at table at)
  unfolding items_of
  some_operands n = rw (from_first, ne_eqb (get_or table at 0) 32 n)

-- the text of an instruction, of which the mnemonic has been written, by the row of its kind
module _ (address : ℕ) (i : Instruction) {row n m : ℕ} {table : List ℕ} {t u : List ℕ}
    (e : row ≡ kind_number i.kind) (l : n ≡ get_or mnemonic_lengths row 0) (p : table ≡ row_text)
    (a : Wrote m (part (12 * row) (12 * row + n) table) t u) where
  small : row < length rows
  small = row_small i.kind e

  inside : 12 * row + 6 + 6 ≤ length table
  inside = omega (arith, small, ap length p)

  -- where the operands are xs
  whole : (f : Field) {xs : List ℕ} {most : ℕ} {r : List ℕ} → f ≡ (row_at row).field → operands_text address i f (items_at table (12 * row + 6)) ≡ xs
      → Wrote most ((row_at row).mnemonic ++ xs) t r → most ≤ 133 → Wrote 133 (instruction_text address i) t r
  unfolding instruction_text cell
  whole f q o w b =
      let same : items_at table (12 * row + 6) ≡ (row_at row).items = rw p (items_row row small) in
      rw (← e) (at_most b (rw (← o, q, same) at w))

  pub bare_written : get_or table (12 * row + 6) 0 ≡ 32 → Wrote 133 (instruction_text address i) t u
  bare_written s =
      let w : Wrote 6 ((row_at row).mnemonic ++ []) t u = rw (append-nil (row_at row).mnemonic) (name_written small l p a) in
      whole (row_at row).field refl (no_operands address i _ table (12 * row + 6) inside s) w (omega arith)

  pub operands_written : {f : Field} {v r : List ℕ} → f ≡ (row_at row).field → (get_or table (12 * row + 6) 0 ≡ 32 → ⊥) → Wrote 1 (32 ∷ []) u v
      → Wrote 126 (items_text address i f (items_at table (12 * row + 6))) v r → Wrote 133 (instruction_text address i) t r
  operands_written {f} q s b w =
      whole f q (some_operands address i f table (12 * row + 6) inside s) (name_written small l p a then (b then w)) (omega arith)

pub text_written : (address w : ℕ) {x : Read} {most : ℕ} {t r : List ℕ} → x ≡ read_of w → Wrote most (text_as address w x) t r → most ≤ 133 → Wrote 133 (text_of address w) t r
unfolding text_of
text_written address w e v h = rw (← e) (at_most h v)
