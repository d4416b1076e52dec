-- The operands of an instruction, one item after another.
-- Assumes nothing.
use Prim.Native.Nat.{ℕ, ◌+◌, ◌-◌, ◌*◌, ◌<◌, ◌≤◌}
use mathlib.Core.Path.{◌≡◌, ap, ◌∙◌}
use mathlib.Core.List.{List, [], ◌∷◌, ◌++◌, append_assoc, append-nil}
use native.Mathlib.Omega.{arith}
use borrow.Author.Tests.{ne_eqb}
use lib.IntN.{ℤ}
use lib.ListN.{length, take, drop, get_or}
use mir.Syntax.{w16}
use mir.Val.{SFits, of_z}
use Rattle.word.specs.Word.{add, low_bits}
use Rattle.isa.specs.declared.Instruction.{Instruction}
use Rattle.token.specs.Scan.{part}
use Rattle.token.proofs.Scanning.{part_cons}
use Rattle.statement.specs.Syntax.{Field, target}
use Rattle.statement.specs.Table.{item_of, items_of}
use Rattle.printing.specs.Writing.{Wrote}
use Rattle.printing.proofs.Writing.{◌then◌, at_most, wrote_nothing}
use Rattle.listing.proofs.Numbers.{bits_are}
use Rattle.listing.specs.Listing.{word_text, operand_text, item_text, items_text}

-- ---- The operand for n

-- m is n as a call hands it on
pub target_written : (address : ℕ) {m n : ℤ} {b v : ℕ} {t r : List ℕ} → m ≡ n → SFits w16 n → b ≡ of_z w16 m
    → v ≡ add (add address 2) (b * 2) → Wrote 6 (word_text v) t r → Wrote 21 (operand_text address target n) t r
target_written address {n = n} {b} e fits p q w =
    let bits : b ≡ low_bits 16 n = p ∙ ap (of_z w16) e ∙ bits_are n fits in
    at_most (omega arith) (rw (q, bits) at w)

-- ---- The items of a row

-- the items of the first i of six bytes have been written
pub record Writing (address : ℕ) (s : Instruction) (f : Field) (table : List ℕ) (from : ℕ) (t u : List ℕ) (i : ℕ) : Type 0 where
  pub done : List ℕ
  pub wrote : Wrote (21 * i) done t u
  pub rest : items_text address s f (items_of (take 6 (drop from table))) ≡ done ++ items_text address s f (items_of (part (from + i) (from + 6) table))
  pub within : i ≤ 6

module _ {address : ℕ} {s : Instruction} {f : Field} {table : List ℕ} {from : ℕ} {t : List ℕ} where
  pub writing : Writing address s f table from t t 0
  writing =
      let e : from + 0 ≡ from = omega arith in
      let n : from + 6 - from ≡ 6 = omega arith in
      record { done = []; wrote = wrote_nothing; rest = rw (e, n); within = omega arith }

  module _ {u : List ℕ} {i : ℕ} (w : Writing address s f table from t u i) where
    abbrev byte : ℕ
    byte = get_or table (from + i) 0

    abbrev all : List ℕ
    all = items_text address s f (items_of (take 6 (drop from table)))

    whole : i ≤ 6 → all ≡ w.done ++ [] → Wrote 126 all t u
    whole h e = rw (e, append-nil w.done) (at_most (omega arith) w.wrote)

    pub all_written : 6 ≤ i → Wrote 126 all t u
    unfolding items_of items_text
    all_written h =
        let n : from + 6 - (from + i) ≡ 0 = omega arith in
        whole w.within (w.rest ∙ rw n)

    module _ (l : i < 6) (h : from + 6 ≤ length table) where
      next_byte : all ≡ w.done ++ items_text address s f (items_of (byte ∷ part (from + (i + 1)) (from + 6) table))
      next_byte =
          let e : from + i + 1 ≡ from + (i + 1) = omega arith in
          w.rest ∙ rw (part_cons table (from + i) (from + 6) (omega arith) h, e)

      -- a space ends them
      pub last_written : byte ≡ 32 → Wrote 126 all t u
      unfolding items_of items_text
      last_written e = whole w.within (next_byte ∙ rw e)

      pub item_written : {r : List ℕ} → (byte ≡ 32 → ⊥) → Wrote 21 (item_text address s f (item_of byte)) u r → Writing address s f table from t r (i + 1)
      unfolding items_of items_text
      item_written {r} n v =
          let z = w.wrote then v in
          record {
            done = w.done ++ item_text address s f (item_of byte);
            wrote = record { written = z.written; short = omega (arith, z.short) };
            rest = next_byte ∙ rw (ne_eqb byte 32 n, append_assoc);
            within = omega arith;
          }
