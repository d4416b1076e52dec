-- Operands, one item after another.
-- Assumes nothing.
use Prim.Native.Nat.{ℕ, ◌+◌, ◌<◌, ◌≤◌}
use mathlib.Core.Path.{◌≡◌, sym, ◌∙◌}
use mathlib.Core.List.{List, ◌∷◌}
use native.Mathlib.Numerals.{add-one}
use borrow.Author.Tests.{ne_eqb, lt-ltb}
use lib.Dec.{eqb}
use lib.ListN.{length, drop, get_or, drop_of_length-le}
use lib.Seq.{drop-cons}
use Rattle.std.proofs.Common.{Some, None}
use Rattle.word.specs.Word.{pick}
use Rattle.isa.specs.Instructions.{Register}
use Rattle.token.specs.declared.Token.{Token as Found}
use Rattle.token.specs.Tokens.{Token}
use Rattle.token.specs.Scan.{tokens_at, symbol_number, At}
use Rattle.expression.specs.declared.Value.{Value}
use Rattle.expression.specs.declared.Parsed.{Parsed}
use Rattle.expression.specs.Operands.{register_of}
use Rattle.expression.specs.Reading.{Out, refused, read, bind, mapped, told}
use Rattle.statement.specs.declared.operands.Taken.{Taken}
use Rattle.statement.specs.Syntax.{Parts, put, put_n}
use Rattle.statement.specs.Reading.{one_register, a_punctuation, read_item, read_items}
use Rattle.statement.specs.Table.{item_of, items_of}
use Rattle.statement.specs.Parts.{shown_parts, blank_value, told_parts}

-- ---- One item

module _ {s : List ℕ} {at : ℕ} {t : Found} (h : At s at t) (p : Parts Value) where
  pub register_there : (r : Register) {k : ℕ} → register_of t.word.now ≡ k → k < 8 → read (put r k p) (tokens_at s t.end) ≡ one_register r p (tokens_at s at)
  unfolding one_register
  register_there r {k} e l = rw (h.split, e, lt-ltb k 8 l)

  pub no_register : (r : Register) → register_of t.word.now ≡ 8 → refused ≡ one_register r p (tokens_at s at)
  unfolding one_register
  no_register r e = rw (h.split, e)

  pub mark_there : (m : ℕ) → a_punctuation m p (tokens_at s at) ≡ pick (eqb (symbol_number t.symbol) m) (read p (tokens_at s t.end)) refused
  unfolding a_punctuation
  mark_there m = rw (h.split, ← h.number)

module _ (s : List ℕ) {o : Out Value} (p : Parts Value) where
  pub value_there : (v : Parsed) → told s (Some v) ≡ o → read (put_n v.value p) (tokens_at s v.next) ≡ mapped (λ e. put_n e p) o
  unfolding told mapped
  value_there v e = rw (← e)

  pub no_value : told s None ≡ o → refused ≡ mapped (λ e. put_n e p) o
  unfolding told mapped
  no_value e = rw (← e)

-- ---- The items of a row

-- the first i items have been read
pub record Taking (expression : List Token → Out Value) (items s : List ℕ) (ts : List Token) (i : ℕ) (t : Taken) : Type 0 where
  pub same : read_items expression (items_of items) blank_value ts ≡ read_items expression (items_of (drop i items)) (shown_parts t.parts) (tokens_at s t.next)

module _ {expression : List Token → Out Value} {items s : List ℕ} {ts : List Token} {i : ℕ} {t : Taken} (h : Taking expression items s ts i t) where
  abbrev all : Out (Parts Value)
  all = read_items expression (items_of items) blank_value ts

  pub all_taken : length items ≤ i → told_parts s (Some t) ≡ all
  unfolding items_of read_items told_parts
  all_taken l = sym (h.same ∙ rw (drop_of_length-le items l))

  module _ (l : i < length items) where
    next : drop i items ≡ get_or items i 0 ∷ drop (i + 1) items
    next = rw (add-one, drop-cons items i 0)

    -- a space ends them
    pub last_taken : get_or items i 0 ≡ 32 → told_parts s (Some t) ≡ all
    unfolding items_of read_items told_parts
    last_taken e = sym (h.same ∙ rw (next, e))

    module _ (n : get_or items i 0 ≡ 32 → ⊥) where
      one : all ≡ bind (read_item expression (item_of (get_or items i 0)) (shown_parts t.parts) (tokens_at s t.next)) (read_items expression (items_of (drop (i + 1) items)))
      unfolding items_of read_items
      one = h.same ∙ rw (next, ne_eqb (get_or items i 0) 32 n)

      pub item_refused : told_parts s None ≡ read_item expression (item_of (get_or items i 0)) (shown_parts t.parts) (tokens_at s t.next) → told_parts s None ≡ all
      unfolding bind told_parts
      item_refused e = sym (one ∙ rw (← e))

      pub item_taken : (u : Taken) → told_parts s (Some u) ≡ read_item expression (item_of (get_or items i 0)) (shown_parts t.parts) (tokens_at s t.next)
          → Taking expression items s ts (i + 1) u
      unfolding bind told_parts
      item_taken u e = record { same = one ∙ rw (← e) }

-- the steps of `register_at` and of `operands_at`
pub ruleset register_steps = (register_there, no_register)

pub ruleset item_steps = (all_taken, last_taken, item_refused, item_taken)
