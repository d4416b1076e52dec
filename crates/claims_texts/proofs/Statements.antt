-- The text of an instruction is read as its row of the table, with its own parts.
-- Assumes nothing.
use Prim.Native.Nat.{ℕ, ◌+◌, ◌*◌, ◌<◌}
use mathlib.Core.Bool.{Bool, true, false}
use mathlib.Core.Path.{◌≡◌, refl}
use mathlib.Core.List.{List, [], ◌∷◌, ◌++◌}
use native.Mathlib.Omega.{arith}
use lib.Dec.{T, eqb, eqb→eq}
use lib.ListN.{length}
use borrow.Author.Tests.{eqb-true}
use Rattle.word.specs.Word.{pick}
use Rattle.word.proofs.Computed.{both_split, all, all_at}
use Rattle.kinds.specs.declared.Kind.{Kind}
use Rattle.isa.specs.declared.Instruction.{Instruction}
use Rattle.isa.specs.Sheet.{sheet_line}
use Rattle.isa.specs.Instructions.{register_part, Register, a_register, b_register, d_register, fits}
use Rattle.token.specs.Ascii.{ascii}
use Rattle.token.specs.Tokens.{Token, between, is_digit, is_letter, is_letter_or_digit}
use Rattle.expression.specs.Operands.{register_of}
use Rattle.expression.specs.Grammar.{Tree}
use Rattle.statement.specs.Syntax.{Item, register, punctuation, N, Parts, blank, put, put_n, Written, end, a_register_there, punctuation_there, a_value_there}
use Rattle.listing.specs.Listing.{register_text, operand_text, row_for, items_text, operands_text, instruction_text}
use Rattle.claims_texts.proofs.Joined.{row_test, word_test, plain, dividing, Parted, mark_parted, Text, wider, nothing_there, word_before_lem, mark_before, space_before, space_parted}
use Rattle.claims_texts.proofs.Operands.{Means, value_in, operand_means, Stands, operand_stands}
use Rattle.claims_texts.proofs.Rows.{is_same, names, numbered, marked, laid, items_of, field_of, mnemonic_plain, items_laid, few_items, small, absent, near, blank_number}

-- ---- Registers and marks

register_plain : (k : ℕ) → k < 8 → T (plain (register_text k))
unfolding all plain word_test row_test is_letter_or_digit is_letter is_digit between
register_plain k h = all_at 8 (λ k. plain (register_text k)) tt k h

register_read : (k : ℕ) → k < 8 → register_of (register_text k) ≡ k
unfolding all register_of between
register_read k h = eqb→eq _ _ (all_at 8 (λ k. eqb (register_of (register_text k)) k) tt k h)

register_there : {r : Register} {is : List Item} {ts : List Token} {p q : Parts Tree} (k : ℕ) → k < 8 → Written is ts (put r k p) q → Written (register r ∷ is) (register_text k ∷ ts) p q
register_there {r} {is} {ts} {p} {q} k h w =
    let e = register_read k h in
    let t : Written is ts (put r (register_of (register_text k)) p) q = rw e w in
    a_register_there {t = register_text k} (omega (arith, e)) t

-- a mark, and a space after a comma
abbrev mark_text : ℕ → List ℕ
mark_text m = pick (eqb m 44) (ascii ", ") (m ∷ [])

module _ (m : ℕ) (h : T (dividing m)) (s : List ℕ) where
  mark_parts : Parted (mark_text m ++ s)
  unfolding dividing is_letter_or_digit is_letter is_digit between
  mark_parts = go (eqb m 44)
    where
      go : (x : Bool) → Parted (pick x (ascii ", ") (m ∷ []) ++ s)
      go true = mark_parted 44 (32 ∷ s) tt
      go false = mark_parted m s h

  mark_text_lem : {most : ℕ} {ts : List Token} → Text most s ts → Text (most + 40) (mark_text m ++ s) ((m ∷ []) ∷ ts)
  mark_text_lem {most} {ts} x = go (eqb m 44) refl
    where
      go : (y : Bool) → eqb m 44 ≡ y → Text (most + 40) (pick y (ascii ", ") (m ∷ []) ++ s) ((m ∷ []) ∷ ts)
      go true e = rw (← eqb-true m 44 e) (wider (omega arith) (mark_before m h (space_before x)))
      go false e = wider (omega arith) (mark_before m h x)

apart : (a b : Bool) → pick a true false ≡ false → b ≡ false → pick a true b ≡ false
apart true b e f = e
apart false b e f = f

module _ (address : ℕ) (i : Instruction) (e : fits (sheet_line i.kind) i ≡ true) where
  abbrev k : Kind
  k = i.kind

  -- the operand for its n
  abbrev means : Means (operand_text address (field_of k) i.n) (value_in address (field_of k) i.n)
  means = operand_means address (field_of k) i.n (near i e)

  -- ---- Its parts

  -- the parts p with those of the items
  abbrev filled : List Item → Parts Tree → Parts Tree
  filled [] p = p
  filled (register r ∷ is) p = filled is (put r (register_part i r) p)
  filled (punctuation m ∷ is) p = filled is p
  filled (N ∷ is) p = filled is (put_n means.tree p)

  -- a register's part of p
  abbrev part : Register → Parts Tree → ℕ
  part a_register p = p.a
  part b_register p = p.b
  part d_register p = p.d

  part_put : (r s : Register) (p : Parts Tree) → (pick (is_same r s) true false ≡ false → part r p ≡ register_part i r) → part r (put s (register_part i s) p) ≡ register_part i r
  part_put a_register a_register p h = refl
  part_put a_register b_register p h = h refl
  part_put a_register d_register p h = h refl
  part_put b_register a_register p h = h refl
  part_put b_register b_register p h = refl
  part_put b_register d_register p h = h refl
  part_put d_register a_register p h = h refl
  part_put d_register b_register p h = h refl
  part_put d_register d_register p h = refl

  filled_register : (r : Register) (is : List Item) (p : Parts Tree) → (names r is ≡ false → part r p ≡ register_part i r) → part r (filled is p) ≡ register_part i r
  filled_register r [] p h = h refl
  filled_register r (register s ∷ is) p h = filled_register r is (put s (register_part i s) p) (λ n. part_put r s p (λ q. h (apart (is_same r s) (names r is) q n)))
  filled_register r (punctuation m ∷ is) p h = filled_register r is p h
  filled_register a_register (N ∷ is) p h = filled_register a_register is (put_n means.tree p) h
  filled_register b_register (N ∷ is) p h = filled_register b_register is (put_n means.tree p) h
  filled_register d_register (N ∷ is) p h = filled_register d_register is (put_n means.tree p) h

  abbrev StandsFor : Tree → Type 0
  StandsFor t = Stands address (field_of k) i.n t

  put_n_lem : (s : Register) (p : Parts Tree) → StandsFor p.n → StandsFor (put s (register_part i s) p).n
  put_n_lem a_register p h = h
  put_n_lem b_register p h = h
  put_n_lem d_register p h = h

  filled_number : (is : List Item) (p : Parts Tree) → (numbered is ≡ false → StandsFor p.n) → StandsFor (filled is p).n
  filled_number [] p h = h refl
  filled_number (register s ∷ is) p h = filled_number is (put s (register_part i s) p) (λ n. put_n_lem s p (h n))
  filled_number (punctuation m ∷ is) p h = filled_number is p h
  filled_number (N ∷ is) p h = filled_number is (put_n means.tree p) (λ n. operand_stands address (field_of k) i.n (near i e))

  -- what is read of its row are its own parts
  abbrev pub parts : Parts Tree
  parts = filled (items_of k) blank

  pub parts_registers : (parts.a ≡ i.a) × (parts.b ≡ i.b) × (parts.d ≡ i.d)
  parts_registers = (
    filled_register a_register (items_of k) blank (absent i e a_register),
    filled_register b_register (items_of k) blank (absent i e b_register),
    filled_register d_register (items_of k) blank (absent i e d_register),
  )

  pub parts_number : StandsFor parts.n
  parts_number = filled_number (items_of k) blank (blank_number i e address)

  -- ---- Its tokens

  abbrev item_tokens : Item → List Token
  item_tokens (register r) = register_text (register_part i r) ∷ []
  item_tokens (punctuation m) = (m ∷ []) ∷ []
  item_tokens N = means.tokens

  items_tokens : List Item → List Token
  items_tokens [] = []
  items_tokens (t ∷ ts) = item_tokens t ++ items_tokens ts

  items_written : (is : List Item) (p : Parts Tree) → Written is (items_tokens is) p (filled is p)
  unfolding items_tokens
  items_written [] p = end
  items_written (register r ∷ is) p = register_there (register_part i r) (small i e r) (items_written is (put r (register_part i r) p))
  items_written (punctuation m ∷ is) p = punctuation_there (items_written is p)
  items_written (N ∷ is) p = a_value_there means.read (items_written is (put_n means.tree p))

  abbrev text_of : List Item → List ℕ
  text_of is = items_text address i (field_of k) is

  items_parted : (is : List Item) → T (marked is) → T (laid is) → Parted (text_of is)
  unfolding items_text
  items_parted [] h l = λ t. tt
  items_parted (register r ∷ is) h l = absurd h
  items_parted (punctuation m ∷ is) h l = mark_parts m (both_split (dividing m) _ l).0 (text_of is)
  items_parted (N ∷ is) h l = absurd h

  items_text_lem : (is : List Item) → T (laid is) → Text (40 * length is) (text_of is) (items_tokens is)
  unfolding items_text items_tokens
  items_text_lem [] l = nothing_there
  items_text_lem (register r ∷ is) l =
      let (h, m) = both_split (marked is) _ l in
      wider (omega arith) (word_before_lem (register_text (register_part i r)) (register_plain (register_part i r) (small i e r)) (items_parted is h m) (items_text_lem is m))
  items_text_lem (punctuation m ∷ is) l =
      let (h, r) = both_split (dividing m) _ l in
      wider (omega arith) (mark_text_lem m h (text_of is) (items_text_lem is r))
  items_text_lem (N ∷ is) l =
      let (h, m) = both_split (marked is) _ l in
      wider (omega arith) (means.before (items_parted is h m) (items_text_lem is m))

  -- after a space, if there are any
  operands_text_lem : (is : List Item) → T (laid is)
      → Text (40 * length is + 1) (operands_text address i (field_of k) is) (items_tokens is) × Parted (operands_text address i (field_of k) is)
  unfolding items_tokens
  operands_text_lem [] l = (wider (omega arith) nothing_there, λ t. tt)
  operands_text_lem (x ∷ is) l = (space_before (items_text_lem (x ∷ is) l), space_parted (text_of (x ∷ is)))

  pub tokens_of : List Token
  tokens_of = items_tokens (items_of k)

  pub written : Written (items_of k) tokens_of blank parts
  unfolding tokens_of
  written = items_written (items_of k) blank

  pub text : Text 300 (instruction_text address i) ((row_for i).mnemonic ∷ tokens_of)
  unfolding instruction_text tokens_of
  text =
      let (x, p) = operands_text_lem (items_of k) (items_laid k) in
      wider (omega (arith, few_items k)) (word_before_lem (row_for i).mnemonic (mnemonic_plain k) p x)
