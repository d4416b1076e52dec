-- The rows of the table and the lines of the sheet: what an instruction that fits has for its row.
-- Assumes nothing.
use Prim.Native.Nat.{ℕ, zero, suc, ◌-◌, ◌^◌, ◌<◌, ◌≤◌}
use mathlib.Core.Bool.{Bool, true, false, ◌&&◌}
use mathlib.Core.Path.{◌≡◌, refl, sym, ap, subst}
use mathlib.Core.List.{List, [], ◌∷◌}
use native.Mathlib.Omega.{arith}
use lib.Dec.{T, ltb, leb, leb→le}
use lib.IntN.{ℤ, pos, negsuc, neg_ℤ}
use lib.ListN.{length}
use lib.Signed.{le_z}
use borrow.Author.Tests.{ltb-true, leb-true}
use Rattle.word.specs.Fields.{Bits}
use Rattle.word.specs.Word.{pick}
use Rattle.word.proofs.Tests.{never}
use Rattle.word.proofs.Computed.{both, both_split, all}
use Rattle.kinds.specs.declared.Kind.{Kind}
use Rattle.kinds.specs.Kinds.{kind_number}
use Rattle.isa.specs.declared.Instruction.{Instruction}
use Rattle.isa.specs.Sheet.{Number, signed_n, unsigned_n, Line as SheetLine, sheet_line}
use Rattle.isa.specs.Instructions.{register_part, Register, a_register, b_register, d_register, in_range, fits}
use Rattle.isa.proofs.Every.{every}
use Rattle.token.specs.Ascii.{ascii}
use Rattle.token.specs.Tokens.{between, is_digit, is_letter, is_letter_or_digit}
use Rattle.expression.specs.Grammar.{operand}
use Rattle.statement.specs.Syntax.{Item, register, punctuation, N, Field, number, eight_bits, target, row_at}
use Rattle.claims_texts.proofs.Joined.{row_test, word_test, plain, dividing}
use Rattle.claims_texts.proofs.Operands.{Near, limit, Stands, blank_stands}

-- ---- What fits

four : (a b c d : Bool) → (a && b && c && d) ≡ true → (a ≡ true) × (b ≡ true) × (c ≡ true) × (d ≡ true)
four true true true d e = (refl, refl, refl, e)
four true true false d e = never e
four true false c d e = never e
four false b c d e = never e

-- how many values a register of the line has
abbrev size_of : SheetLine → Register → ℕ
size_of l a_register = 2 ^ l.format.a.count
size_of l b_register = 2 ^ l.format.b.count
size_of l d_register = 2 ^ l.format.d.count

register_fits : (l : SheetLine) (i : Instruction) → fits l i ≡ true → (r : Register) → register_part i r < size_of l r
register_fits l i e a_register = ltb-true _ _ (four (ltb i.a (2 ^ l.format.a.count)) _ _ _ e).0
register_fits l i e b_register = ltb-true _ _ (four (ltb i.a (2 ^ l.format.a.count)) _ _ _ e).1
register_fits l i e d_register = ltb-true _ _ (four (ltb i.a (2 ^ l.format.a.count)) _ _ _ e).2

-- the numbers that a line's n may be: those below `above`, and so many below 0
abbrev above : Number → Bits → ℕ
above signed_n p = 2 ^ (p.count - 1)
above unsigned_n p = 2 ^ p.count

abbrev below : Number → Bits → ℕ
below signed_n p = 2 ^ (p.count - 1)
below unsigned_n p = 0

abbrev Among : ℕ → ℕ → ℤ → Type 0
Among u l (pos x) = x < u
Among u l (negsuc y) = y < l

and_both : (a b : Bool) → (a && b) ≡ true → (a ≡ true) × (b ≡ true)
and_both true b e = (refl, e)
and_both false b e = never e

negative_fits : (h y : ℕ) → le_z (neg_ℤ (pos h)) (negsuc y) ≡ true → y < h
negative_fits zero y e = never e
negative_fits (suc g) y e = omega (arith, leb-true y g e)

among : (z : Number) (p : Bits) (n : ℤ) → in_range z p n ≡ true → Among (above z p) (below z p) n
among signed_n p (pos x) e = ltb-true _ _ (and_both (le_z (neg_ℤ (pos (2 ^ (p.count - 1)))) (pos x)) _ e).1
among signed_n p (negsuc y) e = negative_fits (2 ^ (p.count - 1)) y (and_both (le_z (neg_ℤ (pos (2 ^ (p.count - 1)))) (negsuc y)) _ e).0
among unsigned_n p (pos x) e = ltb-true _ _ (and_both (le_z (pos 0) (pos x)) _ e).1
among unsigned_n p (negsuc y) e = never e

number_fits : (l : SheetLine) (i : Instruction) → fits l i ≡ true → Among (above l.number l.format.n) (below l.number l.format.n) i.n
number_fits l i e = among l.number l.format.n i.n (four (ltb i.a (2 ^ l.format.a.count)) _ _ _ e).3

among_near : (u l m : ℕ) (n : ℤ) → u ≤ m → l ≤ 128 → Among u l n → Near m n
among_near u l m (pos x) a b h = omega arith
among_near u l m (negsuc y) a b h = omega arith

among_none : (u l : ℕ) (n : ℤ) → u ≤ 1 → l ≤ 0 → Among u l n → n ≡ pos 0
among_none u l (pos x) a b h = ap pos (omega arith)
among_none u l (negsuc y) a b h = absurd (omega arith)

-- ---- The rows

abbrev pub is_same : Register → Register → Bool
is_same a_register a_register = true
is_same a_register b_register = false
is_same a_register d_register = false
is_same b_register a_register = false
is_same b_register b_register = true
is_same b_register d_register = false
is_same d_register a_register = false
is_same d_register b_register = false
is_same d_register d_register = true

-- the register stands among the items, or N does
abbrev pub names : Register → List Item → Bool
names r [] = false
names r (register s ∷ is) = pick (is_same r s) true (names r is)
names r (punctuation m ∷ is) = names r is
names r (N ∷ is) = names r is

abbrev pub numbered : List Item → Bool
numbered [] = false
numbered (register s ∷ is) = numbered is
numbered (punctuation m ∷ is) = numbered is
numbered (N ∷ is) = true

-- a mark stands there, or nothing
abbrev pub marked : List Item → Bool
marked [] = true
marked (register s ∷ is) = false
marked (punctuation m ∷ is) = true
marked (N ∷ is) = false

-- a mark divides, and stands after each register and N but the last
abbrev pub laid : List Item → Bool
laid [] = true
laid (register s ∷ is) = both (marked is) (laid is)
laid (punctuation m ∷ is) = both (dividing m) (laid is)
laid (N ∷ is) = both (marked is) (laid is)

abbrev pub items_of : Kind → List Item
items_of k = (row_at (kind_number k)).items

abbrev pub field_of : Kind → Field
field_of k = (row_at (kind_number k)).field

abbrev above_of : Kind → ℕ
above_of k = above (sheet_line k).number (sheet_line k).format.n

abbrev below_of : Kind → ℕ
below_of k = below (sheet_line k).number (sheet_line k).format.n

abbrev plain_field : Field → Bool
plain_field number = true
plain_field eight_bits = false
plain_field target = false

pub mnemonic_plain : (k : Kind) → T (plain (row_at (kind_number k)).mnemonic)
unfolding all plain word_test row_test is_letter_or_digit is_letter is_digit between
mnemonic_plain k = every (λ k. plain (row_at (kind_number k)).mnemonic) tt k

pub items_laid : (k : Kind) → T (laid (items_of k))
unfolding all dividing is_letter_or_digit is_letter is_digit between
items_laid k = every (λ k. laid (items_of k)) tt k

pub few_items : (k : Kind) → length (items_of k) ≤ 6
unfolding all
few_items k = leb→le _ _ (every (λ k. leb (length (items_of k)) 6) tt k)

-- a register has at most 8 values, and one where it does not stand in the row
register_test : Register → Kind → Bool
register_test r k = both (leb (size_of (sheet_line k) r) 8) (pick (names r (items_of k)) true (leb (size_of (sheet_line k) r) 1))

registers_tested : (r : Register) (k : Kind) → T (register_test r k)
unfolding all register_test
registers_tested a_register k = every (register_test a_register) tt k
registers_tested b_register k = every (register_test b_register) tt k
registers_tested d_register k = every (register_test d_register) tt k

-- n is near, and 0 where it does not stand in the row
number_test : Kind → Bool
number_test k =
    both (leb (above_of k) (limit (field_of k)))
    (both (leb (below_of k) 128)
    (pick (numbered (items_of k)) true (both (leb (above_of k) 1) (both (leb (below_of k) 0) (plain_field (field_of k))))))

numbers_tested : (k : Kind) → T (number_test k)
unfolding all number_test
numbers_tested k = every number_test tt k

-- ---- The registers and the number of an instruction that fits

-- a test that one of two holds, where the first does not
other : (a b : Bool) → a ≡ false → T (pick a true b) → T b
other true b e h = never (sym e)
other false b e h = h

-- where no operand stands, the field is read as signed
plain_blank : (address : ℕ) (f : Field) → T (plain_field f) → Stands address f (pos 0) (operand (ascii "0"))
plain_blank address number h = blank_stands address
plain_blank address eight_bits h = absurd h
plain_blank address target h = absurd h

module _ (i : Instruction) (e : fits (sheet_line i.kind) i ≡ true) where
  abbrev k : Kind
  k = i.kind

  pub small : (r : Register) → register_part i r < 8
  unfolding register_test
  small r =
      let (x, y) = both_split (leb (size_of (sheet_line k) r) 8) _ (registers_tested r k) in
      omega (arith, leb→le (size_of (sheet_line k) r) 8 x, register_fits (sheet_line k) i e r)

  pub absent : (r : Register) → names r (items_of k) ≡ false → 0 ≡ register_part i r
  unfolding register_test
  absent r n =
      let (x, y) = both_split (leb (size_of (sheet_line k) r) 8) _ (registers_tested r k) in
      omega (arith, leb→le (size_of (sheet_line k) r) 1 (other (names r (items_of k)) _ n y), register_fits (sheet_line k) i e r)

  pub near : Near (limit (field_of k)) i.n
  unfolding number_test
  near =
      let (x, y) = both_split (leb (above_of k) (limit (field_of k))) _ (numbers_tested k) in
      let (z, w) = both_split (leb (below_of k) 128) _ y in
      among_near (above_of k) (below_of k) (limit (field_of k)) i.n (leb→le _ _ x) (leb→le _ _ z) (number_fits (sheet_line k) i e)

  pub blank_number : (address : ℕ) → numbered (items_of k) ≡ false → Stands address (field_of k) i.n (operand (ascii "0"))
  unfolding number_test
  blank_number address n =
      let (x, y) = both_split (leb (above_of k) (limit (field_of k))) _ (numbers_tested k) in
      let (z, w) = both_split (leb (below_of k) 128) _ y in
      let (a, c) = both_split (leb (above_of k) 1) _ (other (numbered (items_of k)) _ n w) in
      let (b, f) = both_split (leb (below_of k) 0) _ c in
      subst (λ (m : ℤ). Stands address (field_of k) m (operand (ascii "0"))) (sym (among_none (above_of k) (below_of k) i.n (leb→le _ _ a) (leb→le _ _ b) (number_fits (sheet_line k) i e)))
      (plain_blank address (field_of k) f)
