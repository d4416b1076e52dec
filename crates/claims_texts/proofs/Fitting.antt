-- What is read of an instruction's registers fits them, so its word turns on the value alone.
-- Assumes nothing.
use Prim.Native.Nat.{ℕ, ◌<◌, ◌^◌}
use mathlib.Core.Bool.{Bool, true, false}
use mathlib.Core.Path.{◌≡◌, refl, sym, ◌∙◌}
use mathlib.Core.Logic.{◌⊎◌, inl, inr}
use mathlib.Core.List.{List, [], ◌∷◌}
use native.Mathlib.Omega.{arith}
use lib.Dec.{T, eqb, leb, leb→le}
use lib.IntN.{ℤ}
use lib.ListN.{length, get_or}
use lib.Pow.{pow_pos}
use borrow.Author.Tests.{lt-ltb, eqb-true, eqb-false}
use Rattle.word.specs.Word.{low_bits}
use Rattle.word.proofs.Tests.{never}
use Rattle.word.proofs.Computed.{both, both_split, all, all_at}
use Rattle.kinds.specs.declared.Kind.TheVariants.{And}
use Rattle.kinds.specs.Kinds.{kinds}
use Rattle.isa.specs.declared.Instruction.{Instruction}
use Rattle.isa.specs.Sheet.{Line as SheetLine, sheet_line}
use Rattle.isa.specs.Instructions.{Register, a_register, b_register, d_register, in_range, fits, word_of, write_of}
use Rattle.token.specs.Tokens.{Token}
use Rattle.expression.specs.declared.Value.{Value}
use Rattle.expression.specs.Operands.{register_of}
use Rattle.expression.specs.Grammar.{Tree}
use Rattle.statement.specs.Syntax.{Item, register, punctuation, N, table, row_at, Parts, put, Written, end, a_register_there, punctuation_there, a_value_there, Statement, no_statement, of_row, IsStatement, empty, written as written_row, Line, IsLine, plain, labelled}
use Rattle.encoding.specs.Words.{odd, number_of, bad, gives, written, encoded}
use Rattle.claims_texts.specs.Assembly.{Fits}

-- ---- Registers

-- the registers are below their bounds
abbrev Within : {A : Type 0} → (Register → ℕ) → Parts A → Type 0
Within bound p = (p.a < bound a_register) × (p.b < bound b_register) × (p.d < bound d_register)

-- the bound of each register among the items is 8 or more
abbrev roomy : (Register → ℕ) → List Item → Bool
roomy bound [] = true
roomy bound (register r ∷ is) = both (leb 8 (bound r)) (roomy bound is)
roomy bound (punctuation m ∷ is) = roomy bound is
roomy bound (N ∷ is) = roomy bound is

put_within : (bound : Register → ℕ) (r : Register) (k : ℕ) (p : Parts Tree) → k < bound r → Within bound p → Within bound (put r k p)
put_within bound a_register k p h w = (h, w.1, w.2)
put_within bound b_register k p h w = (w.0, h, w.2)
put_within bound d_register k p h w = (w.0, w.1, h)

written_within : (bound : Register → ℕ) {is : List Item} {ts : List Token} {p q : Parts Tree} → Written is ts p q → T (roomy bound is) → Within bound p → Within bound q
written_within bound end o w = w
written_within bound (a_register_there {r = r} {is = is} {t = t} {p = p} h x) o w =
    let (b, l) = both_split (leb 8 (bound r)) (roomy bound is) o in
    written_within bound x l (put_within bound r (register_of t) p (omega (arith, leb→le 8 (bound r) b)) w)
written_within bound (punctuation_there x) o w = written_within bound x o w
written_within bound (a_value_there e x) o w = written_within bound x o w

-- the line of kind k in the sheet, and the bounds of its registers
abbrev line_of_sheet : ℕ → SheetLine
line_of_sheet k = sheet_line (get_or kinds k And)

abbrev bound : ℕ → Register → ℕ
bound k a_register = 2 ^ (line_of_sheet k).format.a.count
bound k b_register = 2 ^ (line_of_sheet k).format.b.count
bound k d_register = 2 ^ (line_of_sheet k).format.d.count

-- each register that stands in a row has its bits in the word
rows_roomy : (k : ℕ) → k < length kinds → T (roomy (bound k) (row_at k).items)
unfolding all
rows_roomy k h = all_at (length kinds) (λ j. roomy (bound j) (row_at j).items) tt k h

-- so the registers of a reading are
abbrev pub Sized : Statement Tree → Type 0
Sized no_statement = Unit
Sized (of_row k p) = (k < length table) × (k < length kinds → Within (bound k) p)

statement_sized : {ts : List Token} {s : Statement Tree} → IsStatement ts s → Sized s
statement_sized empty = tt
statement_sized (written_row k h w) = (h, λ l. written_within (bound k) w (rows_roomy k l) (pow_pos _, pow_pos _, pow_pos _))

pub line_sized : {ts : List Token} {l : Line Tree} → IsLine ts l → Sized l.statement
line_sized (plain s) = statement_sized s
line_sized (labelled n s) = statement_sized s

-- ---- The word

-- an instruction that fits is written, any other is turned away
writes : (i : Instruction) → fits (sheet_line i.kind) i ≡ true → (w : ℕ) × (written (write_of i) ≡ gives w)
unfolding written write_of
writes i e = (word_of (sheet_line i.kind) i.a i.b i.d (low_bits (sheet_line i.kind).format.n.count i.n), rw e)

refuses : (i : Instruction) → fits (sheet_line i.kind) i ≡ false → written (write_of i) ≡ bad 12
unfolding written write_of
refuses i e = rw e

module _ (k address : ℕ) (p : Parts Value) where
  abbrev v : ℕ
  v = p.n.word

  abbrev n : ℤ
  n = number_of (row_at k).field address v

  abbrev instruction : Instruction
  instruction = record { kind = get_or kinds k And; a = p.a; b = p.b; d = p.d; n = n }

  abbrev is_odd : Bool
  is_odd = odd (row_at k).field address v

  abbrev ranged : Bool
  ranged = in_range (line_of_sheet k).number (line_of_sheet k).format.n n

  -- where the registers fit, it turns on the number
  by_number : Within (bound k) p → fits (line_of_sheet k) instruction ≡ ranged
  by_number w = rw (lt-ltb p.a (bound k a_register) w.0, lt-ltb p.b (bound k b_register) w.1, lt-ltb p.d (bound k d_register) w.2)

  unfit : eqb k (length kinds) ≡ false → (is_odd ≡ false → ranged ≡ true → ⊥) → Fits k address v → ⊥
  unfit e f (inl q) = eqb-false _ _ e q
  unfit e f (inr q) = f q.0 q.1

  -- a word comes of a value that fits, and of any other number 12
  abbrev pub Encodes : Type 0
  Encodes = (Fits k address v × ((w : ℕ) × (encoded k address p ≡ gives w))) ⊎ ((Fits k address v → ⊥) × (encoded k address p ≡ bad 12))

  pub encodes : (k < length table) × (k < length kinds → Within (bound k) p) → Encodes
  unfolding encoded
  encodes s = go (eqb k (length kinds)) refl is_odd refl ranged refl
    where
      same : eqb k (length kinds) ≡ false → fits (line_of_sheet k) instruction ≡ ranged
      same e = by_number (s.1 (omega (arith, eqb-false k (length kinds) e, s.0)))

      go : (x : Bool) → eqb k (length kinds) ≡ x → (y : Bool) → is_odd ≡ y → (z : Bool) → ranged ≡ z → Encodes
      go true e y f z g = inl (inl (eqb-true _ _ e), (v, rw e))
      go false e true f z g = inr (unfit e (λ q r. never (sym q ∙ f)), rw (e, f))
      go false e false f true g = let (w, q) = writes instruction (same e ∙ g) in inl (inr (f, g), (w, rw (e, f) q))
      go false e false f false g = inr (unfit e (λ q r. never (sym g ∙ r)), rw (e, f) (refuses instruction (same e ∙ g)))
