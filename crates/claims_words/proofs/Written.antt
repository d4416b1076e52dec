-- A word that was written reads as the instruction: its fixed bits give the kind, and its fields give the parts.
-- Assumes nothing.
use mathlib.Core.Path.{◌≡◌, refl, sym, ◌∙◌, ap}
use mathlib.Core.Bool.{Bool, true, false}
use Prim.Native.Nat.{ℕ, ◌/◌, ◌%◌, ◌<◌}
use native.Mathlib.Omega.{arith}
use borrow.Author.Tests.{ltb-true, eq-eqb}
use lib.Dec.{T, eqb, ltb}
use lib.ListN.{length, get_or}
use Rattle.refusal.specs.declared.Refusal.TheVariants.{InstructionPart}
use Rattle.word.specs.Fields.{opcode, e_of, f_of}
use Rattle.word.specs.Word.{pick}
use Rattle.word.proofs.Computed.{all}
use Rattle.word.proofs.Tests.{clash}
use Rattle.kinds.specs.declared.Kind.{Kind}
use Rattle.kinds.specs.declared.Kind.TheVariants.{And}
use Rattle.isa.specs.declared.Instruction.{Instruction}
use Rattle.refusal.specs.declared.Refusal.{Refusal}
use Rattle.std.specs.Prelude.{Option, Result}
use Rattle.std.specs.declared.option.Option.TheVariants.{Some, None}
use Rattle.std.specs.declared.result.Result.TheVariants.{Ok, Err}
use Rattle.isa.specs.declared.layout.Form.{Form}
use Rattle.isa.specs.declared.layout.Form.TheVariants.{Abd, Axd, AdSigned, AbSigned, Adx, ASigned, AUnsigned, DSigned, DUnsigned, Xxx, Xxd}
use Rattle.isa.specs.declared.layout.Layout.{Layout}
use Rattle.kinds.specs.Kinds.{kinds}
use Rattle.isa.specs.Sheet.{kind_at}
use Rattle.isa.specs.Instructions.{instruction, read_as, read_of, word, shown_writing, write_of}
use Rattle.isa.specs.Layouts.{form_of, entry_number, layout_of, word_sum, number_of, bits_of, fields_of, write_bits, write_in}
use Rattle.isa.proofs.Every.{every, entry_fixed, at_word, kind_same}
use Rattle.isa.proofs.Numbers.{back}
use Rattle.isa.proofs.Lines.{rest, rest_of, base_of, Fixed, fixed, sound, parts_are, write_is}

-- ---- The kind

-- w has the opcode of a form's fixed bits, and their f or e
abbrev Keyed : Form → ℕ → Type 0
Keyed y w = (w / 4096 ≡ base_of y / 4096) × (rest_of y w ≡ rest_of y (base_of y))

unless : Bool → Bool → Bool
unless true b = b
unless false b = true

-- where opcode, e and f are those of k's fixed bits, the kind is k
test : Kind → ℕ → ℕ → ℕ → Bool
test k op e f =
    unless (eqb op (base_of (form_of k) / 4096))
    (unless (eqb (rest (form_of k) e f) (rest_of (form_of k) (base_of (form_of k)))) (eqb (entry_number (kind_at op e f)) (entry_number (Some k))))

tested : T (all (length kinds) (λ n. all 16 (λ op. all 2 (λ e. all 8 (λ f. test (get_or kinds n And) op e f)))))
unfolding all test unless kind_at
tested = tt

kind_found : (k : Kind) (w : ℕ) → w < 65536 → Keyed (form_of k) w → kind_at (opcode w) (e_of w) (f_of w) ≡ Some k
unfolding test unless
kind_found k w h q =
    let t = at_word (test k) (every (λ k. all 16 (λ op. all 2 (λ e. all 8 (λ f. test k op e f)))) tested k) w h in
    sym (kind_same w h) ∙ entry_fixed _ (Some k) (rw (eq-eqb _ _ q.0, eq-eqb _ _ q.1) at t)

-- ---- The parts

record Placed (y : Form) (a b d x : ℕ) : Type 0 where
  key : Keyed y (word_sum (layout_of y) a b d x)
  a_is : word_sum (layout_of y) a b d x / 512 % (layout_of y).a ≡ a
  b_is : word_sum (layout_of y) a b d x / 64 % (layout_of y).b ≡ b
  d_is : word_sum (layout_of y) a b d x / (layout_of y).weight % (layout_of y).d ≡ d
  x_is : word_sum (layout_of y) a b d x % (layout_of y).size ≡ x

-- (with fewer facts in reach than `placed` has, which `omega` needs)
placed_abd : (v a b d x : ℕ) → v % 4096 < 8 → a < 8 → b < 8 → d < 8 → x < 1 → Placed (Abd v) a b d x
placed_abd v a b d x g p q r s = omega arith

placed_axd : (v a b d x : ℕ) → v % 4096 < 8 → a < 8 → b < 1 → d < 8 → x < 1 → Placed (Axd v) a b d x
placed_axd v a b d x g p q r s = omega arith

placed : (y : Form) → Fixed y → (a b d x : ℕ) → a < (layout_of y).a → b < (layout_of y).b → d < (layout_of y).d → x < (layout_of y).size → Placed y a b d x
placed (Abd v) g a b d x p q r s = placed_abd v a b d x (omega (arith, g.low)) p q r s
placed (Axd v) g a b d x p q r s = placed_axd v a b d x (omega (arith, g.low)) p q r s
placed (AdSigned v) g a b d x p q r s = omega arith
placed (AbSigned v) g a b d x p q r s = omega arith
placed (Adx v) g a b d x p q r s = omega arith
placed (ASigned v) g a b d x p q r s = omega arith
placed (AUnsigned v) g a b d x p q r s = omega arith
placed (DSigned v) g a b d x p q r s = omega arith
placed (DUnsigned v) g a b d x p q r s = omega arith
placed (Xxx v) g a b d x p q r s = omega arith
placed (Xxd v) g a b d x p q r s = omega arith

-- ---- What a written instruction has

record Accepted (m : Layout) (i : Instruction) (w : ℕ) : Type 0 where
  a_in : i.a < m.a
  b_in : i.b < m.b
  d_in : i.d < m.d
  x : ℕ
  bits : bits_of m.size m.negatives i.n ≡ Some x
  is : word_sum m i.a i.b i.d x ≡ w

pick_word : (t : Bool) (u : Result ℕ Refusal) (w : ℕ) → pick t u (Err InstructionPart) ≡ Ok w → (t ≡ true) × (u ≡ Ok w)
pick_word true u w e = (refl, e)
pick_word false u w e = clash (cc)

word_bits : (m : Layout) (i : Instruction) (l : Option ℕ) (w : ℕ) → write_bits m i l ≡ Ok w → (x : ℕ) × (l ≡ Some x) × (word_sum m i.a i.b i.d x ≡ w)
word_bits m i None w e = clash (cc)
word_bits m i (Some x) w e = (x, refl, cc)

accepted : (m : Layout) (i : Instruction) (w : ℕ) → write_in m i ≡ Ok w → Accepted m i w
accepted m i w e =
    let p = pick_word (ltb i.a m.a) _ w e in
    let q = pick_word (ltb i.b m.b) _ w p.1 in
    let r = pick_word (ltb i.d m.d) _ w q.1 in
    let l = word_bits m i _ w r.1 in
    record { a_in = ltb-true _ _ p.0; b_in = ltb-true _ _ q.0; d_in = ltb-true _ _ r.0; x = l.0; bits = l.1; is = l.2 }

shown_word : (r : Result ℕ Refusal) (w : ℕ) → shown_writing r ≡ word w → r ≡ Ok w
shown_word (Ok v) w e = ap Ok (cc)
shown_word (Err k) w e = clash (cc)

-- the fields of a word that was placed are the parts
fields_back : (y : Form) (i : Instruction) (w : ℕ) → Fixed y → (layout_of y).negatives < (layout_of y).size → Accepted (layout_of y) i w
    → Keyed y w × (fields_of (layout_of y) i.kind w ≡ i)
fields_back y i w g few h =
    let n = back (layout_of y).size (layout_of y).negatives i.n h.x few h.bits in
    let p = placed y g i.a i.b i.d h.x h.a_in h.b_in h.d_in n.0 in (
      rw h.is at p.key,
      rw (← h.is) (λ j. record { kind = i.kind; a = p.a_is j; b = p.b_is j; d = p.d_is j; n = (ap (number_of (layout_of y).size (layout_of y).negatives) p.x_is ∙ n.1) j }),
    )

pub written_then_read : (i : Instruction) (w : ℕ) → write_of i ≡ word w → (w < 65536) × (read_of w ≡ instruction i)
unfolding read_of write_of
written_then_read i w e =
    let k = i.kind in
    let m = layout_of (form_of k) in
    let a = accepted m i w (shown_word _ w (write_is i ∙ e)) in
    let x = back m.size m.negatives i.n a.x (sound k).negatives_few a.bits in
    let small : w < 65536 = rw a.is at ((sound k).room i.a i.b i.d a.x a.a_in a.b_in a.d_in x.0) in
    let h = fields_back (form_of k) i w (fixed k) (sound k).negatives_few a in (
      small,
      ap (λ (x : Option Kind). read_as x w) (kind_found k w small h.0) ∙ ap instruction (sym (parts_are k w) ∙ h.1),
    )
