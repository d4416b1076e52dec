-- Each layout of the code says what the sheet's line says.
-- Assumes nothing.
use mathlib.Core.Path.{◌≡◌, refl, sym, ◌∙◌, ap}
use mathlib.Core.Bool.{Bool, true, false, ◌&&◌}
use mathlib.Core.List.{List, map}
use Prim.Native.Nat.{ℕ, suc, ◌-◌, ◌*◌, ◌/◌, ◌%◌, ◌^◌, ◌<◌}
use native.Mathlib.Nat.{mod-lt, div-one}
use native.Mathlib.Omega.{arith}
use borrow.Author.Tests.{ltb-true}
use lib.Dec.{eqb, ltb, ltb→lt, eqb→eq}
use lib.IntN.{ℤ, pos, negsuc}
use lib.Pow.{pow_pos}
use lib.ListN.{get_or, get_or-map}
use Rattle.refusal.specs.declared.Refusal.TheVariants.{InstructionPart}
use Rattle.word.specs.Word.{pick, signed, low_bits}
use Rattle.word.proofs.Computed.{both, both_split, all}
use Rattle.word.proofs.Signed.{signed_is, low_lt}
use Rattle.kinds.specs.declared.Kind.{Kind}
use Rattle.kinds.specs.declared.Kind.TheVariants.{And}
use Rattle.isa.specs.declared.Instruction.{Instruction}
use Rattle.std.specs.declared.result.Result.TheVariants.{Err}
use Rattle.isa.specs.declared.layout.Form.{Form}
use Rattle.isa.specs.declared.layout.Form.TheVariants.{Abd, Axd, AdSigned, AbSigned, Adx, ASigned, AUnsigned, DSigned, DUnsigned, Xxx, Xxd}
use Rattle.isa.specs.declared.layout.Layout.{Layout}
use Rattle.std.specs.declared.option.Option.TheVariants.{Some, None}
use Rattle.kinds.specs.Kinds.{kinds, kind_number}
use Rattle.isa.specs.Sheet.{Format, R3, R3-NOT, R2-ab, R2-ad, R2-JALR, R1-a, R1-d, R0, R1-GETIID, Code, F, E, only, Number, signed_n, unsigned_n, Line, sheet_line}
use Rattle.isa.specs.Instructions.{parts_of, word, write_refused, shown_writing, in_range, word_of, write_as}
use Rattle.isa.specs.Layouts.{forms, form_of, layout_of, word_sum, Sound, number_of, bits_of, fields_of, write_bits, write_in}
use Rattle.isa.proofs.Every.{listed, every}
use Rattle.isa.proofs.Numbers.{unsigned_is, unsigned_bits, signed_bits}

-- ---- The sheet's line of a form

abbrev line_in : Format → ℕ → Code → Number → Line
line_in r v c z = record { format = r; opcode = v / 4096; code = c; number = z }

abbrev pub line_of : Form → Line
line_of (Abd v) = line_in R3 v (F (v % 8)) unsigned_n
line_of (Axd v) = line_in R3-NOT v (F (v % 8)) unsigned_n
line_of (AdSigned v) = line_in R2-ad v only signed_n
line_of (AbSigned v) = line_in R2-ab v only signed_n
line_of (Adx v) = line_in R2-JALR v only unsigned_n
line_of (ASigned v) = line_in R1-a v (E (v / 256 % 2)) signed_n
line_of (AUnsigned v) = line_in R1-a v (E (v / 256 % 2)) unsigned_n
line_of (DSigned v) = line_in R1-d v (E (v / 256 % 2)) signed_n
line_of (DUnsigned v) = line_in R1-d v (E (v / 256 % 2)) unsigned_n
line_of (Xxx v) = line_in R0 v (F (v % 8)) unsigned_n
line_of (Xxd v) = line_in R1-GETIID v (F (v % 8)) unsigned_n

-- the code's table is the sheet's, line by line
table : map sheet_line kinds ≡ map line_of forms
table = refl

pub line_is : (k : Kind) → sheet_line k ≡ line_of (form_of k)
line_is k =
    ap sheet_line (sym (listed k).1)
    ∙ sym (get_or-map sheet_line kinds (kind_number k) And)
    ∙ ap (λ (ls : List Line). get_or ls (kind_number k) (sheet_line And)) table
    ∙ get_or-map line_of forms (kind_number k) (Abd 0)

-- ---- Reading

same_parts : (k : Kind) {a a₁ b b₁ d d₁ : ℕ} {n n₁ : ℤ} → a ≡ a₁ → b ≡ b₁ → d ≡ d₁ → n ≡ n₁
    → ◌≡◌ {A = Instruction} (record { kind = k; a = a; b = b; d = d; n = n }) (record { kind = k; a = a₁; b = b₁; d = d₁; n = n₁ })
same_parts k p q r s = λ j. record { kind = k; a = p j; b = q j; d = r j; n = s j }

unsigned_part : (size w : ℕ) → 0 < size → number_of size 0 (w % size) ≡ pos (w / 1 % size)
unsigned_part size w h = unsigned_is size (w % size) (mod-lt w h) ∙ rw (div-one w)

signed_part : (k w : ℕ) → pick (ltb (w % 2 ^ k) (2 ^ (k - 1))) (pos (w % 2 ^ k)) (negsuc (2 ^ k - suc (w % 2 ^ k))) ≡ signed k (w / 1 % 2 ^ k)
signed_part k w = rw (div-one w) (sym (signed_is k (w % 2 ^ k) (mod-lt w (pow_pos k))))

parts_in : (y : Form) (k : Kind) (w : ℕ) → fields_of (layout_of y) k w ≡ parts_of (line_of y) k w
parts_in (Abd v) k w = same_parts k refl refl refl (unsigned_part 1 w (omega arith))
parts_in (Axd v) k w = same_parts k refl (omega arith) refl (unsigned_part 1 w (omega arith))
parts_in (AdSigned v) k w = same_parts k refl (omega arith) refl (signed_part 6 w)
parts_in (AbSigned v) k w = same_parts k refl refl (omega arith) (signed_part 6 w)
parts_in (Adx v) k w = same_parts k refl (omega arith) refl (unsigned_part 1 w (omega arith))
parts_in (ASigned v) k w = same_parts k refl (omega arith) (omega arith) (signed_part 8 w)
parts_in (AUnsigned v) k w = same_parts k refl (omega arith) (omega arith) (unsigned_part 256 w (omega arith))
parts_in (DSigned v) k w = same_parts k (omega arith) (omega arith) refl (signed_part 8 w)
parts_in (DUnsigned v) k w = same_parts k (omega arith) (omega arith) refl (unsigned_part 256 w (omega arith))
parts_in (Xxx v) k w = same_parts k (omega arith) (omega arith) (omega arith) (unsigned_part 1 w (omega arith))
parts_in (Xxd v) k w = same_parts k (omega arith) (omega arith) refl (unsigned_part 1 w (omega arith))

pub parts_are : (k : Kind) (w : ℕ) → fields_of (layout_of (form_of k)) k w ≡ parts_of (sheet_line k) k w
parts_are k w = parts_in (form_of k) k w ∙ ap (λ (l : Line). parts_of l k w) (sym (line_is k))

-- ---- The fixed bits

-- what tells a form's kinds with one opcode apart, in its place: f, e or nothing
abbrev pub rest : Form → ℕ → ℕ → ℕ
rest (Abd v) e f = f
rest (Axd v) e f = f
rest (AdSigned v) e f = 0
rest (AbSigned v) e f = 0
rest (Adx v) e f = 0
rest (ASigned v) e f = e * 256
rest (AUnsigned v) e f = e * 256
rest (DSigned v) e f = e * 256
rest (DUnsigned v) e f = e * 256
rest (Xxx v) e f = f
rest (Xxd v) e f = f

-- the same of a word
abbrev pub rest_of : Form → ℕ → ℕ
rest_of y w = rest y (w / 256 % 2) (w % 8)

abbrev pub base_of : Form → ℕ
base_of y = (layout_of y).base

-- the fixed bits are an opcode, and f or e, and nothing else
pub record Fixed (y : Form) : Type 0 where
  pub low : base_of y % 4096 ≡ rest_of y (base_of y)
  pub few : base_of y < 65536

fixed_test : Form → Bool
fixed_test y = both (eqb (base_of y % 4096) (rest_of y (base_of y))) (ltb (base_of y) 65536)

pub fixed : (k : Kind) → Fixed (form_of k)
unfolding fixed_test all
fixed k =
    let p = both_split (eqb (base_of (form_of k) % 4096) (rest_of (form_of k) (base_of (form_of k)))) _ (every (λ k. fixed_test (form_of k)) tt k) in
    record { low = eqb→eq _ _ p.0; few = ltb→lt _ _ p.1 }

-- ---- Writing

-- the code's sum is the line's word, wherever the parts are in their ranges
word_in : (y : Form) → Fixed y → (a b d x : ℕ) → a < (layout_of y).a → b < (layout_of y).b → d < (layout_of y).d → x < (layout_of y).size
    → word_sum (layout_of y) a b d x ≡ word_of (line_of y) a b d x
word_in (Abd v) g a b d x p q r s = omega (arith, g.low)
word_in (Axd v) g a b d x p q r s = omega (arith, g.low)
word_in (AdSigned v) g a b d x p q r s = omega (arith, g.low)
word_in (AbSigned v) g a b d x p q r s = omega (arith, g.low)
word_in (Adx v) g a b d x p q r s = omega (arith, g.low)
word_in (ASigned v) g a b d x p q r s = omega (arith, g.low)
word_in (AUnsigned v) g a b d x p q r s = omega (arith, g.low)
word_in (DSigned v) g a b d x p q r s = omega (arith, g.low)
word_in (DUnsigned v) g a b d x p q r s = omega (arith, g.low)
word_in (Xxx v) g a b d x p q r s = omega (arith, g.low)
word_in (Xxd v) g a b d x p q r s = omega (arith, g.low)

bits_in : (y : Form) (n : ℤ) → bits_of (layout_of y).size (layout_of y).negatives n
    ≡ pick (in_range (line_of y).number (line_of y).format.n n) (Some (low_bits (line_of y).format.n.count n)) None
bits_in (Abd v) n = unsigned_bits 0 n
bits_in (Axd v) n = unsigned_bits 0 n
bits_in (AdSigned v) n = signed_bits 6 31 n refl
bits_in (AbSigned v) n = signed_bits 6 31 n refl
bits_in (Adx v) n = unsigned_bits 0 n
bits_in (ASigned v) n = signed_bits 8 127 n refl
bits_in (AUnsigned v) n = unsigned_bits 8 n
bits_in (DSigned v) n = signed_bits 8 127 n refl
bits_in (DUnsigned v) n = unsigned_bits 8 n
bits_in (Xxx v) n = unsigned_bits 0 n
bits_in (Xxd v) n = unsigned_bits 0 n

-- as many values as the line's bits can hold
record Sizes (m : Layout) (l : Line) : Type 0 where
  a : m.a ≡ 2 ^ l.format.a.count
  b : m.b ≡ 2 ^ l.format.b.count
  d : m.d ≡ 2 ^ l.format.d.count
  n : m.size ≡ 2 ^ l.format.n.count

sizes : (y : Form) → Sizes (layout_of y) (line_of y)
sizes (Abd v) = record { a = refl; b = refl; d = refl; n = refl }
sizes (Axd v) = record { a = refl; b = refl; d = refl; n = refl }
sizes (AdSigned v) = record { a = refl; b = refl; d = refl; n = refl }
sizes (AbSigned v) = record { a = refl; b = refl; d = refl; n = refl }
sizes (Adx v) = record { a = refl; b = refl; d = refl; n = refl }
sizes (ASigned v) = record { a = refl; b = refl; d = refl; n = refl }
sizes (AUnsigned v) = record { a = refl; b = refl; d = refl; n = refl }
sizes (DSigned v) = record { a = refl; b = refl; d = refl; n = refl }
sizes (DUnsigned v) = record { a = refl; b = refl; d = refl; n = refl }
sizes (Xxx v) = record { a = refl; b = refl; d = refl; n = refl }
sizes (Xxd v) = record { a = refl; b = refl; d = refl; n = refl }

-- the code's tests one after the other are the line's
tested : (a b d n : Bool) (m : Layout) (i : Instruction) (x v : ℕ) → (a ≡ true → b ≡ true → d ≡ true → word_sum m i.a i.b i.d x ≡ v)
    → shown_writing (pick a (pick b (pick d (write_bits m i (pick n (Some x) None)) (Err InstructionPart)) (Err InstructionPart)) (Err InstructionPart))
    ≡ pick (a && b && d && n) (word v) (write_refused 7)
tested true true true true m i x v h = ap word (h refl refl refl)
tested true true true false m i x v h = refl
tested true true false n m i x v h = refl
tested true false d n m i x v h = refl
tested false b d n m i x v h = refl

write_in_lem : (y : Form) → Fixed y → (i : Instruction) → shown_writing (write_in (layout_of y) i) ≡ write_as (line_of y) i
write_in_lem y g i =
    let z = sizes y in
    let x = low_bits (line_of y).format.n.count i.n in
    rw (bits_in y i.n, ← z.a, ← z.b, ← z.d)
    (tested (ltb i.a (layout_of y).a) (ltb i.b (layout_of y).b) (ltb i.d (layout_of y).d) _ (layout_of y) i x _
    (λ p q r. word_in y g i.a i.b i.d x (ltb-true _ _ p) (ltb-true _ _ q) (ltb-true _ _ r) (rw z.n (low_lt (line_of y).format.n.count i.n))))

pub write_is : (i : Instruction) → shown_writing (write_in (layout_of (form_of i.kind)) i) ≡ write_as (sheet_line i.kind) i
write_is i = write_in_lem (form_of i.kind) (fixed i.kind) i ∙ ap (λ (l : Line). write_as l i) (sym (line_is i.kind))

-- ---- What the code relies on

sound_in : (y : Form) → Fixed y → Sound (layout_of y)
sound_in (Abd v) g = omega (arith, g.low)
sound_in (Axd v) g = omega (arith, g.low)
sound_in (AdSigned v) g = omega (arith, g.low)
sound_in (AbSigned v) g = omega (arith, g.low)
sound_in (Adx v) g = omega (arith, g.low)
sound_in (ASigned v) g = omega (arith, g.low)
sound_in (AUnsigned v) g = omega (arith, g.low)
sound_in (DSigned v) g = omega (arith, g.low)
sound_in (DUnsigned v) g = omega (arith, g.low)
sound_in (Xxx v) g = omega (arith, g.low)
sound_in (Xxd v) g = omega (arith, g.low)

pub sound : (k : Kind) → Sound (layout_of (form_of k))
sound k = sound_in (form_of k) (fixed k)
