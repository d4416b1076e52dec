-- A test that passes at each kind of the sheet's list passes at any kind, and one that passes at each opcode, e and f at any word.
-- Assumes nothing.
use mathlib.Core.Path.{◌≡◌, refl, sym, ◌∙◌, ap, subst}
use mathlib.Core.Bool.{Bool}
use Prim.Native.Nat.{ℕ, ◌/◌, ◌%◌, ◌<◌, ◌≤◌}
use native.Mathlib.Omega.{arith}
use borrow.Author.Tests.{ne_eqb}
use lib.Dec.{T, eqb, eqb→eq, lit<}
use lib.ListN.{length, get_or}
use Rattle.word.specs.Fields.{opcode, e_of, f_of}
use Rattle.word.specs.Word.{pick}
use Rattle.word.proofs.Computed.{all, all_at}
use Rattle.kinds.specs.declared.Kind.{Kind}
use Rattle.kinds.specs.declared.Kind.TheVariants.{And, Or, Xor, Not, Add, Sub, Sha, Shl, Cmplt, Cmple, Cmpeq, Cmpltu, Cmpleu, Addi, Ld, St, Ldb, Stb, Jalr, Bz, Bnz, Movi, Movhi, In, Out, Mul, Mulh, Mulhu, Div, Divu, Ei, Di, Reti, Getiid}
use Rattle.std.specs.Prelude.{Option}
use Rattle.std.specs.declared.option.Option.TheVariants.{Some, None}
use Rattle.kinds.specs.Kinds.{kinds, kind_number}
use Rattle.isa.specs.Sheet.{kind_at}
use Rattle.isa.specs.Layouts.{entry_number}

-- a kind stands in the list at its number
pub listed : (k : Kind) → (kind_number k < length kinds) × (get_or kinds (kind_number k) And ≡ k)
listed And = (lit< tt, refl)
listed Or = (lit< tt, refl)
listed Xor = (lit< tt, refl)
listed Not = (lit< tt, refl)
listed Add = (lit< tt, refl)
listed Sub = (lit< tt, refl)
listed Sha = (lit< tt, refl)
listed Shl = (lit< tt, refl)
listed Cmplt = (lit< tt, refl)
listed Cmple = (lit< tt, refl)
listed Cmpeq = (lit< tt, refl)
listed Cmpltu = (lit< tt, refl)
listed Cmpleu = (lit< tt, refl)
listed Addi = (lit< tt, refl)
listed Ld = (lit< tt, refl)
listed St = (lit< tt, refl)
listed Ldb = (lit< tt, refl)
listed Stb = (lit< tt, refl)
listed Jalr = (lit< tt, refl)
listed Bz = (lit< tt, refl)
listed Bnz = (lit< tt, refl)
listed Movi = (lit< tt, refl)
listed Movhi = (lit< tt, refl)
listed In = (lit< tt, refl)
listed Out = (lit< tt, refl)
listed Mul = (lit< tt, refl)
listed Mulh = (lit< tt, refl)
listed Mulhu = (lit< tt, refl)
listed Div = (lit< tt, refl)
listed Divu = (lit< tt, refl)
listed Ei = (lit< tt, refl)
listed Di = (lit< tt, refl)
listed Reti = (lit< tt, refl)
listed Getiid = (lit< tt, refl)

pub every : (f : Kind → Bool) → T (all (length kinds) (λ n. f (get_or kinds n And))) → (k : Kind) → T (f k)
every f t k = subst (λ (j : Kind). T (f j)) (listed k).1 (all_at (length kinds) (λ n. f (get_or kinds n And)) t (kind_number k) (listed k).0)

-- ---- The entries of the opcodes' rows, by number

abbrev pub entry_at : ℕ → Option Kind
entry_at n = pick (eqb n (length kinds)) None (Some (get_or kinds n And))

pub entry_is : (x : Option Kind) → entry_at (entry_number x) ≡ x
entry_is None = refl
entry_is (Some k) = rw (ne_eqb (kind_number k) (length kinds) (λ e. omega (arith, (listed k).0))) (ap Some (listed k).1)

pub entry_few : (x : Option Kind) → entry_number x ≤ length kinds
entry_few None = omega arith
entry_few (Some k) = omega (arith, (listed k).0)

pub entry_fixed : (x y : Option Kind) → T (eqb (entry_number x) (entry_number y)) → x ≡ y
entry_fixed x y t = sym (entry_is x) ∙ ap entry_at (eqb→eq (entry_number x) (entry_number y) t) ∙ entry_is y

-- ---- Words, whose opcode, e and f the code computes by / and %

pub at_word : (t : ℕ → ℕ → ℕ → Bool) → T (all 16 (λ op. all 2 (λ e. all 8 (λ f. t op e f)))) → (w : ℕ) → w < 65536
    → T (t (w / 4096) (w / 256 % 2) (w % 8))
at_word t p w h =
    let p₀ = all_at 16 (λ op. all 2 (λ e. all 8 (λ f. t op e f))) p (w / 4096) (omega arith) in
    let p₁ = all_at 2 (λ e. all 8 (λ f. t (w / 4096) e f)) p₀ (w / 256 % 2) (omega arith) in
    all_at 8 (λ f. t (w / 4096) (w / 256 % 2) f) p₁ (w % 8) (omega arith)

pub kind_same : (w : ℕ) → w < 65536 → kind_at (w / 4096) (w / 256 % 2) (w % 8) ≡ kind_at (opcode w) (e_of w) (f_of w)
kind_same w h =
    let op : w / 4096 ≡ opcode w = omega arith in
    let f : w % 8 ≡ f_of w = omega arith in
    λ j. kind_at (op j) (e_of w) (f j)
