-- The 34 kinds of instruction.
use Rattle.std.specs.Prelude.{◌≡◌, ℕ, ◌<◌, ◌≤◌, List, [], ◌∷◌, length, get_or, Result, MatchResult}
use Rattle.kinds.specs.declared.UnknownKind.{UnknownKind}
use Rattle.kinds.specs.declared.Kind.{Kind}
use Rattle.kinds.specs.declared.Kind.TheVariants.{And, Or, Xor, Not, Add, Sub, Sha, Shl, Cmplt, Cmple, Cmpeq, Cmpltu, Cmpleu, Addi, Ld, St, Ldb, Stb, Jalr, Bz, Bnz, Movi, Movhi, In, Out, Mul, Mulh, Mulhu, Div, Divu, Ei, Di, Reti, Getiid}

-- ---- The kinds in the sheet's order, then opcode 11's (02, L6) and opcode 12's (02, L12) by f, and each one's place, from 0 (the
-- numbering is ours).

abbrev pub kinds : List Kind
kinds = And ∷ Or ∷ Xor ∷ Not ∷ Add ∷ Sub ∷ Sha ∷ Shl ∷ Cmplt ∷ Cmple ∷ Cmpeq ∷ Cmpltu ∷ Cmpleu ∷ Addi ∷ Ld ∷ St ∷ Ldb ∷ Stb ∷ Jalr ∷ Bz ∷ Bnz ∷ Movi ∷ Movhi ∷ In ∷ Out ∷ Mul ∷ Mulh ∷ Mulhu ∷ Div ∷ Divu ∷ Ei ∷ Di ∷ Reti ∷ Getiid ∷ []

-- how many there are
abbrev pub kind_count : ℕ
kind_count = length kinds

abbrev pub kind_number : Kind → ℕ
kind_number And = 0
kind_number Or = 1
kind_number Xor = 2
kind_number Not = 3
kind_number Add = 4
kind_number Sub = 5
kind_number Sha = 6
kind_number Shl = 7
kind_number Cmplt = 8
kind_number Cmple = 9
kind_number Cmpeq = 10
kind_number Cmpltu = 11
kind_number Cmpleu = 12
kind_number Addi = 13
kind_number Ld = 14
kind_number St = 15
kind_number Ldb = 16
kind_number Stb = 17
kind_number Jalr = 18
kind_number Bz = 19
kind_number Bnz = 20
kind_number Movi = 21
kind_number Movhi = 22
kind_number In = 23
kind_number Out = 24
kind_number Mul = 25
kind_number Mulh = 26
kind_number Mulhu = 27
kind_number Div = 28
kind_number Divu = 29
kind_number Ei = 30
kind_number Di = 31
kind_number Reti = 32
kind_number Getiid = 33

-- the kind that has the number, or an error with a number that no kind has
abbrev pub Numbered : ℕ → Result Kind UnknownKind → Type 0
Numbered n r = MatchResult r (λ kind. (n < kind_count) × (kind ≡ get_or kinds n And)) (λ e. (kind_count ≤ n) × (e.0 ≡ n))
