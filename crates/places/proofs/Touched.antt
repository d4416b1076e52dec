-- What a kind touches, by a table of numbers: the weight of the lowest bit of the register that it writes, or 0; and added to it, how many of
-- Ra and Rb it reads. MOVHI reads the register that it writes, which stands where Ra does. The table says what the sheet says.
-- Assumes nothing.
use mathlib.Core.Path.{◌≡◌, refl, sym, ◌∙◌, ap}
use mathlib.Core.Bool.{Bool, false}
use mathlib.Core.List.{List, [], ◌∷◌}
use Prim.Native.Nat.{ℕ, ◌-◌, ◌/◌, ◌%◌, ◌<◌, ◌≤◌}
use native.Mathlib.Omega.{arith}
use lib.Dec.{eqb}
use lib.ListN.{length, get_or}
use Rattle.word.specs.Fields.{opcode, e_of, f_of, a_of, b_of}
use Rattle.word.specs.Word.{pick}
use Rattle.kinds.specs.declared.Kind.{Kind}
use Rattle.kinds.specs.declared.Kind.TheVariants.{And}
use Rattle.kinds.specs.Kinds.{kinds, kind_number}
use Rattle.std.specs.Prelude.{Option}
use Rattle.std.specs.declared.option.Option.TheVariants.{Some, None}
use Rattle.isa.specs.Layouts.{entry_number}
use Rattle.isa.specs.Sheet.{sheet_line, kind_at}
use Rattle.isa.specs.Masks.{in_mask, masks_as, masks_of}
use Rattle.isa.proofs.Every.{listed}
use Rattle.usage.specs.declared.Usage.{Usage}
use Rattle.usage.specs.Usage.{is_kind}
use Rattle.usage.specs.Counting.{usage_with, either_of, nowhere, raised_by, counted_steps}
use Rattle.usage.proofs.Functions.{table, at}
use Rattle.usage.proofs.InMasks.{in_none}
use Rattle.usage.proofs.Raised.{raised_nowhere}
use Rattle.usage.proofs.Words.{is_part, is_read, in_part, in_reads}

-- the number of w's kind, or that of none
abbrev pub number_of : ℕ → ℕ
number_of w = entry_number (kind_at (opcode w) (e_of w) (f_of w))

-- the registers that are read, where it is none, a, or a and b
abbrev pub reads_by : ℕ → ℕ → ℕ → ℕ → Bool
reads_by count a b j = pick (eqb count 0) false (pick (eqb count 1) (eqb a j) (either_of a b j))

-- the register that is written, by the weight of its lowest bit in w; 0 for none
abbrev pub writes_by : ℕ → ℕ → ℕ → Bool
writes_by weight w j = pick (eqb weight 0) false (eqb (w / weight % 8) j)

abbrev pub touched : List ℕ
touched =
    10 ∷ 10 ∷ 10 ∷ 9 ∷ 10 ∷ 10 ∷ 10 ∷ 10 ∷ 10 ∷ 10 ∷ 10 ∷ 10 ∷ 10 ∷ 65 ∷ 65 ∷ 2 ∷ 65 ∷ 2 ∷ 65 ∷ 1 ∷ 1 ∷ 512 ∷ 513 ∷ 512 ∷ 1 ∷ 10 ∷ 10 ∷ 10 ∷ 10 ∷ 10 ∷ 0 ∷ 0 ∷ 0 ∷ 8 ∷ []

-- n steps of a word whose kind has the number k
abbrev pub steps_by : ℕ → ℕ → ℕ → Usage → Usage
steps_by k n w u = raised_by n (eqb k) (reads_by (get_or touched k 0 % 8) (a_of w) (b_of w)) (writes_by (get_or touched k 0 - get_or touched k 0 % 8) w) u

-- the kind's lines of the sheet
abbrev by_kind : Kind → ℕ → ℕ → Usage → Usage
by_kind k n w u = raised_by n (eqb (kind_number k)) (is_read k w) (is_part (sheet_line k).format.d w) u

tables : table (length kinds) steps_by ≡ table (length kinds) (λ i. by_kind (get_or kinds i And))
unfolding table
tables = refl

by_kind_lem : (k : Kind) (n w : ℕ) (u : Usage) → steps_by (kind_number k) n w u ≡ by_kind k n w u
by_kind_lem k n w u =
    ap (λ h. h n w u) (at (length kinds) steps_by (λ i. by_kind (get_or kinds i And)) tables (kind_number k) (listed k).0)
    ∙ ap (λ j. by_kind j n w u) (listed k).1

none : (n w : ℕ) (u : Usage) → raised_by n nowhere nowhere nowhere u ≡ u
none n w u = λ i. usage_with u.taken (raised_nowhere n 0 nowhere u.kinds (λ j l. refl) i) (raised_nowhere n 0 nowhere u.reads (λ j l. refl) i) (raised_nowhere n 0 nowhere u.writes (λ j l. refl) i)

-- ---- By what the word reads as

abbrev steps_as : Option Kind → ℕ → ℕ → Usage → Usage
steps_as x n w u = raised_by n (is_kind x) (in_mask (masks_as x w).reads) (in_mask (masks_as x w).writes) u

assigned : (x : Option Kind) (n w : ℕ) (u : Usage) → entry_number x < length kinds → steps_by (entry_number x) n w u ≡ steps_as x n w u
assigned (Some k) n w u l =
    by_kind_lem k n w u ∙ sym (λ i. raised_by n (eqb (kind_number k)) (λ j. in_reads k w j i) (λ j. in_part (sheet_line k).format.d w j i) u)
assigned None n w u l = absurd (omega arith)

unassigned : (x : Option Kind) (n w : ℕ) (u : Usage) → length kinds ≤ entry_number x → u ≡ steps_as x n w u
unassigned (Some k) n w u l = absurd (omega (arith, (listed k).0))
unassigned None n w u l = sym ((λ i. raised_by n nowhere (λ j. in_none j i) (λ j. in_none j i) u) ∙ none n w u)

pub steps_by_lem : (n w : ℕ) (u : Usage) → number_of w < length kinds → steps_by (number_of w) n w u ≡ counted_steps n w u
unfolding masks_of
steps_by_lem n w u l = assigned (kind_at (opcode w) (e_of w) (f_of w)) n w u l

pub steps_past : (n w : ℕ) (u : Usage) → length kinds ≤ number_of w → u ≡ counted_steps n w u
unfolding masks_of
steps_past n w u l = unassigned (kind_at (opcode w) (e_of w) (f_of w)) n w u l
