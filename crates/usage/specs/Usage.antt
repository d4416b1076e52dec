-- The counts of a run (02, L5): over its trace, the machines before each step that it took, steps by kind, lines taken (L12), and reads and
-- writes by register; and its ticks (L9).
use Rattle.std.specs.Prelude.{ℕ, suc, ◌+◌, Bool, false, ◌||◌, List, [], ◌∷◌, eqb, replicate, Option}
use Rattle.word.specs.Fields.{opcode, e_of, f_of}
use Rattle.word.specs.Word.{pick, flag}
use Rattle.kinds.specs.declared.Kind.{Kind}
use Rattle.kinds.specs.declared.Kind.TheVariants.{Ld, St, Ldb, Stb}
use Rattle.kinds.specs.Kinds.{kind_count, kind_number}
use Rattle.std.specs.declared.option.Option.TheVariants.{Some, None}
use Rattle.isa.specs.Sheet.{kind_at}
use Rattle.isa.specs.Masks.{Masks, in_mask, masks_of}
use Rattle.machine.specs.Machine.{Machine, takes_line}
use Rattle.machine.specs.Step.{fetched}
use Rattle.machine.specs.Run.{fetches_a}
use Rattle.usage.specs.declared.Usage.{Usage}

-- ---- What a machine does next

-- the entry is the kind with number j
abbrev pub is_kind : Option Kind → ℕ → Bool
is_kind (Some k) j = eqb (kind_number k) j
is_kind None j = false

abbrev pub word_is : ℕ → ℕ → Bool
word_is w j = is_kind (kind_at (opcode w) (e_of w) (f_of w)) j

-- m does an instruction of the kind with number j next; where it takes a line (02, L12), it does none
abbrev pub does_kind : Machine → ℕ → Bool
does_kind m j = fetches_a (λ w. word_is w j) m

-- the masks of what m does next: those of the word fetched; taking a line reads and writes no register
abbrev pub masks_at : Machine → Masks
masks_at m = pick (takes_line m.state) (record { reads = 0; writes = 0 }) (masks_of (fetched m))

-- ---- Counts

-- 1 more at each place, from number k on, of which the test holds
unfoldable pub added_from : ℕ → (ℕ → Bool) → List ℕ → List ℕ
added_from k test [] = []
added_from k test (x ∷ xs) = (x + flag (test k)) ∷ added_from (suc k) test xs

abbrev pub added : (ℕ → Bool) → List ℕ → List ℕ
added test xs = added_from 0 test xs

-- 1 more at the places that each list's test tells
abbrev pub counted_by : (ℕ → Bool) → (ℕ → Bool) → (ℕ → Bool) → Usage → Usage
counted_by kind reads writes u =
    record { kinds = added kind u.kinds; taken = u.taken; reads = added reads u.reads; writes = added writes u.writes }

-- one step more: `kinds` counts it by its kind's number, `reads` and `writes` once for each register in its masks
abbrev pub counted : (ℕ → Bool) → Masks → Usage → Usage
counted kind masks u = counted_by kind (in_mask masks.reads) (in_mask masks.writes) u

-- so many lines taken more
abbrev pub took_lines : ℕ → Usage → Usage
took_lines k u = record { kinds = u.kinds; taken = u.taken + k; reads = u.reads; writes = u.writes }

abbrev pub unused : Usage
unused = record { kinds = replicate kind_count 0; taken = 0; reads = replicate 8 0; writes = replicate 8 0 }

-- the step of m counted; taking a line has a count of its own
abbrev pub step_counted : Machine → Usage → Usage
step_counted m u = took_lines (flag (takes_line m.state)) (counted (does_kind m) (masks_at m) u)

-- the counts of a trace
unfoldable pub usage_of : List Machine → Usage
usage_of [] = unused
usage_of (m ∷ ms) = step_counted m (usage_of ms)

-- ---- Ticks (02, L9): the multicycle board takes 3 an instruction, and 4 for LD, ST, LDB and STB; taking a line takes 3 (L12)

-- m does an instruction of the kind k next
abbrev pub does : Kind → Machine → Bool
does k m = does_kind m (kind_number k)

abbrev pub ticks_at : Machine → ℕ
ticks_at m = pick (does Ld m || does St m || does Ldb m || does Stb m) 4 3

-- the ticks of a trace
unfoldable pub ticks_of : List Machine → ℕ
ticks_of [] = 0
ticks_of (m ∷ ms) = ticks_at m + ticks_of ms

-- ---- Sums of counts

-- place by place
unfoldable pub plus_counts : List ℕ → List ℕ → List ℕ
plus_counts [] ys = []
plus_counts (x ∷ xs) [] = []
plus_counts (x ∷ xs) (y ∷ ys) = (x + y) ∷ plus_counts xs ys

abbrev pub plus_usage : Usage → Usage → Usage
plus_usage u v =
    record {
      kinds = plus_counts u.kinds v.kinds;
      taken = u.taken + v.taken;
      reads = plus_counts u.reads v.reads;
      writes = plus_counts u.writes v.writes;
    }
