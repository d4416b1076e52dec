-- Locked calibration (02, L14): which bytes are locked and which a window hides, in other words, and what the range 5 to 5 stops.
use Rattle.std.specs.Prelude.{◌≡◌, true, false, List, [], ◌↔◌, ℕ, ◌+◌, ◌<◌, ◌≤◌, pos}
use Rattle.kinds.specs.declared.Kind.{Kind}
use Rattle.kinds.specs.declared.Kind.TheVariants.{Ld, St, Ldb}
use Rattle.isa.specs.declared.Instruction.{Instruction}
use Rattle.machine.specs.declared.State.{State}
use Rattle.machine.specs.Machine.{Machine, is_single, takes_line, is_locked}
use Rattle.machine.specs.Step.{PC, cannot, to, fetched, step}
use Rattle.image.specs.declared.Range.{Range}
use Rattle.image.specs.Image.{with_range}
use Rattle.panel.specs.Calls.{part_of, window_of}
use Rattle.claims_sheet.specs.Rules.{r, FetchesNow}
use Rattle.claims_sheet.specs.Marked.{Is}

-- There is a range, by its flag, and the address is in it, first to last, both in it.
pub record LiesIn (flag first last address : ℕ) : Type 0 where
  pub range : flag ≡ 0 → ⊥
  pub from_first : first ≤ address
  pub to_last : address ≤ last

-- The state keeps these three numbers as flag, first and last.
pub record Keeps (s : State) (x y z : ℕ) : Type 0 where
  pub flag : s.locked ≡ x
  pub first : s.first_locked ≡ y
  pub last : s.last_locked ≡ z

-- the range 5 to 5
abbrev pub Locks5 : State → Type 0
Locks5 s = Keeps s 1 5 5

-- m has that range and 0 in R0, and fetches the word w
pub record At5 (w : ℕ) (m : Machine) : Type 0 where
  pub locks : Locks5 m.state
  pub zero : r m 0 ≡ 0
  pub fetches : FetchesNow m
  pub word : fetched m ≡ w

-- an instruction of R1 at n(R0)
abbrev pub at : Kind → ℕ → ℕ → ℕ → Instruction
at k b d n = record { kind = k; a = 0; b = b; d = d; n = pos n }

pub record Locks : Type 0 where
  -- A byte is locked exactly where there is a range and the address is in it.
  pub locked : (address : ℕ) (s : State) → (is_locked address s ≡ true) ↔ LiesIn s.locked s.first_locked s.last_locked address
  -- A load locks exactly the bytes of the range that it names;
  pub load_locks : (range : Range) (s : State) (address : ℕ) → (is_locked address (with_range range s) ≡ true) ↔ LiesIn range.locked range.first range.last address
  -- the state keeps the flag as 1, and 0 in all three where none is named.
  pub load_keeps : (range : Range) (s : State) → (range.locked ≡ 0 → ⊥) → Keeps (with_range range s) 1 range.first range.last
  pub load_none : (range : Range) (s : State) → range.locked ≡ 0 → Keeps (with_range range s) 0 0 0
  -- 0x3044 is LD R1,4(R0): it stops, since it touches 4 and 5.
  pub ld_at_4 : Is (at Ld 0 1 4) 0x3044 × ((m : Machine) → At5 0x3044 m → step m ≡ cannot 4)
  -- 0x3046 is LD R1,6(R0): it touches 6 and 7, and does not stop.
  pub ld_at_6 : Is (at Ld 0 1 6) 0x3046 × ((m : Machine) → At5 0x3046 m → (next : Machine) × (step m ≡ to next))
  -- 0x5044 is LDB R1,4(R0): it touches 4 alone, and does not stop.
  pub ldb_at_4 : Is (at Ldb 0 1 4) 0x5044 × ((m : Machine) → At5 0x5044 m → (next : Machine) × (step m ≡ to next))
  -- 0x4045 is ST 5(R0),R1: it stops, since it touches 4 and 5.
  pub st_at_5 : Is (at St 1 0 5) 0x4045 × ((m : Machine) → At5 0x4045 m → step m ≡ cannot 4)
  -- 0x5046 is LDB R1,6(R0): it does not stop.
  pub ldb_at_6 : Is (at Ldb 0 1 6) 0x5046 × ((m : Machine) → At5 0x5046 m → (next : Machine) × (step m ≡ to next))
  -- A fetch at 4 from D stops, whatever word stands there; from P it does not touch data.
  pub fetch_at_4 :
      (m : Machine) → Locks5 m.state → takes_line m.state ≡ false → PC m ≡ 4
      → (is_single m.state ≡ true → step m ≡ cannot 4) × (is_single m.state ≡ false → FetchesNow m)
  -- A window on data memory shows nothing where one of the bytes asked for is locked,
  pub window_hidden :
      (s : State) (P D : List ℕ) (start count k : ℕ) → start ≤ k → k < start + count → is_locked k s ≡ true → window_of s P D true start count ≡ []
  -- and else what a window shows without a range; so does one on the program always.
  pub window_shown :
      (s : State) (P D : List ℕ) (start count : ℕ) → ((k : ℕ) → start ≤ k → k < start + count → is_locked k s ≡ false)
      → window_of s P D true start count ≡ part_of D start count
  pub window_program : (s : State) (P D : List ℕ) (start count : ℕ) → window_of s P D false start count ≡ part_of P start count
