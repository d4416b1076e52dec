-- Which registers an instruction touches (02, L4): a step changes no register outside `writes`; machines alike but for registers
-- outside `reads` step alike in all else, the written register and the inputs included; and neither mask is larger than it need be.
-- Masks are of registers alone: the input that IN sets to zero (02, L8) is in none. A machine that takes a line (02, L12) touches no register.
use Rattle.std.specs.Prelude.{Bool, true, false, not, ◌&&◌, ◌||◌, ◌≡◌, List, [], ◌∷◌, ℕ, ◌<◌, eqb, length}
use Rattle.std.specs.Int.Bits.{bit_or}
use Rattle.word.specs.Fields.{Bits}
use Rattle.word.specs.Word.{pick}
use Rattle.kinds.specs.declared.Kind.{Kind}
use Rattle.isa.specs.declared.Instruction.{Instruction}
use Rattle.isa.specs.Sheet.{sheet_line}
use Rattle.isa.specs.Instructions.{register_part, Register, a_register, b_register, d_register, instruction, unassigned, read_of, word, write_of}
use Rattle.isa.specs.Masks.{Masks, in_mask, reads_destination, masks_of}
use Rattle.machine.specs.declared.State.{State}
use Rattle.machine.specs.Machine.{Machine, R, put_r, takes_line, on_state}
use Rattle.machine.specs.Step.{write, Next, cannot, to, fetched, step}
use Rattle.usage.specs.Usage.{masks_at}
use Rattle.claims_sheet.specs.Rules.{FetchesNow}

-- ---- Machines alike but for registers outside a mask

-- v k in each Rk of the list that is outside the mask
unfoldable pub put_outside : ℕ → (ℕ → ℕ) → List ℕ → State → State
put_outside mask v [] s = s
put_outside mask v (k ∷ ks) s = pick (in_mask mask k) (put_outside mask v ks s) (put_r k (v k) (put_outside mask v ks s))

-- m with the values v in the registers outside the mask
abbrev pub with_outside : ℕ → (ℕ → ℕ) → Machine → Machine
with_outside mask v m = on_state (put_outside mask v (0 ∷ 1 ∷ 2 ∷ 3 ∷ 4 ∷ 5 ∷ 6 ∷ 7 ∷ [])) m

-- the same of what a machine steps to, if it can step
abbrev pub on_next : (Machine → Machine) → Next → Next
on_next f (cannot q) = cannot q
on_next f (to next) = to (f next)

-- ---- Witnesses that a register is needed

-- a machine of 01: eight registers, memories of 65,536 bytes, ports of 256 words
pub record Sized (m : Machine) : Type 0 where
  pub registers : length m.state.r ≡ 8
  pub P : length m.P ≡ 65536
  pub D : length m.D ≡ 65536
  pub I : length m.I ≡ 256
  pub O : length m.O ≡ 256

-- m does the instruction i next, and steps to `next`
pub record Does (i : Instruction) (m next : Machine) : Type 0 where
  pub sized : Sized m
  pub fetches : FetchesNow m
  pub its_word : write_of i ≡ word (fetched m)
  pub steps : step m ≡ to next

-- i uses Rj: m, and m with x in Rj, step to machines that differ elsewhere than in Rj, or in the register written
pub record Uses (i : Instruction) (j : ℕ) : Type 0 where
  pub m : Machine
  pub x : ℕ
  pub next : Machine
  pub other : Machine
  pub does : Does i m next
  pub other_does : Does i (write j x m) other
  pub differ : other ≡ pick (in_mask (masks_at m).writes j) next (write j x next) → ⊥

-- i writes Rj: a step changes it
pub record Writes (i : Instruction) (j : ℕ) : Type 0 where
  pub m : Machine
  pub next : Machine
  pub does : Does i m next
  pub differ : R next.state j ≡ R m.state j → ⊥

-- the format has the part
abbrev pub has : Bits → Bool
has p = not (eqb p.count 0)

-- the registers that the rule of a kind is said to use: Ra and Rb where its format has them, and Rd of MOVHI
abbrev pub said_to_use : Kind → Register → Bool
said_to_use k a_register = has (sheet_line k).format.a
said_to_use k b_register = has (sheet_line k).format.b
said_to_use k d_register = reads_destination k

-- Rj is the part p of i, and i's rule is said to use it
abbrev pub is_used : Instruction → ℕ → Register → Bool
is_used i j p = said_to_use i.kind p && eqb (register_part i p) j

-- the masks have just the registers that they are said to have
pub record Exact (masks : Masks) (i : Instruction) (j : ℕ) : Type 0 where
  pub reads : in_mask masks.reads j ≡ (is_used i j a_register || is_used i j b_register || is_used i j d_register)
  pub writes : in_mask masks.writes j ≡ (has (sheet_line i.kind).format.d && eqb i.d j)

-- ---- The claim

pub record MaskLaws : Type 0 where
  -- A step changes no register outside `writes`.
  pub others_stay :
      (m next : Machine) (k : ℕ) → k < 8 → step m ≡ to next → in_mask (masks_at m).writes k ≡ false → R next.state k ≡ R m.state k
  -- With any values v in the registers outside `reads` it steps to the same machine, but for v in those that are neither read nor
  -- written; and it can't step exactly where it could not.
  pub alike :
      (m : Machine) (v : ℕ → ℕ)
      → step (with_outside (masks_at m).reads v m) ≡ on_next (with_outside (bit_or (masks_at m).reads (masks_at m).writes) v) (step m)
  -- The masks of an instruction are the registers that its rule is said to use, and Rd where it has one.
  pub exact : (w : ℕ) (i : Instruction) → read_of w ≡ instruction i → (j : ℕ) → j < 8 → Exact (masks_of w) i j
  -- Unassigned words give 0 and 0.
  pub unassigned_none : (w : ℕ) → read_of w ≡ unassigned → masks_of w ≡ record { reads = 0; writes = 0 }
  -- So does a machine that takes a line, whatever word stands at PC.
  pub taking_none : (m : Machine) → takes_line m.state ≡ true → masks_at m ≡ record { reads = 0; writes = 0 }
  -- The masks are no larger than they need be: some instruction of each kind uses each of these registers, and writes Rd.
  pub reads_needed : (k : Kind) (p : Register) → said_to_use k p ≡ true → (i : Instruction) × (i.kind ≡ k) × Uses i (register_part i p)
  pub writes_needed : (k : Kind) → has (sheet_line k).format.d ≡ true → (i : Instruction) × (i.kind ≡ k) × Writes i i.d
