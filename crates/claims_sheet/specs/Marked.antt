-- The marked cases of 01, the one that 02 (L6) marks, a read of the key (02, L8), a store over the instruction that follows (02, L11), and knob interrupts (02, L12). What a row does not mention, other registers, memory, ports, is any.
use Rattle.std.specs.Prelude.{◌≡◌, true, false, List, [], ◌∷◌, ℕ, ℤ, pos, length, get_or}
use Rattle.kinds.specs.declared.Kind.{Kind}
use Rattle.kinds.specs.declared.Kind.TheVariants.{Sha, Shl, Cmplt, Cmpltu, Cmpleu, Ldb, Bz, Div, Ei, Di, Reti, Getiid}
use Rattle.isa.specs.declared.Instruction.{Instruction}
use Rattle.isa.specs.Instructions.{instruction, read_of, word, write_of}
use Rattle.machine.specs.Machine.{Machine, is_single, touches_locked, bytes_at, word_at}
use Rattle.machine.specs.Step.{PC, to, fetched, step}
use Rattle.claims_sheet.specs.Rules.{r, address, FetchesNow}

-- an instruction with registers alone, in the order of the sheet's assembler: OP Rd, Ra, Rb
abbrev pub registers : Kind → ℕ → ℕ → ℕ → Instruction
registers k d a b = record { kind = k; a = a; b = b; d = d; n = pos 0 }

-- the instruction i is the word w: written and read
abbrev pub Is : Instruction → ℕ → Type 0
Is i w = (write_of i ≡ word w) × (read_of w ≡ instruction i)

-- none of these bytes is locked (02, L14)
abbrev pub Free : List ℕ → Machine → Type 0
Free touched m = touches_locked touched m.state ≡ false

-- m, which has eight registers, fetches (02, L12 and L14) and has the word w at PC, steps to a machine of which Q holds
abbrev pub Steps : ℕ → Machine → (Machine → Type 0) → Type 0
Steps w m Q = length m.state.r ≡ 8 → FetchesNow m → fetched m ≡ w → (next : Machine) × (step m ≡ to next) × Q next

-- the same where w is the word written for i
abbrev pub Does : Instruction → Machine → (Machine → Type 0) → Type 0
Does i m Q = (w : ℕ) → write_of i ≡ word w → Steps w m Q

-- an operation on Ra = x and Rb = y gives Rd = v
abbrev pub Gives : Kind → ℕ → ℕ → ℕ → Type 0
Gives k x y v = (m : Machine) (d a b : ℕ) → r m a ≡ x → r m b ≡ y → Does (registers k d a b) m (λ next. r next d ≡ v)

pub record Marked : Type 0 where
  -- (a) SHA R7,R4,R1 is 0x087E.
  pub a : Is (registers Sha 7 4 1) 0x087E
  -- (b) CMPLEU R3,R1,R2 is 0x129D.
  pub b : Is (registers Cmpleu 3 1 2) 0x129D
  -- (c) 0x9AF6 then 0x9B3A leave R5 = 0x3AF6.
  pub c : (m : Machine) → Steps 0x9AF6 m (λ next. Steps 0x9B3A next (λ last. r last 5 ≡ 0x3AF6))
  -- (d) 0x24BF with R2 = 0 gives 0xFFFF.
  pub d : (m : Machine) → r m 2 ≡ 0 → Steps 0x24BF m (λ next. r next 2 ≡ 0xFFFF)
  -- (e) 0x85FD at PC 4, R2 = 1: PC 0.
  pub e : (m : Machine) → PC m ≡ 4 → r m 2 ≡ 1 → Steps 0x85FD m (λ next. PC next ≡ 0)
  -- (f) 0x7240 at PC 0x0010, R1 = 0x0101: PC 0x0100, R1 0x0012.
  pub f : (m : Machine) → PC m ≡ 0x0010 → r m 1 ≡ 0x0101 → Steps 0x7240 m (λ next. (PC next ≡ 0x0100) × (r next 1 ≡ 0x0012))
  -- (g) 0x3043 with R0 = 0 reads the word at 2.
  pub g : (m : Machine) → r m 0 ≡ 0 → Free (bytes_at 2) m → Steps 0x3043 m (λ next. r next 1 ≡ word_at m.D 2)
  -- (h) SHA of 0x8000 by 0x0010: 0xFFFF; SHL: 0.
  pub h : Gives Sha 0x8000 0x0010 0xFFFF × Gives Shl 0x8000 0x0010 0
  -- (i) shift of 1 by 0x002F: 0x8000.
  pub i : Gives Sha 1 0x002F 0x8000 × Gives Shl 1 0x002F 0x8000
  -- (j) 0x8000 against 0x7FFF: CMPLT 1, CMPLTU 0.
  pub j : Gives Cmplt 0x8000 0x7FFF 1 × Gives Cmpltu 0x8000 0x7FFF 0
  -- (k) LDB of 0x80: 0xFF80.
  pub k :
      (m : Machine) (d a : ℕ) (n : ℤ) → get_or m.D (address m a n) 0 ≡ 0x80 → Free (address m a n ∷ []) m
      → Does (record { kind = Ldb; a = a; b = 0; d = d; n = n }) m (λ next. r next d ≡ 0xFF80)
  -- (l) BZ not taken at 0xFFFE: PC 0.
  pub l :
      (m : Machine) (a : ℕ) (n : ℤ) → PC m ≡ 0xFFFE → (r m a ≡ 0 → ⊥)
      → Does (record { kind = Bz; a = a; b = 0; d = 0; n = n }) m (λ next. PC next ≡ 0)
  -- 02, L6: 0x8000 by 0xFFFF is 0x8000.
  pub division : Gives Div 0x8000 0xFFFF 0x8000
  -- 02, L8, with input 0 = 5 and input 1 = 7: 0xA601 (IN R3,1) gives R3 = 7, and then input 0 is 0 and no other input changed; 0xA600
  -- (IN R3,0) gives R3 = 5, and no input changes.
  pub key :
      (m : Machine) (others : List ℕ) → m.I ≡ 5 ∷ 7 ∷ others
      → Steps 0xA601 m (λ next. (r next 3 ≡ 7) × (next.I ≡ 0 ∷ 7 ∷ others))
      × Steps 0xA600 m (λ next. (r next 3 ≡ 5) × (next.I ≡ 5 ∷ 7 ∷ others))
  -- 02, L11, with R1 = 2 and R2 = v at PC 0: 0x4280 (ST 0(R1),R2) stores v over the instruction that follows. On the single-memory board the
  -- word fetched next is v, on the older one it is program memory's, as it was.
  pub patch :
      (m : Machine) (v : ℕ) → PC m ≡ 0 → r m 1 ≡ 2 → r m 2 ≡ v → length m.D ≡ 65536 → Free (bytes_at 2) m
      → (is_single m.state ≡ true → Steps 0x4280 m (λ next. fetched next ≡ v))
      × (is_single m.state ≡ false → Steps 0x4280 m (λ next. fetched next ≡ word_at m.P 2))
  -- 02, L12: EI is 0xC000, DI 0xC001, RETI 0xC002 and GETIID R3 0xC01B.
  pub interrupts : Is (registers Ei 0 0 0) 0xC000 × Is (registers Di 0 0 0) 0xC001 × Is (registers Reti 0 0 0) 0xC002 × Is (registers Getiid 3 0 0) 0xC01B
  -- 0xC002 with return address 0x0124: PC 0x0124, enable 1.
  pub reti :
      (m : Machine) → m.state.return_address ≡ 0x0124
      → Steps 0xC002 m (λ next. (PC next ≡ 0x0124) × (next.state.enabled ≡ 1))
  -- 0xC01B with line number 5 gives R3 = 5.
  pub getiid : (m : Machine) → m.state.line ≡ 5 → Steps 0xC01B m (λ next. r next 3 ≡ 5)
  -- At PC 0x0042 with enable 1 and pending 0x28, lines 3 and 5, line 3 is taken: PC 0x0100, line number 3, return address 0x0042, pending 0x20, enable 0.
  pub line_3 :
      (m : Machine) → PC m ≡ 0x0042 → m.state.enabled ≡ 1 → m.state.pending ≡ 0x28
      → (next : Machine)
      × (step m ≡ to next)
      × (PC next ≡ 0x0100)
      × (next.state.line ≡ 3)
      × (next.state.return_address ≡ 0x0042)
      × (next.state.pending ≡ 0x20)
      × (next.state.enabled ≡ 0)
