-- Demand 2: every instruction does to registers, PC, memory and ports what the sheet says. Here each of the 34 kinds has
-- its own line, over the instruction's parts, in the sheet's pseudo-C; the plain machine goes by opcode, e and f.
use Rattle.std.specs.Prelude.{◌≡◌, true, false, ◌⊎◌, ◌↔◌, List, [], ◌∷◌, ℕ, ◌+◌, ◌-◌, ◌*◌, ◌%◌, ◌<◌, eqb, ltb, leb, ℤ, nat_abs, get_or}
use Rattle.std.specs.Int.Bits.{bit_and, bit_or, bit_xor}
use Rattle.std.specs.Int.Signed.{lt_z, le_z}
use Rattle.word.specs.Word.{pick, flag, add, subtract, clear0, signed, low_bits, sha, shl}
use Rattle.muldiv.specs.Muldiv.{mul, mulh, mulhu, div, divu}
use Rattle.kinds.specs.declared.Kind.{Kind}
use Rattle.kinds.specs.declared.Kind.TheVariants.{And, Or, Xor, Not, Add, Sub, Sha, Shl, Cmplt, Cmple, Cmpeq, Cmpltu, Cmpleu, Addi, Ld, St, Ldb, Stb, Jalr, Bz, Bnz, Movi, Movhi, In, Out, Mul, Mulh, Mulhu, Div, Divu, Ei, Di, Reti, Getiid}
use Rattle.isa.specs.declared.Instruction.{Instruction}
use Rattle.isa.specs.Instructions.{instruction, unassigned, read_of, word, write_of}
use Rattle.machine.specs.Machine.{Machine, takes_line, bit_of, put_enabled, put_pending, put_taken, put_pc, put_n, touches_locked, bytes_at, fetch_locked, R, count, on_state, put_d, read_from, on_inputs, put_o, word_at, put_word, put_byte}
use Rattle.machine.specs.Step.{PC, write, jump, Next, cannot, to, fetched, fetches, step}

-- the content of register k
abbrev pub r : Machine → ℕ → ℕ
r m k = R m.state k

-- n as a 16-bit operand, SE(N6) or SE(N8): the word that, read as signed, is n
abbrev pub SE-n : ℤ → ℕ
SE-n n = low_bits 16 n

-- Ra+SE(N6)
abbrev pub address : Machine → ℕ → ℤ → ℕ
address m a n = add (r m a) (SE-n n)

-- the instruction is done: the machine steps to m, n grown by 1
abbrev pub done : Machine → Next
done m = to (on_state count m)

-- a load or store that touches a locked byte can't be done, stop 4 (02, L14)
abbrev pub if_unlocked : List ℕ → Machine → Next → Next
if_unlocked touched m next = pick (touches_locked touched m.state) (cannot 4) next

-- What a kind does with its parts, PC=PC+2 being done, or the stop reason with which it can't be done. MOVHI, IN and OUT have n from 0
-- to 255: nat_abs n is that number.
abbrev pub effect : Kind → ℕ → ℕ → ℕ → ℤ → Machine → Next
-- AND Rd, Ra, Rb      Rd=Ra&Rb
effect And a b d n m = done (write d (bit_and (r m a) (r m b)) m)
-- OR Rd, Ra, Rb       Rd=Ra|Rb
effect Or a b d n m = done (write d (bit_or (r m a) (r m b)) m)
-- XOR Rd, Ra, Rb      Rd=Ra^Rb
effect Xor a b d n m = done (write d (bit_xor (r m a) (r m b)) m)
-- NOT Rd, Ra          Rd=~Ra
effect Not a b d n m = done (write d (65535 - r m a) m)
-- ADD Rd, Ra, Rb      Rd=Ra+Rb
effect Add a b d n m = done (write d (add (r m a) (r m b)) m)
-- SUB Rd, Ra, Rb      Rd=Ra-Rb
effect Sub a b d n m = done (write d (subtract (r m a) (r m b)) m)
-- SHA Rd, Ra, Rb      Rd=Ra_s*2**Rb<4..0>_s
effect Sha a b d n m = done (write d (sha (r m a) (r m b)) m)
-- SHL Rd, Ra, Rb      Rd=Ra_u*2**Rb<4..0>_s
effect Shl a b d n m = done (write d (shl (r m a) (r m b)) m)
-- CMPLT Rd, Ra, Rb    if(Ra_s<Rb_s)Rd=1 else Rd=0
effect Cmplt a b d n m = done (write d (flag (lt_z (signed 16 (r m a)) (signed 16 (r m b)))) m)
-- CMPLE Rd, Ra, Rb    if(Ra_s<=Rb_s)Rd=1 else Rd=0
effect Cmple a b d n m = done (write d (flag (le_z (signed 16 (r m a)) (signed 16 (r m b)))) m)
-- CMPEQ Rd, Ra, Rb    if(Ra==Rb)Rd=1 else Rd=0
effect Cmpeq a b d n m = done (write d (flag (eqb (r m a) (r m b))) m)
-- CMPLTU Rd, Ra, Rb   if(Ra_u<Rb_u)Rd=1 else Rd=0
effect Cmpltu a b d n m = done (write d (flag (ltb (r m a) (r m b))) m)
-- CMPLEU Rd, Ra, Rb   if(Ra_u<=Rb_u)Rd=1 else Rd=0
effect Cmpleu a b d n m = done (write d (flag (leb (r m a) (r m b))) m)
-- ADDI Rd, Ra, N6     Rd=Ra+SE(N6)
effect Addi a b d n m = done (write d (add (r m a) (SE-n n)) m)
-- LD Rd, N6(Ra)       Rd=Mem_w[(Ra+SE(N6))&(~1)]
effect Ld a b d n m = let at = clear0 (address m a n) in if_unlocked (bytes_at at) m (done (write d (word_at m.D at) m))
-- ST N6(Ra), Rb       Mem_w[(Ra+SE(N6))&(~1)]=Rb
effect St a b d n m = let at = clear0 (address m a n) in if_unlocked (bytes_at at) m (done (put_d (put_word at (r m b) m.D) m))
-- LDB Rd, N6(Ra)      Rd=SE(Mem_b[Ra+SE(N6)])
effect Ldb a b d n m = let at = address m a n in if_unlocked (at ∷ []) m (done (write d (SE-n (signed 8 (get_or m.D at 0))) m))
-- STB N6(Ra), Rb      Mem_b[Ra+SE(N6)]=Rb<7..0>
effect Stb a b d n m = let at = address m a n in if_unlocked (at ∷ []) m (done (put_d (put_byte at (r m b) m.D) m))
-- JALR Rd, Ra         PC=PC+2; tmp=Ra&(~1); Rd=PC; PC=tmp
effect Jalr a b d n m = let tmp = clear0 (r m a) in done (jump tmp (write d (PC m) m))
-- BZ Ra, N8           PC=PC+2; if(Ra==0)PC=PC+SE(N8)*2
effect Bz a b d n m = done (pick (eqb (r m a) 0) (jump (add (PC m) (SE-n n * 2)) m) m)
-- BNZ Ra, N8          PC=PC+2; if(Ra!=0)PC=PC+SE(N8)*2
effect Bnz a b d n m = done (pick (eqb (r m a) 0) m (jump (add (PC m) (SE-n n * 2)) m))
-- MOVI Rd, N8         Rd=SE(N8)
effect Movi a b d n m = done (write d (SE-n n) m)
-- MOVHI Rd, N8        Rd<15..8>=N8
effect Movhi a b d n m = done (write d (r m d % 256 + nat_abs n * 256) m)
-- IN Rd, N8           Rd=Input[N8]; from port 1 then Input[0]=0
effect In a b d n m = done (on_inputs (read_from (nat_abs n)) (write d (get_or m.I (nat_abs n) 0) m))
-- OUT N8, Ra          Output[N8]=Ra
effect Out a b d n m = done (put_o (nat_abs n) (r m a) m)
-- MUL Rd, Ra, Rb      Rd=(Ra*Rb)<15..0>
effect Mul a b d n m = done (write d (mul (r m a) (r m b)) m)
-- MULH Rd, Ra, Rb     Rd=(Ra_s*Rb_s)<31..16>
effect Mulh a b d n m = done (write d (mulh (r m a) (r m b)) m)
-- MULHU Rd, Ra, Rb    Rd=(Ra_u*Rb_u)<31..16>
effect Mulhu a b d n m = done (write d (mulhu (r m a) (r m b)) m)
-- DIV Rd, Ra, Rb      if(Rb==0)stop 3 else Rd=Ra_s/Rb_s
effect Div a b d n m = pick (eqb (r m b) 0) (cannot 3) (done (write d (div (r m a) (r m b)) m))
-- DIVU Rd, Ra, Rb     if(Rb==0)stop 3 else Rd=Ra_u/Rb_u
effect Divu a b d n m = pick (eqb (r m b) 0) (cannot 3) (done (write d (divu (r m a) (r m b)) m))
-- EI                  enable=1
effect Ei a b d n m = done (on_state (put_enabled 1) m)
-- DI                  enable=0
effect Di a b d n m = done (on_state (put_enabled 0) m)
-- RETI                PC=return address; enable=1
effect Reti a b d n m = done (jump m.state.return_address (on_state (put_enabled 1) m))
-- GETIID Rd           Rd=line number
effect Getiid a b d n m = done (write d m.state.line m)

-- PC=PC+2, and what the instruction does
abbrev pub step_as : Instruction → Machine → Next
step_as i m = effect i.kind i.a i.b i.d i.n (jump (add (PC m) 2) m)

-- the machine fetches: it has no line to take (02, L12), and its fetch touches no locked byte (02, L14)
abbrev pub FetchesNow : Machine → Type 0
FetchesNow m = fetches m.state ≡ true

-- Line k is the lowest that is pending.
pub record LowestLine (pending k : ℕ) : Type 0 where
  pub one_of_eight : k < 8
  pub pends : bit_of k pending ≡ 1
  pub none_below : (j : ℕ) → j < k → bit_of j pending ≡ 0

-- It is taken: its bit clears, its number and PC are kept, PC becomes 0x0100, enable clears. Taking counts as one step, and nothing else changes.
pub record TakesLine (m : Machine) (k : ℕ) (next : Machine) : Type 0 where
  pub clears : bit_of k next.state.pending ≡ 0
  pub others : (j : ℕ) → j < 8 → (j ≡ k → ⊥) → bit_of j next.state.pending ≡ bit_of j m.state.pending
  pub rest :
      next
      ≡ on_state (λ s. put_pc 0x0100 (put_n (s.n + 1) (put_enabled 0 (put_pending next.state.pending (put_taken k (PC m) s))))) m

pub record Rules : Type 0 where
  -- Where the machine fetches and the word at PC reads as i, whatever its ignored bits, its step is i's.
  pub read : (i : Instruction) (w : ℕ) → read_of w ≡ instruction i → (m : Machine) → FetchesNow m → fetched m ≡ w → step m ≡ step_as i m
  -- So it is where that word is the one that is written for i.
  pub written : (i : Instruction) (w : ℕ) → write_of i ≡ word w → (m : Machine) → FetchesNow m → fetched m ≡ w → step m ≡ step_as i m
  -- A word that reads as unassigned is one where the machine can't step.
  pub unassigned_stops : (w : ℕ) → read_of w ≡ unassigned → (m : Machine) → FetchesNow m → fetched m ≡ w → step m ≡ cannot 1
  -- Before the fetch, if enabled and a bit is set, the lowest line is taken (02, L12), whatever word stands at PC.
  pub taking :
      (m : Machine) (k : ℕ) → m.state.pending < 256 → (m.state.enabled ≡ 0 → ⊥) → LowestLine m.state.pending k
      → (next : Machine) × (step m ≡ to next) × TakesLine m k next
  -- Where none is to be taken, a fetch that touches a locked byte can't be made (02, L14).
  pub locked_fetch : (m : Machine) → takes_line m.state ≡ false → fetch_locked m.state ≡ true → step m ≡ cannot 4
  -- The machine fetches exactly where enable is off or no bit is set, and the fetch touches no locked byte.
  pub fetching : (m : Machine) → FetchesNow m ↔ (((m.state.enabled ≡ 0) ⊎ (m.state.pending ≡ 0)) × (fetch_locked m.state ≡ false))
