-- What a machine held, put back, makes it the machine that it was; and what is written over what it holds keeps its numbers within their
-- widths.
-- Assumes nothing.
use mathlib.Core.Path.{◌≡◌, refl, ap, ◌∙◌}
use mathlib.Core.List.{List, [], ◌∷◌}
use Prim.Native.Nat.{ℕ, zero, suc, ◌+◌, ◌-◌, ◌/◌, ◌%◌, ◌^◌, ◌<◌}
use native.Mathlib.Omega.{arith}
use lib.Bits.{bit_or, or_lt}
use lib.Dec.{eqb}
use lib.ListN.{get_or, set, length-set}
use lib.Pow.{pow-lt}
use lib.Seq.{set-set, set-get_or, set_comm}
use Rattle.word.specs.Word.{add}
use Rattle.word.proofs.Tests.{either}
use Rattle.machine.specs.declared.State.{State}
use Rattle.machine.specs.Machine.{Machine, bit_of, with_line, without_line, R, put_registers, put_pc, put_n, put_enabled, put_pending, put_taken, count, on_state, put_d, word_at, put_word}
use Rattle.machine.specs.Step.{PC}
use Rattle.journal.specs.Journal.{Overwritten, nothing, register, data_word, data_byte, output_word, key_read, enable_flag, line_taken, put_back, but_for, with_lines}
use Rattle.journal.specs.Ranges.{Numbers, InRange}
use Rattle.journal.proofs.Coding.{Fits}
use Rattle.journal.proofs.Lines.{with_further}

-- what stands in m where o says
abbrev pub held_in : Overwritten → Machine → Overwritten
held_in nothing m = nothing
held_in (register k v) m = register k (R m.state k)
held_in (data_word k v) m = data_word k (word_at m.D k)
held_in (data_byte k v) m = data_byte k (get_or m.D k 0)
held_in (output_word k v) m = output_word k (get_or m.O k 0)
held_in (key_read k v s) m = key_read k (R m.state k) (get_or m.I 0 0)
held_in (enable_flag v) m = enable_flag m.state.enabled
held_in (line_taken k e j v) m = line_taken k m.state.enabled m.state.line m.state.return_address

-- the inputs I where o is put back: only a read of the key changes them
abbrev pub inputs_put : Overwritten → List ℕ → List ℕ
inputs_put nothing I = I
inputs_put (register k v) I = I
inputs_put (data_word k v) I = I
inputs_put (data_byte k v) I = I
inputs_put (output_word k v) I = I
inputs_put (key_read k v s) I = set I 0 s
inputs_put (enable_flag v) I = I
inputs_put (line_taken k e j v) I = I

-- ---- Writing

-- the line whose bit clears where c is written: the one taken
pub data Line : Type 0 where
  no_line : Line
  the_line : (k : ℕ) → Line

abbrev pub line_in : Overwritten → Line
line_in nothing = no_line
line_in (register k v) = no_line
line_in (data_word k v) = no_line
line_in (data_byte k v) = no_line
line_in (output_word k v) = no_line
line_in (key_read k v s) = no_line
line_in (enable_flag v) = no_line
line_in (line_taken k e j v) = the_line k

-- the pending byte without it
abbrev pub lines_left : Line → ℕ → ℕ
lines_left no_line p = p
lines_left (the_line k) p = without_line k p

-- m where c is written: as where it is put back, but for the pending byte
abbrev pub written : Overwritten → Machine → Machine
written c m = on_state (put_pending (lines_left (line_in c) m.state.pending)) (put_back c m)

-- the pending byte p has it
abbrev pub Has : Line → ℕ → Type 0
Has no_line p = Unit {0}
Has (the_line k) p = with_line k (without_line k p) ≡ p

-- ---- Putting back

set_back : (xs : List ℕ) (k v : ℕ) → set (set xs k v) k (get_or xs k 0) ≡ xs
set_back xs k v = set-set xs k v (get_or xs k 0) ∙ set-get_or xs k 0

word_back : (D : List ℕ) (k v : ℕ) → k < 65536 → k % 2 ≡ 0 → ((j : ℕ) → get_or D j 0 < 256) → put_word k (word_at D k) (put_word k v D) ≡ D
word_back D k v h even below =
    let a = get_or D k 0 in
    let b = get_or D (k + 1) 0 in
    let n : add k 1 ≡ k + 1 = omega arith in
    let low : word_at D k % 256 ≡ a = rw n (omega (arith, below k, below (k + 1))) in
    let high : word_at D k / 256 ≡ b = rw n (omega (arith, below k, below (k + 1))) in
    let E = set D k (v % 256) in
    rw (low, high, set_comm E (k + 1) k (v / 256) a (λ e. omega (arith, e)), set-set D k (v % 256) a, set-get_or D k 0, set-set D (k + 1) (v / 256) b, set-get_or D (k + 1) 0)

module _ (m : Machine) (I L : List ℕ) (lines : ℕ) where
  -- the machine with these registers, pending byte, data, inputs and outputs, after a step's count is taken back
  same : {r D O : List ℕ} {q : ℕ} (I' : List ℕ) → r ≡ m.state.r → q ≡ bit_or m.state.pending lines → D ≡ m.D → O ≡ m.O
      → record { state = put_registers r (put_pending q (put_n (m.state.n + 1 - 1) m.state)); P = m.P; D = D; I = I'; O = O; L = L } ≡ but_for I' L (with_lines lines m)
  same I' er eq eD eO =
      let n : m.state.n + 1 - 1 ≡ m.state.n = omega arith in
      λ i. record { state = put_registers (er i) (put_pending (eq i) (put_n (n i) m.state)); P = m.P; D = eD i; I = I'; O = eO i; L = L }

  pub put_back_lem : (c : Overwritten) → Fits c → Has (line_in c) m.state.pending → InRange m → (p : ℕ)
      → on_state (λ s. put_pc (PC m) (put_n (s.n - 1) s)) (put_back (held_in c m) (but_for I L (with_lines lines (on_state (λ s. put_pc p (count s)) (written c m)))))
      ≡ but_for (inputs_put (held_in c m) I) L (with_lines lines m)
  put_back_lem nothing h t r p = same I refl refl refl refl
  put_back_lem (register k v) h t r p = same I (set_back m.state.r k v) refl refl refl
  put_back_lem (data_word k v) h t r p = same I refl refl (word_back m.D k v h.0 h.1 r.memory.below) refl
  put_back_lem (data_byte k v) h t r p =
      let b : get_or m.D k 0 % 256 ≡ get_or m.D k 0 = omega (arith, r.memory.below k) in
      same I refl refl (ap (set (set m.D k (v % 256)) k) b ∙ set_back m.D k (v % 256)) refl
  put_back_lem (output_word k v) h t r p = same I refl refl refl (set_back m.O k v)
  put_back_lem (key_read k v s) h t r p = same (set I 0 (get_or m.I 0 0)) (set_back m.state.r k v) refl refl refl
  put_back_lem (enable_flag v) h t r p = same I refl refl refl refl
  put_back_lem (line_taken k e j v) h t r p = same I refl (with_further k m.state.pending lines t) refl refl

-- ---- Widths

below_set : {bound : ℕ} (xs : List ℕ) (k v : ℕ) → ((j : ℕ) → get_or xs j 0 < bound) → v < bound → (j : ℕ) → get_or (set xs k v) j 0 < bound
below_set [] k v h l j = h j
below_set (x ∷ xs) zero v h l zero = l
below_set (x ∷ xs) zero v h l (suc j) = h (suc j)
below_set (x ∷ xs) (suc k) v h l zero = h zero
below_set (x ∷ xs) (suc k) v h l (suc j) = below_set xs k v (λ i. h (suc i)) l j

pub numbers_set : {count bound : ℕ} (xs : List ℕ) (k v : ℕ) → Numbers count bound xs → v < bound → Numbers count bound (set xs k v)
numbers_set xs k v h l = record { many = length-set xs k v ∙ h.many; below = below_set xs k v h.below l }

-- ---- Another state, data, inputs and outputs within their widths

module _ {m : Machine} (r : InRange m) where
  pub with_state_lem : (s : State) → Numbers 8 65536 s.r → s.pc < 65536 → s.enabled < 256 → s.pending < 256 → s.line < 256 → s.return_address < 65536
      → InRange (on_state (λ t. s) m)
  with_state_lem s registers pc enabled pending line address =
      record {
        registers = registers;
        pc = pc;
        enabled = enabled;
        pending = pending;
        line = line;
        address = address;
        program = r.program;
        memory = r.memory;
        inputs = r.inputs;
        outputs = r.outputs;
      }

  pub with_pending : (q : ℕ) → q < 256 → InRange (on_state (put_pending q) m)
  with_pending q h = with_state_lem (put_pending q m.state) r.registers r.pc r.enabled h r.line r.address

  with_registers : (xs : List ℕ) → Numbers 8 65536 xs → InRange (on_state (put_registers xs) m)
  with_registers xs h = with_state_lem (put_registers xs m.state) h r.pc r.enabled r.pending r.line r.address

  pub with_slices : {D I O : List ℕ} (L : List ℕ) → Numbers 65536 256 D → Numbers 256 65536 I → Numbers 256 65536 O
      → InRange (record { state = m.state; P = m.P; D = D; I = I; O = O; L = L })
  with_slices L memory inputs outputs =
      record {
        registers = r.registers;
        pc = r.pc;
        enabled = r.enabled;
        pending = r.pending;
        line = r.line;
        address = r.address;
        program = r.program;
        memory = memory;
        inputs = inputs;
        outputs = outputs;
      }

  with-D : {D : List ℕ} → Numbers 65536 256 D → InRange (put_d D m)
  with-D d = with_slices m.L d r.inputs r.outputs

pub put_in_range : (o : Overwritten) {m : Machine} → Fits o → InRange m → InRange (put_back o m)
put_in_range nothing h r = r
put_in_range (register k v) {m} h r = with_registers r (set m.state.r k v) (numbers_set m.state.r k v r.registers h.1)
put_in_range (data_word k v) {m} h r =
    with-D r (numbers_set _ (k + 1) (v / 256) (numbers_set m.D k (v % 256) r.memory (omega arith)) (omega (arith, h.2)))
put_in_range (data_byte k v) {m} h r = with-D r (numbers_set m.D k (v % 256) r.memory (omega arith))
put_in_range (output_word k v) {m} h r = with_slices r m.L r.memory r.inputs (numbers_set m.O k v r.outputs h.1)
put_in_range (key_read k v s) {m} h r =
    with_slices (with_registers r (set m.state.r k v) (numbers_set m.state.r k v r.registers h.1)) m.L r.memory
    (numbers_set m.I 0 s r.inputs h.2) r.outputs
put_in_range (enable_flag v) {m} h r =
    with_state_lem r (put_enabled v m.state) r.registers r.pc h r.pending r.line r.address
put_in_range (line_taken k e j v) {m} h r =
    let s = m.state in
    with_state_lem r (put_enabled e (put_pending (with_line k s.pending) (put_taken j v s))) r.registers r.pc h.1
    (or_lt 8 s.pending (2 ^ k) r.pending (pow-lt h.0)) h.2 h.3

left_fits : (l : Line) (p : ℕ) → p < 256 → lines_left l p < 256
left_fits no_line p h = h
left_fits (the_line k) p h = either (λ q. q < 256) (eqb (bit_of k p) 1) (omega arith) h

pub written_in_range : (c : Overwritten) {m : Machine} → Fits c → InRange m → InRange (written c m)
written_in_range c {m} h r = let p = m.state.pending in with_pending (put_in_range c h r) (lines_left (line_in c) p) (left_fits (line_in c) p r.pending)

pub lines_in_range : {m : Machine} (lines : ℕ) → lines < 256 → InRange m → InRange (with_lines lines m)
lines_in_range {m} lines h r = with_pending r (bit_or m.state.pending lines) (or_lt 8 m.state.pending lines r.pending h)
