-- A step is taken back by its entry; and what a step, and a step taken back by any number, leave.
-- Assumes nothing.
use mathlib.Core.Path.{◌≡◌, refl, sym, ap, subst, ◌∙◌}
use mathlib.Core.Bool.{Bool, true, false}
use mathlib.Core.List.{List}
use Prim.Native.Nat.{ℕ, ◌+◌, ◌-◌, ◌<◌}
use native.Mathlib.Omega.{arith}
use lib.ListN.{length, length-set}
use Rattle.word.specs.Word.{pick, flag}
use Rattle.word.proofs.Tests.{either}
use Rattle.machine.specs.Machine.{Machine, takes_line, put_pc, put_n, count, on_state}
use Rattle.machine.specs.Step.{PC, fetched, to, step}
use Rattle.machine.specs.Run.{is_out, fetches_a}
use Rattle.machine.proofs.Runs.{unwritten}
use Rattle.journal.specs.Journal.{Overwritten, nothing, register, data_word, data_byte, output_word, key_read, enable_flag, line_taken, by_taking, overwritten, overwritten_at, pc_in, entry_with, entry_of, overwritten_in, put_back, undo, is_output, reads_key, key_back, but_for, with_lines}
use Rattle.journal.specs.Ranges.{Numbers, InRange}
use Rattle.journal.specs.Parts.{IsEntry}
use Rattle.journal.proofs.Coding.{is_port, Reads, read_back, reading_fits}
use Rattle.journal.proofs.Written.{held_in, inputs_put, written, put_back_lem, numbers_set, with_state_lem, with_slices, put_in_range, written_in_range}
use Rattle.journal.proofs.Steps.{logged, Makes, stepped, overwritten_at_fits, key_put_at}

-- ---- What a step leaves: the program, the lengths, the count of journal entries and the board

pub record Keeps (m after : Machine) : Type 0 where
  pub program : after.P ≡ m.P
  pub inputs : length after.I ≡ length m.I
  pub memory : length after.D ≡ length m.D
  pub outputs : length after.O ≡ length m.O
  pub leaves : unwritten after.state ≡ unwritten m.state

put_keeps : (o : Overwritten) (m : Machine) → Keeps m (put_back o m)
put_keeps nothing m = record { program = refl; inputs = refl; memory = refl; outputs = refl; leaves = refl }
put_keeps (register k v) m = record { program = refl; inputs = refl; memory = refl; outputs = refl; leaves = refl }
put_keeps (data_word k v) m = record { program = refl; inputs = refl; memory = simp length-set; outputs = refl; leaves = refl }
put_keeps (data_byte k v) m = record { program = refl; inputs = refl; memory = simp length-set; outputs = refl; leaves = refl }
put_keeps (output_word k v) m = record { program = refl; inputs = refl; memory = refl; outputs = simp length-set; leaves = refl }
put_keeps (key_read k v s) m = record { program = refl; inputs = simp length-set; memory = refl; outputs = refl; leaves = refl }
put_keeps (enable_flag v) m = record { program = refl; inputs = refl; memory = refl; outputs = refl; leaves = refl }
put_keeps (line_taken k e j v) m = record { program = refl; inputs = refl; memory = refl; outputs = refl; leaves = refl }

-- ---- A step

-- what a step leads to
done : {m x after : Machine} {o : Overwritten} {port : Bool} → x ≡ on_state count after → (made : Makes m after o port)
    → x ≡ logged made.L (on_state (λ s. put_pc made.p (count s)) (written made.c m))
done e made = e ∙ ap (on_state count) made.after_is

module _ (m x : Machine) (e : step m ≡ to x) where
  pub step_keeps : Keeps m x
  step_keeps =
      let s = stepped m x e in
      let k = put_keeps s.2.c m in
      subst (Keeps m) (sym (done s.1 s.2))
      (record { program = k.program; inputs = k.inputs; memory = k.memory; outputs = k.outputs; leaves = k.leaves })

  -- the log grows by an entry where the word fetched is OUT
  pub step_grows : length x.L ≡ length m.L + flag (fetches_a is_out m)
  step_grows = let s = stepped m x e in ap (λ y. length y.L) (done s.1 s.2) ∙ s.2.grows

-- ---- Another PC, n, inputs or log leave a machine in range

moved : {m : Machine} (p n : ℕ) → p < 65536 → InRange m → InRange (on_state (λ s. put_pc p (put_n n s)) m)
moved {m} p n h r = with_state_lem r (put_pc p (put_n n m.state)) r.registers h r.enabled r.pending r.line r.address

pub but_for_in_range : {m : Machine} {I : List ℕ} (L : List ℕ) → Numbers 256 65536 I → InRange m → InRange (but_for I L m)
but_for_in_range L h r = with_slices r L r.memory h r.outputs

pub key_back_in_range : {m : Machine} {I : List ℕ} → InRange m → Numbers 256 65536 I → Numbers 256 65536 (key_back m I)
key_back_in_range {m} {I} r h = either (Numbers 256 65536) (fetches_a reads_key m) (numbers_set I 0 _ h (r.inputs.below 0)) h

-- ---- A step taken back by its entry

entry_reads : (m : Machine) → InRange m → Reads (PC m) (overwritten_at m) (entry_of m)
unfolding entry_of
entry_reads m r = read_back (PC m) (overwritten_at m) r.pc (overwritten_at_fits m r)

-- of a step from m to x
pub record TakenBack (m x : Machine) : Type 0 where
  -- its entry makes it m again, but for inputs and log, and for lines raised since, which stay; input 0 is that of m where the step read the key
  pub undone : (I L : List ℕ) (lines : ℕ) → undo (entry_of m) (but_for I L (with_lines lines x)) ≡ but_for (key_back m I) L (with_lines lines m)
  -- an entry has 64 bits
  pub small : entry_of m < 18446744073709551616
  -- it is an output's where the word fetched is OUT
  pub output : is_output (entry_of m) ≡ fetches_a is_out m
  pub stays_in_range : InRange x

pub taken_back : (m x : Machine) → InRange m → step m ≡ to x → TakenBack m x
unfolding undo
taken_back m x r e =
    let s = stepped m x e in
    let made = s.2 in
    let c = made.c in
    let fits = made.fits r in
    let after = on_state (λ s. put_pc made.p (count s)) (written c m) in
    let entry = entry_reads m r in
    let left = moved made.p _ (made.goes r) (written_in_range c fits r) in
    let says : overwritten_in (entry_of m) ≡ held_in c m = entry.read ∙ sym made.over in
    record {
      undone =
          λ I L lines. ap (λ y. undo (entry_of m) (but_for I L (with_lines lines y))) (done s.1 made)
          ∙ (λ i. on_state (λ s. put_pc (entry.pc_is i) (put_n (s.n - 1) s)) (put_back (says i) (but_for I L (with_lines lines after))))
          ∙ put_back_lem m I L lines c fits (made.has r) r made.p
          ∙ ap (λ o. but_for (inputs_put o I) L (with_lines lines m)) made.over
          ∙ ap (λ J. but_for J L (with_lines lines m)) (key_put_at m I);
      small = entry.small;
      output = entry.port ∙ ap is_port (sym made.over) ∙ made.port_is;
      stays_in_range = subst InRange (sym (done s.1 made)) (but_for_in_range made.L left.inputs left);
    }

-- ---- By any number

module _ (x : ℕ) (m : Machine) where
  pub undo_counts : (undo x m).state.n ≡ m.state.n - 1
  unfolding undo
  undo_counts = ap (λ n. n - 1) (go (overwritten_in x))
    where
      go : (o : Overwritten) → (put_back o m).state.n ≡ m.state.n
      go nothing = refl
      go (register k v) = refl
      go (data_word k v) = refl
      go (data_byte k v) = refl
      go (output_word k v) = refl
      go (key_read k v s) = refl
      go (enable_flag v) = refl
      go (line_taken k e j v) = refl

  pub undo_in_range : InRange m → InRange (undo x m)
  unfolding undo
  undo_in_range r = moved (pc_in x) _ (omega arith) (put_in_range (overwritten_in x) (reading_fits x) r)

-- ---- What the functions `entry` and `line_entry` promise: the entry of the machine whose word or state they are given

module _ (m : Machine) {x : ℕ} where
  at_step : (t : Bool) → takes_line m.state ≡ t → x ≡ entry_with (PC m) (pick t (by_taking m.state) (overwritten (fetched m) m)) → x ≡ entry_of m
  unfolding entry_of
  at_step t e h = h ∙ ap (λ u. entry_with (PC m) (pick u (by_taking m.state) (overwritten (fetched m) m))) (sym e)

  pub is_entry : takes_line m.state ≡ false → IsEntry (fetched m) m.state m.D m.I m.O x → x ≡ entry_of m
  is_entry e h = at_step false e (h m.P m.L)

  pub is_line_entry : takes_line m.state ≡ true → x ≡ entry_with (PC m) (by_taking m.state) → x ≡ entry_of m
  is_line_entry e h = at_step true e h
