-- What a step writes, a line taken or by the table of opcodes: of each rule, what it writes over what and where PC goes, from the machine
-- before the step.
-- Assumes nothing.
use mathlib.Core.Path.{◌≡◌, refl, subst}
use mathlib.Core.Bool.{Bool, true, false, not, ◌&&◌, and-eq-true_iff}
use mathlib.Core.List.{List, [], ◌∷◌}
use Prim.Native.Nat.{ℕ, zero, suc, ◌+◌, ◌*◌, ◌%◌, ◌<◌}
use native.Mathlib.Omega.{arith}
use borrow.Author.Tests.{not-true, eqb-true, eqb-false, eq-eqb, ne_eqb}
use lib.Dec.{eqb}
use lib.ListN.{length, get_or, set, length-append}
use lib.Seq.{get_or-set_other}
use Rattle.word.specs.Fields.{opcode, a_of, b_of, e_of, f_of, N8}
use Rattle.word.specs.Word.{pick, flag, add, clear0, SE, operation, comparison}
use Rattle.muldiv.specs.Muldiv.{muldiv}
use Rattle.word.proofs.Tables.{looked_up}
use Rattle.word.proofs.Tests.{clash, either}
use Rattle.machine.specs.declared.State.{State}
use Rattle.machine.specs.Machine.{Machine, is_enabled, lowest_line, takes_line, touches_locked, fetch_locked, line_taken_by, R, put_r, put_pc, count, on_state, on_inputs, put_o, word_at}
use Rattle.machine.specs.Step.{PC, Ra, Rb, A, A', d5_3, d8_6, d11_9, write, jump, Rule, compute, compare, addi, ld, st, ldb, stb, jalr, bz, bnz, movi, movhi, input, output, multiply_divide, interrupt_rules, interrupt, RuleRow, by_f, by_f_dividing, one, one_at, by_e, no_rule, rule_rows, among, rule, division, unassigned, rule_in_row, choice, fetched, cannot, to, doing, step_by, taking, by_rule, step}
use Rattle.machine.specs.Run.{is_out, fetches_a}
use Rattle.journal.specs.Journal.{Overwritten, nothing, in_register, by_input, register, data_word, data_byte, output_word, key_read, enable_flag, line_taken, by_taking, overwritten_by, overwritten, overwritten_at, reads_key, key_back, but_for}
use Rattle.journal.specs.Ranges.{InRange}
use Rattle.journal.proofs.Widths.{◌then◌, IsWord, extended_fits, operation_fits, comparison_fits, muldiv_fits}
use Rattle.journal.proofs.Coding.{Fits, is_port}
use Rattle.journal.proofs.Lines.{lowest_below, in_again}
use Rattle.journal.proofs.Written.{held_in, inputs_put, line_in, written, Has}

-- PC = PC+2 is done
abbrev on : Machine → Machine
on m = jump (add (PC m) 2) m

-- the log becomes L
abbrev pub logged : List ℕ → Machine → Machine
logged L m = but_for m.I L m

-- what IN overwrites, where t says that it reads the key
abbrev by_input_of : Bool → ℕ → Machine → Overwritten
by_input_of t w m = pick t (key_read (d11_9 w) (R m.state (d11_9 w)) (get_or m.I 0 0)) (in_register (d11_9 w) m)

-- What a rule, PC = PC+2 done, or taking a line makes of m. It writes c, which overwrites o, PC becomes p, and the log becomes L, which is
-- longer by one where a port is written.
pub record Makes (m after : Machine) (o : Overwritten) (port : Bool) : Type 0 where
  pub c : Overwritten
  pub p : ℕ
  pub L : List ℕ
  pub after_is : after ≡ logged L (on_state (put_pc p) (written c m))
  pub over : held_in c m ≡ o
  pub fits : InRange m → Fits c
  pub has : InRange m → Has (line_in c) m.state.pending
  pub goes : InRange m → IsWord p
  pub port_is : is_port (held_in c m) ≡ port
  pub grows : length L ≡ length m.L + flag port

-- the rule is done, and n grows by 1
abbrev pub Stepped : Machine → Machine → Overwritten → Bool → Type 0
Stepped m next o port = (after : Machine) × (next ≡ on_state count after) × Makes m after o port

module _ (m : Machine) (w : ℕ) where
  -- c is written, no port, no line is taken, and PC becomes p
  abbrev Written : Rule → Overwritten → ℕ → Type 0
  Written x c p = x w (on m) ≡ logged m.L (on_state (put_pc p) (written c m))

  quiet : (x : Rule) (c : Overwritten) (p : ℕ) → Written x c p → (InRange m → Fits c) → (InRange m → IsWord p) → is_port (held_in c m) ≡ false → Has (line_in c) m.state.pending
      → Makes m (x w (on m)) (held_in c m) false
  quiet x c p e f g t l =
      record { c = c; p = p; L = m.L; after_is = e; over = refl; fits = f; has = λ r. l; goes = g; port_is = t; grows = omega arith }

  -- Rd becomes v, and PC becomes PC+2
  writes : (x : Rule) (d v : ℕ) → Written x (register d v) (add (PC m) 2) → d < 8 → (InRange m → IsWord v) → Makes m (x w (on m)) (held_in (register d v) m) false
  writes x d v e hd hv = quiet x (register d v) (add (PC m) 2) e (λ r. (hd, hv r)) (λ r. omega arith) refl tt

  -- nothing is written, and PC becomes one of two
  branches : (x : Rule) (t : Bool) (p q : ℕ) → x w (on m) ≡ pick t (jump p m) (jump q m) → IsWord p → IsWord q → Makes m (x w (on m)) nothing false
  branches x true p q e hp hq = quiet x nothing p e (λ r. tt) (λ r. hp) refl tt
  branches x false p q e hp hq = quiet x nothing q e (λ r. tt) (λ r. hq) refl tt

  -- ---- The table

  -- what a row says, of the words with that opcode
  RowMakes : RuleRow → Overwritten → Bool → Type 0
  RowMakes (by_f fs x) o port = Makes m (x w (on m)) o port
  RowMakes (by_f_dividing fs gs x) o port = Makes m (x w (on m)) o port
  RowMakes (one x) o port = Makes m (x w (on m)) o port
  RowMakes (one_at touched x) o port = Makes m (x w (on m)) o port
  RowMakes (by_e x₀ x₁) o port = (t : Bool) → eqb (e_of w) 0 ≡ t → Makes m (pick t x₀ x₁ w (on m)) o port
  RowMakes no_rule o port = Unit {0}

  -- each row, with what stands at its place in the list
  Along : List RuleRow → List Overwritten → (ℕ → Bool) → Type 0
  Along [] os port = Unit {0}
  Along (x ∷ xs) [] port = RowMakes x nothing (port 0) × Along xs [] (λ k. port (suc k))
  Along (x ∷ xs) (o ∷ os) port = RowMakes x o (port 0) × Along xs os (λ k. port (suc k))

  along_at : (xs : List RuleRow) (os : List Overwritten) (port : ℕ → Bool) → Along xs os port → (k : ℕ) → RowMakes (get_or xs k no_rule) (get_or os k nothing) (port k)
  unfolding Along RowMakes
  along_at [] os port a k = tt
  along_at (x ∷ xs) [] port a zero = a.0
  along_at (x ∷ xs) [] port a (suc k) = along_at xs [] (λ k. port (suc k)) a.1 k
  along_at (x ∷ xs) (o ∷ os) port a zero = a.0
  along_at (x ∷ xs) (o ∷ os) port a (suc k) = along_at xs os (λ k. port (suc k)) a.1 k

  -- e is 0 or 1
  other_e : (t : Bool) → eqb (e_of w) 0 ≡ t → eqb (e_of w) 1 ≡ pick t false true
  other_e true e = rw (eqb-true (e_of w) 0 e)
  other_e false e = eq-eqb (e_of w) 1 (omega (arith, eqb-false (e_of w) 0 e))

  abbrev input_by : Bool → Rule
  input_by t w m = on_inputs (λ I. pick t (set I 0 0) I) (write (d11_9 w) (get_or m.I (N8 w) 0) m)

  by_key : (t : Bool) → Makes m (input_by t w (on m)) (by_input_of t w m) false
  by_key true =
      quiet (input_by true) (key_read (d11_9 w) (get_or m.I (N8 w) 0) 0) (add (PC m) 2) refl (λ r. (omega arith, r.inputs.below (N8 w), omega arith)) (λ r. omega arith) refl tt
  by_key false = writes (input_by false) (d11_9 w) (get_or m.I (N8 w) 0) refl (omega arith) (λ r. r.inputs.below (N8 w))

  by_port : (t : Bool) → eqb (e_of w) 0 ≡ t
      → Makes m (pick t input output w (on m)) (pick (eqb (e_of w) 0) (by_input w m) (output_word (N8 w) (get_or m.O (N8 w) 0))) (eqb (e_of w) 1)
  unfolding input output
  by_port true e = rw (e, other_e true e) (by_key (eqb (N8 w) 1))
  by_port false e =
      rw (e, other_e false e)
      (record {
        c = output_word (N8 w) (Ra w m);
        p = add (PC m) 2;
        L = (put_o (N8 w) (Ra w m) m).L;
        after_is = refl;
        over = refl;
        fits = λ r. (omega arith, r.registers.below (a_of w));
        has = λ r. tt;
        goes = λ r. omega arith;
        port_is = refl;
        grows = length-append m.L _;
      })

  by_zero : (t : Bool) → Makes m (pick t bz bnz w (on m)) nothing false
  unfolding bz bnz
  by_zero true = branches bz (eqb (Ra w m) 0) (add (add (PC m) 2) (SE 8 (N8 w) * 2)) (add (PC m) 2) refl (omega arith) (omega arith)
  by_zero false = branches bnz (eqb (Ra w m) 0) (add (PC m) 2) (add (add (PC m) 2) (SE 8 (N8 w) * 2)) refl (omega arith) (omega arith)

  by_number : (t : Bool) → Makes m (pick t movi movhi w (on m)) (in_register (d11_9 w) m) false
  unfolding movi movhi
  by_number true = writes movi (d11_9 w) (SE 8 (N8 w)) refl (omega arith) (λ r. extended_fits 8 (N8 w))
  by_number false = writes movhi (d11_9 w) (R m.state (d11_9 w) % 256 + N8 w * 256) refl (omega arith) (λ r. omega arith)

  -- by f; one that is not assigned changes nothing, and what it is said to overwrite stays
  abbrev interrupt_by : ℕ → Rule
  interrupt_by f w m = on_state (λ s. get_or (interrupt_rules (put_r (d5_3 w)) s) f s) m

  by_interrupt_lem : (f : ℕ) → Makes m (interrupt_by f w (on m)) (pick (eqb f 3) (in_register (d5_3 w) m) (enable_flag m.state.enabled)) false
  by_interrupt_lem zero = quiet (interrupt_by 0) (enable_flag 1) (add (PC m) 2) refl (λ r. omega arith) (λ r. omega arith) refl tt
  by_interrupt_lem (suc zero) = quiet (interrupt_by 1) (enable_flag 0) (add (PC m) 2) refl (λ r. omega arith) (λ r. omega arith) refl tt
  by_interrupt_lem (suc (suc zero)) = quiet (interrupt_by 2) (enable_flag 1) m.state.return_address refl (λ r. omega arith) (λ r. r.address) refl tt
  by_interrupt_lem (suc (suc (suc zero))) = writes (interrupt_by 3) (d5_3 w) m.state.line refl (omega arith) (λ r. omega (arith, r.line))
  by_interrupt_lem (suc (suc (suc (suc f)))) =
      rw (ne_eqb (suc (suc (suc (suc f)))) 3 (λ e. omega (arith, e)))
      (quiet (interrupt_by (suc (suc (suc (suc f))))) (enable_flag m.state.enabled) (add (PC m) 2) refl (λ r. r.enabled) (λ r. omega arith) refl tt)

  -- what a rule computes of Ra and Rb is a word
  of_words : (g : ℕ → ℕ → ℕ → ℕ) → ((f x y : ℕ) → IsWord x → IsWord y → IsWord (g f x y)) → InRange m → IsWord (g (f_of w) (Ra w m) (Rb w m))
  of_words g fits r = fits (f_of w) (Ra w m) (Rb w m) (r.registers.below (a_of w)) (r.registers.below (b_of w))

  all_rows : Along rule_rows (overwritten_by w m) (λ op. eqb op 10 && eqb (e_of w) 1)
  unfolding Along RowMakes compute compare addi ld st ldb stb jalr multiply_divide interrupt
  all_rows =
      -- 0 to 3
      writes compute (d5_3 w) _ refl (omega arith) (of_words operation operation_fits)
      then writes compare (d5_3 w) _ refl (omega arith) (of_words comparison comparison_fits)
      then writes addi (d8_6 w) (A w m) refl (omega arith) (λ r. omega arith)
      then writes ld (d8_6 w) (word_at m.D (A' w m)) refl (omega arith) (λ r. omega (arith, r.memory.below (A' w m), r.memory.below (add (A' w m) 1)))
      -- 4 to 7
      then quiet st (data_word (A' w m) (Rb w m)) (add (PC m) 2) refl (λ r. (omega arith, omega arith, r.registers.below (b_of w))) (λ r. omega arith) refl tt
      then writes ldb (d8_6 w) (SE 8 (get_or m.D (A w m) 0)) refl (omega arith) (λ r. extended_fits 8 (get_or m.D (A w m) 0))
      then quiet stb (data_byte (A w m) (Rb w m)) (add (PC m) 2) refl (λ r. (omega arith, r.registers.below (b_of w))) (λ r. omega arith) refl tt
      then quiet jalr (register (d8_6 w) (add (PC m) 2)) (clear0 (Ra w m)) refl (λ r. (omega arith, omega arith)) (λ r. omega (arith, r.registers.below (a_of w))) refl tt
      -- 8 to 11
      then (λ t e. by_zero t)
      then (λ t e. by_number t)
      then by_port
      then writes multiply_divide (d5_3 w) _ refl (omega arith) (of_words muldiv muldiv_fits)
      -- 12 to 15
      then by_interrupt_lem (f_of w)
      then tt
      then tt
      then tt
      then tt

  -- ---- The step

  did : {next after : Machine} {o : Overwritten} {port : Bool} → to (on_state count after) ≡ to next → Makes m after o port → Stepped m next o port
  did {next} {after} e made = let z : next ≡ on_state count after = cc in (after, z, made)

  by_row : (y : RuleRow) {next : Machine} {o : Overwritten} {port : Bool} → RowMakes y o port → step_by (rule_in_row y (e_of w) (f_of w)) w m ≡ to next → Stepped m next o port
  unfolding RowMakes
  by_row (by_f fs x) {next} {o} {port} made = go (among (f_of w) fs)
    where
      go : (t : Bool) → step_by (pick t (rule x) unassigned) w m ≡ to next → Stepped m next o port
      go true e = did e made
      go false e = clash (cc)
  by_row (by_f_dividing fs gs x) {next} {o} {port} made = go (among (f_of w) fs) (among (f_of w) gs)
    where
      divided : (z : Bool) → pick z (cannot 3) (doing x w m) ≡ to next → Stepped m next o port
      divided true e = clash (cc)
      divided false e = did e made

      go : (t u : Bool) → step_by (pick t (pick u (division x) (rule x)) unassigned) w m ≡ to next → Stepped m next o port
      go true true e = divided (eqb (Rb w m) 0) e
      go true false e = did e made
      go false u e = clash (cc)
  by_row (one x) made = λ e. did e made
  by_row (one_at touched x) {next} {o} {port} made = go (touches_locked (touched w m) m.state)
    where
      go : (t : Bool) → pick t (cannot 4) (doing x w m) ≡ to next → Stepped m next o port
      go true e = clash (cc)
      go false e = did e made
  by_row (by_e x₀ x₁) made = λ e. did e (made (eqb (e_of w) 0) refl)
  by_row no_rule made = λ e. clash (cc)

  through_table : {next : Machine} → by_rule w m ≡ to next → Stepped m next (overwritten w m) (is_out w)
  unfolding choice overwritten
  through_table =
      by_row (get_or rule_rows (opcode w) no_rule) (along_at rule_rows (overwritten_by w m) (λ op. eqb op 10 && eqb (e_of w) 1) all_rows (opcode w))

-- ---- A line taken

-- some line is pending
pub some_line : (s : State) → takes_line s ≡ true → 0 < s.pending
some_line s e =
    let none : eqb s.pending 0 ≡ false = not-true _ ((and-eq-true_iff (is_enabled s) (not (eqb s.pending 0))).0 e).1 in
    omega (arith, eqb-false s.pending 0 none)

taken : (m : Machine) → takes_line m.state ≡ true → Makes m (on_state line_taken_by m) (by_taking m.state) false
taken m e =
    let p = m.state.pending in
    let k = lowest_line p in
    let some = some_line m.state e in
    record {
      c = line_taken k 0 k (PC m);
      p = 0x0100;
      L = m.L;
      after_is = refl;
      over = refl;
      fits = λ r. let l = lowest_below p some r.pending in (l, omega arith, omega arith, r.pc);
      has = λ r. in_again p some r.pending;
      goes = λ r. omega arith;
      port_is = refl;
      grows = omega arith;
    }

pub stepped : (m next : Machine) → step m ≡ to next → Stepped m next (overwritten_at m) (fetches_a is_out m)
unfolding step
stepped m next = go (takes_line m.state) refl (fetch_locked m.state)
  where
    w : ℕ
    w = fetched m

    go : (t : Bool) → takes_line m.state ≡ t → (l : Bool) → pick t (taking m) (pick l (cannot 4) (by_rule w m)) ≡ to next
        → Stepped m next (pick t (by_taking m.state) (overwritten w m)) (not t && is_out w)
    go true h l e = did m w e (taken m h)
    go false h true e = clash (cc)
    go false h false e = through_table m w e

-- ---- What the step of w overwrites fits an entry.

pub overwritten_fits : (w : ℕ) {m : Machine} → InRange m → Fits (overwritten w m)
unfolding overwritten
overwritten_fits w {m} r =
    looked_up Fits (overwritten_by w m)
    (held (d5_3 w) (omega arith)
    then held (d5_3 w) (omega arith)
    then held (d8_6 w) (omega arith)
    then held (d8_6 w) (omega arith)
    then (omega arith, omega arith, omega (arith, r.memory.below (A' w m), r.memory.below (add (A' w m) 1)))
    then held (d8_6 w) (omega arith)
    then (omega arith, omega (arith, r.memory.below (A w m)))
    then held (d8_6 w) (omega arith)
    then tt
    then held (d11_9 w) (omega arith)
    then either Fits (eqb (e_of w) 0)
    (either Fits (eqb (N8 w) 1) (omega arith, r.registers.below (d11_9 w), r.inputs.below 0) (held (d11_9 w) (omega arith)))
    (omega arith, r.outputs.below (N8 w))
    then held (d5_3 w) (omega arith)
    then either Fits (eqb (f_of w) 3) (held (d5_3 w) (omega arith)) r.enabled
    then tt)
    tt (opcode w)
  where
    held : (d : ℕ) → d < 8 → Fits (in_register d m)
    held d h = (h, r.registers.below d)

pub overwritten_at_fits : (m : Machine) → InRange m → Fits (overwritten_at m)
overwritten_at_fits m r = go (takes_line m.state) refl
  where
    go : (t : Bool) → takes_line m.state ≡ t → Fits (pick t (by_taking m.state) (overwritten (fetched m) m))
    go true e = (lowest_below m.state.pending (some_line m.state e) r.pending, r.enabled, r.line, r.address)
    go false e = overwritten_fits (fetched m) r

-- ---- Where what the step of w overwrote is put back, input 0 is that of m if w reads the key, and no other input changes.

module _ (m : Machine) (w : ℕ) (I : List ℕ) where
  abbrev Puts : Overwritten → Bool → Type 0
  Puts o key = inputs_put o I ≡ pick key (set I 0 (get_or m.I 0 0)) I

  by_e_and_port : (t k : Bool) → Puts (pick t (by_input_of k w m) (output_word (N8 w) (get_or m.O (N8 w) 0))) (t && k)
  by_e_and_port true true = refl
  by_e_and_port true false = refl
  by_e_and_port false k = refl

  by_f_3 : (t : Bool) → Puts (pick t (in_register (d5_3 w) m) (enable_flag m.state.enabled)) false
  by_f_3 true = refl
  by_f_3 false = refl

  -- the other opcodes
  none_else : (opcode w ≡ 10 → ⊥) → Puts (get_or (overwritten_by w m) (opcode w) nothing) false
  none_else n =
      subst (λ o. Puts o false) (get_or-set_other (overwritten_by w m) 10 (opcode w) nothing nothing n)
      (looked_up (λ o. Puts o false) (set (overwritten_by w m) 10 nothing)
      (refl then refl then refl then refl then refl then refl then refl then refl then refl then refl then refl then refl then by_f_3 (eqb (f_of w) 3) then tt) refl (opcode w))

  key_put : Puts (overwritten w m) (reads_key w)
  unfolding overwritten
  key_put = go (eqb (opcode w) 10) refl
    where
      go : (t : Bool) → eqb (opcode w) 10 ≡ t → Puts (get_or (overwritten_by w m) (opcode w) nothing) (t && eqb (e_of w) 0 && eqb (N8 w) 1)
      go true e = rw (eqb-true (opcode w) 10 e) (by_e_and_port (eqb (e_of w) 0) (eqb (N8 w) 1))
      go false e = none_else (eqb-false (opcode w) 10 e)

pub key_put_at : (m : Machine) (I : List ℕ) → inputs_put (overwritten_at m) I ≡ key_back m I
key_put_at m I = go (takes_line m.state)
  where
    go : (t : Bool) → inputs_put (pick t (by_taking m.state) (overwritten (fetched m) m)) I ≡ pick (not t && reads_key (fetched m)) (set I 0 (get_or m.I 0 0)) I
    go true = refl
    go false = key_put m (fetched m) I
