-- What a step, its entry and a step taken back do not look at: the count of journal entries and the log.
-- Assumes nothing.
use mathlib.Core.Path.{◌≡◌, refl, sym, ap, subst, ◌∙◌}
use mathlib.Core.Bool.{Bool, true, false, ◌||◌}
use mathlib.Core.List.{List, [], ◌∷◌, ◌++◌, append-nil}
use Prim.Native.Nat.{ℕ, ◌-◌}
use lib.ListN.{length, get_or, drop, get_or-map}
use lib.Seq.{drop-append_seam, drop-length}
use Rattle.word.specs.Fields.{bits, field, f_of, N8}
use Rattle.word.specs.Word.{pick, add}
use Rattle.machine.specs.declared.State.{State}
use Rattle.machine.specs.Machine.{Machine, takes_line, is_locked, touches_locked, fetch_locked, line_taken_by, put_r, put_pc, put_n, put_journaled, on_state, put_d, on_inputs, put_o, count}
use Rattle.machine.specs.Step.{PC, Ra, Rb, d5_3, d8_6, d11_9, fetched, Next, cannot, to, ei, di, reti, interrupt_rules, taking, step}
use Rattle.machine.specs.Run.{Stepper}
use Rattle.journal.specs.Journal.{Overwritten, nothing, register, data_word, data_byte, output_word, key_read, enable_flag, line_taken, pc_in, overwritten, entry_of, overwritten_in, put_back, undo}
use Rattle.control.specs.Control.{by_interrupt, unit, result_of, inputs_after, next, writes_port, stored_data, stored, written, performed, assigned, zero_divisor, result_field, store_field, touched_by, locked_access, interrupted, interrupt_assigned, control_step, control_in, by_control, table}
use Rattle.control.proofs.Agreement.{same_stepper}
use Rattle.claims_back.specs.History.{held_as}

-- ---- A step

-- x with the count and after the log l, where m is the machine before the step
abbrev onward : ℕ → List ℕ → Machine → Machine → Machine
onward c l m x = held_as c x.state.pending x.I (l ++ drop (length m.L) x.L) x

abbrev onward_next : ℕ → List ℕ → Machine → Next → Next
onward_next c l m (cannot q) = cannot q
onward_next c l m (to x) = to (onward c l m x)

module _ (c : ℕ) (l : List ℕ) (m : Machine) where
  abbrev before : Machine
  before = held_as c m.state.pending m.I l m

  written_held : (k w v : ℕ) (s : State) → written k w v (put_journaled c s) ≡ put_journaled c (written k w v s)
  unfolding written
  written_held k w v s =
      get_or-map (put_journaled c) (s ∷ put_r (d5_3 w) v s ∷ put_r (d8_6 w) v s ∷ put_r (d11_9 w) v s ∷ []) (field (bits 1 0) k) s

  -- the register state and the log that a step leaves
  with_both : (x : Machine) {s : State} {L : List ℕ} → s ≡ put_journaled c x.state → L ≡ l ++ drop (length m.L) x.L
      → ◌≡◌ {A = Machine} (record { state = s; P = x.P; D = x.D; I = x.I; O = x.O; L = L }) (onward c l m x)
  with_both x e h = λ i. record { state = e i; P = x.P; D = x.D; I = x.I; O = x.O; L = h i }

  performed_held : (k w : ℕ) → performed k w before ≡ onward c l m (performed k w m)
  unfolding performed stored
  performed_held k w =
      let u = unit k w (Ra w m) (Rb w m) in
      by_port (writes_port k) (result_of k w u (PC m) m.D m.I) (stored_data k (Rb w m) u m.D)
    where
      after : ℕ → State → State
      after v s = written k w v (put_pc (next k w (Ra w m) (PC m)) (count s))

      reads : Machine → Machine
      reads x = on_inputs (inputs_after k w) x

      by_port : (t : Bool) (v : ℕ) (D : List ℕ)
          → on_state (after v) (reads (pick t (put_o (N8 w) (Ra w m) before) (put_d D before)))
          ≡ onward c l m (on_state (after v) (reads (pick t (put_o (N8 w) (Ra w m) m) (put_d D m))))
      by_port true v D = with_both (on_state (after v) (reads (put_o (N8 w) (Ra w m) m))) (written_held k w v _) (ap (λ (es : List ℕ). l ++ es) (sym (drop-append_seam m.L _)))
      by_port false v D = with_both (on_state (after v) (reads (put_d D m))) (written_held k w v _) (sym (ap (λ (es : List ℕ). l ++ es) (drop-length m.L) ∙ append-nil l))

  -- where only the register state changes
  with_state_lem : (f : State → State) → f (put_journaled c m.state) ≡ put_journaled c (f m.state) → on_state f before ≡ onward c l m (on_state f m)
  with_state_lem f e = with_both (on_state f m) e (sym (ap (λ (es : List ℕ). l ++ es) (drop-length m.L) ∙ append-nil l))

  interrupted_held : (k w : ℕ) → interrupted k w before ≡ onward c l m (interrupted k w m)
  unfolding interrupted
  interrupted_held k w =
      with_state_lem (λ s. count (let on = put_pc (add s.pc 2) s in get_or (interrupt_rules (written k w) on) (f_of w) on))
      (ap count (by_f (put_pc (add (PC m) 2) m.state)))
    where
      by_f : (s : State) → get_or (interrupt_rules (written k w) (put_journaled c s)) (f_of w) (put_journaled c s) ≡ put_journaled c (get_or (interrupt_rules (written k w) s) (f_of w) s)
      by_f s =
          let t = put_journaled c s in
          ap (λ x. get_or (ei t ∷ di t ∷ reti t ∷ x ∷ []) (f_of w) t) (written_held k w s.line s)
          ∙ get_or-map (put_journaled c) (interrupt_rules (written k w) s) (f_of w) s

  -- which bytes are locked
  touched_held : (at : List ℕ) → touches_locked at before.state ≡ touches_locked at m.state
  touched_held [] = refl
  touched_held (a ∷ at) = ap (λ t. is_locked a m.state || t) (touched_held at)

  access_held : (k w : ℕ) → locked_access k w before.state ≡ locked_access k w m.state
  unfolding locked_access
  access_held k w = let u = unit k w (Ra w m) (Rb w m) in touched_held (touched_by (result_field k) u ++ touched_by (store_field k) u)

  control_held : (words : List ℕ) → (by_control words).steps before ≡ onward_next c l m ((by_control words).steps m)
  unfolding control_step fetched
  control_held words =
      let w = fetched m in
      let k = control_in words w in
      ap (λ b. pick (takes_line m.state) (taking before)
      (pick (fetch_locked m.state) (cannot 4)
      (pick (by_interrupt k) (pick (interrupt_assigned k w) (to (interrupted k w before)) (cannot 1))
      (pick (assigned k w) (pick (zero_divisor k w (Rb w m)) (cannot 3) (pick b (cannot 4) (to (performed k w before)))) (cannot 1)))))
      (access_held k w)
      ∙ by_line (takes_line m.state) (fetch_locked m.state) _ _
      (by_tests k w (by_interrupt k) (interrupt_assigned k w) (assigned k w) (zero_divisor k w (Rb w m)) (locked_access k w m.state))
    where
      by_tests : (k w : ℕ) (i f t z b : Bool)
          → pick i (pick f (to (interrupted k w before)) (cannot 1)) (pick t (pick z (cannot 3) (pick b (cannot 4) (to (performed k w before)))) (cannot 1))
          ≡ onward_next c l m (pick i (pick f (to (interrupted k w m)) (cannot 1)) (pick t (pick z (cannot 3) (pick b (cannot 4) (to (performed k w m)))) (cannot 1)))
      by_tests k w true true t z b = ap to (interrupted_held k w)
      by_tests k w true false t z b = refl
      by_tests k w false f true true b = refl
      by_tests k w false f true false true = refl
      by_tests k w false f true false false = ap to (performed_held k w)
      by_tests k w false f false z b = refl

      by_line : (t b : Bool) (x y : Next) → x ≡ onward_next c l m y
          → pick t (taking before) (pick b (cannot 4) x) ≡ onward_next c l m (pick t (taking m) (pick b (cannot 4) y))
      by_line true b x y e = ap to (with_state_lem (λ s. count (line_taken_by s)) refl)
      by_line false true x y e = refl
      by_line false false x y e = e

  pub step_held : {x : Machine} → step m ≡ to x → step before ≡ to (onward c l m x)
  step_held e =
      subst (λ (v : Stepper). v.steps before ≡ onward_next c l m (v.steps m)) same_stepper (control_held table) ∙ ap (onward_next c l m) e

-- ---- An entry: of the inputs it holds what a read of the key takes

pub entry_held : (c : ℕ) (L : List ℕ) (m : Machine) → entry_of (held_as c m.state.pending m.I L m) ≡ entry_of m
unfolding entry_of overwritten fetched
entry_held c L m = refl

-- ---- A step taken back

pub undo_counted : (x c : ℕ) (m : Machine) → undo x (on_state (put_journaled c) m) ≡ on_state (put_journaled c) (undo x m)
unfolding undo
undo_counted x c m = ap (on_state (λ s. put_pc (pc_in x) (put_n (s.n - 1) s))) (go (overwritten_in x))
  where
    go : (o : Overwritten) → put_back o (on_state (put_journaled c) m) ≡ on_state (put_journaled c) (put_back o m)
    go nothing = refl
    go (register k v) = refl
    go (data_word k v) = refl
    go (data_byte k v) = refl
    go (output_word k v) = refl
    go (key_read k v s) = refl
    go (enable_flag v) = refl
    go (line_taken k e j v) = refl
