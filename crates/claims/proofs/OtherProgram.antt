-- On the single-memory board a step fetches its word from D and nothing else of it looks at P, nor does taking a line: so with another program memory a run by any
-- table goes alike (Alike.antt), and one by the rules, whose steps are the table's. A step taken back looks neither at P nor at the board.
-- Assumes nothing.
use mathlib.Core.Path.{◌≡◌, refl, sym, ap, subst, ◌∙◌}
use mathlib.Core.Bool.{Bool, true, false, not, ◌&&◌}
use mathlib.Core.List.{List}
use Prim.Native.Nat.{ℕ, zero, suc, ◌-◌}
use lib.Dec.{eqb, leb}
use lib.ListN.{length, get_or}
use Rattle.word.specs.Fields.{N8}
use Rattle.word.specs.Word.{pick}
use Rattle.machine.specs.Machine.{Machine, is_single, takes_line, fetch_locked, put_pc, put_n, put_board, count, on_state, put_d, on_inputs, put_o}
use Rattle.machine.specs.Step.{PC, Ra, Rb, fetched, cannot, to, taking}
use Rattle.machine.specs.Run.{by_rules, no_place_at}
use Rattle.journal.specs.Journal.{Overwritten, nothing, register, data_word, data_byte, output_word, key_read, enable_flag, line_taken, by_taking, pc_in, entry_with, overwritten, entry_of, overwritten_in, put_back, undo}
use Rattle.control.specs.Control.{unit, result_of, inputs_after, next, writes_port, stored_data, stored, written, performed, assigned, zero_divisor, locked_access, by_interrupt, interrupted, interrupt_assigned, control_step, control_in, by_control, table}
use Rattle.control.proofs.Agreement.{same_stepper}
use Rattle.control.proofs.Laws.{lawful_control}
use Rattle.back.specs.Backs.{undone}
use Rattle.claims.proofs.Alike.{map_next, Seen, seen_by, Maps}

-- the program memory becomes P
abbrev pub put_p : List ℕ → Machine → Machine
put_p P m = record { state = m.state; P = P; D = m.D; I = m.I; O = m.O; L = m.L }

-- the machine is one of the single-memory board
abbrev pub Single : Machine → Type 0
Single m = is_single m.state ≡ true

module _ (P : List ℕ) where
  -- ---- A step

  -- the word comes from D
  fetches : (m : Machine) → Single m → fetched (put_p P m) ≡ fetched m
  unfolding fetched
  fetches m h = rw h

  -- what the control word says is done alike, whatever the board
  stores : (c w x y u : ℕ) (m : Machine) → stored c w x y u (put_p P m) ≡ put_p P (stored c w x y u m)
  unfolding stored
  stores c w x y u m = go (writes_port c)
    where
      go : (t : Bool)
          → pick t (put_o (N8 w) x (put_p P m)) (put_d (stored_data c y u m.D) (put_p P m))
          ≡ put_p P (pick t (put_o (N8 w) x m) (put_d (stored_data c y u m.D) m))
      go true = refl
      go false = refl

  performs : (c w : ℕ) (m : Machine) → performed c w (put_p P m) ≡ put_p P (performed c w m)
  unfolding performed
  performs c w m =
      let x = Ra w m in
      let u = unit c w x (Rb w m) in
      let v = result_of c w u (PC m) m.D m.I in
      ap (λ (z : Machine). on_state (λ s. written c w v (put_pc (next c w x (PC m)) (count s))) (on_inputs (inputs_after c w) z)) (stores c w x (Rb w m) u m)

  controls : (c w : ℕ) (m : Machine) → control_step c w (put_p P m) ≡ map_next (put_p P) (control_step c w m)
  unfolding control_step interrupted
  controls c w m = by_tests (by_interrupt c) (interrupt_assigned c w) (assigned c w) (zero_divisor c w (Rb w m)) (locked_access c w m.state)
    where
      by_tests : (b i t z l : Bool)
          → pick b (pick i (to (interrupted c w (put_p P m))) (cannot 1)) (pick t (pick z (cannot 3) (pick l (cannot 4) (to (performed c w (put_p P m))))) (cannot 1))
          ≡ map_next (put_p P) (pick b (pick i (to (interrupted c w m)) (cannot 1)) (pick t (pick z (cannot 3) (pick l (cannot 4) (to (performed c w m)))) (cannot 1)))
      by_tests true true t z l = refl
      by_tests true false t z l = refl
      by_tests false i true true l = refl
      by_tests false i true false true = refl
      by_tests false i true false false = ap to (performs c w m)
      by_tests false i false z l = refl

  -- a line is taken, or the fetch touches a locked byte, or the word fetched is done
  steps_alike : (words : List ℕ) (m : Machine) → Single m → (by_control words).steps (put_p P m) ≡ map_next (put_p P) ((by_control words).steps m)
  steps_alike words m h = by_line (takes_line m.state) (fetch_locked m.state)
    where
      by_line : (t l : Bool)
          → pick t (taking (put_p P m)) (pick l (cannot 4) (control_step (control_in words (fetched (put_p P m))) (fetched (put_p P m)) (put_p P m)))
          ≡ map_next (put_p P) (pick t (taking m) (pick l (cannot 4) (control_step (control_in words (fetched m)) (fetched m) m)))
      by_line true l = refl
      by_line false true = refl
      by_line false false = ap (λ w. control_step (control_in words w) w (put_p P m)) (fetches m h) ∙ controls (control_in words (fetched m)) (fetched m) m

  -- ---- A run

  sees : (m : Machine) → Single m → Seen (put_p P) m
  unfolding entry_of overwritten
  sees m h =
      seen_by (put_p P) m refl (λ t. fetches m h)
      (ap (λ w. entry_with (PC m) (pick (takes_line m.state) (by_taking m.state) (overwritten w m))) (fetches m h))

  pub by_any_table : (words : List ℕ) → Maps (by_control words) (put_p P) (λ full. full) Single
  unfolding no_place_at
  by_any_table words =
      record {
        steps = steps_alike words;
        places = λ full m next e h. ap (λ w. (not (takes_line m.state) && writes_port (control_in words w)) && leb full (length m.L)) (fetches m h);
        seen = λ m next e. sees m;
        keeps = λ m next e h. ap (λ u. not (eqb u.1 0)) ((lawful_control words).leaves m next e) ∙ h;
      }

  pub by_the_rules : Maps by_rules (put_p P) (λ full. full) Single
  by_the_rules = subst (λ v. Maps v (put_p P) (λ full. full) Single) same_stepper (by_any_table table)

-- ---- Steps taken back

-- the machine on the board with this number, its program memory P
abbrev on_board : ℕ → List ℕ → Machine → Machine
on_board b P m = put_p P (on_state (put_board b) m)

-- neither is looked at
undo_on : (b : ℕ) (P : List ℕ) (x : ℕ) (m : Machine) → undo x (on_board b P m) ≡ on_board b P (undo x m)
unfolding undo
undo_on b P x m = ap (on_state (λ s. put_pc (pc_in x) (put_n (s.n - 1) s))) (go (overwritten_in x))
  where
    go : (o : Overwritten) → put_back o (on_board b P m) ≡ on_board b P (put_back o m)
    go nothing = refl
    go (register k v) = refl
    go (data_word k v) = refl
    go (data_byte k v) = refl
    go (output_word k v) = refl
    go (key_read k v s) = refl
    go (enable_flag v) = refl
    go (line_taken k e j v) = refl

undone_on : (b : ℕ) (P : List ℕ) (k count : ℕ) (journal : List ℕ) (m : Machine)
    → undone k count journal (on_board b P m) ≡ on_board b P (undone k count journal m)
unfolding undone
undone_on b P zero count journal m = refl
undone_on b P (suc k) count journal m =
    let x = get_or journal (count - 1) 0 in ap (undone k (count - 1) journal) (undo_on b P x m) ∙ undone_on b P k (count - 1) journal (undo x m)

module _ (k count : ℕ) (journal : List ℕ) (m : Machine) where
  -- so both stay: a machine is itself on its own board with its own program memory
  back_leaves : undone k count journal m ≡ on_board m.state.board m.P (undone k count journal m)
  back_leaves = undone_on m.state.board m.P k count journal m

  pub back_board : (undone k count journal m).state.board ≡ m.state.board
  back_board = ap (λ x. x.state.board) back_leaves

  -- and with another program memory the steps are taken back alike
  pub back_other : (P : List ℕ) → undone k count journal (put_p P m) ≡ put_p P (undone k count journal m)
  back_other P = undone_on m.state.board P k count journal m ∙ sym (ap (put_p P) back_leaves)
