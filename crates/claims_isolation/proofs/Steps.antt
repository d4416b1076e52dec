-- ONE LAW: a step of two machines that differ only in locked bytes is alike. What a control word touches is not locked where it is done, and
-- nothing else of it looks at data memory or writes it; nor does a fetch that is made. No case for a kind.
-- Assumes nothing.
use mathlib.Core.Path.{◌≡◌, refl, sym, ap, subst, ◌∙◌}
use mathlib.Core.Bool.{Bool, true, false, not, ◌&&◌, ◌||◌}
use mathlib.Core.List.{List, [], ◌∷◌, ◌++◌}
use Prim.Native.Nat.{ℕ, zero, suc, ◌+◌, ◌*◌, ◌/◌, ◌%◌}
use native.Mathlib.Omega.{arith}
use borrow.Author.Tests.{leb-true, leb-false}
use lib.Dec.{eqb, leb}
use lib.ListN.{length, get_or, set, length-set}
use Rattle.word.specs.Fields.{opcode, e_of, f_of, N8}
use Rattle.word.specs.Word.{pick, add, clear0, SE}
use Rattle.word.proofs.Tests.{clash, never}
use Rattle.machine.specs.declared.State.{State}
use Rattle.machine.specs.Machine.{Machine, is_single, takes_line, is_locked, touches_locked, bytes_at, fetch_locked, put_pc, count, on_state, put_d, on_inputs, put_o, word_at, put_word, put_byte}
use Rattle.machine.specs.Step.{PC, Ra, Rb, A, A', no_rule, rule_rows, rule_in_row, choice, fetched, Next, cannot, to, step_by, taking, by_rule, step}
use Rattle.machine.specs.Run.{by_rules, is_out, no_place_at}
use Rattle.journal.specs.Journal.{nothing, data_word, data_byte, by_taking, entry_with, overwritten_by, overwritten, entry_of}
use Rattle.control.specs.Control.{unit, results, result_field, result_of, inputs_after, next, store_field, writes_port, stored_data, stored, written, performed, assigned, zero_divisor, touched_by, locked_access, by_interrupt, interrupted, interrupt_assigned, control_step, control_in, table}
use Rattle.control.proofs.Agreement.{same_stepper}
use Rattle.control.proofs.Laws.{lawful_rules, local_rules}
use Rattle.claims.proofs.Alike.{map_next, Seen, seen_by, Maps}
use Rattle.claims_isolation.proofs.Over.{over, over_free, over_set, over_past}

-- ---- Which bytes are touched

touched_both : (xs ys : List ℕ) (s : State) → touches_locked (xs ++ ys) s ≡ false → (touches_locked xs s ≡ false) × (touches_locked ys s ≡ false)
touched_both [] ys s e = (refl, e)
touched_both (a ∷ xs) ys s e = by_test (is_locked a s) e (touched_both xs ys s)
  where
    by_test : (t : Bool) → (t || touches_locked (xs ++ ys) s) ≡ false
        → (touches_locked (xs ++ ys) s ≡ false → (touches_locked xs s ≡ false) × (touches_locked ys s ≡ false))
        → ((t || touches_locked xs s) ≡ false) × (touches_locked ys s ≡ false)
    by_test true e more = never (sym e)
    by_test false e more = more e

pub one_free : (a : ℕ) (s : State) → touches_locked (a ∷ []) s ≡ false → is_locked a s ≡ false
one_free a s = by_test (is_locked a s)
  where
    by_test : (t : Bool) → (t || false) ≡ false → t ≡ false
    by_test true e = never (sym e)
    by_test false e = refl

two_free : (k : ℕ) (s : State) → touches_locked (bytes_at k) s ≡ false → (is_locked k s ≡ false) × (is_locked (add k 1) s ≡ false)
two_free k s e = let z = touched_both (k ∷ []) (add k 1 ∷ []) s e in (one_free k s z.0, one_free (add k 1) s z.1)

-- a test of locked bytes does not hold where what comes after it is done
pub passed_lock : {after : Machine} (t : Bool) (x : Next) → pick t (cannot 4) x ≡ to after → t ≡ false
passed_lock true x e = clash (cc)
passed_lock false x e = refl

-- ---- The machine with the locked bytes of Z over its data, the range being that of `s`

module _ (s : State) (Z : List ℕ) where
  abbrev pub with_over : Machine → Machine
  with_over m = put_d (over s Z m.D) m

  -- the range is that of s, and the memory has its length
  pub record Ranged (m : Machine) : Type 0 where
    pub range : (a : ℕ) → is_locked a m.state ≡ is_locked a s
    pub long : length m.D ≡ 65536

  -- ---- A control word

  word_same : (D : List ℕ) (k : ℕ) → touches_locked (bytes_at k) s ≡ false → word_at (over s Z D) k ≡ word_at D k
  word_same D k e = let z = two_free k s e in λ i. over_free s Z D k z.0 i + 256 * over_free s Z D (add k 1) z.1 i

  pub word_stored : (D : List ℕ) (k v : ℕ) → length D ≡ 65536 → touches_locked (bytes_at k) s ≡ false → over s Z (put_word k v D) ≡ put_word k v (over s Z D)
  word_stored D k v l e =
      let z = two_free k s e in
      second (leb 65536 (k + 1)) refl z.1 ∙ ap (λ M. set M (k + 1) (v / 256)) (over_set s Z D k (v % 256) z.0)
    where
      second : (t : Bool) → leb 65536 (k + 1) ≡ t → is_locked (add k 1) s ≡ false
          → over s Z (set (set D k (v % 256)) (k + 1) (v / 256)) ≡ set (over s Z (set D k (v % 256))) (k + 1) (v / 256)
      second true q f = over_past s Z (set D k (v % 256)) (k + 1) (v / 256) (omega (arith, leb-true 65536 (k + 1) q, l, length-set D k (v % 256)))
      second false q f =
          let inside : add k 1 ≡ k + 1 = omega (arith, leb-false 65536 (k + 1) q) in
          over_set s Z (set D k (v % 256)) (k + 1) (v / 256) (ap (λ j. is_locked j s) (sym inside) ∙ f)

  -- by the field: 1 and 2 read or store, and no other looks at data memory
  result_same : (r w u pc : ℕ) (D I : List ℕ) → touches_locked (touched_by r u) s ≡ false → get_or (results w u pc (over s Z D) I) r 0 ≡ get_or (results w u pc D I) r 0
  result_same zero w u pc D I e = refl
  result_same (suc zero) w u pc D I e = word_same D (clear0 u) e
  result_same (suc (suc zero)) w u pc D I e = ap (SE 8) (over_free s Z D u (one_free u s e))
  result_same (suc (suc (suc r))) w u pc D I e = refl

  stored_same : (r y u : ℕ) (D : List ℕ) → length D ≡ 65536 → touches_locked (touched_by r u) s ≡ false
      → over s Z (get_or (D ∷ put_word (clear0 u) y D ∷ put_byte u y D ∷ []) r D) ≡ get_or (over s Z D ∷ put_word (clear0 u) y (over s Z D) ∷ put_byte u y (over s Z D) ∷ []) r (over s Z D)
  stored_same zero y u D l e = refl
  stored_same (suc zero) y u D l e = word_stored D (clear0 u) y l e
  stored_same (suc (suc zero)) y u D l e = over_set s Z D u (y % 256) (one_free u s e)
  stored_same (suc (suc (suc r))) y u D l e = refl

  module _ (m : Machine) (q : Ranged m) where
    -- what is locked for m is locked for s
    free_there : (at : List ℕ) → touches_locked at m.state ≡ false → touches_locked at s ≡ false
    free_there [] e = refl
    free_there (a ∷ at) e = let z = touched_both (a ∷ []) at m.state e in λ i. (sym (q.range a) ∙ one_free a m.state z.0) i || free_there at z.1 i

    module _ (c w : ℕ) (free : locked_access c w m.state ≡ false) where
      abbrev u : ℕ
      u = unit c w (Ra w m) (Rb w m)

      both_free : (touches_locked (touched_by (result_field c) u) s ≡ false) × (touches_locked (touched_by (store_field c) u) s ≡ false)
      unfolding locked_access
      both_free = touched_both (touched_by (result_field c) u) (touched_by (store_field c) u) s (free_there (touched_by (result_field c) u ++ touched_by (store_field c) u) free)

      stores : stored c w (Ra w m) (Rb w m) u (with_over m) ≡ with_over (stored c w (Ra w m) (Rb w m) u m)
      unfolding stored stored_data
      stores = by_port (writes_port c)
        where
          by_port : (t : Bool)
              → pick t (put_o (N8 w) (Ra w m) (with_over m)) (put_d (stored_data c (Rb w m) u (over s Z m.D)) (with_over m))
              ≡ with_over (pick t (put_o (N8 w) (Ra w m) m) (put_d (stored_data c (Rb w m) u m.D) m))
          by_port true = refl
          by_port false = ap (λ M. put_d M m) (sym (stored_same (store_field c) (Rb w m) u m.D q.long both_free.1))

      performs : performed c w (with_over m) ≡ with_over (performed c w m)
      unfolding performed result_of
      performs =
          let v : result_of c w u (PC m) (over s Z m.D) m.I ≡ result_of c w u (PC m) m.D m.I = result_same (result_field c) w u (PC m) m.D m.I both_free.0 in
          λ i. on_state (λ t. written c w (v i) (put_pc (next c w (Ra w m) (PC m)) (count t))) (on_inputs (inputs_after c w) (stores i))

    controls : (c w : ℕ) → control_step c w (with_over m) ≡ map_next with_over (control_step c w m)
    unfolding control_step interrupted
    controls c w = by_tests (by_interrupt c) (interrupt_assigned c w) (assigned c w) (zero_divisor c w (Rb w m)) (locked_access c w m.state) refl
      where
        by_tests : (b i t z l : Bool) → locked_access c w m.state ≡ l
            → pick b (pick i (to (interrupted c w (with_over m))) (cannot 1)) (pick t (pick z (cannot 3) (pick l (cannot 4) (to (performed c w (with_over m))))) (cannot 1))
            ≡ map_next with_over (pick b (pick i (to (interrupted c w m)) (cannot 1)) (pick t (pick z (cannot 3) (pick l (cannot 4) (to (performed c w m)))) (cannot 1)))
        by_tests true true t z l e = refl
        by_tests true false t z l e = refl
        by_tests false i true true l e = refl
        by_tests false i true false true e = refl
        by_tests false i true false false e = ap to (performs c w e)
        by_tests false i false z l e = refl

    -- ---- The fetch

    fetches : fetch_locked m.state ≡ false → fetched (with_over m) ≡ fetched m
    unfolding fetched
    fetches e = by_board (is_single m.state) e
      where
        by_board : (t : Bool) → (t && touches_locked (bytes_at (PC m)) m.state) ≡ false → word_at (pick t (over s Z m.D) m.P) (PC m) ≡ word_at (pick t m.D m.P) (PC m)
        by_board true e = word_same m.D (PC m) (free_there (bytes_at (PC m)) e)
        by_board false e = refl

    steps_alike : by_rules.steps (with_over m) ≡ map_next with_over (by_rules.steps m)
    steps_alike = subst (λ v. v.steps (with_over m) ≡ map_next with_over (v.steps m)) same_stepper (by_line (takes_line m.state) (fetch_locked m.state) refl)
      where
        by_line : (t l : Bool) → fetch_locked m.state ≡ l
            → pick t (taking (with_over m)) (pick l (cannot 4) (control_step (control_in table (fetched (with_over m))) (fetched (with_over m)) (with_over m)))
            ≡ map_next with_over (pick t (taking m) (pick l (cannot 4) (control_step (control_in table (fetched m)) (fetched m) m)))
        by_line true l e = refl
        by_line false true e = refl
        by_line false false e =
            ap (λ w. control_step (control_in table w) w (with_over m)) (fetches e) ∙ controls (control_in table (fetched m)) (fetched m)

    -- ---- What is seen of a step that is made

    module _ (after : Machine) (steps : step m ≡ to after) where
      -- where it takes no line, its fetch touches no locked byte, and it is what the word does
      made : takes_line m.state ≡ false → (fetch_locked m.state ≡ false) × (by_rule (fetched m) m ≡ to after)
      unfolding step
      made t = by_fetch (fetch_locked m.state) (sym (ap (λ t. pick t (taking m) (pick (fetch_locked m.state) (cannot 4) (by_rule (fetched m) m))) t) ∙ steps)
        where
          by_fetch : (l : Bool) → pick l (cannot 4) (by_rule (fetched m) m) ≡ to after → (l ≡ false) × (by_rule (fetched m) m ≡ to after)
          by_fetch true e = clash (cc)
          by_fetch false e = (refl, e)

      same_word : takes_line m.state ≡ false → fetched (with_over m) ≡ fetched m
      same_word t = fetches (made t).0

      -- what a store overwrites is not locked
      overwritten_same : (w op : ℕ) → step_by (rule_in_row (get_or rule_rows op no_rule) (e_of w) (f_of w)) w m ≡ to after
          → get_or (overwritten_by w (with_over m)) op nothing ≡ get_or (overwritten_by w m) op nothing
      overwritten_same w zero e = refl
      overwritten_same w (suc zero) e = refl
      overwritten_same w (suc (suc zero)) e = refl
      overwritten_same w (suc (suc (suc zero))) e = refl
      overwritten_same w (suc (suc (suc (suc zero)))) e =
          ap (data_word (A' w m)) (word_same m.D (A' w m) (free_there (bytes_at (A' w m)) (passed_lock (touches_locked (bytes_at (A' w m)) m.state) _ e)))
      overwritten_same w (suc (suc (suc (suc (suc zero))))) e = refl
      overwritten_same w (suc (suc (suc (suc (suc (suc zero)))))) e =
          ap (data_byte (A w m)) (over_free s Z m.D (A w m) (one_free (A w m) s (free_there (A w m ∷ []) (passed_lock (touches_locked (A w m ∷ []) m.state) _ e))))
      overwritten_same w (suc (suc (suc (suc (suc (suc (suc op))))))) e = refl

      same_entry : entry_of (with_over m) ≡ entry_of m
      unfolding entry_of overwritten choice
      same_entry = by_line (takes_line m.state) refl
        where
          by_line : (t : Bool) → takes_line m.state ≡ t
              → entry_with (PC m) (pick t (by_taking m.state) (overwritten (fetched (with_over m)) (with_over m))) ≡ entry_with (PC m) (pick t (by_taking m.state) (overwritten (fetched m) m))
          by_line true t = refl
          by_line false t =
              ap (entry_with (PC m))
              (ap (λ w. overwritten w (with_over m)) (same_word t) ∙ overwritten_same (fetched m) (opcode (fetched m)) (made t).1)

      seen : Seen with_over m
      seen = seen_by with_over m refl same_word same_entry

      same_place : (full : ℕ) → no_place_at by_rules full (with_over m) ≡ no_place_at by_rules full m
      unfolding no_place_at
      same_place full = by_line (takes_line m.state) refl
        where
          by_line : (t : Bool) → takes_line m.state ≡ t
              → ((not t && is_out (fetched (with_over m))) && leb full (length m.L)) ≡ ((not t && is_out (fetched m)) && leb full (length m.L))
          by_line true t = refl
          by_line false t = ap (λ w. is_out w && leb full (length m.L)) (same_word t)

      ranged : Ranged after
      ranged =
          let u = lawful_rules.leaves m after steps in
          record {
            range = λ a. (λ i. not (eqb (u i).2 0) && leb (u i).3 a && leb a (u i).4) ∙ q.range a;
            long = ap (λ k. k.1) (local_rules.keeps m after steps) ∙ q.long;
          }

  -- a run goes alike on both
  pub maps : Maps by_rules with_over (λ full. full) Ranged
  maps =
      record {
        steps = steps_alike;
        places = λ full m after e q. same_place m q after e full;
        seen = λ m after e q. seen m q after e;
        keeps = λ m after e q. ranged m q after e;
      }
