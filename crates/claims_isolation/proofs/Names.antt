-- What an entry names is not locked where the step was made; and an entry put back leaves the bytes that it does not name.
-- Assumes nothing.
use mathlib.Core.Path.{◌≡◌, refl, sym, ap, ◌∙◌}
use mathlib.Core.Bool.{Bool, true, false}
use mathlib.Core.List.{List, [], ◌∷◌}
use Prim.Native.Nat.{ℕ, zero, suc, ◌-◌, ◌%◌, ◌<◌, ◌≤◌}
use native.Mathlib.Omega.{arith}
use lib.Dec.{eqb}
use lib.ListN.{length, get_or, drop}
use Rattle.word.specs.Fields.{opcode, e_of, f_of, N8}
use Rattle.word.specs.Word.{pick}
use Rattle.word.proofs.Tests.{clash}
use Rattle.machine.specs.declared.State.{State}
use Rattle.machine.specs.Machine.{Machine, R, is_locked, touches_locked, bytes_at, takes_line, fetch_locked}
use Rattle.machine.specs.Step.{PC, A, A', d5_3, d11_9, no_rule, rule_rows, rule_in_row, choice, fetched, cannot, to, step_by, taking, by_rule, step}
use Rattle.journal.specs.Journal.{Overwritten, nothing, register, data_word, data_byte, output_word, key_read, enable_flag, line_taken, by_taking, overwritten_by, overwritten, overwritten_at, entry_of, overwritten_in, undo}
use Rattle.journal.specs.Ranges.{InRange}
use Rattle.journal.proofs.Coding.{read_back}
use Rattle.journal.proofs.Steps.{overwritten_at_fits}
use Rattle.journal.proofs.Undone.{undo_in_range}
use Rattle.back.specs.Backs.{undone}
use Rattle.claims_isolation.specs.Kept.{named, NamesNone}
use Rattle.claims_isolation.proofs.Over.{over, over_set, over_keeps, differs_over}
use Rattle.claims_isolation.proofs.Steps.{one_free, passed_lock, word_stored}
use Rattle.claims_isolation.proofs.Backs.{put_in, undo_memory}

-- ---- What an entry names

-- by the opcode: a word or byte is overwritten by a rule that touches it, which was done
unlocked_names : (m next : Machine) (w op : ℕ) → step_by (rule_in_row (get_or rule_rows op no_rule) (e_of w) (f_of w)) w m ≡ to next
    → touches_locked (named (get_or (overwritten_by w m) op nothing)) m.state ≡ false
unlocked_names m next w zero e = refl
unlocked_names m next w (suc zero) e = refl
unlocked_names m next w (suc (suc zero)) e = refl
unlocked_names m next w (suc (suc (suc zero))) e = refl
unlocked_names m next w (suc (suc (suc (suc zero)))) e = passed_lock (touches_locked (bytes_at (A' w m)) m.state) _ e
unlocked_names m next w (suc (suc (suc (suc (suc zero))))) e = refl
unlocked_names m next w (suc (suc (suc (suc (suc (suc zero)))))) e = passed_lock (touches_locked (A w m ∷ []) m.state) _ e
unlocked_names m next w (suc (suc (suc (suc (suc (suc (suc op))))))) e = no_data op
  where
    no_data : (op : ℕ) → touches_locked (named (get_or (drop 7 (overwritten_by w m)) op nothing)) m.state ≡ false
    no_data zero = refl
    no_data (suc zero) = refl
    no_data (suc (suc zero)) = refl
    no_data (suc (suc (suc zero))) = either_way (eqb (e_of w) 0) (eqb (N8 w) 1)
      where
        either_way : (t u : Bool)
            → touches_locked (named (pick t (pick u (key_read (d11_9 w) (R m.state (d11_9 w)) (get_or m.I 0 0)) (register (d11_9 w) (R m.state (d11_9 w)))) (output_word (N8 w) (get_or m.O (N8 w) 0)))) m.state
            ≡ false
        either_way true true = refl
        either_way true false = refl
        either_way false u = refl
    no_data (suc (suc (suc (suc zero)))) = refl
    no_data (suc (suc (suc (suc (suc zero))))) = by_f (eqb (f_of w) 3)
      where
        by_f : (t : Bool) → touches_locked (named (pick t (register (d5_3 w) (R m.state (d5_3 w))) (enable_flag m.state.enabled))) m.state ≡ false
        by_f true = refl
        by_f false = refl
    no_data (suc (suc (suc (suc (suc (suc op)))))) = refl

pub names_none : (m next : Machine) → InRange m → step m ≡ to next → NamesNone m.state (entry_of m)
unfolding entry_of overwritten step choice
names_none m next r e =
    ap (λ o. touches_locked (named o) m.state) (read_back (PC m) (overwritten_at m) r.pc (overwritten_at_fits m r)).read
    ∙ by_tests (takes_line m.state) (fetch_locked m.state) e
  where
    by_tests : (t l : Bool) → pick t (taking m) (pick l (cannot 4) (by_rule (fetched m) m)) ≡ to next
        → touches_locked (named (pick t (by_taking m.state) (overwritten (fetched m) m))) m.state ≡ false
    by_tests true l e = refl
    by_tests false true e = clash (cc)
    by_tests false false e = unlocked_names m next (fetched m) (opcode (fetched m)) e

-- ---- What an entry put back leaves

module _ (s : State) where
  put_over : (Z : List ℕ) (o : Overwritten) (D : List ℕ) → length D ≡ 65536 → touches_locked (named o) s ≡ false
      → over s Z (put_in o D) ≡ put_in o (over s Z D)
  put_over Z nothing D l e = refl
  put_over Z (register k v) D l e = refl
  put_over Z (data_word k v) D l e = word_stored s Z D k v l e
  put_over Z (data_byte k v) D l e = over_set s Z D k (v % 256) (one_free k s e)
  put_over Z (output_word k v) D l e = refl
  put_over Z (key_read k v t) D l e = refl
  put_over Z (enable_flag v) D l e = refl
  put_over Z (line_taken k e j v) D l f = refl

  -- one that names no locked byte leaves those
  undo_keeps : (x : ℕ) (m : Machine) → InRange m → NamesNone s x → (a : ℕ) → is_locked a s ≡ true → get_or (undo x m).D a 0 ≡ get_or m.D a 0
  undo_keeps x m r f =
      let D = m.D in
      let o = overwritten_in x in
      let own = differs_over s D D (record { long = refl; same = λ k e. refl }) in
      let is = undo_memory s x m in
      over_keeps s D (undo x m).D ((undo_in_range x m r).memory.many ∙ sym r.memory.many)
      (is ∙ ap (put_in o) own ∙ sym (put_over D o D r.memory.many f) ∙ ap (over s D) (sym is))

  -- so do k of them
  pub undone_keeps : (xs : List ℕ) (k count : ℕ) (m : Machine) → k ≤ count → ((i : ℕ) → i < count → NamesNone s (get_or xs i 0)) → InRange m
      → (a : ℕ) → is_locked a s ≡ true → get_or (undone k count xs m).D a 0 ≡ get_or m.D a 0
  unfolding undone
  undone_keeps xs zero count m h f r a e = refl
  undone_keeps xs (suc k) count m h f r a e =
      let x = get_or xs (count - 1) 0 in
      undone_keeps xs k (count - 1) (undo x m) (omega arith) (λ i l. f i (omega arith)) (undo_in_range x m r) a e
      ∙ undo_keeps x m r (f (count - 1) (omega arith)) a e
