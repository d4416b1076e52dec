-- Steps taken back from two machines that differ only in locked bytes: what is put back is the same in both. And the range stays.
-- Assumes nothing.
use mathlib.Core.Path.{◌≡◌, refl, sym, ap, ◌∙◌}
use mathlib.Core.List.{List, [], ◌∷◌}
use Prim.Native.Nat.{ℕ, zero, suc, ◌-◌}
use native.Mathlib.Omega.{arith}
use lib.ListN.{length, get_or, set, length-set}
use Rattle.refusal.specs.Refusals.{Verdict, accepted, refused}
use Rattle.machine.specs.declared.State.{State}
use Rattle.machine.specs.Machine.{Machine, put_pc, put_n, on_state, put_d, put_word, put_byte}
use Rattle.journal.specs.Journal.{Overwritten, nothing, register, data_word, data_byte, output_word, key_read, enable_flag, line_taken, pc_in, overwritten_in, put_back, undo}
use Rattle.back.specs.Backs.{undone, BackGiven, back_verdict, machine_given, back_left_by, back_left}
use Rattle.claims.specs.Saved.{range_of}
use Rattle.claims_isolation.specs.Locked.{Differ}

-- ---- What is put back in data memory

abbrev pub put_in : Overwritten → List ℕ → List ℕ
put_in nothing D = D
put_in (register k v) D = D
put_in (data_word k v) D = put_word k v D
put_in (data_byte k v) D = put_byte k v D
put_in (output_word k v) D = D
put_in (key_read k v s) D = D
put_in (enable_flag v) D = D
put_in (line_taken k e j v) D = D

-- a store to both
set_both : (D E : List ℕ) (k v j : ℕ) → length D ≡ length E → get_or D j 0 ≡ get_or E j 0 → get_or (set D k v) j 0 ≡ get_or (set E k v) j 0
set_both [] [] k v j l e = refl
set_both [] (y ∷ ys) k v j l e = absurd (omega arith)
set_both (x ∷ xs) [] k v j l e = absurd (omega arith)
set_both (x ∷ xs) (y ∷ ys) zero v zero l e = refl
set_both (x ∷ xs) (y ∷ ys) zero v (suc j) l e = e
set_both (x ∷ xs) (y ∷ ys) (suc k) v zero l e = e
set_both (x ∷ xs) (y ∷ ys) (suc k) v (suc j) l e = set_both xs ys k v j (omega arith) e

module _ (s : State) where
  set_differs : {D E : List ℕ} (k v : ℕ) → Differ s D E → Differ s (set D k v) (set E k v)
  set_differs {D} {E} k v d =
      record { long = length-set D k v ∙ d.long ∙ sym (length-set E k v); same = λ j e. set_both D E k v j d.long (d.same j e) }

  put_differs : (o : Overwritten) {D E : List ℕ} → Differ s D E → Differ s (put_in o D) (put_in o E)
  put_differs nothing d = d
  put_differs (register k v) d = d
  put_differs (data_word k v) d = set_differs _ _ (set_differs _ _ d)
  put_differs (data_byte k v) d = set_differs _ _ d
  put_differs (output_word k v) d = d
  put_differs (key_read k v s) d = d
  put_differs (enable_flag v) d = d
  put_differs (line_taken k e j v) d = d

  -- ---- A step taken back

  pub undo_memory : (x : ℕ) (m : Machine) → (undo x m).D ≡ put_in (overwritten_in x) m.D
  unfolding undo
  undo_memory x m = go (overwritten_in x)
    where
      go : (o : Overwritten) → (on_state (λ s. put_pc (pc_in x) (put_n (s.n - 1) s)) (put_back o m)).D ≡ put_in o m.D
      go nothing = refl
      go (register k v) = refl
      go (data_word k v) = refl
      go (data_byte k v) = refl
      go (output_word k v) = refl
      go (key_read k v s) = refl
      go (enable_flag v) = refl
      go (line_taken k e j v) = refl

  undo_other : (x : ℕ) (E : List ℕ) (m : Machine) → undo x (put_d E m) ≡ put_d (put_in (overwritten_in x) E) (undo x m)
  unfolding undo
  undo_other x E m = ap (on_state (λ s. put_pc (pc_in x) (put_n (s.n - 1) s))) (go (overwritten_in x))
    where
      go : (o : Overwritten) → put_back o (put_d E m) ≡ put_d (put_in o E) (put_back o m)
      go nothing = refl
      go (register k v) = refl
      go (data_word k v) = refl
      go (data_byte k v) = refl
      go (output_word k v) = refl
      go (key_read k v s) = refl
      go (enable_flag v) = refl
      go (line_taken k e j v) = refl

  -- k of them
  pub record Back (k count : ℕ) (journal : List ℕ) (m : Machine) (E : List ℕ) : Type 0 where
    pub other : List ℕ
    pub is : undone k count journal (put_d E m) ≡ put_d other (undone k count journal m)
    pub differs : Differ s (undone k count journal m).D other

  pub goes_back : (k count : ℕ) (journal : List ℕ) (m : Machine) (E : List ℕ) → Differ s m.D E → Back k count journal m E
  unfolding undone
  goes_back zero count journal m E d = record { other = E; is = refl; differs = d }
  goes_back (suc k) count journal m E d =
      let x = get_or journal (count - 1) 0 in
      let F = put_in (overwritten_in x) E in
      let both = put_differs (overwritten_in x) d in
      let z = goes_back k (count - 1) journal (undo x m) F (record { long = ap length (undo_memory x m) ∙ both.long; same = λ j e. ap (λ M. get_or M j 0) (undo_memory x m) ∙ both.same j e }) in
      record { other = z.other; is = ap (undone k (count - 1) journal) (undo_other x E m) ∙ z.is; differs = z.differs }

-- ---- The range stays

undo_range : (x : ℕ) (m : Machine) → range_of (undo x m).state ≡ range_of m.state
unfolding undo
undo_range x m = go (overwritten_in x)
  where
    go : (o : Overwritten) → range_of (on_state (λ s. put_pc (pc_in x) (put_n (s.n - 1) s)) (put_back o m)).state ≡ range_of m.state
    go nothing = refl
    go (register k v) = refl
    go (data_word k v) = refl
    go (data_byte k v) = refl
    go (output_word k v) = refl
    go (key_read k v s) = refl
    go (enable_flag v) = refl
    go (line_taken k e j v) = refl

pub undone_range : (k count : ℕ) (journal : List ℕ) (m : Machine) → range_of (undone k count journal m).state ≡ range_of m.state
unfolding undone
undone_range zero count journal m = refl
undone_range (suc k) count journal m =
    let x = get_or journal (count - 1) 0 in undone_range k (count - 1) journal (undo x m) ∙ undo_range x m

pub back_range : (g : BackGiven) → range_of (back_left g).state ≡ range_of g.state
unfolding back_left
back_range g = go (back_verdict g)
  where
    go : (x : Verdict) → range_of (back_left_by x g).state ≡ range_of g.state
    go accepted = undone_range g.k g.state.journaled g.journal (machine_given g)
    go (refused k) = refl
