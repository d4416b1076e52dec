-- When the step of a word can't be made for a locked byte: by the bytes that the row of its opcode names.
-- Assumes nothing.
use mathlib.Core.Path.{◌≡◌, refl, sym, ap, ◌∙◌}
use mathlib.Core.Bool.{Bool, true, false}
use mathlib.Core.List.{List, [], ◌∷◌}
use Prim.Native.Nat.{ℕ, zero, suc, ◌-◌, ◌/◌, ◌<◌, ◌≤◌}
use native.Mathlib.Omega.{arith}
use lib.Dec.{eqb}
use lib.ListN.{get_or, drop}
use Rattle.word.specs.Fields.{opcode, e_of, f_of}
use Rattle.word.specs.Word.{pick}
use Rattle.word.proofs.Tables.{looked_up}
use Rattle.machine.specs.declared.State.{State}
use Rattle.machine.specs.Machine.{Machine, touches_locked, bytes_at}
use Rattle.machine.specs.Step.{Rb, A, A', Touched, RuleRow, by_f, by_f_dividing, one, one_at, by_e, no_rule, among, rule_rows, rule, division, unassigned, rule_in_row, choice, cannot, doing, step_by}
use Rattle.machine.specs.Held.{is_lock_stop, TestsLock}

-- the bytes that a row names
abbrev touched_in : RuleRow → Touched
touched_in (by_f fs r) w m = []
touched_in (by_f_dividing fs gs r) w m = []
touched_in (one r) w m = []
touched_in (one_at touched r) w m = touched w m
touched_in (by_e r₀ r₁) w m = []
touched_in no_rule w m = []

by_row : (x : RuleRow) (e w : ℕ) (m : Machine) → is_lock_stop (step_by (rule_in_row x e (f_of w)) w m) ≡ touches_locked (touched_in x w m) m.state
by_row (by_f fs r) e w m = by_test (among (f_of w) fs)
  where
    by_test : (t : Bool) → is_lock_stop (step_by (pick t (rule r) unassigned) w m) ≡ false
    by_test true = refl
    by_test false = refl
by_row (by_f_dividing fs gs r) e w m = by_tests (among (f_of w) fs) (among (f_of w) gs)
  where
    divided : (z : Bool) → is_lock_stop (pick z (cannot 3) (doing r w m)) ≡ false
    divided true = refl
    divided false = refl

    by_tests : (t s : Bool) → is_lock_stop (step_by (pick t (pick s (division r) (rule r)) unassigned) w m) ≡ false
    by_tests true true = divided (eqb (Rb w m) 0)
    by_tests true false = refl
    by_tests false s = refl
by_row (one r) e w m = refl
by_row (one_at touched r) e w m = by_test (touches_locked (touched w m) m.state)
  where
    by_test : (t : Bool) → is_lock_stop (pick t (cannot 4) (doing r w m)) ≡ t
    by_test true = refl
    by_test false = refl
by_row (by_e r₀ r₁) e w m = refl
by_row no_rule e w m = refl

abbrev row_at : ℕ → RuleRow
row_at op = get_or rule_rows op no_rule

-- what the step of w touches, the same bytes in each machine of the state s
pub tested : (w : ℕ) (s : State) (bytes : List ℕ) {t : Bool} → w < 65536 → ((m : Machine) → m.state ≡ s → touched_in (row_at (w / 4096)) w m ≡ bytes) → t ≡ touches_locked bytes s
    → TestsLock (step_by (choice w) w) s t
unfolding choice
tested w s bytes small same e m es =
    let o : opcode w ≡ w / 4096 = omega arith in
    by_row (row_at (opcode w)) (e_of w) w m
    ∙ ap (λ i. touches_locked (touched_in (row_at i) w m) m.state) o
    ∙ (λ i. touches_locked (same m es i) (es i))
    ∙ sym e

-- ---- The rows, by the opcodes as the code tells them apart

module _ (w : ℕ) (m : Machine) where
  pub below_3 : (op : ℕ) → op < 3 → touched_in (row_at op) w m ≡ []
  below_3 zero h = refl
  below_3 (suc zero) h = refl
  below_3 (suc (suc zero)) h = refl
  below_3 (suc (suc (suc k))) h = absurd (omega arith)

  -- LD and ST
  pub words : (op : ℕ) → 3 ≤ op → op < 5 → touched_in (row_at op) w m ≡ bytes_at (A' w m)
  words (suc (suc (suc zero))) l h = refl
  words (suc (suc (suc (suc zero)))) l h = refl
  words (suc (suc (suc (suc (suc k))))) l h = absurd (omega arith)
  words zero l h = absurd (omega arith)
  words (suc zero) l h = absurd (omega arith)
  words (suc (suc zero)) l h = absurd (omega arith)

  -- LDB and STB
  pub single_bytes : (op : ℕ) → 5 ≤ op → op < 7 → touched_in (row_at op) w m ≡ A w m ∷ []
  single_bytes (suc (suc (suc (suc (suc zero))))) l h = refl
  single_bytes (suc (suc (suc (suc (suc (suc zero)))))) l h = refl
  single_bytes (suc (suc (suc (suc (suc (suc (suc k))))))) l h = absurd (omega arith)
  single_bytes zero l h = absurd (omega arith)
  single_bytes (suc zero) l h = absurd (omega arith)
  single_bytes (suc (suc zero)) l h = absurd (omega arith)
  single_bytes (suc (suc (suc zero))) l h = absurd (omega arith)
  single_bytes (suc (suc (suc (suc zero)))) l h = absurd (omega arith)

  pub from_7 : (op : ℕ) → 7 ≤ op → touched_in (row_at op) w m ≡ []
  from_7 op l =
      let k : op ≡ suc (suc (suc (suc (suc (suc (suc (op - 7))))))) = omega arith in
      ap (λ i. touched_in (row_at i) w m) k
      ∙ looked_up (λ x. touched_in x w m ≡ []) (drop 7 rule_rows) (refl, (refl, (refl, (refl, (refl, (refl, (refl, (refl, (refl, tt))))))))) refl (op - 7)
