-- The control table agrees with the plain machine's rows: one computed test over its 32 entries, and a lemma.
-- Assumes nothing.
use mathlib.Core.Path.{◌≡◌, refl, sym, ap, ◌∙◌}
use mathlib.Core.Bool.{Bool, true, false, ◌&&◌}
use mathlib.Core.List.{List, [], ◌∷◌, map}
use Prim.Native.Nat.{ℕ, zero, suc, ◌+◌, ◌*◌, ◌/◌, ◌%◌, ◌<◌}
use native.Mathlib.Nat.{add-zero, zero-add, add-suc, suc-add, le_of_suc-le-suc, not-suc-le-zero}
use native.Mathlib.Omega.{arith}
use lib.Dec.{T, eqb}
use lib.ListN.{get_or, length, drop, get_or-map}
use Rattle.word.specs.Fields.{opcode, e_of, f_of, N8}
use Rattle.word.specs.Word.{pick, add, SE}
use Rattle.word.proofs.Computed.{all, all_at}
use Rattle.word.proofs.Signed.{SE-is}
use Rattle.word.proofs.Tests.{is_true}
use Rattle.machine.specs.Machine.{Machine, touches_locked, R}
use Rattle.machine.specs.Step.{PC, Ra, Rb, d11_9, write, jump, among, RuleRow, by_f, by_f_dividing, one, one_at, by_e, no_rule, rule_rows, rule, division, unassigned, rule_in_row, choice, Next, cannot, doing, step_by, step_with, step, compute, compare, addi, ld, st, ldb, stb, jalr, bz, bnz, movi, movhi, input, output, multiply_divide, interrupt}
use Rattle.machine.specs.Run.{is_out, fetches_a, by_rules}
use Rattle.control.specs.Control.{interrupted, interrupt_assigned, second, unit, result_of, inputs_after, next, stored_data, stored, written, performed, assigned, zero_divisor, locked_access, writes_port, control_step, table, control_in, control_of, by_the_table}

-- ---- A table of two columns: what is done, and whether a port is written

record Columns : Type 0 where
  does : ℕ → Machine → Next
  port : Bool

through_control : ℕ → Columns
through_control c = record { does = control_step c; port = writes_port c }

-- what a row says of the words with this e, the choice by f made last
abbrev step_row : RuleRow → ℕ → ℕ → Machine → Next
step_row (by_f fs r) e w m = pick (among (f_of w) fs) (doing r w m) (cannot 1)
step_row (by_f_dividing fs gs r) e w m = pick (among (f_of w) fs) (pick (among (f_of w) gs && eqb (Rb w m) 0) (cannot 3) (doing r w m)) (cannot 1)
step_row (one r) e w m = doing r w m
step_row (one_at touched r) e w m = pick (touches_locked (touched w m) m.state) (cannot 4) (doing r w m)
step_row (by_e r₀ r₁) e w m = doing (pick (eqb e 0) r₀ r₁) w m
step_row no_rule e w m = cannot 1

row_is : (x : RuleRow) (e w : ℕ) (m : Machine) → step_row x e w m ≡ step_by (rule_in_row x e (f_of w)) w m
row_is (by_f fs r) e w m = by_test (among (f_of w) fs)
  where
    by_test : (t : Bool) → pick t (doing r w m) (cannot 1) ≡ step_by (pick t (rule r) unassigned) w m
    by_test true = refl
    by_test false = refl
row_is (by_f_dividing fs gs r) e w m = by_tests (among (f_of w) fs) (among (f_of w) gs)
  where
    by_tests : (t s : Bool) → pick t (pick (s && eqb (Rb w m) 0) (cannot 3) (doing r w m)) (cannot 1) ≡ step_by (pick t (pick s (division r) (rule r)) unassigned) w m
    by_tests true true = refl
    by_tests true false = refl
    by_tests false s = refl
row_is (one r) e w m = refl
row_is (one_at touched r) e w m = refl
row_is (by_e r₀ r₁) e w m = refl
row_is no_rule e w m = refl

-- opcode 0 takes every f, so the table does not look at it
any_f : (w : ℕ) → among (f_of w) (0 ∷ 1 ∷ 2 ∷ 3 ∷ 4 ∷ 5 ∷ 6 ∷ 7 ∷ []) ≡ true
unfolding all
any_f w = is_true _ (all_at 8 (λ f. among f (0 ∷ 1 ∷ 2 ∷ 3 ∷ 4 ∷ 5 ∷ 6 ∷ 7 ∷ [])) all_of_them (f_of w) (omega arith))
  where
    all_of_them : T (all 8 (λ f. among f (0 ∷ 1 ∷ 2 ∷ 3 ∷ 4 ∷ 5 ∷ 6 ∷ 7 ∷ [])))
    all_of_them = tt

abbrev row_at : ℕ → RuleRow
row_at op = get_or (one compute ∷ drop 1 rule_rows) op no_rule

row_at_is : (op e w : ℕ) (m : Machine) → step_row (row_at op) e w m ≡ step_row (get_or rule_rows op no_rule) e w m
row_at_is zero e w m = rw (any_f w)
row_at_is (suc op) e w m = refl

by_row : ℕ → ℕ → Columns
by_row op e = record { does = step_row (row_at op) e; port = eqb op 10 && eqb e 1 }

-- ---- The rules that are not the control word's by computation

branch : (t : Bool) (x : ℕ) (m : Machine) → pick t (jump x m) m ≡ jump (pick t x (PC m)) m
branch true x m = refl
branch false x m = refl

stay : (t : Bool) (x : ℕ) (m : Machine) → pick t m (jump x m) ≡ jump (pick t (PC m) x) m
stay true x m = refl
stay false x m = refl

bz_is : bz ≡ (λ w m. jump (pick (eqb (Ra w m) 0) (add (PC m) (SE 8 (N8 w) * 2)) (PC m)) m)
unfolding bz
bz_is = λ i w m. branch (eqb (Ra w m) 0) (add (PC m) (SE 8 (N8 w) * 2)) m i

bnz_is : bnz ≡ (λ w m. jump (pick (eqb (Ra w m) 0) (PC m) (add (PC m) (SE 8 (N8 w) * 2))) m)
unfolding bnz
bnz_is = λ i w m. stay (eqb (Ra w m) 0) (add (PC m) (SE 8 (N8 w) * 2)) m i

-- N8 is the low byte of SE(N8)
low_byte : (w : ℕ) → N8 w ≡ SE 8 (N8 w) % 256
low_byte w = let e = SE-is 8 (N8 w) (omega arith) (omega arith) (omega arith) in omega (arith, e)

movhi_is : movhi ≡ (λ w m. write (d11_9 w) (R m.state (d11_9 w) % 256 + SE 8 (N8 w) % 256 * 256) m)
unfolding movhi
movhi_is = λ i w m. write (d11_9 w) (R m.state (d11_9 w) % 256 + low_byte w i * 256) m

-- ---- The test: antt computes both lists, and compares what stands in them, functions of a word and a machine among it

-- what g says at each place of the table, from place k on
abbrev from : {A : Type 0} → (ℕ → ℕ → A) → ℕ → List ℕ → List A
from g k [] = []
from g k (x ∷ xs) = g (k / 2) (k % 2) ∷ from g (suc k) xs

test : map through_control table ≡ from by_row 0 table
unfolding through_control by_row compute compare addi ld st ldb stb jalr movi input output multiply_divide interrupt control_step interrupted interrupt_assigned performed assigned zero_divisor locked_access second unit result_of inputs_after next stored_data stored written
test = rw (bz_is, bnz_is, movhi_is)

-- ---- The lemma: the test, read at the place of a word

from_at : {A : Type 0} (g : ℕ → ℕ → A) (i : ℕ) (xs : List ℕ) (k : ℕ) (d : A) → k < length xs → get_or (from g i xs) k d ≡ g ((i + k) / 2) ((i + k) % 2)
from_at g i [] k d h = absurd (not-suc-le-zero h)
from_at g i (x ∷ xs) zero d h = rw add-zero
from_at g i (x ∷ xs) (suc k) d h = from_at g (suc i) xs k d (le_of_suc-le-suc h) ∙ rw (suc-add, add-suc)

at : (w : ℕ) → through_control (control_of w) ≡ by_row (opcode w) (e_of w)
unfolding control_in
at w =
    let k = opcode w * 2 + e_of w in
    let half : k / 2 ≡ opcode w = omega arith in
    let odd : k % 2 ≡ e_of w = omega arith in
    sym (get_or-map through_control table k 0)
    ∙ ap (λ (l : List Columns). get_or l k (through_control 0)) test
    ∙ from_at by_row 0 table k (through_control 0) (omega arith)
    ∙ rw (zero-add, half, odd)

pub agreement : (w : ℕ) (m : Machine) → control_step (control_of w) w m ≡ step_by (choice w) w m
unfolding through_control by_row choice
agreement w m =
    ap (λ (x : Columns). x.does w m) (at w)
    ∙ row_at_is (opcode w) (e_of w) w m
    ∙ row_is (get_or rule_rows (opcode w) no_rule) (e_of w) w m

pub agreement_port : (w : ℕ) → writes_port (control_of w) ≡ is_out w
unfolding through_control by_row
agreement_port w = ap (λ (x : Columns). x.port) (at w)

-- by the table is by the rules
pub same_stepper : by_the_table ≡ by_rules
unfolding step
same_stepper =
    λ i. record { steps = step_with (λ w m. agreement w m i); port_write = fetches_a (λ w. agreement_port w i) }
