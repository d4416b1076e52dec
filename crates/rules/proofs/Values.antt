-- What is written to a register, with an equation for each call of the code.
-- Assumes nothing.
use mathlib.Core.Path.{◌≡◌, ap, ◌∙◌}
use Prim.Native.Nat.{ℕ, ◌%◌}
use native.Mathlib.Omega.{arith}
use Rattle.word.specs.Fields.{f_of, N6, N8}
use Rattle.word.specs.Word.{add, SE}
use Rattle.machine.specs.declared.State.{State}
use Rattle.machine.specs.Machine.{put_r}
use Rattle.rules.specs.Parts.{ra_of, sum_of}

-- ---- The fields as the code reads them

pub f_is : (w : ℕ) → w % 8 ≡ f_of w
f_is w = omega arith

pub N8-is : (w : ℕ) → w % 256 ≡ N8 w
N8-is w = omega arith

-- ---- Ra+SE(N6), of Ra as it was read

pub sum_is : (w : ℕ) (s : State) {x v : ℕ} → v ≡ add x (SE 6 (N6 w)) → x ≡ ra_of w s → v ≡ sum_of w s
sum_is w s e ex = e ∙ ap (λ y. add y (SE 6 (N6 w))) ex

-- ---- A register becomes v, which is u

pub written : (d : ℕ) (next : State) {v u : ℕ} {t : State} → t ≡ put_r d v next → v ≡ u → t ≡ put_r d u next
written d next et e = et ∙ ap (λ x. put_r d x next) e
