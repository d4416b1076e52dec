-- For each number of the field, w shifted by 3 times the number begins with the destination's.
use mathlib.Core.Path.{◌≡◌, refl, ◌∙◌}
use mathlib.Core.List.{[], ◌∷◌}
use Prim.Native.Nat.{ℕ, zero, suc, ◌*◌, ◌/◌, ◌%◌, ◌^◌, ◌<◌}
use native.Mathlib.Nat.{div-one}
use native.Mathlib.Omega.{arith}
use lib.ListN.{get_or}
use Rattle.machine.specs.declared.State.{State}
use Rattle.machine.specs.Machine.{put_r}
use Rattle.machine.specs.Step.{d5_3, d8_6, d11_9}
use Rattle.control.specs.Control.{written}
use Rattle.datapath.proofs.fields.write_destination.Goals as goal

one_of_three : (k w v : ℕ) (s : State) → (k ≡ 0 → ⊥) → k < 4
    → put_r (w / 2 ^ (3 * k) % 8) v s ≡ get_or (s ∷ put_r (d5_3 w) v s ∷ put_r (d8_6 w) v s ∷ put_r (d11_9 w) v s ∷ []) k s
one_of_three zero w v s z h = absurd (z refl)
one_of_three (suc zero) w v s z h = refl
one_of_three (suc (suc zero)) w v s z h = refl
one_of_three (suc (suc (suc zero))) w v s z h = refl
one_of_three (suc (suc (suc (suc k)))) w v s z h = absurd (omega arith)

pub returns-then-k-eq0 : goal.returns-then-k-eq0
unfolding written
returns-then-k-eq0 c = rw (div-one, c.if-k-eq0.true)

pub returns-else-k-eq0 : goal.returns-else-k-eq0
unfolding written
returns-else-k-eq0 c = rw div-one (c.with_register.ensures ∙ one_of_three _ _ _ _ c.if-k-eq0.false (omega arith))
