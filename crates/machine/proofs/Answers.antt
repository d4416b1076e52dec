-- What holds of an answer as it was made holds of the one handed back.
-- Assumes nothing.
use mathlib.Core.Path.{◌≡◌, sym, subst}
use mathlib.Core.Bool.{Bool}
use mathlib.Core.List.{List}
use Prim.Native.Nat.{ℕ}
use Rattle.std.specs.Prelude.{Result}
use Rattle.machine.specs.declared.State.{State}
use Rattle.machine.specs.declared.Stop.{Stop}
use Rattle.machine.specs.Machine.{Machine}
use Rattle.machine.specs.Step.{Next}
use Rattle.machine.specs.Held.{Held, held, StepMeets, reason_of, state_left}

-- a step from h with the answer r leaves this data, these inputs and outputs, and this log with k entries
abbrev pub Leaves : (Machine → Next) → Bool → Held → Result State Stop → List ℕ → List ℕ → List ℕ → List ℕ → ℕ → Type 0
Leaves next writes h r D I O log k = StepMeets next writes h (reason_of r) (held (state_left h.state r) D I O log k)

pub answered : {next : Machine → Next} {writes : Bool} {h : Held} {D I O log : List ℕ} {k : ℕ} (r x : Result State Stop) → r ≡ x
    → Leaves next writes h x D I O log k → Leaves next writes h r D I O log k
answered {next} {writes} {h} {D} {I} {O} {log} {k} r x e m = subst (λ y. Leaves next writes h y D I O log k) (sym e) m
