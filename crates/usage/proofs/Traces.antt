-- The counts and the ticks of two traces, one after the other, add up.
-- Assumes nothing.
use mathlib.Core.Path.{◌≡◌, sym, ap, ◌∙◌}
use mathlib.Core.List.{List, [], ◌∷◌, ◌++◌}
use Prim.Native.Nat.{◌+◌}
use native.Mathlib.Omega.{arith}
use Rattle.machine.specs.Machine.{Machine}
use Rattle.usage.specs.Usage.{step_counted, usage_of, ticks_of, plus_usage}
use Rattle.usage.proofs.Sums.{plus_step, step_plus, trace_sized, unused_plus}

pub usage_append : (ms ns : List Machine) → usage_of (ms ++ ns) ≡ plus_usage (usage_of ms) (usage_of ns)
unfolding usage_of
usage_append [] ns = sym (unused_plus (trace_sized ns))
usage_append (m ∷ ms) ns =
    ap (step_counted m) (usage_append ms ns) ∙ sym (plus_step m (usage_of ms) (usage_of ns)) ∙ sym (step_plus m (usage_of ms) (usage_of ns))

pub ticks_append : (ms ns : List Machine) → ticks_of (ms ++ ns) ≡ ticks_of ms + ticks_of ns
unfolding ticks_of
ticks_append [] ns = omega arith
ticks_append (m ∷ ms) ns = omega (arith, ticks_append ms ns)
