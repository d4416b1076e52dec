-- The parts of a log entry that an `out` line prints are those that the step put there.
-- Assumes nothing.
use Prim.Native.Nat.{ℕ, ◌+◌, ◌*◌, ◌/◌, ◌%◌, ◌<◌}
use mathlib.Core.Path.{◌≡◌}
use native.Mathlib.Omega.{arith}

pub parts : (n port value : ℕ) → port < 256 → value < 65536
    → (let entry = n * 16777216 + port * 65536 + value in (entry / 16777216 ≡ n) × (entry / 65536 % 256 ≡ port) × (entry % 65536 ≡ value))
parts n port value h k = (omega arith, omega arith, omega arith)
