-- Bytes stored at a place of a memory.
-- Assumes nothing.
use Prim.Native.Nat.{ℕ, ◌+◌, ◌-◌}
use mathlib.Core.Path.{◌≡◌}
use mathlib.Core.List.{List, ◌++◌, append_assoc}
use native.Mathlib.Omega.{arith}
use lib.ListN.{take, drop}
use lib.Seq.{drop-drop}

pub stored_at : (memory source : List ℕ) (at count : ℕ) {new : List ℕ} → new ≡ take count source
    → take at memory ++ (new ++ drop (at + count - at) (drop at memory)) ≡ take at memory ++ take count source ++ drop (at + count) memory
stored_at memory source at count e = let n : at + (at + count - at) ≡ at + count = omega arith in rw (e, drop-drop, n, append_assoc)
