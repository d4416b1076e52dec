-- An entry put into the log after the first k places.
-- Assumes nothing.
use mathlib.Core.Path.{◌≡◌}
use mathlib.Core.List.{List, [], ◌∷◌, ◌++◌}
use Prim.Native.Nat.{ℕ, ◌+◌, ◌<◌}
use native.Mathlib.Numerals.{add-one}
use native.Mathlib.Omega.{arith}
use lib.ListN.{length, set, take, drop}
use lib.Seq.{take-suc-set, drop-set-lt}

pub put_take : (k e : ℕ) (log : List ℕ) → k < length log → take (k + 1) (set log k e) ≡ take k log ++ (e ∷ [])
put_take k e log h = rw (add-one k) (take-suc-set log k e h)

pub put_drop : (k e : ℕ) (log : List ℕ) → k < length log → drop (k + 1) (set log k e) ≡ drop (k + 1) log
put_drop k e log h = drop-set-lt (k + 1) log k e (omega arith)
