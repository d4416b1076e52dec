-- A read of a port keeps the number of inputs.
-- Assumes nothing.
use mathlib.Core.Path.{◌≡◌, refl}
use mathlib.Core.List.{List}
use Prim.Native.Nat.{ℕ}
use lib.Dec.{eqb}
use lib.ListN.{length, length-set}
use Rattle.word.proofs.Tests.{either}
use Rattle.machine.specs.Machine.{read_from}

pub read_length : (p : ℕ) (I : List ℕ) → length (read_from p I) ≡ length I
read_length p I = either (λ J. length J ≡ length I) (eqb p 1) (simp length-set) refl
