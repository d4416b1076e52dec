-- Each element is chosen by its own index.
use mathlib.Core.Path.{ap}
use mathlib.Core.List.{List}
use Prim.Native.Nat.{ℕ, ◌%◌}
use native.Mathlib.Omega.{arith}
use borrow.Author.Rules.{rules}
use Rattle.machine.specs.Machine.{put_registers}
use Rattle.machine.proofs.Registers.{all_chosen}
use Rattle.machine.proofs.State.with_register.Goals as goal

pub returns : goal.returns
returns c =
    let a = c.args in
    ap (λ (r : List ℕ). put_registers r a.self)
    (all_chosen (a.k % 8) a.v a.self.r _ _ _ _ _ _ _ _
    c.choose.ensures
    c.choose-2.ensures
    c.choose-3.ensures
    c.choose-4.ensures
    c.choose-5.ensures
    c.choose-6.ensures
    c.choose-7.ensures
    c.choose-8.ensures
    (search rules)
    (omega arith))
