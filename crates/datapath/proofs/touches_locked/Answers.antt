-- By the tests.
use mathlib.Core.Path.{◌≡◌, sym, ◌∙◌}
use mathlib.Core.Bool.{Bool, not, ◌&&◌}
use Rattle.control.proofs.Locks.{lock_stop}
use Rattle.datapath.proofs.touches_locked.Goals as goal

-- the four tests as they were made
alike : {b b' a a' z z' l l' : Bool} → b' ≡ b → a' ≡ a → z' ≡ z → l' ≡ l → (not b && a && not z && l) ≡ (not b' && a' && not z' && l')
alike eb ea ez el = λ i. not (sym eb i) && sym ea i && not (sym ez i) && sym el i

pub returns : goal.returns
returns c =
    let a = c.args in
    λ m es. lock_stop a.control a.w a.state m es ∙ alike c.by_interrupt.ensures c.is_assigned.ensures c.divides_by_zero.ensures c.is_locked_access.ensures
