-- The loop looks for the last byte that is not zero and not locked (`Narrowed`).
use Prim.Native.Nat.{ℕ}
use mathlib.Core.List.{List}
use mathlib.Core.Path.{◌≡◌, sym, ap, ◌∙◌}
use native.Mathlib.Omega.{arith}
use lib.ListN.{length, get_or}
use Rattle.machine.specs.declared.State.{State}
use Rattle.save.specs.Saved.{kept, bytes_kept, unlocked}
use Rattle.save.proofs.Unlocked.{unlocked_length, unlocked_at}
use Rattle.save.proofs.Kept.{narrow_one, narrow_found, narrow_none}
use Rattle.save.proofs.unlocked_kept.Goals as goal

-- of as many bytes as the memory has
whole : (s : State) (D : List ℕ) → kept (λ k. get_or (unlocked s D) k 0) (length D) ≡ bytes_kept (unlocked s D)
whole s D = ap (kept (λ k. get_or (unlocked s D) k 0)) (sym (unlocked_length s D))

pub returns-then-unlocked_byte-ne0 : goal.returns-then-unlocked_byte-ne0
returns-then-unlocked_byte-ne0 c =
    let a = c.args in
    narrow_found c.loop-at.invariant (omega arith) (λ e. c.if-unlocked_byte-ne0.true (c.unlocked_byte.ensures ∙ sym (unlocked_at a.state a.memory.now _) ∙ e))
    ∙ whole a.state a.memory.now

pub loop-at-preserved : goal.loop-at-preserved
loop-at-preserved c =
    let a = c.args in
    narrow_one c.loop-at.invariant (omega arith) (unlocked_at a.state a.memory.now _ ∙ sym c.unlocked_byte.ensures ∙ c.if-unlocked_byte-ne0.false)

pub returns : goal.returns
returns c = let a = c.args in narrow_none c.loop-at.invariant (omega arith) ∙ whole a.state a.memory.now
