-- The loop looks for the last byte that is not zero and not locked (`Narrowed`).
use lib.ListN.{length, get_or}
use Rattle.save.specs.Saved.{unlocked}
use Rattle.save.proofs.Kept.{Narrowed}
use Rattle.save.proofs.unlocked_kept.Given as goal

abbrev pub invariant-loop-at : goal.invariant-loop-at
invariant-loop-at l = Narrowed (λ k. get_or (unlocked l.state l.memory) k 0) (length l.memory) l.at
