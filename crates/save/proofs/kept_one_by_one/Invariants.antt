-- The loop looks for the last byte that is not zero (`Narrowed`).
use lib.ListN.{length, get_or}
use Rattle.save.proofs.Kept.{Narrowed}
use Rattle.save.proofs.kept_one_by_one.Given as goal

abbrev pub invariant-loop-at : goal.invariant-loop-at
invariant-loop-at l = Narrowed (λ k. get_or l.bytes k 0) (length l.bytes) l.at
