-- The loop tests bytes (`Tested`).
use lib.ListN.{length, get_or}
use Rattle.save.proofs.Kept.{Tested}
use Rattle.save.proofs.all_zero.Given as goal

abbrev pub invariant-loop-byte : goal.invariant-loop-byte
invariant-loop-byte l = Tested (λ k. get_or l.bytes k 0) (length l.bytes) l.byte-index l.zero
