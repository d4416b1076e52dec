-- Place by place.
use Rattle.places.proofs.Folding.{Scanned}
use Rattle.places.proofs.is_empty.Given as goal

abbrev pub invariant-loop-place : goal.invariant-loop-place
invariant-loop-place l = Scanned l.counts l.from l.empty l.place
