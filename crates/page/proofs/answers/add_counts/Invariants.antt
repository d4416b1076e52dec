-- The loop adds place by place (`Added`).
use Rattle.page.proofs.Sums.{Added}
use Rattle.page.proofs.answers.add_counts.Given as goal

abbrev pub invariant-loop-i : goal.invariant-loop-i
invariant-loop-i l = Added l.initial.counts l.more l.counts l.i
