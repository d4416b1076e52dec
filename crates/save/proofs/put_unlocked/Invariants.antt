-- The loop copies byte after byte (`Copied`).
use Rattle.save.proofs.Unlocked.{Copied}
use Rattle.save.proofs.put_unlocked.Given as goal

abbrev pub invariant-loop-i : goal.invariant-loop-i
invariant-loop-i l = Copied l.initial.target l.at l.state l.memory l.count l.target l.i
