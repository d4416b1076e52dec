-- The tokens from each position on are those from the first.
use mathlib.Core.Path.{◌≡◌}
use Rattle.token.specs.Scan.{tokens_at}
use Rattle.token.proofs.after_spaces.Given as goal

abbrev pub invariant-loop-i : goal.invariant-loop-i
invariant-loop-i l = tokens_at l.text l.at ≡ tokens_at l.text l.i
