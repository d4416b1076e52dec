-- A store at k of n more is `raised` at k.
use mathlib.Core.Path.{sym}
use Rattle.usage.proofs.Raised.{raised_one}
use Rattle.usage.proofs.add.Goals as goal

pub returns : goal.returns
returns c = sym (raised_one _ _ _)
