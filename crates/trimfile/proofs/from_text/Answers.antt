-- By the assembler's reply.
use mathlib.Core.Path.{ap}
use Rattle.std.specs.declared.result.Result.TheVariants.{Err}
use Rattle.assembler.specs.Passes.{shown_assembly}
use Rattle.trimfile.proofs.Replies.{left_is, by_assembly}
use Rattle.trimfile.proofs.from_text.Goals as goal

pub returns-in-Ok : goal.returns-in-Ok
returns-in-Ok c = by_assembly _ _ c.assemble.ensures (ap shown_assembly c.in-Ok.is) c.saved.ensures

pub returns-in-Err : goal.returns-in-Err
returns-in-Err c = by_assembly _ _ c.assemble.ensures (ap shown_assembly c.in-Err.is) (left_is (ap Err c.diagnostic.ensures))
