-- The fold writes a line for each entry.
use Rattle.std.proofs.Common.{rules}
use Rattle.std.proofs.lemmas.Iterator.{YieldsList-from_slice}
use Rattle.printing.proofs.Writing.{folded}
use Rattle.report.specs.Printed.{out_line}
use Rattle.report.proofs.lines.with_outs.Goals as goal

pub returns : goal.returns
returns c = folded _ out_line 51 (YieldsList-from_slice _ c.iter.ensures.rest) (λ t x r f' k. search rules) c.fold.ensures.ran
