-- Trim after trim (`Checking`).
use mathlib.Core.List.{[]}
use Rattle.page.specs.Pages.{page_of}
use Rattle.page.proofs.Verdicts.{Checking}
use Rattle.page.proofs.checks.checked_in_order.Given as goal

abbrev pub invariant-loop-i : goal.invariant-loop-i
invariant-loop-i l = Checking (page_of l.states l.count l.programs l.memories l.inputs l.outputs l.budget []) l.i
