-- By the answer: a run that stopped (its entries fit the log), or a refusal.
use mathlib.Core.Path.{sym, ap}
use lib.Seq.{length-take-le}
use borrow.Author.Rules.{rules}
use Rattle.run.specs.Runs.{shown_answer}
use Rattle.run.proofs.Uncounted.{uncounted}
use Rattle.report.proofs.Runs.{entries_fit, part_fits, stopped_lines_lem, refused_lines}
use Rattle.report.proofs.run_loaded.Goals as goal

pub slice_bounds-log-end : goal.slice_bounds-log-end
slice_bounds-log-end c = entries_fit _ _ (uncounted _ _ c.run_by_table-ran.ensures) (ap shown_answer c.in-Ok.is)

pub slice_bounds-stopped-end : goal.slice_bounds-stopped-end
slice_bounds-stopped-end c = sym (length-take-le _ _ (entries_fit _ _ (uncounted _ _ c.run_by_table-ran.ensures) (ap shown_answer c.in-Ok.is)))

pub stopped-requires : goal.stopped-requires
stopped-requires c = part_fits _ _ (entries_fit _ _ (uncounted _ _ c.run_by_table-ran.ensures) (ap shown_answer c.in-Ok.is)) (search rules)

pub returns-in-Ok : goal.returns-in-Ok
returns-in-Ok c = stopped_lines_lem _ _ (uncounted _ _ c.run_by_table-ran.ensures) (ap shown_answer c.in-Ok.is) c.stopped.ensures

pub returns-in-Err : goal.returns-in-Err
returns-in-Err c = refused_lines _ _ (uncounted _ _ c.run_by_table-ran.ensures) (ap shown_answer c.in-Err.is) c.refused.ensures
