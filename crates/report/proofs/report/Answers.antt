-- By the file's length, then by the load's reply.
use mathlib.Core.Path.{ap}
use Rattle.refusal.specs.Refusals.{shown_check}
use Rattle.report.proofs.Loads.{too_long, accepted_lines, refused_lines}
use Rattle.report.proofs.report.Goals as goal

pub returns-then-file-gt-FILE_BYTES : goal.returns-then-file-gt-FILE_BYTES
returns-then-file-gt-FILE_BYTES c = too_long _ c.if-file-gt-FILE_BYTES.true c.refused.ensures

pub returns-in-Ok : goal.returns-in-Ok
returns-in-Ok c = accepted_lines _ c.if-file-gt-FILE_BYTES.false c.load-loaded.ensures (ap shown_check c.in-Ok.is) c.run_loaded.ensures

pub returns-in-Err : goal.returns-in-Err
returns-in-Err c = refused_lines _ c.if-file-gt-FILE_BYTES.false c.load-loaded.ensures (ap shown_check c.in-Err.is) c.refused-in-Err.ensures
