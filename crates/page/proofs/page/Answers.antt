-- By the verdict.
use mathlib.Core.Path.{sym, ap, ◌∙◌}
use Rattle.refusal.specs.Refusals.{shown_check}
use Rattle.page.proofs.Pages.{accepted_page_lem, refused_page}
use Rattle.page.proofs.page.Goals as goal

pub returns-in-Ok : goal.returns-in-Ok
returns-in-Ok g c = accepted_page_lem _ _ (sym (ap shown_check c.in-Ok.is) ∙ c.checked.ensures _) c.two_rounds.ensures

pub returns-in-Err : goal.returns-in-Err
returns-in-Err g c = refused_page _ _ (sym (ap shown_check c.in-Err.is) ∙ c.checked.ensures _) c.none.ensures
