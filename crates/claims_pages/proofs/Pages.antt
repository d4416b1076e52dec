-- The claims on pages.
-- Assumes nothing.
use mathlib.Core.Path.{sym, ◌∙◌}
use Rattle.claims.specs.Session.{through_table}
use Rattle.claims_pages.specs.Pages.{Pages}
use Rattle.claims_pages.proofs.Refusals.{page_refusals, exists}
use Rattle.claims_pages.proofs.Ends.{engines}
use Rattle.claims_pages.proofs.Own.{own, kept}
use Rattle.claims_pages.proofs.Allowance.{allowance}
use Rattle.claims_pages.proofs.TwoTrims.{rows}

pub pages : Pages
pages =
    record {
      refusals = λ e g l met. page_refusals g e l met;
      exists = exists;
      allowance = allowance;
      own = own;
      kept = kept;
      same = λ g l₁ l₂ e₁ e₂. e₁ ∙ sym (e₂ ∙ engines through_table g);
      rows = rows;
    }
