-- By the computed test of control/proofs/Agreement.antt, at the word fetched.
-- Assumes nothing.
use mathlib.Core.Path.{◌≡◌, refl, sym, ap, ◌∙◌}
use Rattle.machine.specs.Step.{fetched}
use Rattle.machine.specs.Run.{by_rules}
use Rattle.control.specs.Control.{by_the_table}
use Rattle.control.proofs.Agreement.{agreement, agreement_port, same_stepper}
use Rattle.run.specs.Runs.{Given, counted_left}
use Rattle.claims_sheet.specs.Agreement.{Agreement}
use Rattle.claims_sheet.proofs.Rules.{fetching_step}

pub same_run : (g : Given) → counted_left by_the_table g ≡ counted_left by_rules g
same_run g = ap (λ v. counted_left v g) same_stepper

pub agreed : Agreement
agreed =
    record {
      steps = λ m. ap (λ v. v.steps m) same_stepper;
      by_word = λ m n. agreement (fetched m) m ∙ sym (fetching_step m (fetched m) n refl);
      ports = agreement_port;
      runs = same_run;
    }
