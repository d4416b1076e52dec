-- By the laws of control/proofs/Laws.antt, and the inputs by the control word of the word; a line taken leaves them.
-- Assumes nothing.
use mathlib.Core.Path.{◌≡◌, sym, ap, ◌∙◌}
use mathlib.Core.Bool.{Bool, true, false, not, ◌&&◌}
use lib.ListN.{set}
use Rattle.word.specs.Word.{pick}
use Rattle.word.proofs.Tests.{clash}
use Rattle.machine.specs.Machine.{Machine, takes_line, fetch_locked}
use Rattle.machine.specs.Step.{Ra, Rb, cannot, to, fetched}
use Rattle.journal.specs.Journal.{reads_key}
use Rattle.control.proofs.Laws.{lawful_rules}
use Rattle.claims_sheet.specs.Steps.{StepLaws}
use Rattle.claims_sheet.proofs.Rules.{after_taking}
use Rattle.claims_sheet.proofs.Touched.{is_assigned_lem, by_zero, by_lock, inputs_left}
use Rattle.claims_sheet.proofs.Masks.{done, step_at, step_is}

-- where a line is taken, and where it is not
inputs_at : (t l : Bool) (m next : Machine) → step_at t l m ≡ to next → next.I ≡ pick (not t && reads_key (fetched m)) (set m.I 0 0) m.I
inputs_at true l m next e = let z : after_taking m ≡ next = cc in ap (λ (x : Machine). x.I) (sym z)
inputs_at false true m next e = clash (cc)
inputs_at false false m next e =
    go (is_assigned_lem (fetched m)) (by_zero (fetched m) (Rb (fetched m) m)) (by_lock (fetched m) (Ra (fetched m) m) (Rb (fetched m) m) m.state) e
  where
    go : (t z l : Bool) → pick t (pick z (cannot 3) (pick l (cannot 4) (to (done (fetched m) m)))) (cannot 1) ≡ to next → next.I ≡ pick (reads_key (fetched m)) (set m.I 0 0) m.I
    go true true l e = clash (cc)
    go true false true e = clash (cc)
    go true false false e = let z : done (fetched m) m ≡ next = cc in ap (λ (x : Machine). x.I) (sym z) ∙ inputs_left (fetched m) (Ra (fetched m) m) (Rb (fetched m) m) m
    go false z l e = clash (cc)

pub steps : StepLaws
steps =
    record {
      counts = lawful_rules.counts;
      even = λ m next e p q. lawful_rules.even m next e (p, q);
      inputs = λ m next e. inputs_at (takes_line m.state) (fetch_locked m.state) m next (sym (step_is m) ∙ e);
    }
