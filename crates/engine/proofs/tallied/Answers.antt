-- By the verdict: a refusal hands back what was given, an accepted run is the loop's.
use mathlib.Core.Path.{refl, sym, ◌∙◌, ap}
use native.Mathlib.Omega.{arith}
use borrow.Author.Rules.{rules}
use Rattle.refusal.specs.Refusals.{shown_check}
use Rattle.run.specs.Runs.{given, journal_if}
use Rattle.run.proofs.Journals.{count_fits}
use Rattle.places.specs.Places.{tallied}
use Rattle.places.proofs.Tallied.{tallied_none}
use Rattle.engine.proofs.Refusals.{lengths, same_lent, can_run, run_accepted, refused_run}
use Rattle.engine.proofs.tallied.Goals as goal

pub invariant_of-bus : goal.invariant_of-bus
invariant_of-bus g c =
    let a = c.args in
    let lent = given a.state a.program.now a.memory.now a.inputs.now a.outputs.now a.budget a.log.now (journal_if a.keeps a.journal.now) in
    let l = lengths lent (sym (ap shown_check c.in-Ok.is) ∙ c.checked.ensures) in
    record { lengths = (l.1, l.2, l.3) }

pub run_accepted-requires : goal.run_accepted-requires
run_accepted-requires g c =
    let a = c.args in
    let verdict = sym (ap shown_check c.in-Ok.is) ∙ c.checked.ensures in
    -- the count of entries and the journal's length have 64 bits
    let count = count_fits a.keeps a.journal.now a.state a.budget (omega arith) (omega arith) (omega (arith, c.ranges.budget)) in
    record { cleared = c.requires; can_run = can_run _ verdict (c.starting.ensures _) c.allowed.ensures count }

pub returns-in-Ok : goal.returns-in-Ok
returns-in-Ok g c =
    let same = c.run_accepted.ensures.same in
    same_lent _ _ (search (rules, same.0.memory)) (search (rules, same.0.inputs)) (search (rules, same.0.outputs)) (search (rules, same.1.places))
    (run_accepted _ (sym (ap shown_check c.in-Ok.is) ∙ c.checked.ensures) (c.starting.ensures _) c.allowed.ensures _ c.run_accepted.ensures.ran)

pub returns-in-Err : goal.returns-in-Err
returns-in-Err g c =
    refused_run _ _ (sym (ap shown_check c.in-Err.is) ∙ c.checked.ensures)
    (ap (tallied c.args.counts.now) c.none.ensures ∙ tallied_none c.args.counts.now c.requires)
