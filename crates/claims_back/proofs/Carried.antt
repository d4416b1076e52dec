-- A run carries a history on, or begins one; a refused run leaves it.
-- Assumes nothing.
use mathlib.Core.Path.{◌≡◌, refl, sym, ap, subst, ◌∙◌}
use mathlib.Core.List.{List, [], ◌++◌, map, reverse, reverse_aux-eq}
use Prim.Native.Nat.{ℕ, ◌+◌, ◌≤◌}
use native.Mathlib.Omega.{arith}
use borrow.Author.Tests.{leb-true}
use lib.Dec.{leb}
use lib.ListN.{length, length-append, length-reverse}
use Rattle.refusal.specs.Refusals.{Verdict, accepted, refused}
use Rattle.word.proofs.Tests.{clash, passed}
use Rattle.machine.specs.Machine.{Machine, even_places}
use Rattle.machine.specs.Lengths.{lengths_fit}
use Rattle.machine.specs.Run.{by_rules}
use Rattle.machine.proofs.Runs.{Even, places_even}
use Rattle.journal.specs.Journal.{entry_of}
use Rattle.journal.specs.Ranges.{InRange}
use Rattle.run.specs.Runs.{no_journal, lent_journal, Given, stopped, run_refused, verdict, verdict_on, allowed, machine_at, placed, trace_on, outcome_on, accepted_left, CountedLeft, counted_by, counted_left}
use Rattle.claims.specs.Session.{Host, Lent, given_to, after_one_run, machine_on}
use Rattle.claims_back.specs.History.{History, Past, taken_by, taken}
use Rattle.claims_back.proofs.Pasts.{held_sound, sound_begins, known, unraised}
use Rattle.claims_back.proofs.Walks.{run_walks, walked}
use Rattle.claims_back.proofs.Kept.{placed_history}

-- ---- A run

-- what an accepted run's tests found
record Passed (g : Given) : Type 0 where
  even : Even g.state
  few : g.state.n + g.budget ≤ 4294967295

passes : (g : Given) → verdict_on g ≡ accepted → Passed g
unfolding verdict
passes g e =
    let lengths = passed (lengths_fit g.P g.D g.I g.O) (λ x. clash (cc)) e in
    let even = passed (even_places g.state) (λ x. clash (cc)) lengths.1 in
    let few = passed (leb (g.state.n + g.budget) 4294967295) (λ x. clash (cc)) even.1 in
    record { even = places_even g.state even.0; few = leb-true _ _ few.0 }

same_journal : {h : Host} {xs ys : List ℕ} {ms : List Machine} → xs ≡ ys → Past h xs ms → Past h ys ms
same_journal {h} {ms = ms} e p = subst (λ ys. Past h ys ms) e p

module _ (h : Host) (budget : ℕ) (log : List ℕ) where
  -- without a journal
  module _ (r : InRange (machine_on h [])) where
    abbrev without : Given
    without = given_to h (record { budget = budget; log = log; journal = no_journal })

    run_without : verdict_on without ≡ accepted → (xs : List ℕ) → Past (after_one_run (accepted_left by_rules without)) xs []
    run_without e xs =
        let (few, walk, room) = run_walks budget (length (machine_at without).L + length log) (machine_at without) in
        let after = (outcome_on by_rules without).after in
        let w = walked walk in
        let found = passes without e in
        let start = held_sound 0 [] r.pending r.inputs (record { stays_in_range = r; even = found.even }) in
        let s = w.sound start in
        let now = held_sound after.state.journaled [] s.stays_in_range.pending s.stays_in_range.inputs s in
        record {
          counted = w.same_count;
          few = omega (arith, few, w.n_is, found.few);
          history = sound_begins now;
        }

    pub begun : (l : CountedLeft) → l ≡ counted_left by_rules without → (q s k : ℕ) → l.left.reply ≡ stopped q s k → (xs : List ℕ) → Past (after_one_run l.left) xs []
    unfolding counted_left
    begun l e q s k r xs =
        subst (λ (x : CountedLeft). Past (after_one_run x.left) xs []) (sym e) (go (verdict_on without) refl (ap (λ x. x.left.reply) (sym e) ∙ r))
      where
        go : (v : Verdict) → verdict_on without ≡ v → (counted_by by_rules v without).left.reply ≡ stopped q s k → Past (after_one_run (counted_by by_rules v without).left) xs []
        go accepted e r = run_without e xs
        go (refused i) e r = clash (cc)

  -- with the journal of a history
  module _ (xs : List ℕ) (ms : List Machine) (p : Past h xs ms) where
    abbrev with : Given
    with = given_to h (record { budget = budget; log = log; journal = lent_journal xs })

    abbrev kept : List ℕ
    kept = placed h.state.journaled (map entry_of (trace_on by_rules with)) xs

    run_with : verdict_on with ≡ accepted → Past (after_one_run (accepted_left by_rules with)) kept (reverse (trace_on by_rules with) ++ ms)
    run_with e =
        let k = known p.history in
        let (few, walk, room) = run_walks (allowed with) (length (machine_at with).L + length log) (machine_at with) in
        let t = trace_on by_rules with in
        let after = (outcome_on by_rules with).after in
        let w = walked walk in
        let c = h.state.journaled in
        let room : c + length t ≤ length xs = omega (arith, few, p.counted, k.places) in
        let moved = placed_history xs ms c p.counted room walk p.history in
        record {
          counted = omega (arith, w.same_count, p.counted, length-append (reverse t) ms, length-reverse t);
          few = omega (arith, few, w.n_is, (passes with e).few);
          history =
              subst (History _ _) (reverse_aux-eq t ms)
              (unraised moved (after.state.journaled + length t) after.I [] (w.sound k.sound).stays_in_range.inputs);
        }

    -- accepted or refused
    by_verdict : (v : Verdict) → verdict_on with ≡ v → (ys : List ℕ) → (counted_by by_rules v with).left.journal ≡ lent_journal ys
        → Past (after_one_run (counted_by by_rules v with).left) ys (taken_by v with ++ ms)
    by_verdict accepted e ys j = same_journal (cc) (run_with e)
    by_verdict (refused k) e ys j = same_journal (cc) p

    pub carries : (l : CountedLeft) → l ≡ counted_left by_rules with → (ys : List ℕ) → l.left.journal ≡ lent_journal ys
        → Past (after_one_run l.left) ys (taken with ++ ms)
    unfolding counted_left
    carries l e ys j =
        subst (λ (x : CountedLeft). Past (after_one_run x.left) ys (taken with ++ ms)) (sym e)
        (by_verdict (verdict_on with) refl ys (ap (λ x. x.left.journal) (sym e) ∙ j))

-- A refused run leaves what the host holds.
pub left_alone : (h : Host) (lent : Lent) (l : CountedLeft) → l ≡ counted_left by_rules (given_to h lent) → (k : ℕ) → l.left.reply ≡ run_refused k → h ≡ after_one_run l.left
unfolding counted_left
left_alone h lent l e k r = go (verdict_on (given_to h lent)) (ap (λ x. x.left.reply) (sym e) ∙ r) ∙ ap (λ (x : CountedLeft). after_one_run x.left) (sym e)
  where
    go : (v : Verdict) → (counted_by by_rules v (given_to h lent)).left.reply ≡ run_refused k → h ≡ after_one_run (counted_by by_rules v (given_to h lent)).left
    go accepted r = clash (cc)
    go (refused i) r = refl
