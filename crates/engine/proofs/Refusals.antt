-- What a verdict makes of a run.
-- Assumes nothing.
use mathlib.Core.Path.{◌≡◌, refl, sym, ap, subst, ◌∙◌}
use mathlib.Core.Bool.{◌&&◌, and-eq-true_iff}
use mathlib.Core.List.{List}
use Prim.Native.Nat.{ℕ, zero, suc, ◌+◌, ◌≤◌}
use native.Mathlib.Omega.{arith}
use borrow.Author.Tests.{eqb-true, leb-true}
use lib.Dec.{eqb, leb}
use lib.ListN.{length, get_or, replicate}
use Rattle.refusal.specs.Refusals.{accepted, refused}
use Rattle.word.proofs.Tests.{clash, passed}
use Rattle.machine.specs.declared.State.{State}
use Rattle.machine.specs.Machine.{even_places}
use Rattle.machine.specs.Lengths.{lengths_fit}
use Rattle.machine.specs.Run.{Stepper}
use Rattle.usage.specs.declared.Usage.{Usage}
use Rattle.usage.specs.Usage.{unused}
use Rattle.run.specs.declared.Tallied.{Tallied}
use Rattle.run.specs.declared.Counted.{Counted}
use Rattle.run.specs.Runs.{Journal, Given, given, RunReply, Left, left, run_refused, shown_answer, start_in, allowed, verdict, verdict_on, CountedLeft, accepted_counted, counted_left, CountedMeets}
use Rattle.run.specs.Parts.{timed}
use Rattle.run.proofs.Journals.{started, is_started}
use Rattle.places.specs.Places.{folded, with_taken, tallied}
use Rattle.places.proofs.Tallied.{at_once, by_place}
use Rattle.cycle.specs.Loops.{CanRun, left_timed}

-- ---- The run, by its verdict

module _ (g : Given) (e : accepted ≡ verdict_on g) where
  -- where the verdict is accepted, what is lent has its lengths,
  pub lengths : (length g.P ≡ 65536) × (length g.D ≡ 65536) × (length g.I ≡ 256) × (length g.O ≡ 256)
  unfolding verdict
  lengths =
      let lent = passed (lengths_fit g.P g.D g.I g.O) (λ x. clash (cc)) (sym e) in
      let o = (and-eq-true_iff (eqb (length g.P) 65536 && eqb (length g.D) 65536 && eqb (length g.I) 256) (eqb (length g.O) 256)).0 lent.0 in
      let i = (and-eq-true_iff (eqb (length g.P) 65536 && eqb (length g.D) 65536) (eqb (length g.I) 256)).0 o.0 in
      let d = (and-eq-true_iff (eqb (length g.P) 65536) (eqb (length g.D) 65536)).0 i.0 in
      (eqb-true _ _ d.0, eqb-true _ _ d.1, eqb-true _ _ i.1, eqb-true _ _ o.1)

  -- and the loop can run from the state that the run starts from, with the steps that it may take
  started_fits : (started g).state.journaled + (started g).budget ≤ 18446744073709551615 → CanRun (started g)
  unfolding verdict
  started_fits fits =
      let lent = passed (lengths_fit g.P g.D g.I g.O) (λ x. clash (cc)) (sym e) in
      let even = passed (even_places g.state) (λ x. clash (cc)) lent.1 in
      let few = passed (leb (g.state.n + g.budget) 4294967295) (λ x. clash (cc)) even.1 in
      let below : g.state.n + g.budget ≤ 4294967295 = leb-true _ _ few.0 in
      let s = is_started g in
      record {
        program = lengths.0;
        memory = lengths.1;
        inputs = lengths.2;
        outputs = lengths.3;
        even = s.places ∙ even.0;
        counts = omega (arith, s.n, s.few, below);
        starts = ap (λ (x : Given). x.state) s.starts;
        room = ap (λ (x : Given). x.budget) s.starts;
        fits = fits;
      }

  module _ {s : State} {budget : ℕ} (start : s ≡ start_in g.journal g.state) (allows : budget ≡ allowed g) where
    begun : started g ≡ given s g.P g.D g.I g.O budget g.log g.journal
    begun = λ i. given (sym start i) g.P g.D g.I g.O (sym allows i) g.log g.journal

    pub can_run : (started g).state.journaled + (started g).budget ≤ 18446744073709551615 → CanRun (given s g.P g.D g.I g.O budget g.log g.journal)
    can_run fits = subst CanRun begun (started_fits fits)

    pub run_accepted : (v : Stepper) {l : CountedLeft} → l ≡ accepted_counted v (given s g.P g.D g.I g.O budget g.log g.journal) → CountedMeets v g l
    unfolding counted_left
    run_accepted v h = rw (← e) (h ∙ ap (accepted_counted v) (sym begun) ∙ (is_started g).same v)

pub refused_run : (v : Stepper) (g : Given) {k : ℕ} {u : Usage} → refused k ≡ verdict_on g → u ≡ unused
    → CountedMeets v g (left_timed (left (run_refused k) g.state g.P g.D g.I g.O g.log g.journal) u)
unfolding counted_left
refused_run v g e c = rw (← e, c)

-- ---- Its counts, where no places are lent and where all are

module _ (v : Stepper) (g : Given) {l : Left} (counts : List ℕ) (u : Usage) (met : CountedMeets v g (left_timed l (tallied counts u))) where
  pub counts_short : length counts ≡ 0 → CountedMeets v g (left_timed l u)
  counts_short e = ap (left_timed l) (sym (at_once counts u (omega arith))) ∙ met

  pub counts_long : {x : Usage} → length counts ≡ 17408 → x ≡ with_taken u.taken (folded counts) → CountedMeets v g (left_timed l x)
  counts_long e f = ap (left_timed l) (f ∙ sym (by_place counts u (omega arith))) ∙ met

-- ---- What is lent to the loop by another name is left so

pub same_lent : (v : Stepper) (g : Given) {reply : RunReply} {s : State} {P D I O log D' I' O' log' : List ℕ} {journal : Journal} {u : Usage}
    → D' ≡ D → I' ≡ I → O' ≡ O → log' ≡ log
    → CountedMeets v g (left_timed (left reply s P D I O log journal) u) → CountedMeets v g (left_timed (left reply s P D' I' O' log' journal) u)
same_lent v g {reply = reply} {s = s} {P = P} {journal = journal} {u = u} d i o l met = (λ j. left_timed (left reply s P (d j) (i j) (o j) (l j) journal) u) ∙ met

pub zeros : (n k : ℕ) → get_or {A = ℕ} (replicate n 0) k 0 ≡ 0
zeros zero k = refl
zeros (suc n) zero = refl
zeros (suc n) (suc k) = zeros n k

-- ---- What the short and the long run hand on

-- what a run leaves with its reply r, its ticks worked out
abbrev handed : List ℕ → List ℕ → List ℕ → List ℕ → List ℕ → Journal → Tallied → CountedLeft
handed P D I O log journal r = left_timed (left (shown_answer r.answer) r.state P D I O log journal) r.usage

module _ (v : Stepper) (g : Given) {P D I O log : List ℕ} {journal : Journal} {r : Tallied} where
  pub same_handed : {D' I' O' log' : List ℕ} {journal' : Journal} {r' : Tallied} → D' ≡ D → I' ≡ I → O' ≡ O → log' ≡ log → journal' ≡ journal → r' ≡ r
      → CountedMeets v g (handed P D I O log journal r) → CountedMeets v g (handed P D' I' O' log' journal' r')
  same_handed d i o l k e met = (λ j. handed P (d j) (i j) (o j) (l j) (k j) (e j)) ∙ met

  pub ticks_handed : {c : Counted} → c ≡ timed r → CountedMeets v g (handed P D I O log journal r)
      → CountedMeets v g (record { left = left (shown_answer c.answer) c.state P D I O log journal; usage = c.usage; ticks = c.ticks })
  ticks_handed e met = ap (λ (c : Counted). record { left = left (shown_answer c.answer) c.state P D I O log journal; usage = c.usage; ticks = c.ticks }) e ∙ met
