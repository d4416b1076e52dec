-- What a call that passes every test leaves, and one that is refused.
-- Assumes nothing.
use mathlib.Core.Path.{◌≡◌, sym, ap, ◌∙◌}
use mathlib.Core.Bool.{true, and-eq-true_iff}
use mathlib.Core.List.{List, []}
use Prim.Native.Nat.{ℕ, ◌≤◌}
use lib.Dec.{eqb, leb}
use lib.ListN.{length}
use borrow.Author.Tests.{eqb-true, le-leb, leb-true}
use Rattle.refusal.specs.Refusals.{accepted, refused}
use Rattle.word.proofs.Tests.{clash, passed}
use Rattle.machine.specs.declared.State.{State}
use Rattle.machine.specs.Machine.{Machine, even_places}
use Rattle.journal.specs.Parts.{machine_with}
use Rattle.machine.specs.Lengths.{lengths_fit}
use Rattle.machine.proofs.Runs.{Even, even_places_lem, places_even}
use Rattle.back.specs.declared.Backed.{Backed}
use Rattle.back.specs.Backs.{BackGiven, BackReply, BackLeft, back_refused, shown_going, steps_held, back_verdict, back_left_by, back_left}
use Rattle.back.specs.Parts.{CanGo, GoneBack}

-- every test passes
pub record Passes (g : BackGiven) : Type 0 where
  pub lengths : lengths_fit g.P g.D g.I g.O ≡ true
  pub even : Even g.state
  pub held : g.k ≤ steps_held g.state g.journal

-- ---- By the verdict

-- what is lent to the loop by another name is left so
pub gone_by : {s : State} {D₀ I₀ O₀ journal D I O D' I' O' : List ℕ} {k : ℕ} {r : Backed} → D' ≡ D → I' ≡ I → O' ≡ O
    → GoneBack s D₀ I₀ O₀ journal k r D I O → GoneBack s D₀ I₀ O₀ journal k r D' I' O'
gone_by {r = r} d i o h = record { reply = h.reply; machine = λ P L. h.machine P L ∙ (λ j. machine_with r.state (sym d j) (sym i j) (sym o j) P L) }

module _ (g : BackGiven) where
  pub accepts : Passes g → accepted ≡ back_verdict g
  unfolding back_verdict
  accepts p = rw (p.lengths, even_places_lem g.state p.even, le-leb _ _ p.held)

  pub passes : accepted ≡ back_verdict g → Passes g
  unfolding back_verdict
  passes e =
      let lent = passed (lengths_fit g.P g.D g.I g.O) (λ x. clash (cc)) (sym e) in
      let even = passed (even_places g.state) (λ x. clash (cc)) lent.1 in
      let held = passed (leb g.k (steps_held g.state g.journal)) (λ x. clash (cc)) even.1 in
      record { lengths = lent.0; even = places_even g.state even.0; held = leb-true _ _ held.0 }

  pub can_go : Passes g → CanGo g.state g.D g.I g.O g.journal g.k
  can_go p =
      let to-outputs = (and-eq-true_iff _ (eqb (length g.O) 256)).0 p.lengths in
      let to-inputs = (and-eq-true_iff _ (eqb (length g.I) 256)).0 to-outputs.0 in
      let memories = (and-eq-true_iff (eqb (length g.P) 65536) _).0 to-inputs.0 in
      record { memory = eqb-true _ _ memories.1; inputs = eqb-true _ _ to-inputs.1; outputs = eqb-true _ _ to-outputs.1; held = p.held }

  pub refused_left : {n : ℕ} → refused n ≡ back_verdict g
      → ◌≡◌ {A = BackLeft} (record { reply = back_refused n; state = g.state; P = g.P; D = g.D; I = g.I; O = g.O; journal = g.journal }) (back_left g)
  unfolding back_left
  refused_left e = ap (λ v. back_left_by v g) e

  pub accepted_left_lem : accepted ≡ back_verdict g → back_left_by accepted g ≡ back_left g
  unfolding back_left
  accepted_left_lem e = ap (λ v. back_left_by v g) e

  pub gone_left : {r : Backed} {D I O : List ℕ} → accepted ≡ back_verdict g → GoneBack g.state g.D g.I g.O g.journal g.k r D I O
      → ◌≡◌ {A = BackLeft} (record { reply = shown_going r.reply; state = r.state; P = g.P; D = D; I = I; O = O; journal = g.journal }) (back_left g)
  gone_left e h = (λ i. left (shown_going (h.reply i)) (sym (h.machine g.P []) i)) ∙ accepted_left_lem e
    where
      left : BackReply → Machine → BackLeft
      left reply m = record { reply = reply; state = m.state; P = m.P; D = m.D; I = m.I; O = m.O; journal = g.journal }
