-- The rounds that the code takes are the definition's: `most` is the share in the first, and no bound in the second.
-- Assumes nothing.
use mathlib.Core.Path.{◌≡◌, refl, sym, ap, ◌∙◌}
use mathlib.Core.Bool.{true, false}
use mathlib.Core.List.{List, [], ◌∷◌, map}
use Prim.Native.Nat.{ℕ, zero, suc, ◌-◌, ◌*◌, ◌≤◌, min}
use native.Mathlib.Nat.{zero-add, suc-mul}
use native.Mathlib.Omega.{arith}
use borrow.Author.Tests.{ne_eqb}
use lib.ListN.{length}
use Rattle.refusal.specs.Refusals.{accepted}
use Rattle.machine.specs.declared.State.{State}
use Rattle.machine.specs.Run.{Stepper}
use Rattle.machine.proofs.Runs.{Lawful}
use Rattle.usage.specs.Usage.{ticks_of}
use Rattle.usage.proofs.Sums.{trace_sized, unused_plus}
use Rattle.run.specs.Runs.{no_journal, Given, given, left, stopped, outcome_on, trace_on, accepted_left, verdict_on, CountedLeft, counted_by, counted_left}
use Rattle.page.specs.Pages.{PageGiven, up_from, trim, report, as_one, go_on_with, second_round}
use Rattle.page.specs.Parts.{Each, turn_by, round_by}
use Rattle.page.proofs.Bounds.{within}
use Rattle.page.proofs.Handed.{untouched}

module _ (v : Stepper) where
  -- ---- The first round

  -- the first run of a trim is all that it has run
  module _ (s : State) (P D I O : List ℕ) (budget : ℕ) (log : List ℕ) where
    abbrev t : Given
    t = given s P D I O budget log no_journal

    one_run : as_one (untouched t) (counted_by v accepted t) ≡ counted_by v accepted t
    one_run =
        let a = accepted_left v t in
        let z = outcome_on v t in
        λ i.
        record {
          left =
              left (stopped z.reason (zero-add (z.after.state.n - s.n) i) (zero-add (length z.after.L) i)) a.state a.P a.D a.I a.O a.log
              no_journal;
          usage = unused_plus (trace_sized (trace_on v t)) i;
          ticks = zero-add (ticks_of (trace_on v t)) i;
        }

    first_run : verdict_on t ≡ accepted → as_one (untouched t) (counted_left v t) ≡ counted_left v t
    unfolding counted_left
    first_run e = ap (λ x. as_one (untouched t) (counted_by v x t)) e ∙ one_run ∙ ap (λ x. counted_by v x t) (sym e)

  module _ (law : Lawful v) (g : PageGiven) (share : ℕ) (fits : share ≤ 4294967295) where
    abbrev ran : ℕ → CountedLeft
    ran k = counted_left v (trim g share k)

    abbrev handed : ℕ → CountedLeft
    handed k = untouched (trim g share k)

    first_turn : (k : ℕ) → verdict_on (trim g share k) ≡ accepted → turn_by v false share (handed k) ≡ ran k
    first_turn k e = let t = trim g share k in first_run t.state t.P t.D t.I t.O share t.log e

    -- each trim with the share, of which there is enough for all
    pub shared_out : (k m rest : ℕ) → m * share ≤ rest → Each (λ j. verdict_on (trim g share j) ≡ accepted) (up_from k m)
        → round_by v false share rest (map handed (up_from k m)) ≡ map ran (up_from k m)
    unfolding up_from round_by
    shared_out k zero rest h ok = refl
    shared_out k (suc m) rest h ok =
        let n = suc-mul m share in
        let all : min share rest ≡ share = omega (arith, n, h) in
        let few : (report (ran k)).steps ≤ share = (within v law (trim g share k) fits).steps in
        let is : turn_by v false (min share rest) (handed k) ≡ ran k = ap (λ b. turn_by v false b (handed k)) all ∙ first_turn k ok.0 in
        (λ i. is i ∷ round_by v false share (rest - ((report (is i)).steps - 0)) (map handed (up_from (suc k) m)))
        ∙ ap (λ cs. ran k ∷ cs) (shared_out (suc k) m (rest - ((report (ran k)).steps - 0)) (omega (arith, n, h)) ok.1)

  -- ---- The second round

  turn_again : (rest : ℕ) (c : CountedLeft) → turn_by v true rest c ≡ go_on_with v rest c
  unfolding go_on_with
  turn_again zero c = refl
  turn_again (suc n) c = rw (ne_eqb (suc n) 0 (λ e. omega arith))

  pub rest_out : (most rest : ℕ) → rest ≤ most → (cs : List CountedLeft) → round_by v true most rest cs ≡ second_round v rest cs
  unfolding round_by second_round
  rest_out most rest h [] = refl
  rest_out most rest h (c ∷ cs) =
      let all : min most rest ≡ rest = omega arith in
      let is : turn_by v true (min most rest) c ≡ go_on_with v rest c = ap (λ b. turn_by v true b c) all ∙ turn_again rest c in
      let rest' = rest - ((report (go_on_with v rest c)).steps - (report c).steps) in
      (λ i. is i ∷ round_by v true most (rest - ((report (is i)).steps - (report c).steps)) cs)
      ∙ ap (λ ds. go_on_with v rest c ∷ ds) (rest_out most rest' (omega arith) cs)
