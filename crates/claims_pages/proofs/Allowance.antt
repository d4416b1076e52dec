-- The steps of an accepted page: what all answers say together, and who gets more than a share.
-- Assumes nothing.
use mathlib.Core.Path.{◌≡◌, refl, sym, ap, ◌∙◌}
use mathlib.Core.List.{List, [], ◌∷◌, ◌++◌, map}
use Prim.Native.Nat.{ℕ, zero, suc, ◌+◌, ◌-◌, ◌<◌}
use native.Mathlib.Omega.{arith}
use lib.ListN.{replicate}
use Rattle.run.specs.Runs.{CountedLeft}
use Rattle.page.specs.Pages.{PageGiven, of_each, report, total_steps, answer_of, no_answer, accepted_page}
use Rattle.claims_pages.specs.Pages.{AcceptedPage, answer, steps_of, Allowance}
use Rattle.claims_pages.proofs.Rounds.{rest_at, end_at, no_rest, not_again, ran_few, all_steps, leaves_none, some_left}
use Rattle.claims_pages.proofs.Ends.{some, room, fit, left_is, turn}
use Rattle.claims_pages.proofs.Own.{answered}

pub none_steps : (n : ℕ) → steps_of (replicate n no_answer) ≡ 0
unfolding steps_of
none_steps zero = refl
none_steps (suc n) = omega (arith, none_steps n)

steps_sum : (cs : List CountedLeft) (n : ℕ) → steps_of (map answer_of cs ++ replicate n no_answer) ≡ total_steps cs
unfolding steps_of total_steps
steps_sum [] n = none_steps n
steps_sum (c ∷ cs) n = omega (arith, steps_sum cs n)

module _ {g : PageGiven} (p : AcceptedPage g) where
  -- with what the last trim leaves it is B
  with_rest : rest_at g g.count + steps_of p.left.answers ≡ g.budget
  unfolding accepted_page
  with_rest =
      let all = ap (λ l. steps_of l.answers) (left_is p) ∙ steps_sum (of_each g (end_at g)) (8 - g.count) in
      omega (arith, all, all_steps g (some p) (fit p) (room p))

  module _ (k : ℕ) (h : k < g.count) where
    stop_is : (answer p.left k).stop ≡ (report (end_at g k)).stop
    stop_is = ap (λ a. a.stop) (answered p k h)

    steps_are : (answer p.left k).steps ≡ (report (end_at g k)).steps
    steps_are = ap (λ a. a.steps) (answered p k h)

    -- what it leaves where it ends with stop 0
    none_left : (answer p.left k).stop ≡ 0 → rest_at g (suc k) ≡ 0
    none_left e = leaves_none g (some p) (fit p) (room p) k h (sym stop_is ∙ e)

  pub allowance : Allowance g p.left
  allowance =
      record {
        total = omega (arith, with_rest);
        less = (
          λ l k h e. omega (arith, l, with_rest, no_rest g (suc k) g.count h (none_left k h e)),
          λ n. omega (arith, with_rest, some_left g (some p) (fit p) (room p) (λ k h e. n k h (stop_is k h ∙ e)) g.count (omega arith)),
        );
        at_least = λ k h e. omega (arith, steps_are k h, (turn p k h).done (sym (stop_is k h) ∙ e));
        in_order = λ j k l h e.
            let rest = no_rest g (suc j) k l (none_left j (omega (arith, l, h)) e) in
            omega (arith, steps_are k h, ap (λ c. (report c).steps) (not_again g k rest), ran_few g (some p) (fit p) (room p) k h);
      }
