-- Who gets the rest, of two trims: it follows of what is claimed of every page.
-- Assumes nothing.
use mathlib.Core.Path.{◌≡◌, refl, sym, ap, ◌∙◌}
use mathlib.Core.List.{List, [], ◌∷◌}
use Prim.Native.Nat.{ℕ, ◌+◌, ◌-◌, ◌/◌, ◌%◌, ◌<◌}
use native.Mathlib.Omega.{arith}
use lib.ListN.{get_or, drop}
use Rattle.page.specs.declared.TrimAnswer.{TrimAnswer}
use Rattle.page.specs.Pages.{PageGiven, share, no_answer}
use Rattle.claims.specs.Session.{through_rules}
use Rattle.claims_pages.specs.Pages.{AcceptedPage, answer, steps_of, Alone, Steps, Own}
use Rattle.claims_pages.proofs.Alone.{goes_too, stops_there}
use Rattle.claims_pages.proofs.Own.{own, kept}
use Rattle.claims_pages.proofs.Allowance.{none_steps, allowance}

-- the first two answers, and the others
steps_two : (xs : List TrimAnswer) → steps_of xs ≡ (get_or xs 0 no_answer).steps + ((get_or xs 1 no_answer).steps + steps_of (drop 2 xs))
unfolding steps_of
steps_two [] = refl
steps_two (a ∷ []) = refl
steps_two (a ∷ b ∷ xs) = refl

module _ {g : PageGiven} (p : AcceptedPage g) where
  -- the run that trim k is
  abbrev run_as : {k : ℕ} (o : Own g p.left k) → Alone g k o.budget
  run_as {k} o =
      let a = answer p.left k in
      record { engine = through_rules; ran = _; meets = refl; stop = a.stop; steps = a.steps; entries = a.entries; replied = (o.one_run through_rules).reply }

  -- one that could go on ends with stop 0
  goes_on : (k : ℕ) → k < g.count → (r : Alone g k g.budget) → r.stop ≡ 0 → (answer p.left k).stop ≡ 0
  goes_on k h r e = let o = own p k h in goes_too (run_as o) r o.most e

  module _ (two : g.count ≡ 2) where
    -- with a trim that ends with stop 0 both do B
    both_do : (k : ℕ) → k < g.count → (answer p.left k).stop ≡ 0 → (answer p.left 0).steps + (answer p.left 1).steps ≡ g.budget
    both_do k h e =
        let a = allowance p in
        let others : steps_of (drop 2 p.left.answers) ≡ 0 =
        ap (λ n. steps_of (drop n p.left.answers)) (sym two) ∙ ap steps_of (kept p).answers ∙ none_steps (8 - g.count) in
        let all : steps_of p.left.answers < g.budget → ⊥ = λ l. a.less.0 l k h e in
        omega (arith, steps_two p.left.answers, others, all, a.total)

    share_is : share g ≡ g.budget / 2
    share_is = ap (λ n. g.budget / n) two

    pub odd_step : g.budget % 2 ≡ 1 → (first : Alone g 0 g.budget) → first.stop ≡ 0 → (second : Alone g 1 g.budget) → second.stop ≡ 0
        → Steps p.left (g.budget / 2 + 1) (g.budget / 2)
    odd_step odd first e second f =
        let a = allowance p in
        let one : 1 < g.count = omega (arith, two) in
        let x = goes_on 0 (omega (arith, two)) first e in
        let y = goes_on 1 one second f in
        let half : (answer p.left 1).steps ≡ g.budget / 2 =
        omega (arith, a.in_order 0 1 (omega arith) one x, a.at_least 1 one y, share_is) in
        (omega (arith, half, both_do 1 one y, odd), half)

    pub first_stopped : (first : Alone g 0 (share g)) → (first.stop ≡ 0 → ⊥) → (second : Alone g 1 g.budget) → second.stop ≡ 0
        → Steps p.left first.steps (g.budget - first.steps)
    first_stopped first n second f =
        let one : 1 < g.count = omega (arith, two) in
        let o = own p 0 (omega (arith, two)) in
        let same : (answer p.left 0).steps ≡ first.steps = stops_there first (run_as o) o.least n in
        (same, omega (arith, same, both_do 1 one (goes_on 1 one second f)))
