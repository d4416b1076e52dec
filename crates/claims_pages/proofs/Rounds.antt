-- The rounds of an accepted page: what is unused at each trim's second turn, what it then comes to, and the steps of all.
-- Assumes nothing.
use mathlib.Core.Path.{◌≡◌, refl, sym, ap, ◌∙◌}
use mathlib.Core.Bool.{Bool, true, false}
use mathlib.Core.List.{[], ◌∷◌, map}
use Prim.Native.Nat.{ℕ, zero, suc, ◌+◌, ◌-◌, ◌*◌, ◌<◌, ◌≤◌}
use native.Mathlib.Nat.{suc-mul, mul-div-le, div-le_self, add-zero}
use native.Mathlib.Omega.{arith}
use borrow.Author.Tests.{ltb-true, ltb-false}
use lib.Dec.{ltb}
use Rattle.machine.specs.Run.{by_rules}
use Rattle.run.specs.Runs.{CountedLeft, counted_left}
use Rattle.page.specs.Pages.{PageGiven, up_from, of_each, part, places, trim, report, go_on_with, share, first_round, total_steps, second_round, trims_end}
use Rattle.claims.specs.Session.{machine_on}
use Rattle.claims.proofs.Lengths.{Fit}
use Rattle.claims_pages.specs.Pages.{handed, Alone}
use Rattle.claims_pages.proofs.Alone.{few, stops_before}
use Rattle.claims_pages.proofs.Turns.{first, Turned, turned}

-- ---- Sums over the trims

module _ (f : ℕ → CountedLeft) where
  abbrev total : ℕ → ℕ → ℕ
  total i m = total_steps (map f (up_from i m))

  sum_few : (s i m : ℕ) → ((j : ℕ) → i ≤ j → j < i + m → (report (f j)).steps ≤ s) → total i m ≤ m * s
  unfolding total_steps up_from
  sum_few s i zero h = omega arith
  sum_few s i (suc m) h =
      omega (arith, h i (omega arith) (omega arith), sum_few s (suc i) m (λ j a b. h j (omega arith) (omega arith)), suc-mul m s)

  one_of_sum : (i m k : ℕ) → k < m → (report (f (i + k))).steps ≤ total i m
  unfolding total_steps up_from
  one_of_sum i zero k l = absurd (omega arith)
  one_of_sum i (suc m) zero l = rw (add-zero i) (omega arith)
  one_of_sum i (suc m) (suc k) l =
      let next : suc i + k ≡ i + suc k = omega arith in
      omega (arith, ap (λ j. (report (f j)).steps) next, one_of_sum (suc i) m k (omega arith))

  -- the first and the others
  sum_first : (m : ℕ) → 0 < m → total 0 m ≡ (report (f 0)).steps + total 1 (m - 1)
  unfolding total_steps up_from
  sum_first zero l = absurd (omega arith)
  sum_first (suc m) l = let e : suc m - 1 ≡ m = omega arith in rw e

-- ---- The second round

module _ (g : PageGiven) where
  -- trim k after its first turn
  abbrev pub ran : ℕ → CountedLeft
  ran k = counted_left by_rules (trim g (share g) k)

  -- what is unused at trim k's second turn
  unfoldable pub rest_at : ℕ → ℕ
  rest_at zero = g.budget - total_steps (first_round by_rules g)
  rest_at (suc k) = rest_at k - ((report (go_on_with by_rules (rest_at k) (ran k))).steps - (report (ran k)).steps)

  -- what trim k comes to
  abbrev pub end_at : ℕ → CountedLeft
  end_at k = go_on_with by_rules (rest_at k) (ran k)

  second_is : (k m : ℕ) → second_round by_rules (rest_at k) (map ran (up_from k m)) ≡ map end_at (up_from k m)
  unfolding second_round up_from rest_at
  second_is k zero = refl
  second_is k (suc m) = ap (λ ds. end_at k ∷ ds) (second_is (suc k) m)

  pub ends_are : trims_end by_rules g ≡ of_each g end_at
  unfolding trims_end rest_at
  ends_are = second_is 0 g.count

  -- it never grows
  falls : (k m : ℕ) → rest_at (k + m) ≤ rest_at k
  unfolding rest_at
  falls k zero = rw (add-zero k) (omega arith)
  falls k (suc m) =
      let next : k + suc m ≡ suc (k + m) = omega arith in
      rw next (omega (arith, falls k m))

  pub no_rest : (j k : ℕ) → j ≤ k → rest_at j ≡ 0 → rest_at k ≡ 0
  no_rest j k h e = let there : j + (k - j) ≡ k = omega arith in omega (arith, ap rest_at there, falls j (k - j))

  -- left nothing, it keeps its first turn's
  pub not_again : (k : ℕ) → rest_at k ≡ 0 → end_at k ≡ ran k
  unfolding go_on_with
  not_again k e = ap (λ r. go_on_with by_rules r (ran k)) e

  -- ---- The turns of a page whose trims fit

  module _ (some : 0 < g.count) (fit : (k : ℕ) → k < g.count → Fit (machine_on (handed g k) []))
      (room : (k : ℕ) → k < g.count → (trim g g.budget k).state.n + g.budget ≤ 4294967295) where
    pub least : share g ≤ g.budget
    least = div-le_self g.budget g.count

    abbrev pub TurnAt : (k : ℕ) → k < g.count → Type 0
    TurnAt k h = Turned (handed g k) (fit k h) (share g) g.budget (part (places g) k g.log) least (room k h) (rest_at k) (end_at k)

    -- trim k's first turn
    abbrev first_at : (k : ℕ) → k < g.count → Alone g k (share g)
    first_at k h = first (handed g k) (fit k h) (share g) g.budget (part (places g) k g.log) least (room k h)

    pub ran_few : (k : ℕ) → k < g.count → (report (ran k)).steps ≤ share g
    ran_few k h = few (first_at k h)

    first_total : total ran 0 g.count ≤ g.budget
    first_total =
        omega (arith, sum_few ran (share g) 0 g.count (λ j a b. ran_few j (omega arith)), mul-div-le g.budget g.count)

    begins : rest_at 0 + total ran 0 g.count ≡ g.budget
    unfolding rest_at
    begins = omega (arith, first_total)

    pub turn_at : (k : ℕ) (h : k < g.count) → TurnAt k h
    turn_at k h =
        let zero_k : 0 + k ≡ k = omega arith in
        let zero_rest : rest_at (0 + k) ≡ rest_at k = ap rest_at zero_k in
        let mine : (report (ran (0 + k))).steps ≡ (report (ran k)).steps = ap (λ j. (report (ran j)).steps) zero_k in
        turned (handed g k) (fit k h) (share g) g.budget (part (places g) k g.log) least (room k h) (rest_at k)
        (omega (arith, begins, one_of_sum ran 0 g.count k h, mine, zero_rest, falls 0 k))

    -- ---- The steps of all

    passed_on : (k : ℕ) → k < g.count → rest_at (suc k) + (report (end_at k)).steps ≡ rest_at k + (report (ran k)).steps
    unfolding rest_at
    passed_on k h = let t = turn_at k h in omega (arith, t.more, t.fewer)

    summed : (i m : ℕ) → i + m ≤ g.count → rest_at (i + m) + total end_at i m ≡ rest_at i + total ran i m
    unfolding total_steps up_from
    summed i zero h = rw (add-zero i)
    summed i (suc m) h =
        let next : suc i + m ≡ i + suc m = omega arith in
        omega (arith, ap rest_at next, summed (suc i) m (omega arith), passed_on i (omega arith))

    -- what the last leaves is what all left
    pub all_steps : rest_at g.count + total_steps (of_each g end_at) ≡ g.budget
    all_steps =
        let zero_n : 0 + g.count ≡ g.count = omega arith in
        omega (arith, ap rest_at zero_n, summed 0 g.count (omega arith), begins)

    -- one that ends with 0 leaves nothing
    pub leaves_none : (k : ℕ) → k < g.count → (report (end_at k)).stop ≡ 0 → rest_at (suc k) ≡ 0
    leaves_none k h e = omega (arith, passed_on k h, (turn_at k h).uses e)

    -- one that ends for another reason leaves some of what it gets
    leaves_some : (k : ℕ) → k < g.count → ((report (end_at k)).stop ≡ 0 → ⊥) → 0 < rest_at k → 0 < rest_at (suc k)
    leaves_some k h n l =
        let t = turn_at k h in
        let other : (report (end_at k)).steps ≡ (report (ran k)).steps + rest_at k → ⊥ = λ e. n (t.used l e) in
        omega (arith, passed_on k h, t.fewer)

    -- there is some, unless the first trim does its share
    begins_some : ((report (end_at 0)).stop ≡ 0 → ⊥) → 0 < rest_at 0
    begins_some n = by_test (ltb 0 (rest_at 0)) refl
      where
        by_test : (t : Bool) → ltb 0 (rest_at 0) ≡ t → 0 < rest_at 0
        by_test true e = ltb-true 0 (rest_at 0) e
        by_test false e =
            let none : rest_at 0 ≡ 0 = omega (arith, ltb-false 0 (rest_at 0) e) in
            let fewer : (report (ran 0)).steps < share g = stops_before (first_at 0 some) (λ z. n (ap (λ c. (report c).stop) (not_again 0 none) ∙ z)) in
            let others = sum_few ran (share g) 1 (g.count - 1) (λ j a b. ran_few j (omega arith)) in
            let all : suc (g.count - 1) ≡ g.count = omega arith in
            let shares : g.count * share g ≡ (g.count - 1) * share g + share g = ap (λ m. m * share g) (sym all) ∙ suc-mul (g.count - 1) (share g) in
            absurd (omega (arith, none, begins, fewer, sum_first ran g.count some, others, shares, mul-div-le g.budget g.count))

    pub some_left : ((k : ℕ) → k < g.count → (report (end_at k)).stop ≡ 0 → ⊥) → (k : ℕ) → k ≤ g.count → 0 < rest_at k
    some_left n zero h = begins_some (n 0 some)
    some_left n (suc k) h = leaves_some k h (n k h) (some_left n k (omega arith))
