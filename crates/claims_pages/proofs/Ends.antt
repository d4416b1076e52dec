-- An accepted page, trim by trim: each comes to one run, and what is left is these joined.
-- Assumes nothing.
use mathlib.Core.Path.{◌≡◌, refl, sym, ap, ◌∙◌}
use mathlib.Core.Logic.{inl, inr}
use mathlib.Core.List.{[]}
use Prim.Native.Nat.{ℕ, ◌+◌, ◌<◌, ◌≤◌}
use native.Mathlib.Omega.{arith}
use lib.ListN.{length}
use Rattle.machine.specs.Run.{by_rules}
use Rattle.control.proofs.Agreement.{same_stepper}
use Rattle.page.specs.Pages.{PageGiven, of_each, part, places, trim, accepted_page, page_left_by, page_left}
use Rattle.page.specs.Parts.{Whole}
use Rattle.claims.specs.Session.{Engine, through_rules, through_table, stepper_of, machine_on}
use Rattle.claims.proofs.Lengths.{Fit}
use Rattle.claims_words.proofs.Decides.{decides_eq, decides_stable}
use Rattle.claims_pages.specs.Pages.{WrongNumber, WrongLength, Passes, AcceptedPage, handed, Alone}
use Rattle.claims_pages.proofs.Parts.{Long, handed_long}
use Rattle.claims_pages.proofs.Refusals.{whole, replied, page_refusals}
use Rattle.claims_pages.proofs.Alone.{run_from, keeps, log_long}
use Rattle.claims_pages.proofs.Turns.{may_run}
use Rattle.claims_pages.proofs.Rounds.{end_at, ends_are, TurnAt, turn_at}

-- both engines' pages are the same
pub engines : (e : Engine) (g : PageGiven) → page_left (stepper_of e) g ≡ page_left by_rules g
engines through_rules g = refl
engines through_table g = ap (λ v. page_left v g) same_stepper

module _ {g : PageGiven} (p : AcceptedPage g) where
  -- ---- What its tests say

  tests : (WrongNumber g → ⊥) × (WrongLength g → ⊥) × ((k : ℕ) → k < g.count → Passes g k)
  tests = (page_refusals g p.engine p.left p.meets).accepts.0 p.accepts

  pub lengths : Whole g.count g.P g.D g.I g.O
  lengths = whole g tests.0 tests.1

  pub some : 0 < g.count
  some = let n : g.count ≡ 0 → ⊥ = λ e. tests.0 (inl e) in omega arith

  pub room : (k : ℕ) → k < g.count → (trim g g.budget k).state.n + g.budget ≤ 4294967295
  room k h = omega (arith, (tests.2 k h).1)

  long : (k : ℕ) → k < g.count → Long g k
  long = handed_long g lengths

  pub fit : (k : ℕ) → k < g.count → Fit (machine_on (handed g k) [])
  fit k h =
      let odd = (tests.2 k h).0 in
      let n = long k h in (
        λ i. (n.P i, n.D i, n.I i, n.O i),
        (decides_stable (decides_eq _ _) (λ n. odd (inl n)), decides_stable (decides_eq _ _) (λ n. odd (inr n))),
      )

  -- ---- What it leaves

  pub left_is : p.left ≡ accepted_page g (of_each g (end_at g))
  unfolding page_left
  left_is =
      p.meets
      ∙ engines p.engine g
      ∙ ap (λ v. page_left_by by_rules v g) (sym (replied g (stepper_of p.engine) p.left p.meets) ∙ p.accepts)
      ∙ ap (accepted_page g) (ends_are g)

  -- ---- Trim k

  module _ (k : ℕ) (h : k < g.count) where
    pub turn : TurnAt g some fit room k h
    turn = turn_at g some fit room k h

    -- the one run that it is
    abbrev pub its_run : Alone g k turn.budget
    its_run =
        run_from (handed g k) turn.budget (part (places g) k g.log)
        (may_run (handed g k) (fit k h) turn.budget (part (places g) k g.log) (omega (arith, turn.at_most, room k h)))

    pub end_is : end_at g k ≡ its_run.ran
    end_is = turn.is

    pub same-P : (end_at g k).left.P ≡ part 65536 k g.P
    same-P = ap (λ c. c.left.P) end_is ∙ ap (λ x. x.0) (keeps its_run)

    pub end-P : length (end_at g k).left.P ≡ 65536
    end-P = ap length same-P ∙ (long k h).P

    pub end-D : length (end_at g k).left.D ≡ 65536
    end-D = ap (λ c. length c.left.D) end_is ∙ ap (λ x. x.1) (keeps its_run) ∙ (long k h).D

    pub end-I : length (end_at g k).left.I ≡ 256
    end-I = ap (λ c. length c.left.I) end_is ∙ ap (λ x. x.2) (keeps its_run) ∙ (long k h).I

    pub end-O : length (end_at g k).left.O ≡ 256
    end-O = ap (λ c. length c.left.O) end_is ∙ ap (λ x. x.3) (keeps its_run) ∙ (long k h).O

    pub end_log : length (end_at g k).left.log ≡ places g
    end_log = ap (λ c. length c.left.log) end_is ∙ log_long its_run ∙ (long k h).log
