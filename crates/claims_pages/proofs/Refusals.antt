-- The refusals of a page: 17 and 1 before all trims, then 5 and 6 of the first trim that is refused.
-- Assumes nothing.
use mathlib.Core.Path.{◌≡◌, refl, sym, ap, subst, ◌∙◌}
use mathlib.Core.Bool.{true, ◌&&◌, and_assoc}
use mathlib.Core.Logic.{◌⊎◌, inl, inr, ⊎_elim, ◌↔◌}
use mathlib.Core.List.{List}
use Prim.Native.Nat.{ℕ, ◌+◌, ◌*◌, ◌%◌, ◌<◌}
use native.Mathlib.Omega.{arith}
use lib.Dec.{leb}
use lib.ListN.{length}
use Rattle.refusal.specs.Refusals.{Verdict, accepted, refused}
use Rattle.word.specs.Word.{pick}
use Rattle.word.proofs.Tests.{clash}
use Rattle.machine.specs.declared.State.{State}
use Rattle.machine.specs.Machine.{even_places}
use Rattle.machine.specs.Run.{Stepper}
use Rattle.machine.specs.Lengths.{lengths_fit}
use Rattle.run.specs.Runs.{verdict, verdict_on}
use Rattle.page.specs.Pages.{PageGiven, PageLeft, trim, joined_fit, page_verdict, accepted_page, page_left_by, page_left, PageMeets}
use Rattle.page.specs.Parts.{in_order, Whole}
use Rattle.claims.specs.Session.{Engine, stepper_of}
use Rattle.claims.specs.Refusals.{OddPlace}
use Rattle.claims.proofs.Chains.{Reply, Tests, last, ◌then◌, at, number, none, one_of}
use Rattle.claims_words.proofs.Decides.{Fails, fails_eq, fails_le, fails_and, decides_eq, decides_stable}
use Rattle.claims_pages.specs.Pages.{WrongNumber, WrongLength, Odd, Over, Passes, FirstWith, PageRefusals, AcceptedPage}
use Rattle.claims_pages.proofs.Before.{number_of, Small, is_17, is_1, one_of_4, of_trims}
use Rattle.claims_pages.proofs.Firsts.{none_refused, first_refused}
use Rattle.claims_pages.proofs.Parts.{handed_long}

-- ---- 5 and 6, of a run with a budget

verdicts : Reply Verdict
verdicts =
    record {
      accepted = accepted;
      refused = refused;
      Accepts = λ v. v ≡ accepted;
      Gives = λ v k. v ≡ refused k;
      accepts = refl;
      gives = λ k. refl;
      no_number = λ k e. clash (cc);
      one_number = λ j k e. cc;
      not_both = λ k e. clash (cc);
    }

module _ (s : State) (budget : ℕ) where
  abbrev Many : Type 0
  Many = 4294967295 < s.n + budget

  record Tested (v : Verdict) : Type 0 where
    odd : (v ≡ refused 5) ↔ OddPlace s
    over : (v ≡ refused 6) ↔ ((OddPlace s → ⊥) × Many)
    passes : (v ≡ accepted) ↔ ((OddPlace s → ⊥) × (Many → ⊥))
    small : Small v

  run_tests : Tests
  run_tests = at 5 (fails_and (fails_eq (s.pc % 2) 0) (fails_eq (s.return_address % 2) 0)) then last (at 6 (fails_le (s.n + budget) 4294967295))

  -- where the lengths fit
  tested : (P D I O : List ℕ) → lengths_fit P D I O ≡ true → Tested (verdict s P D I O budget)
  unfolding verdict verdicts run_tests
  tested P D I O e =
      subst (λ t. Tested (pick t (pick (even_places s) (pick (leb (s.n + budget) 4294967295) accepted (refused 6)) (refused 5)) (refused 1))) (sym e)
      (record {
        odd = number verdicts run_tests 0 5 refl;
        over = number verdicts run_tests 0 6 refl;
        passes = none verdicts run_tests;
        small = λ k h. (one_of verdicts run_tests k h).0;
      })

fits : (P D I O : List ℕ) → length P ≡ 65536 → length D ≡ 65536 → length I ≡ 256 → length O ≡ 256 → lengths_fit P D I O ≡ true
fits P D I O p d i o = rw (p, d, i, o)

module _ (g : PageGiven) where
  abbrev test : ℕ → Verdict
  test k = verdict_on (trim g g.budget k)

  -- ---- The tests before

  numbered : Fails (leb 1 g.count && leb g.count 8) (WrongNumber g)
  numbered =
      let f = fails_and (fails_le 1 g.count) (fails_le g.count 8) in
      (λ e. ⊎_elim (λ h. inl (omega arith)) (λ h. inr (omega arith)) (f.0 e), λ w. f.1 (⊎_elim (λ h. inl (omega arith)) (λ h. inr (omega arith)) w))

  lengths : Fails (joined_fit g) (WrongLength g)
  lengths =
      let n = g.count in
      simp and_assoc
      (fails_and (fails_eq (length g.P) (n * 65536))
      (fails_and (fails_eq (length g.D) (n * 65536)) (fails_and (fails_eq (length g.I) (n * 256)) (fails_eq (length g.O) (n * 256)))))

  module _ (few : WrongNumber g → ⊥) (right : WrongLength g → ⊥) where
    pub whole : Whole g.count g.P g.D g.I g.O
    whole =
        record {
          few = let n : 8 < g.count → ⊥ = λ h. few (inr h) in omega arith;
          programs = decides_stable (decides_eq _ _) (λ n. right (inl n));
          memories = decides_stable (decides_eq _ _) (λ n. right (inr (inl n)));
          inputs = decides_stable (decides_eq _ _) (λ n. right (inr (inr (inl n))));
          outputs = decides_stable (decides_eq _ _) (λ n. right (inr (inr (inr n))));
        }

    of_trim : (k : ℕ) → k < g.count → Tested (trim g g.budget k).state g.budget (test k)
    of_trim k h =
        let n = handed_long g whole k h in
        let t = trim g g.budget k in
        tested t.state g.budget t.P t.D t.I t.O (fits t.P t.D t.I t.O n.P n.D n.I n.O)

    -- the first that is refused with x
    first_with : (x : ℕ) (Q : ℕ → Type 0) → ((k : ℕ) → k < g.count → (test k ≡ refused x) ↔ Q k) → (in_order g ≡ refused x) ↔ FirstWith g Q
    first_with x Q is =
        let f = first_refused test x 0 g.count in (
          λ e. let z = f.0 e in
              let h : z.0 < g.count = omega (arith, z.2) in
              (z.0, h, λ j l. (of_trim j (omega arith)).passes.0 (z.3 j (omega arith) (omega arith)), (is z.0 h).0 z.4),
          λ z. f.1 (z.0, omega arith, omega (arith, z.1), λ j a b. (of_trim j (omega (arith, z.1))).passes.1 (z.2 j (omega arith)), (is z.0 z.1).1 z.3),
        )

    all_pass : (in_order g ≡ accepted) ↔ ((k : ℕ) → k < g.count → Passes g k)
    all_pass =
        let f = none_refused test 0 g.count in (
          λ e k h. (of_trim k h).passes.0 (f.0 e k (omega arith) (omega arith)),
          λ p. f.1 (λ k a b. let h : k < g.count = omega arith in (of_trim k h).passes.1 (p k h)),
        )

    only_small : (x : ℕ) → in_order g ≡ refused x → (x ≡ 5) ⊎ (x ≡ 6)
    only_small x e =
        let z = (first_refused test x 0 g.count).0 e in (of_trim z.0 (omega (arith, z.2))).small x z.4

  -- ---- What it replies

  pub replied : (v : Stepper) (l : PageLeft) → PageMeets v g l → l.reply ≡ page_verdict g
  unfolding page_left accepted_page
  replied v l e = ap (λ x. x.reply) e ∙ by_verdict (page_verdict g)
    where
      by_verdict : (x : Verdict) → (page_left_by v x g).reply ≡ x
      by_verdict accepted = refl
      by_verdict (refused k) = refl

  pub page_refusals : (e : Engine) (l : PageLeft) → PageMeets (stepper_of e) g l → PageRefusals g l
  unfolding page_verdict page_left
  page_refusals e l met =
      let a = leb 1 g.count && leb g.count 8 in
      let b = joined_fit g in
      let x = in_order g in
      let r = replied (stepper_of e) l met in
      record {
        number_17 = rw r (is_17 x only_small a b numbered lengths);
        number_1 = rw r (is_1 x only_small a b numbered lengths);
        number_5 =
            rw r
            (of_trims x (refused 5) (λ e. omega (arith, number_of e)) (λ e. omega (arith, number_of e)) a b numbered lengths
            (λ n m. first_with n m 5 (Odd g) (λ k h. (of_trim n m k h).odd)));
        number_6 =
            rw r
            (of_trims x (refused 6) (λ e. omega (arith, number_of e)) (λ e. omega (arith, number_of e)) a b numbered lengths
            (λ n m. first_with n m 6 (λ k. (Odd g k → ⊥) × Over g k) (λ k h. (of_trim n m k h).over)));
        accepts = rw r (of_trims x accepted (λ e. clash (cc)) (λ e. clash (cc)) a b numbered lengths all_pass);
        no_other = λ k. rw r (one_of_4 x only_small a b numbered lengths k);
        nothing_changes = λ k f. met ∙ ap (λ v. page_left_by (stepper_of e) v g) (sym r ∙ f);
      }

  pub exists : (WrongNumber g → ⊥) → (WrongLength g → ⊥) → ((k : ℕ) → k < g.count → Passes g k)
      → (e : Engine) → (p : AcceptedPage g) × (p.engine ≡ e)
  exists few right pass e =
      let l = page_left (stepper_of e) g in
      (record { engine = e; left = l; meets = refl; accepts = (page_refusals e l refl).accepts.1 (few, right, pass) }, refl)
