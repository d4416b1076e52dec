-- What a page replies, for the C numbers of it: no refusal with 0 and eight answers; refused, the states as handed and answers of 0; accepted,
-- answers of 0 past the count and states whose count of journal entries is 0.
-- Assumes nothing.
use mathlib.Core.Path.{◌≡◌, refl, sym, ◌∙◌, ap}
use mathlib.Core.Bool.{Bool, true, false, ◌&&◌}
use mathlib.Core.Logic.{◌⊎◌, inl, inr, ⊎_elim}
use mathlib.Core.List.{List, [], ◌∷◌, ◌++◌, map}
use Prim.Native.Nat.{ℕ, zero, suc, ◌+◌, ◌-◌, ◌<◌, ◌≤◌}
use native.Mathlib.Nat.{div-le_self}
use native.Mathlib.Omega.{arith}
use lib.Dec.{leb}
use lib.ListN.{length, get_or, drop, replicate, length-append, length-map, length-replicate}
use lib.Seq.{drop_at}
use Rattle.refusal.specs.Refusals.{Verdict, accepted, refused}
use Rattle.word.specs.Word.{pick}
use Rattle.word.proofs.Tests.{clash}
use Rattle.machine.specs.declared.State.{State}
use Rattle.machine.specs.Machine.{reset}
use Rattle.machine.specs.Run.{Stepper, by_rules}
use Rattle.machine.proofs.Runs.{Lawful}
use Rattle.control.specs.Control.{table}
use Rattle.control.proofs.Laws.{lawful_control, lawful_rules}
use Rattle.run.specs.Runs.{no_journal, Given, given, verdict_on, machine_at, run_left_by, run_left, CountedLeft, counted_by, counted_left}
use Rattle.page.specs.Pages.{PageGiven, PageLeft, up_from, trim, joined_fit, first_refusal, page_verdict, go_on_with, share, first_round, second_round, trims_end, answer_of, no_answer, accepted_page, page_left_by, page_left}
use Rattle.page.specs.Parts.{Each}
use Rattle.page.proofs.Verdicts.{accepts, accepted_less}
use Rattle.page.proofs.Handed.{each_long}
use Rattle.claims.specs.Session.{Engine, through_rules, through_table, stepper_of}
use Rattle.claims.proofs.Alike.{steps_keep}
use Rattle.claims.proofs.Refusals.{refusals}

-- ---- No refusal with 0

pub run_not_0 : (g : Given) (k : ℕ) → verdict_on g ≡ refused k → k ≡ 0 → ⊥
unfolding run_left
run_not_0 g k e z =
    ⊎_elim (λ h. omega arith) (⊎_elim (λ h. omega arith) (λ h. omega arith))
    ((refusals.run by_rules g).no_other k (ap (λ (x : Verdict). (run_left_by by_rules x g).reply) e))

first_not_0 : (f : ℕ → Given) (js : List ℕ) (k : ℕ) → first_refusal (map (λ j. verdict_on (f j)) js) ≡ refused k → k ≡ 0 → ⊥
unfolding first_refusal
first_not_0 f [] k e z = clash (cc)
first_not_0 f (j ∷ js) k e z = by_verdict (λ h. first_not_0 f js k h z) (verdict_on (f j)) refl e
  where
    by_verdict : (first_refusal (map (λ i. verdict_on (f i)) js) ≡ refused k → ⊥) → (x : Verdict) → verdict_on (f j) ≡ x
        → first_refusal (x ∷ map (λ i. verdict_on (f i)) js) ≡ refused k → ⊥
    by_verdict others accepted q h = others h
    by_verdict others (refused n) q h = let s : n ≡ k = cc in run_not_0 (f j) n q (s ∙ z)

page_not_0 : (g : PageGiven) (k : ℕ) → page_verdict g ≡ refused k → k ≡ 0 → ⊥
unfolding page_verdict
page_not_0 g k e z = by_tests (leb 1 g.count && leb g.count 8) (joined_fit g) e
  where
    by_tests : (s t : Bool) → pick s (pick t (first_refusal (map (λ j. verdict_on (trim g g.budget j)) (up_from 0 g.count))) (refused 1)) (refused 17) ≡ refused k → ⊥
    by_tests false t h = let s : ◌≡◌ {A = ℕ} 17 k = cc in omega arith
    by_tests true false h = let s : ◌≡◌ {A = ℕ} 1 k = cc in omega arith
    by_tests true true h = first_not_0 (trim g g.budget) (up_from 0 g.count) k h z

-- ---- As many trims as before

second_long : (v : Stepper) (cs : List CountedLeft) (rest : ℕ) → length (second_round v rest cs) ≡ length cs
unfolding second_round
second_long v [] rest = refl
second_long v (c ∷ cs) rest = ap suc (second_long v cs _)

ends_long : (v : Stepper) (g : PageGiven) → length (trims_end v g) ≡ g.count
unfolding trims_end
ends_long v g = second_long v (first_round v g) _ ∙ each_long (λ k. counted_left v (trim g (share g) k)) 0 g.count

-- ---- The count of journal entries

abbrev Is0 : CountedLeft → Type 0
Is0 c = c.left.state.journaled ≡ 0

module _ (v : Stepper) (law : Lawful v) where
  -- from 0 at an accepted run without a journal, as handed by a refused one
  module _ (s : State) (P D I O : List ℕ) (budget : ℕ) (log : List ℕ) where
    abbrev g : Given
    g = given s P D I O budget log no_journal

    counted_0 : (x : Verdict) → (x ≡ accepted) ⊎ (s.journaled ≡ 0) → Is0 (counted_by v x g)
    counted_0 accepted h =
        steps_keep v (λ m. m.state.journaled ≡ 0) (λ m next e z. ap (λ u. u.0) (law.leaves m next e) ∙ z) budget (0 + length log) (machine_at g) refl
    counted_0 (refused k) (inl e) = clash (cc)
    counted_0 (refused k) (inr e) = e

    run_is_0 : (verdict_on g ≡ accepted) ⊎ (s.journaled ≡ 0) → Is0 (counted_left v g)
    unfolding counted_left
    run_is_0 = counted_0 (verdict_on g)

  on_is_0 : (n : ℕ) (c : CountedLeft) → Is0 c → Is0 (go_on_with v n c)
  unfolding go_on_with
  on_is_0 zero c h = h
  on_is_0 (suc n) c h = let l = c.left in run_is_0 l.state l.P l.D l.I l.O (suc n) _ (inr h)

  second_0 : (cs : List CountedLeft) (rest : ℕ) → Each Is0 cs → Each Is0 (second_round v rest cs)
  unfolding second_round
  second_0 [] rest h = tt
  second_0 (c ∷ cs) rest h = (on_is_0 rest c h.0, second_0 cs _ h.1)

  module _ (g : PageGiven) where
    first_0 : (ks : List ℕ) → Each (λ k. verdict_on (trim g g.budget k) ≡ accepted) ks → Each Is0 (map (λ k. counted_left v (trim g (share g) k)) ks)
    first_0 [] h = tt
    first_0 (k ∷ ks) h =
        let t = trim g (share g) k in (
          run_is_0 t.state t.P t.D t.I t.O (share g) t.log (inl (accepted_less t.state t.P t.D t.I t.O (div-le_self g.budget g.count) h.0)),
          first_0 ks h.1,
        )

    ends_0 : accepted ≡ page_verdict g → Each Is0 (trims_end v g)
    unfolding trims_end
    ends_0 e = second_0 (first_round v g) _ (first_0 (up_from 0 g.count) (accepts g e).trims)

each_at : (cs : List CountedLeft) (past : List State) → Each Is0 cs → (k : ℕ) → k < length cs → (get_or (map (λ c. c.left.state) cs ++ past) k reset).journaled ≡ 0
each_at [] past h k l = absurd (omega arith)
each_at (c ∷ cs) past h zero l = h.0
each_at (c ∷ cs) past h (suc k) l = each_at cs past h.1 k (omega arith)

-- ---- What a page replies

pub record Replied (g : PageGiven) (l : PageLeft) : Type 0 where
  pub not_0 : (k : ℕ) → l.reply ≡ refused k → k ≡ 0 → ⊥
  pub eight : length l.answers ≡ 8
  pub handed : (k : ℕ) → l.reply ≡ refused k → (l.states ≡ g.states) × (l.answers ≡ replicate 8 no_answer)
  pub past : l.reply ≡ accepted → drop g.count l.answers ≡ replicate (8 - g.count) no_answer
  pub journaled : l.reply ≡ accepted → (k : ℕ) → k < g.count → (get_or l.states k reset).journaled ≡ 0

module _ (v : Stepper) (law : Lawful v) (g : PageGiven) where
  by_verdict : (x : Verdict) → page_verdict g ≡ x → Replied g (page_left_by v x g)
  unfolding accepted_page
  by_verdict accepted e =
      let cs = trims_end v g in
      let long : length (map answer_of cs) ≡ g.count = length-map cs answer_of ∙ ends_long v g in
      let few : g.count ≤ 8 = (accepts g (sym e)).whole.few in
      record {
        not_0 = λ k h z. clash (cc);
        eight =
            length-append (map answer_of cs) (replicate (8 - g.count) no_answer)
            ∙ omega (arith, long, length-replicate (8 - g.count) no_answer);
        handed = λ k h. clash (cc);
        past = λ h. drop_at (map answer_of cs) (replicate (8 - g.count) no_answer) g.count long;
        journaled = λ h k l. each_at cs (drop g.count g.states) (ends_0 v law g (sym e)) k (omega (arith, ends_long v g));
      }
  by_verdict (refused k) e =
      record {
        not_0 = λ j h z. let s : j ≡ k = cc in page_not_0 g k e (sym s ∙ z);
        eight = refl;
        handed = λ j h. (refl, refl);
        past = λ h. clash (cc);
        journaled = λ h. clash (cc);
      }

  by_law : Replied g (page_left v g)
  unfolding page_left
  by_law = by_verdict (page_verdict g) refl

pub replied : (e : Engine) (g : PageGiven) → Replied g (page_left (stepper_of e) g)
replied through_rules = by_law _ lawful_rules
replied through_table = by_law _ (lawful_control table)
