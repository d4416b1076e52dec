-- Two pages whose trims differ only in locked bytes: each trim's two turns go alike (Runs.antt), so the same is left unused for the next.
-- Assumes nothing.
use mathlib.Core.Path.{◌≡◌, refl, sym, ap, subst, ◌∙◌}
use mathlib.Core.Bool.{Bool, true, false}
use mathlib.Core.List.{List, [], ◌∷◌, ◌++◌, map}
use Prim.Native.Nat.{ℕ, zero, suc, ◌+◌, ◌-◌, ◌*◌, ◌<◌, ◌≤◌, min}
use native.Mathlib.Omega.{arith}
use borrow.Author.Tests.{ltb-true, ltb-false}
use lib.Dec.{ltb}
use lib.ListN.{length, get_or, drop, replicate, length-take, length-drop}
use lib.Seq.{get_or-drop}
use Rattle.refusal.specs.Refusals.{Verdict, accepted, refused}
use Rattle.machine.specs.declared.State.{State}
use Rattle.machine.specs.Machine.{reset, is_locked}
use Rattle.machine.specs.Run.{by_rules}
use Rattle.run.specs.Runs.{verdict, verdict_on, CountedLeft}
use Rattle.page.specs.declared.TrimAnswer.{TrimAnswer}
use Rattle.page.specs.Pages.{PageGiven, page_of, PageLeft, up_from, of_each, part, places, trim, first_refusal, page_verdict, report, run_on, as_one, go_on_with, share, total_steps, answer_of, no_answer, rejoined, accepted_page, PageMeets}
use Rattle.page.specs.Parts.{in_order}
use Rattle.claims.specs.Session.{Engine, through_rules, stepper_of}
use Rattle.claims.specs.Saved.{range_of}
use Rattle.claims_pages.specs.Pages.{AcceptedPage}
use Rattle.claims_pages.proofs.Rounds.{ran, rest_at, end_at}
use Rattle.claims_pages.proofs.Refusals.{replied, page_refusals}
use Rattle.claims_pages.proofs.Ends.{left_is}
use Rattle.claims_pages.proofs.Own.{left_by, own, kept}
use Rattle.claims_isolation.specs.LockedPages.{DifferEach, ApartPages, SamePages, IsolatedPages}
use Rattle.claims_isolation.proofs.Runs.{left_d, bare, LeftApart, run_apart, run_locked, run_range}
use Rattle.claims_isolation.proofs.TwoPages.{two_pages}

-- ---- What is seen of a list of ends: all but the data memories

record Seen : Type 0 where
  states : List State
  answers : List TrimAnswer
  P : List ℕ
  I : List ℕ
  O : List ℕ
  log : List ℕ
  steps : ℕ

abbrev seen : List CountedLeft → Seen
seen cs =
    record {
      states = map (λ c. c.left.state) cs;
      answers = map answer_of cs;
      P = rejoined (λ c. c.left.P) cs;
      I = rejoined (λ c. c.left.I) cs;
      O = rejoined (λ c. c.left.O) cs;
      log = rejoined (λ c. c.left.log) cs;
      steps = total_steps cs;
    }

module _ (f f' : ℕ → CountedLeft) where
  seen_from : (i m : ℕ) → ((j : ℕ) → j < i + m → bare (f j) ≡ bare (f' j)) → seen (map f (up_from i m)) ≡ seen (map f' (up_from i m))
  unfolding up_from rejoined total_steps
  seen_from i zero same = refl
  seen_from i (suc m) same =
      let c = same i (omega arith) in
      let more = seen_from (suc i) m (λ j h. same j (omega arith)) in
      λ k.
      record {
        states = (c k).left.state ∷ (more k).states;
        answers = answer_of (c k) ∷ (more k).answers;
        P = (c k).left.P ++ (more k).P;
        I = (c k).left.I ++ (more k).I;
        O = (c k).left.O ++ (more k).O;
        log = (c k).left.log ++ (more k).log;
        steps = (report (c k)).steps + (more k).steps;
      }

  seen_alike : (m : ℕ) → ((j : ℕ) → j < m → bare (f j) ≡ bare (f' j)) → seen (map f (up_from 0 m)) ≡ seen (map f' (up_from 0 m))
  seen_alike m same = seen_from 0 m (λ j h. same j (omega arith))

-- what an accepted page leaves but for the data memories, and any page
abbrev left_seen : PageGiven → Seen → PageLeft
left_seen g x =
    record {
      reply = accepted;
      states = x.states ++ drop g.count g.states;
      answers = x.answers ++ replicate (8 - g.count) no_answer;
      P = x.P;
      D = [];
      I = x.I;
      O = x.O;
      log = x.log ++ drop (g.count * places g) g.log;
    }

abbrev bare_page : PageLeft → PageLeft
bare_page l =
    record { reply = l.reply; states = l.states; answers = l.answers; P = l.P; D = []; I = l.I; O = l.O; log = l.log }

-- ---- A trim's second turn

is_left_d : (c d : CountedLeft) → bare c ≡ bare d → d ≡ left_d d.left.D c
is_left_d c d e = λ i. left_d d.left.D (sym e i)

go_on : (rest : ℕ) (c d : CountedLeft) → LeftApart c d → LeftApart (go_on_with by_rules rest c) (go_on_with by_rules rest d)
unfolding go_on_with
go_on zero c d a = a
go_on (suc n) c d a = subst (λ (x : CountedLeft). LeftApart (go_on_with by_rules (suc n) c) (go_on_with by_rules (suc n) x)) (sym (is_left_d c d a.same)) turned
  where
    turned : LeftApart (as_one c (run_on by_rules (suc n) c)) (as_one (left_d d.left.D c) (run_on by_rules (suc n) (left_d d.left.D c)))
    turned =
        let z = run_apart _ d.left.D a.memory in
        record { same = ap (λ (x : CountedLeft). bare (as_one c x)) z.same; memory = z.memory }

-- ---- The rounds

abbrev page_d : List ℕ → PageGiven → PageGiven
page_d E g = page_of g.states g.count g.P E g.I g.O g.budget g.log

module _ (g : PageGiven) (E : List ℕ) (d : DifferEach g.count g.states g.D E) where
  abbrev g' : PageGiven
  g' = page_d E g

  ran_apart : (k : ℕ) → k < g.count → LeftApart (ran g k) (ran g' k)
  ran_apart k h = run_apart (trim g (share g) k) (part 65536 k E) (d.each k h)

  rest_same : (k : ℕ) → k ≤ g.count → rest_at g k ≡ rest_at g' k
  unfolding rest_at
  rest_same zero h = ap (λ (x : Seen). g.budget - x.steps) (seen_alike (ran g) (ran g') g.count (λ j l. (ran_apart j l).same))
  rest_same (suc k) h =
      let r = rest_same k (omega arith) in
      let a = ran_apart k (omega arith) in
      let e = go_on (rest_at g k) (ran g k) (ran g' k) a in
      (λ i. rest_at g k - ((report (e.same i)).steps - (report (a.same i)).steps))
      ∙ ap (λ n. n - ((report (go_on_with by_rules n (ran g' k))).steps - (report (ran g' k)).steps)) r

  end_apart : (k : ℕ) → k < g.count → LeftApart (end_at g k) (end_at g' k)
  end_apart k h =
      subst (λ n. LeftApart (end_at g k) (go_on_with by_rules n (ran g' k))) (rest_same k (omega arith)) (go_on (rest_at g k) (ran g k) (ran g' k) (ran_apart k h))

  -- ---- What is replied and left

  -- of the memories the tests look at the lengths alone
  same_test : (k : ℕ) → verdict_on (trim g g.budget k) ≡ verdict_on (trim g' g.budget k)
  unfolding verdict
  same_test k =
      let n = k * 65536 in
      let long : length (part 65536 k g.D) ≡ length (part 65536 k E) =
      length-take 65536 (drop n g.D) ∙ ap (min 65536) (length-drop n g.D ∙ ap (λ m. m - n) d.long ∙ sym (length-drop n E)) ∙ sym (length-take 65536 (drop n E)) in
      rw long

  same_verdict : page_verdict g ≡ page_verdict g'
  unfolding page_verdict
  same_verdict = let tests : in_order g ≡ in_order g' = λ i. first_refusal (of_each g (λ k. same_test k i)) in rw (d.long, tests)

  both_accepted : (p : AcceptedPage g) (q : AcceptedPage g') → SamePages g.count p.left q.left
  unfolding accepted_page
  both_accepted p q =
      let ends = seen_alike (end_at g) (end_at g') g.count (λ j h. (end_apart j h).same) in
      let z : bare_page p.left ≡ bare_page q.left = ap bare_page (left_is p) ∙ ap (left_seen g) ends ∙ sym (ap bare_page (left_is q)) in
      record {
        reply = ap (λ x. x.reply) z;
        states = ap (λ x. x.states) z;
        answers = ap (λ x. x.answers) z;
        programs = ap (λ x. x.P) z;
        memories =
            record {
              long = (kept p).long-D ∙ d.long ∙ sym (kept q).long-D;
              each = λ k h. let a = left_by p k h in rw (a.state, a.D, (left_by q k h).D) (end_apart k h).memory;
            };
        inputs = ap (λ x. x.I) z;
        outputs = ap (λ x. x.O) z;
        log = ap (λ x. x.log) z;
      }

  same_pages : (e₁ e₂ : Engine) (l₁ l₂ : PageLeft) → PageMeets (stepper_of e₁) g l₁ → PageMeets (stepper_of e₂) g' l₂ → SamePages g.count l₁ l₂
  same_pages e₁ e₂ l₁ l₂ m₁ m₂ = by_reply l₁.reply refl (replied g' (stepper_of e₂) l₂ m₂ ∙ sym same_verdict ∙ sym (replied g (stepper_of e₁) l₁ m₁))
    where
      by_reply : (x : Verdict) → l₁.reply ≡ x → l₂.reply ≡ l₁.reply → SamePages g.count l₁ l₂
      by_reply accepted r s =
          both_accepted (record { engine = e₁; left = l₁; meets = m₁; accepts = r }) (record { engine = e₂; left = l₂; meets = m₂; accepts = s ∙ r })
      by_reply (refused k) r s =
          rw ((page_refusals g e₁ l₁ m₁).nothing_changes k r, (page_refusals g' e₂ l₂ m₂).nothing_changes k (s ∙ r))
          (record { reply = refl; states = refl; answers = refl; programs = refl; memories = d; inputs = refl; outputs = refl; log = refl })

-- ---- One page

module _ (e : Engine) (g : PageGiven) (l : PageLeft) (met : PageMeets (stepper_of e) g l) where
  abbrev page : l.reply ≡ accepted → AcceptedPage g
  page ok = record { engine = e; left = l; meets = met; accepts = ok }

  -- a state past the trims
  past : l.reply ≡ accepted → (k : ℕ) → g.count ≤ k → get_or l.states k reset ≡ get_or g.states k reset
  past ok k h =
      let n = g.count in
      let there : n + (k - n) ≡ k = omega arith in
      ap (λ j. get_or l.states j reset) (sym there)
      ∙ sym (get_or-drop n l.states (k - n) reset)
      ∙ ap (λ (ss : List State). get_or ss (k - n) reset) (kept (page ok)).states
      ∙ get_or-drop n g.states (k - n) reset
      ∙ ap (λ j. get_or g.states j reset) there

  page_range : (k : ℕ) → range_of (get_or l.states k reset) ≡ range_of (get_or g.states k reset)
  page_range k = by_reply l.reply refl
    where
      by_place : l.reply ≡ accepted → (t : Bool) → ltb k g.count ≡ t → range_of (get_or l.states k reset) ≡ range_of (get_or g.states k reset)
      by_place ok true t =
          let z = own (page ok) k (ltb-true k g.count t) in
          ap range_of (z.one_run through_rules).state ∙ run_range (trim g z.budget k)
      by_place ok false t = ap range_of (past ok k (ltb-false k g.count t))

      by_reply : (x : Verdict) → l.reply ≡ x → range_of (get_or l.states k reset) ≡ range_of (get_or g.states k reset)
      by_reply accepted ok = by_place ok (ltb k g.count) refl
      by_reply (refused j) r = ap (λ x. range_of (get_or x.states k reset)) ((page_refusals g e l met).nothing_changes j r)

  page_locked : (k : ℕ) → k < g.count → (a : ℕ) → is_locked a (get_or g.states k reset) ≡ true → get_or (part 65536 k l.D) a 0 ≡ get_or (part 65536 k g.D) a 0
  page_locked k h a locked = by_reply l.reply refl
    where
      by_reply : (x : Verdict) → l.reply ≡ x → get_or (part 65536 k l.D) a 0 ≡ get_or (part 65536 k g.D) a 0
      by_reply accepted ok =
          let z = own (page ok) k h in
          ap (λ M. get_or M a 0) (z.one_run through_rules).D ∙ run_locked (trim g z.budget k) a locked
      by_reply (refused j) r = ap (λ x. get_or (part 65536 k x.D) a 0) ((page_refusals g e l met).nothing_changes j r)

-- ---- The claim

apart_is : {g₁ g₂ : PageGiven} → ApartPages g₁ g₂ → g₂ ≡ page_d g₂.D g₁
apart_is {g₁} {g₂} a =
    λ i. page_of (sym a.states i) (sym a.count i) (sym a.programs i) g₂.D (sym a.inputs i) (sym a.outputs i) (sym a.budget i) (sym a.log i)

pub isolated_pages : IsolatedPages
isolated_pages =
    record {
      pages = λ e₁ e₂ g₁ g₂ a l₁ l₂ m₁ m₂.
          same_pages g₁ g₂.D a.memories e₁ e₂ l₁ l₂ m₁ (subst (λ (x : PageGiven). PageMeets (stepper_of e₂) x l₂) (apart_is a) m₂);
      two_pages = two_pages;
      page_range = page_range;
      page_locked = page_locked;
    }
