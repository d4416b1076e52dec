-- An accepted page: its first round can begin, its second can follow, and what that leaves is what the definition says.
-- Assumes nothing.
use mathlib.Core.Path.{◌≡◌, refl, sym, ap, subst, ◌∙◌}
use mathlib.Core.Bool.{true, false}
use mathlib.Core.List.{List, [], ◌∷◌, append-nil}
use Prim.Native.Nat.{ℕ, ◌+◌, ◌-◌, ◌*◌, ◌≤◌}
use native.Mathlib.Nat.{mul-div-le, div-le_self}
use native.Mathlib.Omega.{arith}
use lib.ListN.{length, drop, replicate}
use Rattle.refusal.specs.Refusals.{accepted, refused}
use Rattle.machine.specs.Machine.{reset}
use Rattle.machine.specs.Run.{Stepper}
use Rattle.machine.proofs.Runs.{Lawful}
use Rattle.run.specs.Runs.{CountedLeft, counted_left}
use Rattle.page.specs.declared.TrimAnswer.{TrimAnswer}
use Rattle.page.specs.declared.turns.Progress.{Progress}
use Rattle.page.specs.Pages.{PageGiven, PageLeft, up_from, of_each, places, trim, page_verdict, report, share, first_round, total_steps, second_round, trims_end, answer_of, no_answer, rejoined, accepted_page, page_left_by, page_left, PageMeets}
use Rattle.page.specs.Parts.{Each, Joins, Past, Stands, CanRunOn, round_by, CanRound, RoundedTo}
use Rattle.page.proofs.Bounds.{Within, within, unused_few}
use Rattle.page.proofs.Verdicts.{Accepts, accepts, accepted_less}
use Rattle.page.proofs.Handed.{untouched, each_long, joins_parts, joins_all, places_all, same_all, each_of, no_steps}
use Rattle.page.proofs.Shares.{shared_out, rest_out}

-- what follows of each
each_map : {A : Type 0} {Q R : A → Type 0} → ((x : A) → Q x → R x) → (xs : List A) → Each Q xs → Each R xs
each_map f [] q = tt
each_map f (x ∷ xs) q = (f x q.0, each_map f xs q.1)

each_with : {A : Type 0} {Q R Z : A → Type 0} → ((x : A) → Q x → R x → Z x) → (xs : List A) → Each Q xs → Each R xs → Each Z xs
each_with f [] q r = tt
each_with f (x ∷ xs) q r = (f x q.0 r.0, each_with f xs q.1 r.1)

-- the steps of one are among those of all
each_steps : (rest budget : ℕ) (cs : List CountedLeft) → rest + total_steps cs ≤ budget → Each (λ c. (report c).steps + rest ≤ budget) cs
unfolding total_steps
each_steps rest budget [] h = tt
each_steps rest budget (c ∷ cs) h = (omega arith, each_steps rest budget cs (omega arith))

module _ (v : Stepper) (law : Lawful v) (g : PageGiven) (ok : accepted ≡ page_verdict g) (fits : g.budget ≤ 4294967295) (eight : length g.states ≡ 8) where
  a : Accepts g
  a = accepts g ok

  abbrev handed : ℕ → CountedLeft
  handed k = untouched (trim g (share g) k)

  abbrev past : Past
  past = record { states = drop g.count g.states; answers = replicate (8 - g.count) no_answer; log = drop (g.count * places g) g.log }

  -- ---- Before the first round

  handed_stands : Stands (places g) past (of_each g handed) g.states (replicate 8 no_answer) g.P g.D g.I g.O g.log
  handed_stands =
      let w = a.whole in
      let n = g.count in
      let few = w.few in
      let rest : n + (8 - n) ≡ 8 = omega arith in
      record {
        lent =
            record {
              programs = joins_all g.P 65536 (λ c. c.left.P) handed (λ k. refl) n w.programs;
              memories = joins_all g.D 65536 (λ c. c.left.D) handed (λ k. refl) n w.memories;
              inputs = joins_all g.I 256 (λ c. c.left.I) handed (λ k. refl) n w.inputs;
              outputs = joins_all g.O 256 (λ c. c.left.O) handed (λ k. refl) n w.outputs;
              parts = joins_parts g.log (places g) (λ c. c.left.log) handed (λ k. refl) n (mul-div-le (length g.log) n);
            };
        states = places_all g.states reset (λ c. c.left.state) handed (λ k. refl) n (omega arith);
        answers = ap (λ k. replicate k no_answer) (sym rest) ∙ same_all no_answer answer_of handed (λ k. refl) 0 n (8 - n);
      }

  pub can_begin : {none : TrimAnswer} → none ≡ no_answer
      → CanRound g.count (places g) (record { states = g.states; answers = replicate 8 none; rest = g.budget }) g.P g.D g.I g.O g.log
  can_begin e =
      record {
        past = past;
        trims = of_each g handed;
        few = a.whole.few;
        number = each_long handed 0 g.count;
        stands = subst (λ x. Stands (places g) past (of_each g handed) g.states (replicate 8 x) g.P g.D g.I g.O g.log) (sym e) handed_stands;
        can =
            each_of (CanRunOn g.budget) handed
            (λ k. record { entries = omega arith; steps = omega arith; ticks = omega arith; counts = unused_few }) 0 g.count;
      }

  -- ---- Between the two

  -- there is a share for each
  enough : g.count * share g ≤ g.budget
  enough = omega (arith, mul-div-le g.budget g.count)

  few_share : share g ≤ 4294967295
  few_share = omega (arith, div-le_self g.budget g.count)

  shares : round_by v false (share g) g.budget (of_each g handed) ≡ first_round v g
  shares =
      shared_out v law g (share g) few_share 0 g.count g.budget enough
      (each_map (λ k e. let t = trim g (share g) k in accepted_less t.state t.P t.D t.I t.O (div-le_self g.budget g.count) e) (up_from 0 g.count) a.trims)

  module _ {none : TrimAnswer} (is_none : none ≡ no_answer) {p : Progress} {D' I' O' log' : List ℕ}
      (first : (x : CanRound g.count (places g) (record { states = g.states; answers = replicate 8 none; rest = g.budget }) g.P g.D g.I g.O g.log)
      → RoundedTo v false (share g) g.budget (places g) x.past x.trims p g.P D' I' O' log') where
    shared : RoundedTo v false (share g) g.budget (places g) past (of_each g handed) p g.P D' I' O' log'
    unfolding can_begin
    shared = first (can_begin is_none)

    -- B less all steps so far
    unused_is : p.rest + total_steps (first_round v g) ≡ g.budget
    unused_is =
        ap (λ cs. p.rest + total_steps cs) (sym shares)
        ∙ shared.total
        ∙ omega (arith, no_steps (λ k. trim g (share g) k) 0 g.count)

    first_can : Each (CanRunOn p.rest) (first_round v g)
    first_can =
        each_with (λ c w h. record { entries = w.entries; steps = omega (arith, h, fits); ticks = omega (arith, w.ticks, few_share); counts = w.counts })
        (first_round v g)
        (each_of (Within (share g)) (λ k. counted_left v (trim g (share g) k)) (λ k. within v law (trim g (share g) k) few_share) 0 g.count)
        (each_steps p.rest g.budget (first_round v g) (omega (arith, unused_is)))

    pub can_go_on : CanRound g.count (places g) p g.P D' I' O' log'
    can_go_on =
        record {
          past = past;
          trims = first_round v g;
          few = a.whole.few;
          number = each_long (λ k. counted_left v (trim g (share g) k)) 0 g.count;
          stands = subst (λ cs. Stands (places g) past cs p.states p.answers g.P D' I' O' log') shares shared.stands;
          can = first_can;
        }

    -- ---- After the second

    module _ {q : Progress} {D'' I'' O'' log'' : List ℕ}
        (second : (x : CanRound g.count (places g) p g.P D' I' O' log') → RoundedTo v true g.budget p.rest (places g) x.past x.trims q g.P D'' I'' O'' log'') where
      ended : RoundedTo v true g.budget p.rest (places g) past (first_round v g) q g.P D'' I'' O'' log''
      unfolding can_go_on
      ended = second can_go_on

      come_to : round_by v true g.budget p.rest (first_round v g) ≡ trims_end v g
      unfolding trims_end
      come_to =
          let unused : p.rest ≡ g.budget - total_steps (first_round v g) = omega (arith, unused_is) in
          rest_out v g.budget p.rest (omega (arith, unused_is)) (first_round v g) ∙ ap (λ k. second_round v k (first_round v g)) unused

      end_stands : Stands (places g) past (trims_end v g) q.states q.answers g.P D'' I'' O'' log''
      end_stands = subst (λ cs. Stands (places g) past cs q.states q.answers g.P D'' I'' O'' log'') come_to ended.stands

      whole : {n : ℕ} {f : CountedLeft → List ℕ} {cs : List CountedLeft} {xs : List ℕ} → Joins n f [] cs xs → xs ≡ rejoined f cs
      whole j = j.is ∙ append-nil _

      pub page_left_lem : ◌≡◌ {A = PageLeft}
          (record { reply = accepted; states = q.states; answers = q.answers; P = g.P; D = D''; I = I''; O = O''; log = log'' })
          (accepted_page g (trims_end v g))
      unfolding accepted_page
      page_left_lem =
          let s = end_stands in
          let l = s.lent in
          λ i.
          record {
            reply = accepted;
            states = s.states i;
            answers = s.answers i;
            P = whole l.programs i;
            D = whole l.memories i;
            I = whole l.inputs i;
            O = whole l.outputs i;
            log = l.parts.is i;
          }

-- ---- By the verdict

module _ (v : Stepper) (g : PageGiven) where
  pub accepted_page_lem : accepted ≡ page_verdict g → {l : PageLeft} → l ≡ accepted_page g (trims_end v g) → PageMeets v g l
  unfolding page_left
  accepted_page_lem e h = h ∙ ap (λ x. page_left_by v x g) e

  pub refused_page : {k : ℕ} → refused k ≡ page_verdict g → {none : TrimAnswer} → none ≡ no_answer
      → PageMeets v g (record { reply = refused k; states = g.states; answers = replicate 8 none; P = g.P; D = g.D; I = g.I; O = g.O; log = g.log })
  unfolding page_left
  refused_page {k} e n =
      (λ i. record { reply = refused k; states = g.states; answers = replicate 8 (n i); P = g.P; D = g.D; I = g.I; O = g.O; log = g.log })
      ∙ ap (λ x. page_left_by v x g) e
