-- What an accepted page leaves of each trim is what its one run leaves; the rest is as it was.
-- Assumes nothing.
use mathlib.Core.Path.{◌≡◌, refl, sym, ap, subst, ◌∙◌}
use Prim.Native.Nat.{ℕ, ◌-◌, ◌*◌, ◌<◌}
use native.Mathlib.Nat.{mul-div-le}
use native.Mathlib.Omega.{arith}
use lib.ListN.{length, get_or, take, drop, replicate, length-append, length-drop}
use Rattle.machine.specs.Machine.{reset}
use Rattle.machine.specs.Run.{by_rules}
use Rattle.run.specs.Runs.{stopped, CountedLeft}
use Rattle.page.specs.Pages.{PageGiven, of_each, part, places, trim, report, answer_of, no_answer, rejoined, accepted_page}
use Rattle.claims.specs.Runs.{Takes}
use Rattle.claims.proofs.Together.{both}
use Rattle.claims_back.specs.Longer.{machine_left}
use Rattle.claims_pages.specs.Pages.{AcceptedPage, answer, LeftBy, start_of, machine_of, Own, Kept}
use Rattle.claims_pages.proofs.Parts.{joined_long, joins_again, past_joined, part_is, part_of_all, one_is, past_each}
use Rattle.claims_pages.proofs.Alone.{takes, counts_none, free_kept}
use Rattle.claims_pages.proofs.Rounds.{end_at}
use Rattle.claims_pages.proofs.Ends.{lengths, left_is, turn, its_run, end_is, same-P, end-P, end-D, end-I, end-O, end_log}

module _ {g : PageGiven} (p : AcceptedPage g) where
  -- ---- Trim k

  module _ (k : ℕ) (h : k < g.count) where
    abbrev end : CountedLeft
    end = end_at g k

    pub answered : answer p.left k ≡ answer_of end
    unfolding accepted_page
    answered = ap (λ l. answer l k) (left_is p) ∙ one_is answer_of (end_at g) (replicate (8 - g.count) no_answer) g.count k no_answer h

    pub left_by : LeftBy g p.left k end
    unfolding accepted_page
    left_by =
        let n = g.count in
        let a = answered in
        let l = left_is p in
        let past = drop (n * places g) g.log in
        let replied : end.left.reply ≡ stopped (report end).stop (report end).steps (report end).entries =
        subst (λ (c : CountedLeft). c.left.reply ≡ stopped (report c).stop (report c).steps (report c).entries) (sym (end_is p k h)) (its_run p k h).replied in
        record {
          reply = replied ∙ (λ i. stopped (sym a i).stop (sym a i).steps (sym a i).entries);
          ticks = ap (λ x. x.ticks) a;
          usage = ap (λ x. x.usage) a;
          state = ap (λ x. get_or x.states k reset) l ∙ one_is (λ c. c.left.state) (end_at g) (drop n g.states) n k reset h;
          P = ap (λ x. part 65536 k x.P) l ∙ part_of_all 65536 (λ c. c.left.P) (end_at g) n (end-P p) k h;
          D = ap (λ x. part 65536 k x.D) l ∙ part_of_all 65536 (λ c. c.left.D) (end_at g) n (end-D p) k h;
          I = ap (λ x. part 256 k x.I) l ∙ part_of_all 256 (λ c. c.left.I) (end_at g) n (end-I p) k h;
          O = ap (λ x. part 256 k x.O) l ∙ part_of_all 256 (λ c. c.left.O) (end_at g) n (end-O p) k h;
          log = ap (λ x. part (places g) k x.log) l ∙ part_is (places g) (λ c. c.left.log) (end_at g) n (end_log p) past k h;
        }

    left_by_run : LeftBy g p.left k (its_run p k h).ran
    left_by_run = subst (LeftBy g p.left k) (end_is p k h) left_by

    steps_are : (its_run p k h).steps ≡ (answer p.left k).steps
    steps_are = sym (ap (λ x. x.steps) answered ∙ ap (λ c. (report c).steps) (end_is p k h))

    entries_are : (its_run p k h).entries ≡ (answer p.left k).entries
    entries_are = sym (ap (λ x. x.entries) answered ∙ ap (λ c. (report c).entries) (end_is p k h))

    machine_is : machine_left (its_run p k h) ≡ machine_of g p.left k
    machine_is =
        let b = left_by_run in
        λ i.
        record {
          state = sym b.state i;
          P = sym b.P i;
          D = sym b.D i;
          I = sym b.I i;
          O = sym b.O i;
          L = take (entries_are i) (sym b.log i);
        }

    its_machine : Takes by_rules (answer p.left k).steps (start_of g k) (machine_of g p.left k)
    its_machine = rw (← steps_are, ← machine_is) (takes (its_run p k h))

    pub own : Own g p.left k
    own =
        let t = turn p k h in
        record {
          budget = t.budget;
          least = t.at_least;
          most = t.at_most;
          one_run = λ e. subst (LeftBy g p.left k) (sym (both e (trim g t.budget k) _ refl)) left_by_run;
          machine = its_machine;
          uncounted = ap (λ x. x.journaled) left_by_run.state ∙ counts_none (its_run p k h);
        }

    free : drop (answer p.left k).entries (part (places g) k p.left.log) ≡ drop (answer p.left k).entries (part (places g) k g.log)
    free =
        ap (drop (answer p.left k).entries) left_by_run.log
        ∙ subst (λ n. drop n (its_run p k h).ran.left.log ≡ drop n (part (places g) k g.log)) entries_are (free_kept (its_run p k h))

  -- ---- All of them

  pub kept : Kept g p.left
  unfolding accepted_page
  kept =
      let n = g.count in
      let l = left_is p in
      let w = lengths p in
      let past = drop (n * places g) g.log in
      record {
        free = free;
        past = ap (λ x. drop (n * places g) x.log) l ∙ past_joined (places g) (λ c. c.left.log) (end_at g) n (end_log p) past;
        states = ap (λ x. drop n x.states) l ∙ past_each (λ c. c.left.state) (end_at g) (drop n g.states) 0 n;
        answers = ap (λ x. drop n x.answers) l ∙ past_each answer_of (end_at g) (replicate (8 - n) no_answer) 0 n;
        P = ap (λ x. x.P) l ∙ joins_again 65536 (λ c. c.left.P) (end_at g) g.P n w.programs (same-P p);
        long-D = ap (λ x. length x.D) l ∙ joined_long 65536 (λ c. c.left.D) (end_at g) n (end-D p) ∙ sym w.memories;
        long-I = ap (λ x. length x.I) l ∙ joined_long 256 (λ c. c.left.I) (end_at g) n (end-I p) ∙ sym w.inputs;
        long-O = ap (λ x. length x.O) l ∙ joined_long 256 (λ c. c.left.O) (end_at g) n (end-O p) ∙ sym w.outputs;
        long_log =
            ap (λ x. length x.log) l
            ∙ length-append (rejoined (λ c. c.left.log) (of_each g (end_at g))) past
            ∙ omega (arith, joined_long (places g) (λ c. c.left.log) (end_at g) n (end_log p), length-drop (n * places g) g.log, mul-div-le (length g.log) n);
      }
