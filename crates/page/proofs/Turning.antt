-- The turn of one of the trims: the parts that it is lent, and what its run makes of it.
-- Assumes nothing.
use mathlib.Core.Path.{◌≡◌, refl, sym, ap, subst, ◌∙◌}
use mathlib.Core.Bool.{Bool, false, ◌&&◌}
use mathlib.Core.List.{List, ◌∷◌, ◌++◌}
use Prim.Native.Nat.{ℕ, ◌+◌, ◌-◌, ◌*◌, ◌≤◌}
use native.Mathlib.Nat.{add-zero}
use native.Mathlib.Omega.{arith}
use lib.Dec.{eqb}
use lib.ListN.{length, take, drop, length-drop}
use Rattle.word.specs.Word.{pick}
use Rattle.machine.specs.declared.State.{State}
use Rattle.machine.specs.Run.{Stepper}
use Rattle.machine.proofs.Runs.{Lawful}
use Rattle.run.specs.declared.Report.{Report}
use Rattle.run.specs.declared.Counted.{Counted}
use Rattle.run.specs.Runs.{no_journal, given, left, shown_answer, CountedLeft, counted_left, CountedMeets}
use Rattle.page.specs.declared.TrimAnswer.{TrimAnswer}
use Rattle.page.specs.declared.turns.Turned.{Turned}
use Rattle.page.specs.Pages.{report_of, report, run_on, as_one, answer_of}
use Rattle.page.specs.Parts.{FewCounts, with_run, HasRoom, Joins, Lent, turn_by, CanTurn, TurnedTo}
use Rattle.page.proofs.Joined.{long, room, unchanged, cut_out, put_back_lem}
use Rattle.page.proofs.Bounds.{Within, within}

-- what a run leaves that replies r
abbrev ran_left : Counted → List ℕ → List ℕ → List ℕ → List ℕ → List ℕ → CountedLeft
ran_left r P D I O log = record { left = left (shown_answer r.answer) r.state P D I O log no_journal; usage = r.usage; ticks = r.ticks }

module _ {at places : ℕ} {s : State} {a : TrimAnswer} {P D I O : List ℕ} {budget : ℕ} {log : List ℕ} (x : CanTurn at places s a P D I O budget log) where
  -- the parts lie within the lists that they are lent of
  pub record Rooms : Type 0 where
    pub programs : at * 65536 + 65536 ≤ length P
    pub memories : at * 65536 + 65536 ≤ length D
    pub inputs : at * 256 + 256 ≤ length I
    pub outputs : at * 256 + 256 ≤ length O
    pub parts : at * places + places ≤ length log
    pub entries : a.entries ≤ places

  pub rooms : Rooms
  rooms =
      let l = x.lent in
      record {
        programs = rw x.place at (room x.done x.c x.todo l.programs);
        memories = rw x.place at (room x.done x.c x.todo l.memories);
        inputs = rw x.place at (room x.done x.c x.todo l.inputs);
        outputs = rw x.place at (room x.done x.c x.todo l.outputs);
        parts = rw x.place at (room x.done x.c x.todo l.parts);
        entries = omega (arith, ap (λ y. y.entries) x.answer, x.can.entries, long x.done x.c x.todo l.parts);
      }

  -- ---- Its run

  -- a part of so many places
  abbrev lent_part : ℕ → List ℕ → List ℕ
  lent_part n xs = take (at * n + n - at * n) (drop (at * n) xs)

  -- the free places of its log part
  abbrev free_part_of : List ℕ
  free_part_of = take (at * places + places - (at * places + a.entries)) (drop (at * places + a.entries) log)

  -- the list with the part as its run left it
  abbrev with_part : ℕ → List ℕ → List ℕ → List ℕ
  with_part n xs ys = take (at * n) xs ++ (ys ++ drop (at * n + n - at * n) (drop (at * n) xs))

  abbrev with_free : List ℕ → List ℕ
  with_free ys =
      take (at * places + a.entries) log
      ++ (ys ++ drop (at * places + places - (at * places + a.entries)) (drop (at * places + a.entries) log))

  module _ (v : Stepper) (law : Lawful v) (r : Counted) {D' I' O' L' : List ℕ}
      (met : CountedMeets v (given s (lent_part 65536 P) (lent_part 65536 D) (lent_part 256 I) (lent_part 256 O) budget free_part_of no_journal) (ran_left r (lent_part 65536 P) D' I' O' L'))
      (same-D : length D' ≡ length (lent_part 65536 D)) (same-I : length I' ≡ length (lent_part 256 I)) (same-O : length O' ≡ length (lent_part 256 O))
      (same-L : length L' ≡ length free_part_of) where
    entries_is : a.entries ≡ (report x.c).entries
    entries_is = ap (λ y. y.entries) x.answer

    module _ (n : ℕ) where
      from_is : at * n ≡ length x.done * n + 0
      from_is = ap (λ k. k * n) (sym x.place) ∙ sym (add-zero _)

      to_is : at * n + n ≡ length x.done * n + n
      to_is = ap (λ k. k * n + n) (sym x.place)

    free_is : at * places + a.entries ≡ length x.done * places + (report x.c).entries
    free_is = λ i. sym x.place i * places + entries_is i

    within_part : (report x.c).entries ≤ places
    within_part = omega (arith, rooms.entries, entries_is)

    lent_is : {n : ℕ} {f : CountedLeft → List ℕ} {past xs : List ℕ} → Joins n f past (x.done ++ x.c ∷ x.todo) xs → lent_part n xs ≡ f x.c
    lent_is {n} j = cut_out x.done x.c x.todo j _ _ 0 (from_is n) (to_is n) (omega arith)

    free_part : free_part_of ≡ drop (report x.c).entries x.c.left.log
    free_part = cut_out x.done x.c x.todo x.lent.parts _ _ _ free_is (to_is places) within_part

    part_long : length x.c.left.log ≡ places
    part_long = long x.done x.c x.todo x.lent.parts

    -- what the run left is what the run on from the trim leaves
    ran : ran_left r x.c.left.P D' I' O' L' ≡ run_on v budget x.c
    ran =
        let l = x.lent in
        (λ i. ran_left r (sym (lent_is l.programs) i) D' I' O' L')
        ∙ met
        ∙ (λ i. counted_left v (given (x.state i) (lent_is l.programs i) (lent_is l.memories i) (lent_is l.inputs i) (lent_is l.outputs i) budget (free_part i) no_journal))

    few : Within budget (ran_left r x.c.left.P D' I' O' L')
    few = subst (Within budget) (sym ran) (within v law _ (omega (arith, x.can.steps)))

    pub has_room : {told : Report} → told ≡ report_of (shown_answer r.answer) → length log ≤ 18446744073709551615 → HasRoom a told r.ticks r.usage
    has_room e h =
        let w = few in
        let c = x.can in
        record {
          steps = omega (arith, c.steps, ap (λ y. y.steps) x.answer, ap (λ y. y.steps) e, w.steps);
          entries =
              omega (arith, w.entries, ap (λ y. y.entries) e, entries_is, within_part, same-L, ap length free_part, length-drop (report x.c).entries x.c.left.log, part_long, rooms.parts, h);
          ticks = omega (arith, c.steps, c.ticks, ap (λ y. y.ticks) x.answer, w.ticks);
          before = subst FewCounts (ap (λ y. y.usage) (sym x.answer)) c.counts;
          more = w.counts;
        }

    -- ---- What it comes to

    -- the trim with that run
    abbrev next : CountedLeft
    next = as_one x.c (ran_left r x.c.left.P D' I' O' L')

    put : {n : ℕ} {f : CountedLeft → List ℕ} {past xs : List ℕ} → Joins n f past (x.done ++ x.c ∷ x.todo) xs → (ys : List ℕ) → f next ≡ ys → length ys ≡ length (lent_part n xs)
        → Joins n f past (x.done ++ next ∷ x.todo) (with_part n xs ys)
    put {n} j ys e l = put_back_lem x.done x.c x.todo j _ _ 0 (from_is n) (to_is n) (omega arith) next ys e l

    next_lent : Lent places x.past (x.done ++ next ∷ x.todo) P (with_part 65536 D D') (with_part 256 I I') (with_part 256 O O') (with_free L')
    next_lent =
        let l = x.lent in
        record {
          programs = unchanged x.done x.c x.todo l.programs next refl;
          memories = put l.memories D' refl same-D;
          inputs = put l.inputs I' refl same-I;
          outputs = put l.outputs O' refl same-O;
          parts = put_back_lem x.done x.c x.todo l.parts _ _ _ free_is (to_is places) within_part next L' refl same-L;
        }

    module _ {answer : TrimAnswer} {told : Report} (reports : told ≡ report_of (shown_answer r.answer)) (added : answer ≡ with_run a told r.ticks r.usage) where
      abbrev reply : Turned
      reply = record { state = r.state; answer = answer; steps = told.steps }

      answer_is : answer ≡ answer_of next
      answer_is = added ∙ (λ i. with_run (x.answer i) (reports i) r.ticks r.usage)

      pub turned : (again : Bool) → again && eqb budget 0 ≡ false
          → TurnedTo v again budget places x.past x.done x.c x.todo reply P (with_part 65536 D D') (with_part 256 I I') (with_part 256 O O') (with_free L')
      turned again e =
          let runs : next ≡ turn_by v again budget x.c = ap (as_one x.c) ran ∙ ap (λ t. pick t x.c (as_one x.c (run_on v budget x.c))) (sym e) in
          let steps_are = ap (λ y. y.steps) reports in
          record {
            lent = subst (λ d. Lent places x.past (x.done ++ d ∷ x.todo) P (with_part 65536 D D') (with_part 256 I I') (with_part 256 O O') (with_free L')) runs next_lent;
            state = ap (λ d. d.left.state) runs;
            answer = answer_is ∙ ap answer_of runs;
            steps = ap (λ d. (report d).steps) (sym runs) ∙ ap (λ k. (report x.c).steps + k) (sym steps_are);
            few = omega (arith, steps_are, few.steps);
          }
