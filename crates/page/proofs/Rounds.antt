-- The loop of a round: the trims before the place have had their turn, the others stand as they were.
-- Assumes nothing.
use mathlib.Core.Path.{◌≡◌, refl, sym, ap, subst, ◌∙◌}
use mathlib.Core.Bool.{Bool}
use mathlib.Core.List.{List, [], ◌∷◌, ◌++◌, map, append_assoc}
use Prim.Native.Nat.{ℕ, ◌+◌, ◌-◌, ◌<◌, ◌≤◌, min}
use native.Mathlib.Omega.{arith}
use lib.ListN.{length, get_or, set, length-append}
use Rattle.machine.specs.declared.State.{State}
use Rattle.machine.specs.Run.{Stepper}
use Rattle.run.specs.Runs.{CountedLeft}
use Rattle.page.specs.declared.TrimAnswer.{TrimAnswer}
use Rattle.page.specs.declared.turns.Turned.{Turned}
use Rattle.page.specs.declared.turns.Progress.{Progress}
use Rattle.page.specs.Pages.{report, answer_of, total_steps}
use Rattle.page.specs.Parts.{Each, Past, Stands, CanRunOn, turn_by, round_by, CanTurn, TurnedTo, CanRound, RoundedTo}

-- ---- An array of one of each trim

module _ {A B : Type 0} (f : A → B) (past : List B) where
  at_place : (done : List A) (c : A) (todo : List A) (d : B) → get_or (map f (done ++ c ∷ todo) ++ past) (length done) d ≡ f c
  at_place [] c todo d = refl
  at_place (x ∷ done) c todo d = at_place done c todo d

  set_place : (done : List A) (c e : A) (todo : List A) → set (map f (done ++ c ∷ todo) ++ past) (length done) (f e) ≡ map f (done ++ e ∷ todo) ++ past
  set_place [] c e todo = refl
  set_place (x ∷ done) c e todo = ap (λ l. f x ∷ l) (set_place done c e todo)

-- ---- Steps added up

total_append : (cs ds : List CountedLeft) → total_steps (cs ++ ds) ≡ total_steps cs + total_steps ds
unfolding total_steps
total_append [] ds = omega arith
total_append (c ∷ cs) ds = omega (arith, total_append cs ds)

total_with : (done : List CountedLeft) (c : CountedLeft) (todo : List CountedLeft) → total_steps (done ++ c ∷ todo) ≡ total_steps done + ((report c).steps + total_steps todo)
unfolding total_steps
total_with done c todo = total_append done (c ∷ todo)

-- ---- With less

can_less : {m n : ℕ} → m ≤ n → {c : CountedLeft} → CanRunOn n c → CanRunOn m c
can_less h r = record { entries = r.entries; steps = omega (arith, r.steps); ticks = r.ticks; counts = r.counts }

each_less : {m n : ℕ} → m ≤ n → (cs : List CountedLeft) → Each (CanRunOn n) cs → Each (CanRunOn m) cs
each_less h [] r = tt
each_less h (c ∷ cs) r = (can_less h r.0, each_less h cs r.1)

-- ---- The loop

module _ (v : Stepper) (again : Bool) (most count places : ℕ) where
  -- from the trims cs₀ with rest₀ unused, at place i
  pub record Going (past : Past) (cs₀ : List CountedLeft) (rest₀ i : ℕ) (ss : List State) (ans : List TrimAnswer) (P D I O log : List ℕ) (rest : ℕ) : Type 0 where
    pub done : List CountedLeft
    pub todo : List CountedLeft
    pub comes : done ++ round_by v again most rest todo ≡ round_by v again most rest₀ cs₀
    pub place : length done ≡ i
    pub number : length done + length todo ≡ count
    pub stands : Stands places past (done ++ todo) ss ans P D I O log
    pub can : Each (CanRunOn rest) todo
    pub total : rest + total_steps (done ++ todo) ≡ rest₀ + total_steps cs₀

  pub start : {p : Progress} {P D I O log : List ℕ} (x : CanRound count places p P D I O log)
      → Going x.past x.trims p.rest 0 p.states p.answers P D I O log p.rest
  start x = record { done = []; todo = x.trims; comes = refl; place = refl; number = omega (arith, x.number); stands = x.stands; can = x.can; total = refl }

  module _ {past : Past} {cs₀ : List CountedLeft} {rest₀ i : ℕ} {ss : List State} {ans : List TrimAnswer} {P D I O log : List ℕ} {rest : ℕ}
      (g : Going past cs₀ rest₀ i ss ans P D I O log rest) where
    -- the trim whose turn it is
    pub record Turn : Type 0 where
      pub c : CountedLeft
      pub todo : List CountedLeft
      pub is : g.todo ≡ c ∷ todo

    pub its_turn : i < count → Turn
    its_turn h = by_todo g.todo refl
      where
        by_todo : (cs : List CountedLeft) → g.todo ≡ cs → Turn
        by_todo [] e = absurd (omega (arith, ap length e, g.place, g.number))
        by_todo (c ∷ cs) e = record { c = c; todo = cs; is = e }

    module _ (h : i < count) where
      abbrev t : Turn
      t = its_turn h

      now_stands : Stands places past (g.done ++ t.c ∷ t.todo) ss ans P D I O log
      now_stands = subst (λ cs. Stands places past (g.done ++ cs) ss ans P D I O log) t.is g.stands

      now_can : Each (CanRunOn rest) (t.c ∷ t.todo)
      now_can = subst (Each (CanRunOn rest)) t.is g.can

      pub can_turn : {budget : ℕ} → budget ≡ min most rest → (s : State) (a : TrimAnswer) → CanTurn i places (get_or ss i s) (get_or ans i a) P D I O budget log
      can_turn {budget} e s a =
          let b = now_stands in
          record {
            past = past.log;
            done = g.done;
            c = t.c;
            todo = t.todo;
            lent = b.lent;
            place = g.place;
            state = (λ j. get_or (b.states j) (sym g.place j) s) ∙ at_place (λ c. c.left.state) past.states g.done t.c t.todo s;
            answer = (λ j. get_or (b.answers j) (sym g.place j) a) ∙ at_place answer_of past.answers g.done t.c t.todo a;
            can = can_less (omega arith) now_can.0;
          }

      module _ {budget : ℕ} (is-least : budget ≡ min most rest) (s : State) (a : TrimAnswer) {r : Turned} {D' I' O' log' : List ℕ}
          (turns : (x : CanTurn i places (get_or ss i s) (get_or ans i a) P D I O budget log) → TurnedTo v again budget places x.past x.done x.c x.todo r P D' I' O' log') where
        to : TurnedTo v again budget places past.log g.done t.c t.todo r P D' I' O' log'
        unfolding can_turn its_turn
        to = turns (can_turn is-least s a)

        pub few : r.steps ≤ rest
        few = omega (arith, to.few)

        -- the trim after its turn, and what is then unused
        abbrev d : CountedLeft
        d = turn_by v again budget t.c

        abbrev rest' : ℕ
        rest' = rest - r.steps

        left_over : rest - ((report d).steps - (report t.c).steps) ≡ rest'
        left_over = omega (arith, to.steps)

        round_on : round_by v again most rest g.todo ≡ d ∷ round_by v again most rest' t.todo
        unfolding round_by
        round_on =
            ap (round_by v again most rest) t.is
            ∙ (λ j. let e = turn_by v again (sym is-least j) t.c in e ∷ round_by v again most (rest - ((report e).steps - (report t.c).steps)) t.todo)
            ∙ ap (λ k. d ∷ round_by v again most k t.todo) left_over

        joined : (xs : List CountedLeft) → (g.done ++ (d ∷ [])) ++ xs ≡ g.done ++ d ∷ xs
        joined xs = append_assoc g.done (d ∷ []) xs

        next_stands : Stands places past (g.done ++ d ∷ t.todo) (set ss i r.state) (set ans i r.answer) P D' I' O' log'
        next_stands =
            let b = now_stands in
            record {
              lent = to.lent;
              states =
                  (λ j. set (b.states j) (sym g.place j) (to.state j))
                  ∙ set_place (λ c. c.left.state) past.states g.done t.c d t.todo;
              answers = (λ j. set (b.answers j) (sym g.place j) (to.answer j)) ∙ set_place answer_of past.answers g.done t.c d t.todo;
            }

        pub goes_on : Going past cs₀ rest₀ (i + 1) (set ss i r.state) (set ans i r.answer) P D' I' O' log' rest'
        goes_on =
            let sum : total_steps (g.done ++ g.todo) ≡ total_steps g.done + ((report t.c).steps + total_steps t.todo) =
            ap (λ cs. total_steps (g.done ++ cs)) t.is ∙ total_with g.done t.c t.todo in
            record {
              done = g.done ++ (d ∷ []);
              todo = t.todo;
              comes = joined (round_by v again most rest' t.todo) ∙ ap (λ cs. g.done ++ cs) (sym round_on) ∙ g.comes;
              place = length-append g.done (d ∷ []) ∙ ap (λ k. k + 1) g.place;
              number = omega (arith, length-append g.done (d ∷ []), ap length t.is, g.number);
              stands =
                  subst (λ cs. Stands places past cs (set ss i r.state) (set ans i r.answer) P D' I' O' log') (sym (joined t.todo)) next_stands;
              can = each_less (omega arith) t.todo now_can.1;
              total =
                  omega (arith, g.total, sum, ap total_steps (joined t.todo), total_with g.done d t.todo, to.steps, few);
            }

    -- ---- Its end

    pub ends : count ≤ i → RoundedTo v again most rest₀ places past cs₀ (record { states = ss; answers = ans; rest = rest }) P D I O log
    unfolding round_by
    ends h = by_todo g.todo refl
      where
        by_todo : (cs : List CountedLeft) → g.todo ≡ cs → RoundedTo v again most rest₀ places past cs₀ (record { states = ss; answers = ans; rest = rest }) P D I O log
        by_todo [] e =
            let all : g.done ++ g.todo ≡ round_by v again most rest₀ cs₀ =
            ap (λ cs. g.done ++ cs) e ∙ ap (λ cs. g.done ++ round_by v again most rest cs) (sym e) ∙ g.comes in
            record {
              stands = subst (λ cs. Stands places past cs ss ans P D I O log) all g.stands;
              total = ap (λ cs. rest + total_steps cs) (sym all) ∙ g.total;
            }
        by_todo (c ∷ cs) e = absurd (omega (arith, ap length e, g.place, g.number))
