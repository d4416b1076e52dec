-- Induction on the steps left: a run takes a step and goes on, or its first test that holds is the reason it gives.
-- Assumes nothing.
use mathlib.Core.Path.{◌≡◌, refl, sym, ◌∙◌, ap, subst}
use mathlib.Core.Bool.{Bool, true, false}
use mathlib.Core.List.{List, [], ◌∷◌, ◌++◌, map}
use mathlib.Core.Logic.{⊎_elim}
use Prim.Native.Nat.{ℕ, zero, suc, ◌+◌, ◌-◌, ◌<◌, ◌≤◌}
use native.Mathlib.Omega.{arith}
use lib.ListN.{length, get_or, drop, length-map}
use Rattle.refusal.specs.Refusals.{Verdict, accepted, refused}
use Rattle.word.proofs.Tests.{clash, never}
use Rattle.machine.specs.Machine.{Machine}
use Rattle.machine.specs.Step.{Next, cannot, to}
use Rattle.machine.specs.Run.{Stepper, by_rules, Outcome, no_place_at, run_from, trace_from}
use Rattle.machine.proofs.Runs.{Lawful, run_none, run_cannot, run_full, run_on, trace_none, trace_cannot, trace_full, trace_on_lem}
use Rattle.journal.specs.Journal.{entry_of}
use Rattle.control.specs.Control.{by_control}
use Rattle.control.proofs.Laws.{lawful_control, lawful_rules, Reason, cannot_rules, cannot_control}
use Rattle.run.specs.Runs.{Journal, no_journal, lent_journal, Given, left, stopped, allowed_in, placed, kept_in, allowed, machine_at, left_of, run_left_by, run_left, verdict_on}
use Rattle.run.proofs.Uncounted.{uncounted}
use Rattle.claims.specs.Runs.{Takes, none, more, MayGoOn, First, budget_used, journal_full, word_unassigned, by_zero_divisor, locked_byte, no_place, Kept, none_kept, kept, Reported, Runs}
use Rattle.claims.proofs.Journaled.{start_is, count_after_lem, may_go_on, used_up, length_placed, placed_at, placed_other}

-- the number of steps, said in another way
said : {v : Stepper} {g : Given} {i j q : ℕ} {m : Machine} → i ≡ j → First v g i m q → First v g j m q
said {v} {g} {q = q} {m = m} e = subst (λ i. First v g i m q) e

-- what v is known for
record Known (v : Stepper) : Type 0 where
  lawful : Lawful v
  reasons : (m : Machine) (q : ℕ) → v.steps m ≡ cannot q → Reason q

module _ (v : Stepper) (known : Known v) (g : Given) where
  -- a run from m, j steps after its start, that takes the steps ms and ends with z
  record Ends (j : ℕ) (m : Machine) (z : Outcome) (ms : List Machine) : Type 0 where
    took : Takes v (length ms) m z.after
    none_before : (i : ℕ) → i < length ms → (x : Machine) → Takes v i m x → (p : ℕ) → First v g (j + i) x p → ⊥
    stops : First v g (j + length ms) z.after z.reason
    counted : z.after.state.n ≡ m.state.n + length ms
    journaled : z.after.state.journaled ≡ m.state.journaled
    few : j + length ms ≤ allowed g
    entries : (i : ℕ) → i < length ms → (x : Machine) → Takes v i m x → get_or (map entry_of ms) i 0 ≡ entry_of x

  abbrev full : ℕ
  full = length g.log

  -- the run from m with so many steps left
  abbrev From : ℕ → ℕ → Machine → Type 0
  From rest j m = Ends j m (run_from v rest full m) (trace_from v rest full m)

  -- it ends before a step,
  here : (j q : ℕ) (m : Machine) → j ≤ allowed g → First v g j m q → Ends j m (record { reason = q; after = m }) []
  here j q m h f =
      record {
        took = none;
        none_before = λ i h x t p g. omega arith;
        stops = said (omega arith) f;
        counted = omega arith;
        journaled = refl;
        few = omega arith;
        entries = λ i h x t. absurd (omega arith);
      }

  -- or it takes one and goes on
  none_here : (j : ℕ) (m next : Machine) → MayGoOn g j → v.steps m ≡ to next → no_place_at v full m ≡ false → (p : ℕ) → First v g j m p → ⊥
  none_here j m next h s f p (budget_used e) = h.0 e
  none_here j m next h s f p (journal_full e) = h.1 e
  none_here j m next h s f p (word_unassigned n e) = clash (cc)
  none_here j m next h s f p (by_zero_divisor n e) = clash (cc)
  none_here j m next h s f p (locked_byte n e) = clash (cc)
  none_here j m next h s f p (no_place n e t) = never (sym f ∙ t)

  later : (j : ℕ) (m next : Machine) (z : Outcome) (ms : List Machine) → MayGoOn g j → v.steps m ≡ to next → no_place_at v full m ≡ false → Ends (suc j) next z ms → Ends j m z (m ∷ ms)
  later j m next z ms h s f e =
      record {
        took = more s e.took;
        none_before = before;
        stops = said (omega arith) e.stops;
        counted = omega (arith, known.lawful.counts m next s, e.counted);
        journaled = e.journaled ∙ ap (λ z. z.0) (known.lawful.leaves m next s);
        few = omega (arith, e.few);
        entries = entered;
      }
    where
      before : (i : ℕ) → i < suc (length ms) → (x : Machine) → Takes v i m x → (p : ℕ) → First v g (j + i) x p → ⊥
      before i l x none p g = none_here j m next h s f p (said (omega arith) g)
      before i l x (more {k} {next = y} t r) p g =
          let same : y ≡ next = cc in
          e.none_before k (omega arith) x (rw same at r) p (said (omega arith) g)

      entered : (i : ℕ) → i < suc (length ms) → (x : Machine) → Takes v i m x → get_or (map entry_of (m ∷ ms)) i 0 ≡ entry_of x
      entered i l x none = refl
      entered i l x (more {k} {next = y} t r) =
          let same : y ≡ next = cc in
          e.entries k (omega arith) x (rw same at r)

  ends : (rest j : ℕ) (m : Machine) → allowed g ≡ j + rest → From rest j m
  ends zero j m h =
      rw (run_none, trace_none)
      (here j 0 m (omega arith) (⊎_elim budget_used journal_full (used_up g.journal g.state.journaled g.budget j (omega arith))))
  ends (suc rest) j m h = turn (may_go_on g.journal g.state.journaled g.budget j (omega arith)) (ends rest (suc j)) (v.steps m) refl (no_place_at v full m) refl
    where
      turn : MayGoOn g j → ((next : Machine) → allowed g ≡ suc j + rest → From rest (suc j) next) → (x : Next) → v.steps m ≡ x → (t : Bool) → no_place_at v full m ≡ t → From (suc rest) j m
      turn may go (cannot q) s t f =
          rw (run_cannot v rest full m q s, trace_cannot v rest full m q s)
          (here j q m (omega arith)
          (⊎_elim
          (λ e. subst (First v g j m) (sym e) (word_unassigned may (s ∙ ap cannot e)))
          (⊎_elim
          (λ e. subst (First v g j m) (sym e) (by_zero_divisor may (s ∙ ap cannot e)))
          (λ e. subst (First v g j m) (sym e) (locked_byte may (s ∙ ap cannot e))))
          (known.reasons m q s)))
      turn may go (to next) s true f =
          rw (run_full v rest full m next s f, trace_full v rest full m next s f) (here j 2 m (omega arith) (no_place may s f))
      turn may go (to next) s false f =
          rw (run_on v rest full m next s f, trace_on_lem v rest full m next s f) (later j m next _ _ may s f (go next (omega arith)))

-- its journal
keeping :
    (v : Stepper) (start : Machine) (count budget : ℕ) (ms : List Machine) → ((i : ℕ) → i < length ms → (x : Machine) → Takes v i start x → get_or (map entry_of ms) i 0 ≡ entry_of x)
    → (x : Journal) → length ms ≤ allowed_in x count budget → Kept v start count (length ms) x (kept_in x count ms)
keeping v start count budget ms at no_journal few = none_kept
keeping v start count budget ms at (lent_journal xs) few =
    let es = map entry_of ms in
    let n : length es ≡ length ms = length-map ms entry_of in
    let room : length es ≤ length xs - count = omega arith in
    kept xs (placed count es xs)
    (record {
      long = length_placed count es xs room;
      entries = λ j l m t. placed_at es count xs room j (omega arith) ∙ at j l m t;
      others = λ k o. placed_other es count xs room k (rw n o);
    })

-- what is left says so
module _ (v : Stepper) (known : Known v) (g : Given) where
  ended : (z : Outcome) (ms : List Machine) → Ends v known g 0 (machine_at g) z ms → (q s k : ℕ) → (left_of g ms z).reply ≡ stopped q s k → Reported v g (left_of g ms z) q s k
  ended z ms e q s k h =
      let steps : z.after.state.n - g.state.n ≡ length ms = omega (arith, e.counted, ap (λ s. s.n) (start_is g.journal g.state)) in
      let state = count_after_lem g.journal (length ms) g.state z.after.state e.journaled in
      let a : z.reason ≡ q = cc in
      let b : length ms ≡ s = cc in
      let c : length z.after.L ≡ k = cc in
      rw (← a, ← b, ← c)
      (record {
        last = z.after;
        took = e.took;
        none_before = λ j l m t p f. e.none_before j l m t p (said (omega arith) f);
        stops = said (omega arith) e.stops;
        entries = refl;
        leaves =
            let l = length z.after.L in
            λ i. left (stopped z.reason (steps i) l) (state i) z.after.P z.after.D z.after.I z.after.O (z.after.L ++ drop l g.log) (kept_in g.journal g.state.journaled ms);
        keeps = keeping v (machine_at g) g.state.journaled g.budget ms e.entries g.journal (omega (arith, e.few));
      })

  by_verdict : (x : Verdict) (q s k : ℕ) → (run_left_by v x g).reply ≡ stopped q s k → Reported v g (run_left_by v x g) q s k
  by_verdict accepted q s k h =
      let m = machine_at g in
      let places : length g.log ≡ length m.L + length g.log = omega arith in
      ended _ _
      (subst (λ f. Ends v known g 0 m (run_from v (allowed g) f m) (trace_from v (allowed g) f m)) places (ends v known g (allowed g) 0 m (omega arith)))
      q s k h
  by_verdict (refused j) q s k h = clash (cc)

  reported : (q s k : ℕ) → (run_left v g).reply ≡ stopped q s k → Reported v g (run_left v g) q s k
  unfolding run_left
  reported = by_verdict (verdict_on g)

pub runs : Runs
runs =
    record {
      through_rules = reported by_rules (record { lawful = lawful_rules; reasons = cannot_rules });
      through_control = λ words. reported (by_control words) (record { lawful = lawful_control words; reasons = cannot_control words });
      without_counts = λ v g. uncounted v g refl;
    }
