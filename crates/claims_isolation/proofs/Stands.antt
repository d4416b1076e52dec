-- What is kept from call to call where one journal is lent throughout: no entry that the state counts names a locked byte. And a run keeps it, with
-- that journal or without one, since it adds the entries of its own steps alone (Names.antt).
-- Assumes nothing.
use mathlib.Core.Path.{◌≡◌, refl, sym, ap, subst, ◌∙◌}
use mathlib.Core.Bool.{Bool, true, false, ◌||◌}
use mathlib.Core.Logic.{inl}
use mathlib.Core.List.{List, [], ◌∷◌, map}
use Prim.Native.Nat.{ℕ, ◌+◌, ◌-◌, ◌<◌, ◌≤◌}
use native.Mathlib.Omega.{arith}
use borrow.Author.Tests.{ltb-true, ltb-false}
use lib.Dec.{ltb}
use lib.ListN.{length, get_or, length-map}
use Rattle.refusal.specs.Refusals.{Verdict, accepted, refused}
use Rattle.word.proofs.Tables.{Each, looked_up}
use Rattle.machine.specs.declared.State.{State}
use Rattle.machine.specs.Machine.{Machine, is_locked, touches_locked, put_journaled}
use Rattle.machine.specs.Run.{by_rules}
use Rattle.journal.specs.Journal.{entry_of, overwritten_in}
use Rattle.journal.specs.Ranges.{InRange}
use Rattle.journal.proofs.Undone.{taken_back, but_for_in_range}
use Rattle.journal.proofs.Written.{with_state_lem}
use Rattle.control.proofs.Laws.{lawful_rules}
use Rattle.run.specs.Runs.{Journal, no_journal, lent_journal, placed, Given, verdict_on, allowed, machine_at, outcome_on, trace_on, CountedLeft, counted_by, counted_left, CountedMeets}
use Rattle.claims.specs.Session.{Engine, stepper_of, Lent, Host, given_to, after_one_run, machine_on}
use Rattle.claims.specs.Saved.{range_of}
use Rattle.claims.proofs.Journaled.{start_is, counted_is, placed_at, placed_other}
use Rattle.claims.proofs.Together.{both}
use Rattle.claims_back.proofs.Walks.{Walk, there, then, walked, Goes, run_walks}
use Rattle.claims_isolation.specs.Kept.{named, NamesNone}
use Rattle.claims_isolation.proofs.Over.{same_locked}
use Rattle.claims_isolation.proofs.Runs.{range_in, run_locked, run_range}
use Rattle.claims_isolation.proofs.Names.{names_none}

-- ---- Whether locked bytes are touched is seen in the range

same_touched : (s t : State) → range_of t ≡ range_of s → (at : List ℕ) → touches_locked at t ≡ touches_locked at s
same_touched s t r [] = refl
same_touched s t r (a ∷ at) = λ i. same_locked s t r a i || same_touched s t r at i

-- ---- A count and a log leave a machine in range

pub counted_in_range : {m : Machine} (k : ℕ) {t : State} → t ≡ put_journaled k m.state → InRange m
    → InRange (record { state = t; P = m.P; D = m.D; I = m.I; O = m.O; L = [] })
counted_in_range {m} k e r =
    subst (λ t. InRange (record { state = t; P = m.P; D = m.D; I = m.I; O = m.O; L = [] })) (sym e)
    (but_for_in_range [] r.inputs (with_state_lem r (put_journaled k m.state) r.registers r.pc r.enabled r.pending r.line r.address))

-- ---- Under the range of s, with the locked bytes of Z

module _ (s : State) (Z : List ℕ) where
  -- the first `count` entries name no locked byte
  abbrev pub Free : ℕ → List ℕ → Type 0
  Free count xs = (i : ℕ) → i < count → NamesNone s (get_or xs i 0)

  -- what is kept from call to call, of a host and the journal
  pub record Stands (h : Host) (xs : List ℕ) : Type 0 where
    pub stays_in_range : InRange (machine_on h [])
    pub range : range_of h.state ≡ range_of s
    pub bytes : (a : ℕ) → is_locked a s ≡ true → get_or h.D a 0 ≡ get_or Z a 0
    pub free : Free h.state.journaled xs

  -- ---- Entries: past a journal's end stands 0; those placed after the counted ones; those of steps

  nothing_free : NamesNone s 0
  unfolding overwritten_in
  nothing_free = refl

  placed_free : (count : ℕ) (es xs : List ℕ) → length es ≤ length xs - count → Free count xs → Each (NamesNone s) es
      → Free (count + length es) (placed count es xs)
  placed_free count es xs short f e i l = by_place (ltb i count) refl
    where
      by_place : (t : Bool) → ltb i count ≡ t → NamesNone s (get_or (placed count es xs) i 0)
      by_place true q = let h = ltb-true i count q in subst (NamesNone s) (sym (placed_other es count xs short i (inl h))) (f i h)
      by_place false q =
          let j = i - count in
          let here : i ≡ count + j = omega (arith, ltb-false i count q) in
          subst (NamesNone s) (sym (ap (λ k. get_or (placed count es xs) k 0) here ∙ placed_at es count xs short j (omega (arith, here, l))))
          (looked_up (NamesNone s) es e nothing_free j)

  walk_free : {m after : Machine} {ms : List Machine} → Walk m ms after → InRange m → range_of m.state ≡ range_of s
      → Each (NamesNone s) (map entry_of ms) × InRange after
  walk_free there r q = (tt, r)
  walk_free (then {m} {next} e w) r q =
      let z = walk_free w (taken_back m next r e).stays_in_range (ap range_in (lawful_rules.leaves m next e) ∙ q) in
      ((sym (same_touched s m.state q (named (overwritten_in (entry_of m)))) ∙ names_none m next r e, z.0), z.1)

  module _ {h : Host} {xs : List ℕ} (p : Stands h xs) where
    -- ---- A run, by the rules

    module _ (lent : Lent) where
      abbrev g : Given
      g = given_to h lent

      walks : Goes (0 + length lent.log) (allowed g) (machine_at g)
      walks = run_walks (allowed g) (0 + length lent.log) (machine_at g)

      walks_free : Each (NamesNone s) (map entry_of (trace_on by_rules g)) × InRange (outcome_on by_rules g).after
      walks_free =
          let e = start_is lent.journal h.state in
          walk_free walks.1 (counted_in_range {m = machine_on h []} _ e p.stays_in_range) (ap range_of e ∙ p.range)

      run_in_range : InRange (machine_on (after_one_run (counted_left by_rules g).left) [])
      unfolding counted_left
      run_in_range = go (verdict_on g)
        where
          go : (v : Verdict) → InRange (machine_on (after_one_run (counted_by by_rules v g).left) [])
          go accepted = counted_in_range _ (counted_is lent.journal (length (trace_on by_rules g)) (outcome_on by_rules g).after.state) walks_free.1
          go (refused k) = p.stays_in_range

      run_stands : (ys : List ℕ) → Free (counted_left by_rules g).left.state.journaled ys → (l : CountedLeft) → l ≡ counted_left by_rules g
          → Stands (after_one_run l.left) ys
      run_stands ys f l e =
          subst (λ (x : CountedLeft). Stands (after_one_run x.left) ys) (sym e)
          (record {
            stays_in_range = run_in_range;
            range = run_range g ∙ p.range;
            bytes = λ a e. run_locked g a (same_locked s h.state p.range a ∙ e) ∙ p.bytes a e;
            free = f;
          })

    module _ (budget : ℕ) (log : List ℕ) where
      abbrev lending : Journal → Lent
      lending x = record { budget = budget; log = log; journal = x }

      abbrev with_journal_lem : Given
      with_journal_lem = g (lending (lent_journal xs))

      abbrev without_journal : Given
      without_journal = g (lending no_journal)

      free_with : (ys : List ℕ) → (counted_left by_rules with_journal_lem).left.journal ≡ lent_journal ys
          → Free (counted_left by_rules with_journal_lem).left.state.journaled ys
      unfolding counted_left
      free_with ys = go (verdict_on with_journal_lem)
        where
          go : (v : Verdict) → (counted_by by_rules v with_journal_lem).left.journal ≡ lent_journal ys
              → Free (counted_by by_rules v with_journal_lem).left.state.journaled ys
          go accepted j = λ i l.
              let ms = trace_on by_rules with_journal_lem in
              let es = map entry_of ms in
              let z = walks (lending (lent_journal xs)) in
              let c = h.state.journaled in
              let is : placed c es xs ≡ ys = cc in
              subst (λ ys. NamesNone s (get_or ys i 0)) is
              (placed_free c es xs (omega (arith, z.0, length-map ms entry_of)) p.free (walks_free (lending (lent_journal xs))).0 i
              (omega (arith, l, (walked z.1).same_count, length-map ms entry_of)))
          go (refused k) j = let is : xs ≡ ys = cc in subst (Free h.state.journaled) is p.free

      free_without : Free (counted_left by_rules without_journal).left.state.journaled xs
      unfolding counted_left
      free_without = go (verdict_on without_journal)
        where
          go : (v : Verdict) → Free (counted_by by_rules v without_journal).left.state.journaled xs
          go accepted = λ i l. absurd (omega (arith, l, (walked (walks (lending no_journal)).1).same_count))
          go (refused k) = p.free

    -- by either engine, with the journal or without one
    pub run_with : (e : Engine) (lent : Lent) → lent.journal ≡ lent_journal xs → (l : CountedLeft) → CountedMeets (stepper_of e) (given_to h lent) l
        → (ys : List ℕ) → l.left.journal ≡ lent_journal ys → Stands (after_one_run l.left) ys
    run_with e lent j =
        subst
        (λ x. (l : CountedLeft) → CountedMeets (stepper_of e) (g (lending lent.budget lent.log x)) l
        → (ys : List ℕ) → l.left.journal ≡ lent_journal ys → Stands (after_one_run l.left) ys)
        (sym j)
        (λ l meets ys k.
        let is = both e _ l meets in
        run_stands _ ys (free_with lent.budget lent.log ys (ap (λ (x : CountedLeft). x.left.journal) (sym is) ∙ k)) l is)

    pub run_without : (e : Engine) (lent : Lent) → lent.journal ≡ no_journal → (l : CountedLeft) → CountedMeets (stepper_of e) (given_to h lent) l
        → Stands (after_one_run l.left) xs
    run_without e lent j =
        subst (λ x. (l : CountedLeft) → CountedMeets (stepper_of e) (g (lending lent.budget lent.log x)) l → Stands (after_one_run l.left) xs) (sym j)
        (λ l meets. run_stands _ xs (free_without lent.budget lent.log) l (both e _ l meets))
