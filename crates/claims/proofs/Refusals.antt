-- The calls' replies are chains of tests; each condition is where its test fails.
-- Assumes nothing.
use mathlib.Core.Path.{◌≡◌, refl, sym, ap, subst, ◌∙◌}
use mathlib.Core.Bool.{Bool, true, false, ◌||◌, and_assoc}
use mathlib.Core.Logic.{◌⊎◌, inl, inr, ⊎_elim, ◌↔◌}
use mathlib.Core.List.{List}
use Prim.Native.Nat.{ℕ, ◌+◌, ◌*◌, ◌%◌, ◌<◌, min}
use native.Mathlib.Omega.{arith}
use borrow.Author.Tests.{leb-true, leb-false, ltb-false, le-ltb, eqb-false, ne_eqb, lt-leb}
use lib.Dec.{eqb, leb, ltb}
use lib.ListN.{length, set}
use Rattle.refusal.specs.Refusals.{Verdict, accepted, refused}
use Rattle.word.specs.Word.{pick}
use Rattle.word.proofs.Tests.{clash, never}
use Rattle.machine.specs.declared.State.{State}
use Rattle.machine.specs.declared.Board.{Board}
use Rattle.machine.specs.declared.Board.TheVariants.{TwoMemories, SingleMemory}
use Rattle.machine.specs.Machine.{even_places, with_line, put_pending}
use Rattle.machine.specs.Run.{Stepper}
use Rattle.machine.specs.Lengths.{lengths_fit}
use Rattle.panel.specs.Calls.{SetGiven, SetLeft, set_left, RaiseLeft, raise_left}
use Rattle.image.specs.Image.{W, program_offset, C, data_offset, parts_fit, parts_inside, board_holds, range_fits, then_range, LoadGiven, file_reply, load_reply, load_left_by, load_left}
use Rattle.usage.specs.Usage.{unused}
use Rattle.run.specs.Runs.{Given, stopped, run_refused, verdict, verdict_on, run_left_by, run_left, counted_by, counted_left}
use Rattle.run.proofs.Uncounted.{uncounted}
use Rattle.back.specs.Backs.{BackGiven, gone_back, back_refused, steps_held, back_verdict, back_left_by, back_left}
use Rattle.claims.specs.Refusals.{Lengths, OddPlace, ShortJournal, LoadRefusals, SetRefusals, RaiseRefusals, RunRefusals, BackRefusals, Refusals}
use Rattle.claims_words.proofs.Decides.{Fails, fails_eq, fails_le, fails_and, decides_eq, decides_stable}
use Rattle.claims.proofs.Chains.{Reply, Tests, last, ◌then◌, at, answer, number, none, one_of}

-- ---- The products as 01's table has them

flat3 : {X A B C : Type 0} → X ↔ (A × (B × C)) → X ↔ (A × B × C)
flat3 e = (λ x. let h = e.0 x in (h.0, h.1.0, h.1.1), λ h. e.1 (h.0, (h.1, h.2)))

flat4 : {X A B C D : Type 0} → X ↔ (A × (B × (C × D))) → X ↔ (A × B × C × D)
flat4 e = (λ x. let h = e.0 x in (h.0, h.1.0, h.1.1.0, h.1.1.1), λ h. e.1 (h.0, (h.1, (h.2, h.3))))

flat5 : {X A B C D E : Type 0} → X ↔ (A × (B × (C × (D × E)))) → X ↔ (A × B × C × D × E)
flat5 e = (λ x. let h = e.0 x in (h.0, h.1.0, h.1.1.0, h.1.1.1.0, h.1.1.1.1), λ h. e.1 (h.0, (h.1, (h.2, (h.3, h.4)))))

flat6 : {X A B C D E F : Type 0} → X ↔ (A × (B × (C × (D × (E × F))))) → X ↔ (A × B × C × D × E × F)
flat6 e =
    (λ x. let h = e.0 x in (h.0, h.1.0, h.1.1.0, h.1.1.1.0, h.1.1.1.1.0, h.1.1.1.1.1), λ h. e.1 (h.0, (h.1, (h.2, (h.3, (h.4, h.5))))))

lengths : (P D I O : List ℕ) → Fails (lengths_fit P D I O) (Lengths P D I O)
lengths P D I O =
    simp and_assoc
    (fails_and (fails_eq (length P) 65536) (fails_and (fails_eq (length D) 65536) (fails_and (fails_eq (length I) 256) (fails_eq (length O) 256))))

places : (s : State) → Fails (even_places s) (OddPlace s)
places s = fails_and (fails_eq (s.pc % 2) 0) (fails_eq (s.return_address % 2) 0)

-- ---- Load

module _ (g : LoadGiven) where
  load_replies : Reply Verdict
  load_replies =
      record {
        accepted = accepted;
        refused = refused;
        Accepts = λ v. (load_left_by v g).reply ≡ accepted;
        Gives = λ v k. (load_left_by v g).reply ≡ refused k;
        accepts = refl;
        gives = λ k. refl;
        no_number = λ k e. clash (cc);
        one_number = λ j k e. cc;
        not_both = λ k e. clash (cc);
      }

  holds : (board : Board) (file : List ℕ) → Fails (board_holds board file) ((board ≡ SingleMemory) × (65536 < 2 * W file + C file))
  holds TwoMemories file = (λ e. never (sym e), λ h. let z = h.0 in clash (cc))
  holds SingleMemory file = let f = fails_le (2 * W file + C file) 65536 in (λ e. (refl, f.0 e), λ h. f.1 h.1)

  ranged : (l a b : ℕ) → Fails (eqb l 0 || leb a b) ((l ≡ 0 → ⊥) × (b < a))
  ranged l a b = (go (eqb l 0) refl, λ h. rw (ne_eqb l 0 h.0) (lt-leb a b h.1))
    where
      go : (t : Bool) → eqb l 0 ≡ t → (t || leb a b) ≡ false → (l ≡ 0 → ⊥) × (b < a)
      go true e z = never (sym z)
      go false e z = (eqb-false l 0 e, (fails_le a b).0 z)

  load_tests : Tests
  load_tests =
      let file = g.file in
      at 1 (lengths g.P g.D g.I g.O)
      then at 2 (fails_le 16 (length file))
      then at 3 (fails_and (fails_le (W file) 32768) (fails_le (C file) 65536))
      then at 4 (fails_and
      (fails_and (fails_le 16 (program_offset file)) (fails_le (program_offset file + 2 * W file) (length file)))
      (fails_and (fails_le 16 (data_offset file)) (fails_le (data_offset file + C file) (length file))))
      then at 15 (holds g.board file)
      then last (at 18 (ranged g.range.locked g.range.first g.range.last))

  -- the range's test comes last
  in_order : load_reply g ≡ answer load_replies load_tests
  unfolding load_reply file_reply load_replies load_tests
  in_order =
      let file = g.file in
      ap (λ v. pick (lengths_fit g.P g.D g.I g.O) v (refused 1)) (go (leb 16 (length file)) (parts_fit file) (parts_inside file) (board_holds g.board file))
    where
      go : (a b c d : Bool)
          → then_range g.range (pick a (pick b (pick c (pick d accepted (refused 15)) (refused 4)) (refused 3)) (refused 2))
          ≡ pick a (pick b (pick c (pick d (pick (range_fits g.range) accepted (refused 18)) (refused 15)) (refused 4)) (refused 3)) (refused 2)
      go true true true true = refl
      go true true true false = refl
      go true true false d = refl
      go true false c d = refl
      go false b c d = refl

  -- so the load's reply is what they decide
  replied : {A : Type 0} (x : Verdict) → (((load_left_by (answer load_replies load_tests) g).reply ≡ x) ↔ A) → (((load_left g).reply ≡ x) ↔ A)
  unfolding load_left
  replied {A} x h = subst (λ v. ((load_left_by v g).reply ≡ x) ↔ A) (sym in_order) h

  load : LoadRefusals g
  unfolding load_left load_replies load_tests
  load =
      record {
        number_1 = replied (refused 1) (number load_replies load_tests 0 1 refl);
        number_2 = replied (refused 2) (number load_replies load_tests 0 2 refl);
        number_3 = replied (refused 3) (flat3 (number load_replies load_tests 0 3 refl));
        number_4 = replied (refused 4) (flat4 (number load_replies load_tests 0 4 refl));
        number_15 = replied (refused 15) (flat5 (number load_replies load_tests 0 15 refl));
        number_18 = replied (refused 18) (flat6 (number load_replies load_tests 0 18 refl));
        accepts = replied accepted (flat6 (none load_replies load_tests));
        no_other = λ k e. (one_of load_replies load_tests k (decided e)).0;
        nothing_changes = λ k e. ap (λ v. load_left_by v g) (in_order ∙ (one_of load_replies load_tests k (decided e)).1);
      }
    where
      decided : {k : ℕ} → (load_left g).reply ≡ refused k → (load_left_by (answer load_replies load_tests) g).reply ≡ refused k
      decided e = ap (λ v. (load_left_by v g).reply) (sym in_order) ∙ e

-- ---- Set

module _ (g : SetGiven) where
  set_replies : Reply SetLeft
  set_replies =
      record {
        accepted = record { reply = accepted; I = set g.I g.port g.value };
        refused = λ k. record { reply = refused k; I = g.I };
        Accepts = λ l. l.reply ≡ accepted;
        Gives = λ l k. l.reply ≡ refused k;
        accepts = refl;
        gives = λ k. refl;
        no_number = λ k e. clash (cc);
        one_number = λ j k e. cc;
        not_both = λ k e. clash (cc);
      }

  set_tests : Tests
  set_tests = last (at 1 (fails_eq (length g.I) 256))

  setting : SetRefusals g
  unfolding set_left set_replies set_tests
  setting =
      record {
        number_1 = number set_replies set_tests 0 1 refl;
        accepts = let h = none set_replies set_tests in
            (λ e. decides_stable (decides_eq (length g.I) 256) (h.0 e), λ e. h.1 (λ n. n e));
        no_other = λ k e. (one_of set_replies set_tests k e).0;
        nothing_changes = λ k e. (one_of set_replies set_tests k e).1;
      }

-- ---- Raise

module _ (s : State) (line : ℕ) where
  raise_replies : Reply RaiseLeft
  raise_replies =
      record {
        accepted = record { reply = accepted; state = put_pending (with_line line s.pending) s };
        refused = λ k. record { reply = refused k; state = s };
        Accepts = λ l. l.reply ≡ accepted;
        Gives = λ l k. l.reply ≡ refused k;
        accepts = refl;
        gives = λ k. refl;
        no_number = λ k e. clash (cc);
        one_number = λ j k e. cc;
        not_both = λ k e. clash (cc);
      }

  over_7 : Fails (ltb line 8) (7 < line)
  over_7 = (λ e. omega (arith, ltb-false line 8 e), λ h. le-ltb line 8 (omega arith))

  raise_tests : Tests
  raise_tests = last (at 16 over_7)

  raise : RaiseRefusals s line
  unfolding raise_left raise_replies raise_tests
  raise =
      record {
        number_16 = number raise_replies raise_tests 0 16 refl;
        accepts = let h = none raise_replies raise_tests in
            (λ e. let n : 7 < line → ⊥ = h.0 e in omega arith, λ l. h.1 (λ (n : 7 < line). omega arith));
        no_other = λ k e. (one_of raise_replies raise_tests k e).0;
        nothing_changes = λ k e. (one_of raise_replies raise_tests k e).1;
      }

-- ---- Runs

module _ (v : Stepper) (g : Given) where
  run_replies : Reply Verdict
  run_replies =
      record {
        accepted = accepted;
        refused = refused;
        Accepts = λ x. (q : ℕ) × (s : ℕ) × (k : ℕ) × ((run_left_by v x g).reply ≡ stopped q s k);
        Gives = λ x k. (run_left_by v x g).reply ≡ run_refused k;
        accepts = (_, _, _, refl);
        gives = λ k. refl;
        no_number = λ k e. clash (cc);
        one_number = λ j k e. cc;
        not_both = λ k h. let e = h.3 in clash (cc);
      }

  run_tests : Tests
  run_tests =
      at 1 (lengths g.P g.D g.I g.O)
      then at 5 (places g.state)
      then last (at 6 (fails_le (g.state.n + g.budget) 4294967295))

  no_counts : (x : Verdict) (k : ℕ) → (run_left_by v x g).reply ≡ run_refused k → (counted_by v x g).usage ≡ unused
  no_counts accepted k e = clash (cc)
  no_counts (refused j) k e = refl

  run : RunRefusals v g
  unfolding run_left counted_left verdict run_replies run_tests
  run =
      record {
        number_1 = number run_replies run_tests 0 1 refl;
        number_5 = number run_replies run_tests 0 5 refl;
        number_6 = flat3 (number run_replies run_tests 0 6 refl);
        accepts = flat3 (none run_replies run_tests);
        no_other = λ k e. (one_of run_replies run_tests k e).0;
        nothing_changes = λ k e. ap (λ x. run_left_by v x g) (one_of run_replies run_tests k e).1;
        without_counts = uncounted v g refl;
        no_counts = no_counts (verdict_on g);
      }

-- ---- Going back

-- fewer steps held than k, in plain inequalities
module _ (count n length k : ℕ) where
  abbrev Short : Type 0
  Short = ((length < count) × (0 < k)) ⊎ (count < k) ⊎ (n < k)

  fewer : (t : Bool) → leb count length ≡ t → (pick t (min count n) 0 < k) ↔ Short
  fewer true e = (
    over (leb count n) refl,
    ⊎_elim (λ s. absurd (omega (arith, s.0, leb-true count length e))) (⊎_elim (λ s. omega arith) (λ s. omega arith)),
  )
    where
      over : (b : Bool) → leb count n ≡ b → min count n < k → Short
      over true f h = inr (inl (omega (arith, leb-true count n f)))
      over false f h = inr (inr (omega (arith, leb-false count n f)))
  fewer false e = (
    λ h. inl (leb-false count length e, h),
    ⊎_elim (λ s. s.1) (⊎_elim (λ s. omega arith) (λ s. omega arith)),
  )

module _ (g : BackGiven) where
  back_replies : Reply Verdict
  back_replies =
      record {
        accepted = accepted;
        refused = refused;
        Accepts = λ x. (e : ℕ) × ((back_left_by x g).reply ≡ gone_back e);
        Gives = λ x k. (back_left_by x g).reply ≡ back_refused k;
        accepts = (_, refl);
        gives = λ k. refl;
        no_number = λ k e. clash (cc);
        one_number = λ j k e. cc;
        not_both = λ k h. let e = h.1 in clash (cc);
      }

  short : Fails (leb g.k (steps_held g.state g.journal)) (ShortJournal g)
  short =
      let a = fails_le g.k (steps_held g.state g.journal) in
      let b = fewer g.state.journaled g.state.n (length g.journal) g.k _ refl in
      (λ e. b.0 (a.0 e), λ s. a.1 (b.1 s))

  back_tests : Tests
  back_tests = at 1 (lengths g.P g.D g.I g.O) then at 5 (places g.state) then last (at 14 short)

  back : BackRefusals g
  unfolding back_left back_verdict back_replies back_tests
  back =
      record {
        number_1 = number back_replies back_tests 0 1 refl;
        number_5 = number back_replies back_tests 0 5 refl;
        number_14 = flat3 (number back_replies back_tests 0 14 refl);
        accepts = flat3 (none back_replies back_tests);
        no_other = λ k e. (one_of back_replies back_tests k e).0;
        nothing_changes = λ k e. ap (λ x. back_left_by x g) (one_of back_replies back_tests k e).1;
      }

pub refusals : Refusals
refusals = record { load = load; setting = setting; raise = raise; run = run; back = back }
