-- What is told of a line is carried on by every call.
-- Assumes nothing.
use mathlib.Core.Path.{◌≡◌, refl, sym, ap, subst, ◌∙◌}
use mathlib.Core.Bool.{Bool, true, false, ◌||◌}
use mathlib.Core.Logic.{inl, inr}
use mathlib.Core.List.{List, [], ◌∷◌, ◌++◌, reverse, reverse-cons}
use Prim.Native.Nat.{ℕ, ◌+◌, ◌/◌, ◌^◌, ◌<◌, ◌≤◌, max}
use native.Mathlib.Omega.{arith}
use borrow.Author.Tests.{eqb-true, ltb-true, ltb-false}
use lib.Bits.{bit_or, or_zero_r}
use lib.Dec.{eqb, ltb}
use lib.ListN.{length, take, drop, take-append-drop}
use Rattle.refusal.specs.Refusals.{Verdict, accepted, refused}
use Rattle.word.specs.Word.{pick, flag}
use Rattle.word.proofs.Tests.{clash, never}
use Rattle.machine.specs.declared.State.{State}
use Rattle.machine.specs.Machine.{Machine, reset_on, bit_of, with_line, put_pending, put_journaled, on_state}
use Rattle.machine.specs.Run.{by_rules}
use Rattle.journal.specs.Ranges.{InRange}
use Rattle.journal.proofs.Written.{with_state_lem}
use Rattle.panel.specs.Calls.{RaiseLeft, raise_left}
use Rattle.image.specs.Image.{LoadGiven, LoadLeft, load_left, loaded}
use Rattle.run.specs.Runs.{Journal, no_journal, lent_journal, Given, verdict_on, allowed, machine_at, start_in, counted_in, trace_on, outcome_on, accepted_left, CountedLeft, counted_by, counted_left, CountedMeets}
use Rattle.back.specs.Backs.{BackLeft, gone_back, back_refused, back_verdict, back_left_by, back_left}
use Rattle.back.proofs.Left.{accepted_left_lem}
use Rattle.claims.specs.Session.{Engine, stepper_of, Lent, Host, host_of, given_to, after_one_run, after_raise, machine_on}
use Rattle.claims.proofs.Together.{both}
use Rattle.claims.proofs.Session.{accepted_load, range_kept}
use Rattle.claims_back.specs.History.{Past, taken_by, taken, given_back, after_back}
use Rattle.claims_back.specs.StepBack.{earlier, raised_since, pending_back}
use Rattle.claims_back.specs.Lines.{takes_it, some_takes, Event, was_raised, was_taken, was_taken_back, waits, and_if, RaisedFirst, Begun, Told, NoLineLost}
use Rattle.claims_back.proofs.Lines.{bit_or_lem, bit_of_line, no_bit}
use Rattle.claims_back.proofs.Returned.{may_go, went, returned}
use Rattle.claims_back.proofs.Waiting.{Bit, walk_bit, back_bit}
use Rattle.claims_back.proofs.Walks.{run_walks}

module _ (line : ℕ) where
  -- ---- Steps that take it

  some_append : (ms ns : List Machine) → some_takes line (ms ++ ns) ≡ (some_takes line ms || some_takes line ns)
  unfolding some_takes
  some_append [] ns = refl
  some_append (m ∷ ms) ns = ap (λ t. takes_it line m || t) (some_append ms ns) ∙ grouped (takes_it line m) (some_takes line ms) (some_takes line ns)
    where
      grouped : (a b c : Bool) → (a || (b || c)) ≡ ((a || b) || c)
      grouped true b c = refl
      grouped false b c = refl

  some_reverse : (ms : List Machine) → some_takes line (reverse ms) ≡ some_takes line ms
  unfolding some_takes
  some_reverse [] = refl
  some_reverse (m ∷ ms) =
      ap (some_takes line) (reverse-cons m ms)
      ∙ some_append (reverse ms) (m ∷ [])
      ∙ ap (λ t. t || (takes_it line m || false)) (some_reverse ms)
      ∙ swapped (some_takes line ms) (takes_it line m)
    where
      swapped : (a b : Bool) → (a || (b || false)) ≡ (b || a)
      swapped true true = refl
      swapped true false = refl
      swapped false true = refl
      swapped false false = refl

  no_steps : some_takes line [] ≡ false
  unfolding some_takes
  no_steps = refl

  -- none among some of these
  none_in : (k : ℕ) (ms : List Machine) → some_takes line ms ≡ false → (some_takes line (take k ms) ≡ false) × (some_takes line (drop k ms) ≡ false)
  none_in k ms e =
      parts (some_takes line (take k ms)) (some_takes line (drop k ms))
      (sym (some_append (take k ms) (drop k ms)) ∙ ap (some_takes line) (take-append-drop k ms) ∙ e)
    where
      parts : (a b : Bool) → (a || b) ≡ false → (a ≡ false) × (b ≡ false)
      parts true b e = never (sym e)
      parts false b e = (refl, e)

  -- ---- What is told

  more_first : {es : List Event} (e : Event) → RaisedFirst es → RaisedFirst (e ∷ es)
  more_first e (later, f) = (e ∷ later, ap (λ x. e ∷ x) f)

  -- where it waits it was raised
  waits_first : {h : Host} {ms : List Machine} {es : List Event} → Told line h ms es → waits es ≡ 1 → RaisedFirst es
  waits_first {ms = ms} {es = es} t w = go t.first
    where
      go : Begun line ms es → RaisedFirst es
      go (inl (e, n)) = let z = sym (ap waits e) ∙ w in clash z
      go (inr f) = f

  -- where the bit is set it waits
  set_waits : {h : Host} {ms : List Machine} {es : List Event} → Told line h ms es → 1 ≤ bit_of line h.state.pending → waits es ≡ 1
  set_waits {h = h} t l = sym t.pending ∙ (let p = h.state.pending / 2 ^ line in omega arith)

  -- by whether these steps took it, of the pending bytes before and after
  after_steps : {h : Host} {ms : List Machine} {es : List Event} (b : Host) (steps : List Machine) (t : Bool) → some_takes line steps ≡ t
      → bit_of line b.state.pending ≡ pick t 0 (bit_of line h.state.pending) → flag t ≤ bit_of line h.state.pending
      → Told line h ms es → Told line b (steps ++ ms) (and_if t was_taken es)
  after_steps b steps true e after before told =
      record { pending = after; first = inr (more_first was_taken (waits_first told (set_waits told before))) }
  after_steps {ms = ms} {es = es} b steps false e after before told = record { pending = after ∙ told.pending; first = go told.first }
    where
      go : Begun line ms es → Begun line (steps ++ ms) es
      go (inl (x, n)) = inl (x, some_append steps ms ∙ (λ i. e i || n i))
      go (inr f) = inr f

  anew : (ms : List Machine) (es : List Event) → Begun line ms es → Begun line [] es
  anew ms es (inl (x, n)) = inl (x, no_steps)
  anew ms es (inr f) = inr f

  -- taken back
  after_taken_back : {h : Host} {ms : List Machine} {es : List Event} (b : Host) (k : ℕ) (t : Bool) → some_takes line (take k ms) ≡ t
      → bit_of line b.state.pending ≡ pick t 1 (bit_of line h.state.pending)
      → Told line h ms es → Told line b (drop k ms) (and_if t was_taken_back es)
  after_taken_back {ms = ms} {es = es} b k true e after told = record { pending = after; first = inr (more_first was_taken_back (go told.first)) }
    where
      go : Begun line ms es → RaisedFirst es
      go (inl (x, n)) = never (sym (none_in k ms n).0 ∙ e)
      go (inr f) = f
  after_taken_back {ms = ms} {es = es} b k false e after told = record { pending = after ∙ told.pending; first = go told.first }
    where
      go : Begun line ms es → Begun line (drop k ms) es
      go (inl (x, n)) = inl (x, (none_in k ms n).1)
      go (inr f) = inr f

  -- raised
  after_raised : {h : Host} {ms : List Machine} {es : List Event} (b : Host) (t : Bool)
      → bit_of line b.state.pending ≡ pick t 1 (bit_of line h.state.pending) → Told line h ms es → Told line b ms (and_if t was_raised es)
  after_raised {ms = ms} {es = es} b true after told = record { pending = after; first = inr (go es told.first) }
    where
      go : (es : List Event) → Begun line ms es → RaisedFirst (was_raised ∷ es)
      go es (inl (x, n)) = ([], ap (λ es. was_raised ∷ es) x)
      go es (inr f) = more_first was_raised f
  after_raised b false after told = record { pending = after ∙ told.pending; first = told.first }

module _ (line : ℕ) (eight : line < 8) where
  -- ---- A raise

  raise_bit : (p k : ℕ) → k < 8 → bit_of line (with_line k p) ≡ pick (eqb k line) 1 (bit_of line p)
  raise_bit p k l = bit_or_lem line p (2 ^ k) ∙ ap (max (bit_of line p)) (bit_of_line line k eight l) ∙ go (eqb k line)
    where
      go : (t : Bool) → max (bit_of line p) (flag t) ≡ pick t 1 (bit_of line p)
      go true = omega arith
      go false = omega arith

  other_line : (k : ℕ) → ltb k 8 ≡ false → eqb k line ≡ false
  other_line k e = go (eqb k line) refl
    where
      go : (t : Bool) → eqb k line ≡ t → t ≡ false
      go true f = absurd (omega (arith, eqb-true k line f, ltb-false k 8 e))
      go false f = refl

  raise_tells : (h : Host) (ms : List Machine) (es : List Event) → Told line h ms es → (k : ℕ) (l : RaiseLeft) → l ≡ raise_left h.state k
      → Told line (after_raise h l) ms (and_if (eqb k line) was_raised es)
  unfolding raise_left
  raise_tells h ms es told k l e = after_raised line (after_raise h l) (eqb k line) (ap (λ (x : RaiseLeft). bit_of line x.state.pending) e ∙ go (ltb k 8) refl) told
    where
      go : (t : Bool) → ltb k 8 ≡ t
          → bit_of line (pick {A = RaiseLeft} t (record { reply = accepted; state = put_pending (with_line k h.state.pending) h.state }) (record { reply = refused 16; state = h.state })).state.pending
          ≡ pick (eqb k line) 1 (bit_of line h.state.pending)
      go true t = raise_bit h.state.pending k (ltb-true k 8 t)
      go false t = ap (λ u. pick u 1 (bit_of line h.state.pending)) (sym (other_line k t))

  -- ---- A run

  start_pending : (j : Journal) (s : State) → (start_in j s).pending ≡ s.pending
  start_pending no_journal s = refl
  start_pending (lent_journal xs) s = refl

  counted_pending : (j : Journal) (k : ℕ) (s : State) → (counted_in j k s).pending ≡ s.pending
  counted_pending no_journal k s = refl
  counted_pending (lent_journal xs) k s = refl

  start_in_range : (j : Journal) (m : Machine) → InRange m → InRange (on_state (start_in j) m)
  start_in_range no_journal m r =
      with_state_lem r (put_journaled 0 m.state) r.registers r.pc r.enabled r.pending r.line r.address
  start_in_range (lent_journal xs) m r = r

  module _ (h : Host) (r : InRange (machine_on h [])) (lent : Lent) where
    abbrev asked : Given
    asked = given_to h lent

    run_bit : Bit line eight (some_takes line (trace_on by_rules asked)) (machine_at asked) (outcome_on by_rules asked).after
    run_bit =
        walk_bit line eight (run_walks (allowed asked) (0 + length lent.log) (machine_at asked)).1 (start_in_range lent.journal (machine_on h []) r)

    starts : (t : Bool) → Bit line eight t (machine_at asked) (outcome_on by_rules asked).after
        → (bit_of line (accepted_left by_rules asked).state.pending ≡ pick t 0 (bit_of line h.state.pending)) × (flag t ≤ bit_of line h.state.pending)
    starts t b =
        let p = start_pending lent.journal h.state in (
          ap (bit_of line) (counted_pending lent.journal (length (trace_on by_rules asked)) (outcome_on by_rules asked).after.state)
              ∙ b.after_is
              ∙ ap (λ x. pick t 0 (bit_of line x)) p,
          subst (λ x. flag t ≤ bit_of line x) p b.before,
        )

    run_tells : (ms : List Machine) (es : List Event) → Told line h ms es → (e : Engine) (l : CountedLeft) → CountedMeets (stepper_of e) asked l
        → let steps = taken asked in Told line (after_one_run l.left) (steps ++ ms) (and_if (some_takes line steps) was_taken es)
    unfolding counted_left
    run_tells ms es told e l meets =
        subst (λ (x : CountedLeft). let steps = taken asked in Told line (after_one_run x.left) (steps ++ ms) (and_if (some_takes line steps) was_taken es))
        (sym (both e asked l meets)) (go (verdict_on asked))
      where
        go : (v : Verdict)
            → Told line (after_one_run (counted_by by_rules v asked).left) (taken_by v asked ++ ms) (and_if (some_takes line (taken_by v asked)) was_taken es)
        go accepted =
            let t = some_reverse line (trace_on by_rules asked) in
            let z = starts _ run_bit in
            after_steps line (after_one_run (accepted_left by_rules asked)) (reverse (trace_on by_rules asked)) (some_takes line (reverse (trace_on by_rules asked))) refl
            (z.0 ∙ ap (λ u. pick u 0 (bit_of line h.state.pending)) (sym t)) (rw t z.1) told
        go (refused k) = after_steps line h [] (some_takes line []) refl (ap (λ t. pick t 0 (bit_of line h.state.pending)) (sym (no_steps line))) (rw (no_steps line) (omega arith)) told

    run_raised : (ms : List Machine) (es : List Event) → Told line h ms es → some_takes line (taken asked) ≡ true → (waits es ≡ 1) × RaisedFirst es
    run_raised ms es told = go (verdict_on asked)
      where
        go : (v : Verdict) → some_takes line (taken_by v asked) ≡ true → (waits es ≡ 1) × RaisedFirst es
        go accepted e =
            let z = (starts _ run_bit).1 in
            let w = set_waits line told (rw (sym (some_reverse line (trace_on by_rules asked)) ∙ e) at z) in
            (w, waits_first line told w)
        go (refused k) e = never (sym (no_steps line) ∙ e)

  -- ---- Going back

  back_tells : (h : Host) (xs : List ℕ) (ms : List Machine) (es : List Event) → Past h xs ms → Told line h ms es
      → (k : ℕ) (l : BackLeft) → l ≡ back_left (given_back h xs k) → (e : ℕ) → l.reply ≡ gone_back e
      → Told line (after_back l) (drop k ms) (and_if (some_takes line (take k ms)) was_taken_back es)
  back_tells h xs ms es p told k l eq e r =
      let few = went h xs ms p k l eq e r in
      let m = machine_on h [] in
      let left = accepted_left_lem (given_back h xs k) (may_go h xs ms p k few) ∙ sym eq in
      let pending : l.state.pending ≡ pending_back k m ms =
      ap (λ (x : BackLeft). x.state.pending) (sym left) ∙ ap (λ (x : Machine). x.state.pending) (returned h xs ms p k few) in
      after_taken_back line (after_back l) k (some_takes line (take k ms)) refl
      (ap (bit_of line) pending
      ∙ ap (λ x. bit_of line (bit_or (earlier k m ms).state.pending x)) (sym (or_zero_r (raised_since k m ms)))
      ∙ back_bit line eight k ms p.history 0
      ∙ ap (λ x. pick (some_takes line (take k ms)) 1 (bit_of line x)) (or_zero_r h.state.pending))
      told

  back_refused_tells : (h : Host) (xs : List ℕ) (ms : List Machine) (es : List Event) → Told line h ms es
      → (k : ℕ) (l : BackLeft) → l ≡ back_left (given_back h xs k) → (n : ℕ) → l.reply ≡ back_refused n → Told line (after_back l) ms es
  unfolding back_left
  back_refused_tells h xs ms es told k l eq n r =
      subst (λ l. Told line (after_back l) ms es) (sym eq) (go (back_verdict (given_back h xs k)) (ap (λ x. x.reply) (sym eq) ∙ r))
    where
      go : (v : Verdict) → (back_left_by v (given_back h xs k)).reply ≡ back_refused n → Told line (after_back (back_left_by v (given_back h xs k))) ms es
      go accepted r = clash (cc)
      go (refused i) r = told

  -- ---- A load

  load_tells : (g : LoadGiven) (l : LoadLeft) → l ≡ load_left g → l.reply ≡ accepted → Told line (host_of l) [] []
  unfolding loaded
  load_tells g l e ok =
      record { pending = ap (λ (m : Machine). bit_of line m.state.pending) (accepted_load g l e ok).1 ∙ ap (λ (s : State). bit_of line s.pending) (range_kept g.range (reset_on g.board)) ∙ no_bit line eight; first = inl (refl, no_steps line) }

-- ---- THE CLAIM

disabled : (line : ℕ) (m : Machine) → m.state.enabled ≡ 0 → takes_it line m ≡ false
disabled line m e = rw e

pub no_line_lost : NoLineLost
no_line_lost line eight =
    record {
      enabled = disabled line;
      raised = λ h ms es r told lent. run_raised line eight h r lent ms es told;
      after_load = load_tells line eight;
      after_raising = raise_tells line eight;
      after_setting = λ h ms es told l. record { pending = told.pending; first = told.first };
      after_run = λ h ms es r told e lent. run_tells line eight h r lent ms es told e;
      anew = λ h ms es told. record { pending = told.pending; first = anew line ms es told.first };
      after_going_back = back_tells line eight;
      after_refused_back = back_refused_tells line eight;
    }
