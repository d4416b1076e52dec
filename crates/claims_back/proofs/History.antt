-- A history goes on by every call: by a run (Carried), by entries undone (Returned), and by inputs set.
-- Assumes nothing.
use mathlib.Core.Path.{◌≡◌, refl, sym, ap, subst, ◌∙◌}
use mathlib.Core.Bool.{Bool, true, false}
use mathlib.Core.List.{List, [], ◌∷◌, ◌++◌}
use Prim.Native.Nat.{ℕ, ◌-◌, ◌^◌, ◌<◌, ◌≤◌}
use native.Mathlib.Omega.{arith}
use lib.Dec.{ltb}
use lib.Pow.{pow-lt}
use borrow.Author.Tests.{ltb-true}
use lib.ListN.{length, get_or, set, take, drop, replicate, length-drop, get_or-replicate}
use lib.Seq.{get_or-take}
use Rattle.refusal.specs.Refusals.{Verdict, accepted, refused}
use Rattle.word.specs.Word.{pick}
use Rattle.word.proofs.Tests.{clash}
use Rattle.machine.specs.declared.Board.{Board}
use Rattle.machine.specs.declared.State.{State}
use Rattle.machine.specs.Machine.{Machine, even_places, reset, reset_on, with_line, put_pending, put_journaled}
use Rattle.machine.specs.Step.{fetched, to, choice, step_by, step}
use Rattle.journal.specs.Journal.{keys_back, entry_of}
use Rattle.journal.specs.Ranges.{Numbers, InRange}
use Rattle.journal.proofs.Written.{numbers_set}
use Rattle.panel.specs.Calls.{SetLeft, set_left, RaiseLeft, raise_left}
use Rattle.image.specs.declared.Range.{Range}
use Rattle.image.specs.Image.{loaded}
use Rattle.control.proofs.Laws.{lawful_rules}
use Rattle.run.specs.Runs.{Journal, no_journal, lent_journal, stopped, CountedLeft, CountedMeets}
use Rattle.back.specs.Backs.{BackLeft, gone_back, back_refused, back_verdict, back_left_by, back_left}
use Rattle.back.proofs.Undone.{undone_counts, undone_in_range}
use Rattle.back.proofs.Left.{accepted_left_lem}
use Rattle.claims.specs.Session.{Engine, stepper_of, Lent, Host, host_of, given_to, after_one_run, after_set, after_raise, machine_on}
use Rattle.claims_back.specs.StepBack.{raised_since}
use Rattle.claims_back.specs.History.{held_as, History, begins, steps, held, Past, taken, given_back, after_back, Histories}
use Rattle.claims.proofs.Together.{both}
use Rattle.claims.proofs.Session.{accepted_load, range_kept}
use Rattle.claims_back.proofs.Loads.{zeros, loaded_in_range}
use Rattle.claims_back.proofs.Pasts.{known, unraised, last, alike, earlier_history}
use Rattle.claims_back.proofs.Carried.{begun, carries, left_alone}
use Rattle.claims_back.proofs.Returned.{since_below, may_go, went, returned}

-- ---- A run, by either engine

-- what a run is lent, with another journal
abbrev lending : Lent → Journal → Lent
lending lent j = record { budget = lent.budget; log = lent.log; journal = j }

run_begins : (h : Host) → InRange (machine_on h []) → (e : Engine) (lent : Lent) → lent.journal ≡ no_journal
    → (l : CountedLeft) → CountedMeets (stepper_of e) (given_to h lent) l → (q s k : ℕ) → l.left.reply ≡ stopped q s k
    → (xs : List ℕ) → Past (after_one_run l.left) xs []
run_begins h r e lent j =
    subst
    (λ x. (l : CountedLeft) → CountedMeets (stepper_of e) (given_to h (lending lent x)) l → (q s k : ℕ) → l.left.reply ≡ stopped q s k
    → (xs : List ℕ) → Past (after_one_run l.left) xs [])
    (sym j) (λ l meets. begun h lent.budget lent.log r l (both e _ l meets))

run_carries : (h : Host) (xs : List ℕ) (ms : List Machine) → Past h xs ms → (e : Engine) (lent : Lent) → lent.journal ≡ lent_journal xs
    → (l : CountedLeft) → CountedMeets (stepper_of e) (given_to h lent) l → (ys : List ℕ) → l.left.journal ≡ lent_journal ys
    → Past (after_one_run l.left) ys (taken (given_to h lent) ++ ms)
run_carries h xs ms p e lent j =
    subst
    (λ x. (l : CountedLeft) → CountedMeets (stepper_of e) (given_to h (lending lent x)) l → (ys : List ℕ) → l.left.journal ≡ lent_journal ys
    → Past (after_one_run l.left) ys (taken (given_to h (lending lent x)) ++ ms))
    (sym j) (λ l meets. carries h lent.budget lent.log xs ms p l (both e _ l meets))

module _ (h : Host) (xs : List ℕ) (ms : List Machine) (p : Past h xs ms) where
  -- ---- A set

  set_keeps : (port value : ℕ) → value < 65536 → (l : SetLeft) → l ≡ set_left (record { I = h.I; port = port; value = value }) → Past (after_set h l) xs ms
  unfolding set_left
  set_keeps port value v l e =
      let r = (known p.history).sound.stays_in_range.inputs in
      let I = set h.I port value in
      let done : l ≡ record { reply = accepted; I = I } = e ∙ rw r.many in
      subst (λ l. Past (after_set h l) xs ms) (sym done)
      (record {
        counted = p.counted;
        few = p.few;
        history = unraised p.history h.state.journaled I [] (numbers_set h.I port value r v);
      })

  -- ---- A raise

  raise_keeps : (line : ℕ) (l : RaiseLeft) → l ≡ raise_left h.state line → Past (after_raise h l) xs ms
  unfolding raise_left
  raise_keeps line l e = subst (λ l. Past (after_raise h l) xs ms) (sym e) (go (ltb line 8) refl)
    where
      go : (t : Bool) → ltb line 8 ≡ t
          → Past
          (after_raise h
          (pick t (record { reply = accepted; state = put_pending (with_line line h.state.pending) h.state }) (record { reply = refused 16; state = h.state })))
          xs ms
      go true t =
          record {
            counted = p.counted;
            few = p.few;
            history = held p.history h.state.journaled (2 ^ line) h.I [] (pow-lt (ltb-true line 8 t)) (known p.history).sound.stays_in_range.inputs;
          }
      go false t = p

  -- ---- Going back

  back_drops : (k : ℕ) (l : BackLeft) → l ≡ back_left (given_back h xs k) → (e : ℕ) → l.reply ≡ gone_back e → Past (after_back l) xs (drop k ms)
  back_drops k l eq e r =
      let g = given_back h xs k in
      let few = went h xs ms p k l eq e r in
      let I = keys_back (take k ms) h.I in
      let back = returned h xs ms p k few in
      let there = undone_in_range xs k h.state.journaled (machine_on h []) (known p.history).sound.stays_in_range in
      subst (λ l. Past (after_back l) xs (drop k ms)) (accepted_left_lem g (may_go h xs ms p k few) ∙ sym eq)
      (record {
        counted = ap (λ c. c - k) p.counted ∙ sym (length-drop k ms);
        few = omega (arith, p.few, undone_counts xs k h.state.journaled (machine_on h []));
        history =
            subst (λ m. History xs m (drop k ms)) (sym back)
            (held (earlier_history k ms p.history) (length ms - k) (raised_since k (machine_on h []) ms) I [] (since_below k ms p.history)
            (subst (Numbers 256 65536) (ap (λ m. m.I) back) there.inputs));
      })

  back_refused_keeps : (k : ℕ) (l : BackLeft) → l ≡ back_left (given_back h xs k) → (r : ℕ) → l.reply ≡ back_refused r → Past (after_back l) xs ms
  unfolding back_left
  back_refused_keeps k l eq n r = subst (λ l. Past (after_back l) xs ms) (sym eq) (go (back_verdict (given_back h xs k)) (ap (λ x. x.reply) (sym eq) ∙ r))
    where
      go : (v : Verdict) → (back_left_by v (given_back h xs k)).reply ≡ back_refused n → Past (after_back (back_left_by v (given_back h xs k))) xs ms
      go accepted r = clash (cc)
      go (refused i) r = p

  -- ---- A copy of the journal

  copied_keeps : (ys : List ℕ) → length ms ≤ length ys → take (length ms) ys ≡ take (length ms) xs → Past h ys ms
  copied_keeps ys l e =
      record {
        counted = p.counted;
        few = p.few;
        history = alike ys p.history l (λ i h. sym (get_or-take (length ms) ys i 0 h) ∙ ap (λ zs. get_or zs i 0) e ∙ get_or-take (length ms) xs i 0 h);
      }

-- ---- A load

load_begins : (h : Host) (file : List ℕ) (board : Board) (range : Range) → machine_on h [] ≡ loaded file board range → InRange (loaded file board range) → (xs : List ℕ) → Past h xs []
unfolding loaded
load_begins h file board range e r xs =
    let s = ap (λ (x : Machine). x.state) e ∙ range_kept range (reset_on board) in
    let n : h.state.n ≡ 0 = ap (λ (x : State). x.n) s in
    record {
      counted = ap (λ (x : State). x.journaled) s;
      few = omega (arith, n);
      history = begins (subst InRange (sym e) r) (ap even_places s);
    }

-- ---- A history with one step

stepped_past : (m next : Machine) → InRange m → even_places m.state ≡ true → m.state.n ≡ 0 → step m ≡ to next
    → (h : Host) × (xs : List ℕ) × (m : Machine) × (ms : List Machine) × Past h xs (m ∷ ms)
stepped_past m next r even n e =
    let z : History (entry_of m ∷ []) next (m ∷ []) = steps (begins r even) e (omega arith) refl in (
      record { state = put_journaled 1 next.state; P = next.P; D = next.D; I = next.I; O = next.O },
      entry_of m ∷ [],
      m,
      [],
      record {
        counted = refl;
        few = omega (arith, n, lawful_rules.counts m next e);
        history = unraised z 1 next.I [] (known z).sound.stays_in_range.inputs;
      },
    )

-- of a machine of zeros, whose word 0 is an AND
module _ (P : List ℕ) where
  zeroed : Machine
  zeroed = record { state = reset; P = P; D = replicate 65536 0; I = replicate 256 0; O = replicate 256 0; L = [] }

  zeroed_steps : get_or P 0 0 ≡ 0 → get_or P 1 0 ≡ 0 → (next : Machine) × (step zeroed ≡ to next)
  unfolding step fetched choice zeroed
  zeroed_steps e f = let z : fetched zeroed ≡ 0 = rw (e, f) in (_, ap (λ w. step_by (choice w) w zeroed) z)

one_step : (h : Host) × (xs : List ℕ) × (m : Machine) × (ms : List Machine) × Past h xs (m ∷ ms)
unfolding zeroed
one_step =
    let P : List ℕ = replicate 65536 0 in
    let bytes = zeros 256 (omega arith) 65536 in
    let words = zeros 65536 (omega arith) in
    let r : InRange (zeroed P) = record { registers = words 8; pc = omega arith; enabled = omega arith; pending = omega arith; line = omega arith; address = omega arith; program = bytes; memory = bytes; inputs = words 256; outputs = words 256 } in
    let (next, e) = zeroed_steps P (get_or-replicate 65536 0 0 0 (omega arith)) (get_or-replicate 65536 1 0 0 (omega arith)) in
    stepped_past (zeroed P) next r refl refl e

-- ---- THE CLAIM

pub histories : Histories
histories =
    record {
      last_step = λ h xs m ms p.
          let l = last p.history in
          (l.next, l.lines, l.stepped, l.led ∙ (λ i. held_as (p.counted i) (l.raised i) h.I [] l.next));
      stays_in_range = λ h xs ms p. (known p.history).sound.stays_in_range;
      after_load = λ g l e ok bytes xs.
          let (accepts, m) = accepted_load g l e ok in
          load_begins (host_of l) g.file g.board g.range m (loaded_in_range g accepts bytes) xs;
      after_run_without = run_begins;
      after_run = run_carries;
      after_refused_run = λ h xs ms p e lent l meets k r. subst (λ h. Past h xs ms) (left_alone h lent l (both e _ l meets) k r) p;
      after_setting = set_keeps;
      after_raising = raise_keeps;
      after_going_back = back_drops;
      after_refused_back = back_refused_keeps;
      copied = λ h xs ys ms p. copied_keeps h xs ms p ys;
      exists = one_step;
    }
