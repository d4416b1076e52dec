-- The host and the machine stay together, call by call: a run on a machine whose L holds l is the contract's run, with l in front.
-- Assumes nothing.
use mathlib.Core.Path.{◌≡◌, refl, sym, ap, subst, ◌∙◌}
use mathlib.Core.Bool.{Bool, true, false}
use mathlib.Core.List.{List, [], ◌∷◌, ◌++◌, map, append_assoc, append-nil}
use Prim.Native.Nat.{ℕ, ◌+◌, ◌-◌}
use native.Mathlib.Omega.{arith}
use native.Mathlib.Nat.{zero-add}
use lib.Dec.{eqb, ltb}
use lib.ListN.{length, set, take, drop, length-append, length-map}
use lib.Seq.{take-append_seam, drop-append_seam}
use Rattle.refusal.specs.Refusals.{Verdict, accepted, refused}
use Rattle.word.specs.Word.{pick}
use Rattle.machine.specs.Machine.{Machine, with_line, put_pending, put_i, on_state}
use Rattle.machine.specs.Run.{by_rules, Outcome, run_from, trace_from}
use Rattle.usage.specs.Usage.{usage_of, ticks_of}
use Rattle.panel.specs.Calls.{SetLeft, set_left, RaiseLeft, raise_left}
use Rattle.control.proofs.Laws.{shift}
use Rattle.run.specs.Runs.{Given, Left, stopped, verdict_on, counted_in, kept_in, left_of, CountedLeft, counted_by, counted_left, CountedMeets}
use Rattle.claims.specs.Session.{Engine, through_rules, through_table, stepper_of, Lent, Call, runs, sets, raises, Reply, of_run, of_set, of_raise, Host, given_to, after_one_run, after_set, after_raise, CallMeets, a_run, a_setting, a_raise, Calls, none, more, wrote, joined, allowed_to, started, outcome, taken, run_by, raised, machine_call, machine_calls, said_by, machine_says, machine_replies, machine_on}
use Rattle.claims_sheet.proofs.Agreement.{same_run}
use Rattle.claims.proofs.Shift.{shift_outcome, goes_alike, usage_shift, ticks_shift, kept_shift}

-- both engines promise the same
pub both : (e : Engine) (g : Given) (x : CountedLeft) → CountedMeets (stepper_of e) g x → x ≡ counted_left by_rules g
both through_rules g x p = p
both through_table g x p = p ∙ same_run g

-- what is told of a run
abbrev pub told : CountedLeft → Reply
told x = of_run x.left.reply x.usage x.ticks x.left.log x.left.journal

-- one call
record Together (h : Host) (l : List ℕ) (c : Call) (r : Reply) (h' : Host) : Type 0 where
  held : machine_on h' (l ++ wrote r) ≡ machine_call (machine_on h l) c
  says : r ≡ machine_says (machine_on h l) c

-- ---- A run

-- the run on the machine whose L is empty, with l in front
module _ (h : Host) (l : List ℕ) (lent : Lent) where
  pub record Shifted : Type 0 where
    pub outcomes : outcome (machine_on h l) lent ≡ shift_outcome l (outcome (machine_on h []) lent)
    pub traces : taken (machine_on h l) lent ≡ map (shift l) (taken (machine_on h []) lent)

  pub shifted : Shifted
  shifted =
      let k = allowed_to (machine_on h []) lent in
      let n = length lent.log in
      let on : List ℕ → Machine = λ x. started (machine_on h x) lent in
      let t = goes_alike k n l (on []) in
      record {
        outcomes = subst (λ (x : List ℕ). run_from by_rules k (length l + n) (on x) ≡ shift_outcome l (run_from by_rules k (0 + n) (on []))) (append-nil l)
            (rw (zero-add n) t.ends);
        traces = subst (λ (x : List ℕ). trace_from by_rules k (length l + n) (on x) ≡ map (shift l) (trace_from by_rules k (0 + n) (on []))) (append-nil l)
            (rw (zero-add n) t.traces);
      }

-- what a machine with l in its L says of a run that took the steps ms and came to y
abbrev saying : Host → List ℕ → Lent → List Machine → Outcome → Reply
saying h l lent ms y =
    let new = drop (length l) y.after.L in
    of_run (stopped y.reason (y.after.state.n - h.state.n) (length y.after.L - length l)) (usage_of ms) (ticks_of ms)
    (new ++ drop (length new) lent.log) (kept_in lent.journal h.state.journaled ms)

module _ (h : Host) (l : List ℕ) (lent : Lent) (ms : List Machine) (z : Outcome) where
  abbrev left : Left
  left = left_of (given_to h lent) ms z

  abbrev counted : ℕ → Machine → Machine
  counted k m = on_state (counted_in lent.journal k) m

  left_held : machine_on (after_one_run left) (l ++ take (length z.after.L) left.log) ≡ counted (length ms) (shift l z.after)
  left_held = rw (take-append_seam z.after.L (drop (length z.after.L) lent.log))

  left_says : of_run left.reply (usage_of ms) (ticks_of ms) left.log left.journal ≡ saying h l lent ms (shift_outcome l z)
  left_says =
      let k : length (l ++ z.after.L) - length l ≡ length z.after.L = rw (length-append l z.after.L) (omega arith) in
      rw (drop-append_seam l z.after.L, k)

  -- the same, of the machine with l in its L
  module _ (y : Outcome) (e : y ≡ shift_outcome l z) (ns : List Machine) (t : ns ≡ map (shift l) ms) where
    held_alike : counted (length ms) (shift l z.after) ≡ counted (length ns) y.after
    held_alike = rw (e, t, length-map ms (shift l))

    says_alike : saying h l lent ms (shift_outcome l z) ≡ saying h l lent ns y
    says_alike = rw (e, t, usage_shift l ms, ticks_shift l ms, kept_shift l lent.journal h.state.journaled ms)

run_together :
    (h : Host) (l : List ℕ) (lent : Lent) (v : Verdict)
    → (let r = told (counted_by by_rules v (given_to h lent)) in
    (machine_on (after_one_run (counted_by by_rules v (given_to h lent)).left) (l ++ wrote r) ≡ run_by v (machine_on h l) lent)
    × (r ≡ said_by v (machine_on h l) lent))
run_together h l lent (refused k) = (rw append-nil, refl)
run_together h l lent accepted =
    let z = outcome (machine_on h []) lent in
    let ms = taken (machine_on h []) lent in
    let s = shifted h l lent in (
      left_held h l lent ms z ∙ held_alike h l lent ms z _ s.outcomes _ s.traces,
      left_says h l lent ms z ∙ says_alike h l lent ms z _ s.outcomes _ s.traces,
    )

-- ---- A setting

set_together :
    (h : Host) (l : List ℕ) (port value : ℕ) (b : Bool)
    → (let x : SetLeft = pick b (record { reply = accepted; I = set h.I port value }) (record { reply = refused 1; I = h.I }) in
    (machine_on (after_set h x) (l ++ []) ≡ pick b (put_i port value (machine_on h l)) (machine_on h l))
    × (of_set x.reply ≡ of_set (pick b accepted (refused 1))))
set_together h l port value true = (rw append-nil, refl)
set_together h l port value false = (rw append-nil, refl)

-- ---- A raising

raise_together :
    (h : Host) (l : List ℕ) (line : ℕ) (b : Bool)
    → (let s = h.state in
    let x : RaiseLeft = pick b (record { reply = accepted; state = put_pending (with_line line s.pending) s }) (record { reply = refused 16; state = s }) in
    (machine_on (after_raise h x) (l ++ []) ≡ pick b (raised line (machine_on h l)) (machine_on h l))
    × (of_raise x.reply ≡ of_raise (pick b accepted (refused 16))))
raise_together h l line true = (rw append-nil, refl)
raise_together h l line false = (rw append-nil, refl)

-- ---- Lists

does_together : {h h' : Host} {c : Call} {r : Reply} → CallMeets h c r h' → (l : List ℕ) → Together h l c r h'
unfolding machine_call machine_says counted_left set_left raise_left
does_together (a_run h e lent x promise) l =
    subst (λ (y : CountedLeft). Together h l (runs e lent) (told y) (after_one_run y.left)) (sym (both e (given_to h lent) x promise))
    (let t = run_together h l lent (verdict_on (given_to h lent)) in record { held = t.0; says = t.1 })
does_together (a_setting h port value x promise) l =
    subst (λ (y : SetLeft). Together h l (sets port value) (of_set y.reply) (after_set h y)) (sym promise)
    (let t = set_together h l port value (eqb (length h.I) 256) in record { held = t.0; says = t.1 })
does_together (a_raise h line x promise) l =
    subst (λ (y : RaiseLeft). Together h l (raises line) (of_raise y.reply) (after_raise h y)) (sym promise)
    (let t = raise_together h l line (ltb line 8) in record { held = t.0; says = t.1 })

-- from a machine whose L already holds l
pub calls_together :
    {h h' : Host} {cs : List Call} {rs : List Reply} → Calls h cs rs h' → (l : List ℕ)
    → (machine_on h' (l ++ joined rs) ≡ machine_calls (machine_on h l) cs) × (rs ≡ machine_replies (machine_on h l) cs)
unfolding joined machine_calls machine_replies
calls_together none l = (rw append-nil, refl)
calls_together (more {r = r} {rs = rs} d ds) l =
    let t = does_together d l in
    let u = calls_together ds (l ++ wrote r) in
    (rw (← append_assoc l (wrote r) (joined rs), ← t.held) u.0, rw (← t.says, ← t.held) (ap (λ x. r ∷ x) u.1))
