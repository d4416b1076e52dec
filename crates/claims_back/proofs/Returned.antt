-- Going back over a history: the steps its journal holds are its own, and its entries undone lead to the machine so many steps earlier.
-- Assumes nothing.
use mathlib.Core.Path.{◌≡◌, refl, sym, ap, subst, ◌∙◌}
use mathlib.Core.List.{List, [], ◌∷◌}
use Prim.Native.Nat.{ℕ, zero, suc, ◌+◌, ◌-◌, ◌<◌, ◌≤◌}
use native.Mathlib.Omega.{arith}
use lib.Bits.{bit_or, bit_xor, or_zero_l, or_zero_r, or_lt, xor_lt}
use lib.ListN.{length, get_or, take}
use Rattle.refusal.specs.Refusals.{Verdict, accepted, refused}
use Rattle.word.specs.Word.{flag}
use Rattle.word.proofs.Tests.{clash}
use Rattle.machine.specs.Machine.{Machine, put_journaled, on_state}
use Rattle.machine.specs.Step.{step}
use Rattle.journal.specs.Journal.{undo, is_output, key_back, keys_back, but_for, with_lines, entry_of}
use Rattle.journal.specs.Ranges.{InRange}
use Rattle.journal.proofs.Lines.{or_assoc}
use Rattle.journal.proofs.Undone.{taken_back}
use Rattle.back.specs.Backs.{gone_back, BackLeft, steps_held, back_verdict, undone, fallen, back_left_by, back_left}
use Rattle.back.proofs.Held.{holds_all}
use Rattle.back.proofs.Left.{accepts, passes}
use Rattle.claims.specs.Session.{Host, machine_on}
use Rattle.claims_back.specs.History.{held_as, History, Past, given_back, after_back}
use Rattle.claims_back.specs.StepBack.{earlier, outs, raised_after, raised_since, pending_back}
use Rattle.claims_back.proofs.Lines.{or_xor}
use Rattle.claims_back.proofs.Unlooked.{undo_counted}
use Rattle.claims_back.proofs.Pasts.{lengths_fit_lem, Last, known, last}

one_less : (n : ℕ) → suc n - 1 ≡ n
one_less n = omega arith

-- ---- The entries undone

-- what is pending is what the last step led to, with the lines raised after it
pub raised_after_lem : {xs : List ℕ} {m p : Machine} {ms : List Machine} (l : Last xs m p ms)
    → m.state.pending ≡ bit_or l.next.state.pending (raised_after (step p) m)
raised_after_lem {m} {p} l =
    let q = l.next.state.pending in
    l.raised
    ∙ sym (or_xor q l.lines)
    ∙ ap (λ x. bit_or q (bit_xor x q)) (sym l.raised)
    ∙ ap (λ x. bit_or q (raised_after x m)) (sym l.stepped)

pub since_below : {xs : List ℕ} {m : Machine} (k : ℕ) (ms : List Machine) → History xs m ms → raised_since k m ms < 256
unfolding raised_since
since_below zero ms z = omega arith
since_below (suc k) [] z = omega arith
since_below {m = m} (suc k) (p ∷ ms) z =
    let l = last z in
    let r = (known z).sound.stays_in_range.pending in
    let led = (taken_back p l.next (known l.before).sound.stays_in_range l.stepped).stays_in_range.pending in
    let since : raised_after (step p) m < 256 = subst (λ x. raised_after x m < 256) (sym l.stepped) (xor_lt 8 m.state.pending l.next.state.pending r led) in
    or_lt 8 (raised_since k p ms) (raised_after (step p) m) (since_below k ms l.before) since

-- the last step's, with these further lines
undo_last : {xs : List ℕ} {m p : Machine} {ms : List Machine} → InRange p → Last xs m p ms → (c lines : ℕ) (I L : List ℕ)
    → undo (get_or xs (length ms) 0) (held_as c (bit_or m.state.pending lines) I L m)
    ≡ held_as c (bit_or p.state.pending (bit_or (raised_after (step p) m) lines)) (key_back p I) L p
undo_last {m} {p} r l c lines I L =
    let since = raised_after (step p) m in
    let q = l.next.state.pending in
    let all : bit_or m.state.pending lines ≡ bit_or q (bit_or since lines) = ap (λ x. bit_or x lines) (raised_after_lem l) ∙ or_assoc q since lines in
    (λ i. undo (l.entry i) (held_as c (all i) I L (l.led i)))
    ∙ undo_counted (entry_of p) c (but_for I L (with_lines (bit_or since lines) l.next))
    ∙ ap (on_state (put_journaled c)) ((taken_back p l.next r l.stepped).undone I L (bit_or since lines))

-- those of k steps
undone_with : {xs : List ℕ} {m : Machine} (k : ℕ) (ms : List Machine) → k ≤ length ms → History xs m ms → (c lines : ℕ) (I L : List ℕ)
    → undone k (length ms) xs (held_as c (bit_or m.state.pending lines) I L m)
    ≡ held_as c (bit_or (earlier k m ms).state.pending (bit_or (raised_since k m ms) lines)) (keys_back (take k ms) I) L (earlier k m ms)
unfolding undone earlier raised_since keys_back
undone_with {m = m} zero ms h z c lines I L = ap (λ x. held_as c (bit_or m.state.pending x) I L m) (sym (or_zero_l lines))
undone_with (suc k) [] h z c lines I L = absurd (omega arith)
undone_with {xs} {m} (suc k) (p ∷ ms) h z c lines I L =
    let l = last z in
    let since = raised_after (step p) m in
    let then = earlier k p ms in
    ap (λ i. undone k i xs (undo (get_or xs i 0) (held_as c (bit_or m.state.pending lines) I L m))) (one_less (length ms))
    ∙ ap (undone k (length ms) xs) (undo_last (known l.before).sound.stays_in_range l c lines I L)
    ∙ undone_with k ms (omega arith) l.before c (bit_or since lines) (key_back p I) L
    ∙ ap (λ x. held_as c (bit_or then.state.pending x) (keys_back (take k ms) (key_back p I)) L then) (sym (or_assoc (raised_since k p ms) since lines))

pub undone_is : {xs : List ℕ} {m : Machine} (k : ℕ) (ms : List Machine) → k ≤ length ms → History xs m ms
    → undone k (length ms) xs m ≡ held_as m.state.journaled (pending_back k m ms) (keys_back (take k ms) m.I) m.L (earlier k m ms)
undone_is {xs} {m} k ms h z =
    let c = m.state.journaled in
    let then = earlier k m ms in
    ap (λ p. undone k (length ms) xs (held_as c p m.I m.L m)) (sym (or_zero_r m.state.pending))
    ∙ undone_with k ms h z c 0 m.I m.L
    ∙ ap (λ x. held_as c (bit_or then.state.pending x) (keys_back (take k ms) m.I) m.L then) (or_zero_r (raised_since k m ms))

-- those of them that are an output's are of OUTs
pub fallen_is : {xs : List ℕ} {m : Machine} (k : ℕ) (ms : List Machine) → k ≤ length ms → History xs m ms → fallen k (length ms) xs ≡ outs (take k ms)
unfolding fallen outs
fallen_is {m = m} zero ms h z = refl
fallen_is {m = m} (suc k) [] h z = absurd (omega arith)
fallen_is {xs = xs} {m = m} (suc k) (p ∷ ms) h z =
    let l = last z in
    let here = ap is_output l.entry ∙ (taken_back p l.next (known l.before).sound.stays_in_range l.stepped).output in
    ap (λ i. flag (is_output (get_or xs i 0)) + fallen k i xs) (one_less (length ms))
    ∙ (λ i. flag (here i) + fallen_is {m = p} k ms (omega arith) l.before i)

-- ---- The call

module _ (h : Host) (xs : List ℕ) (ms : List Machine) (p : Past h xs ms) (k : ℕ) where
  steps_held_lem : steps_held h.state xs ≡ length ms
  steps_held_lem =
      let z = known p.history in
      holds_all h.state xs (omega (arith, p.counted, z.places)) ∙ omega (arith, p.counted, z.done)

  pub may_go : k ≤ length ms → accepted ≡ back_verdict (given_back h xs k)
  may_go e =
      let s = (known p.history).sound in
      accepts _ (record { lengths = lengths_fit_lem s; even = s.even; held = rw steps_held_lem e })

  pub went : (l : BackLeft) → l ≡ back_left (given_back h xs k) → (e : ℕ) → l.reply ≡ gone_back e → k ≤ length ms
  unfolding back_left
  went l eq e r = by_verdict (back_verdict (given_back h xs k)) refl (ap (λ x. x.reply) (sym eq) ∙ r)
    where
      by_verdict : (v : Verdict) → v ≡ back_verdict (given_back h xs k) → (back_left_by v (given_back h xs k)).reply ≡ gone_back e → k ≤ length ms
      by_verdict accepted v r = rw steps_held_lem at (passes _ v).held
      by_verdict (refused n) v r = clash (cc)

  pub returned : k ≤ length ms
      → let m = machine_on h [] in
      machine_on (after_back (back_left_by accepted (given_back h xs k))) []
      ≡ held_as (length ms - k) (pending_back k m ms) (keys_back (take k ms) h.I) [] (earlier k m ms)
  returned e =
      ap (λ c. after c (undone k c xs (machine_on h []))) p.counted ∙ ap (after (length ms)) (undone_is k ms e p.history)
    where
      after : ℕ → Machine → Machine
      after c m = held_as (c - k) m.state.pending m.I [] m
