-- The runs may be fed as they stand in the list; there no sum reaches 2^64, since each count is at most the steps.
-- Assumes nothing.
use mathlib.Core.Path.{◌≡◌, refl, sym, ◌∙◌, ap, subst}
use mathlib.Core.Bool.{Bool, true, false}
use mathlib.Core.List.{List, [], ◌∷◌}
use Prim.Native.Nat.{ℕ, suc, ◌+◌, ◌-◌, ◌*◌, ◌%◌, ◌^◌, ◌≤◌, ◌<◌}
use native.Mathlib.Nat.{zero-add}
use native.Mathlib.Omega.{arith}
use borrow.Author.Tests.{le-ltb}
use lib.ListN.{length, get_or}
use Rattle.refusal.specs.Refusals.{Verdict, accepted, refused}
use Rattle.word.specs.Word.{flag}
use Rattle.word.proofs.Tests.{never}
use Rattle.machine.specs.Run.{by_rules}
use Rattle.control.proofs.Agreement.{same_stepper}
use Rattle.usage.specs.declared.Usage.{Usage}
use Rattle.usage.specs.Usage.{unused, plus_counts, plus_usage}
use Rattle.usage.proofs.Sums.{unused_plus}
use Rattle.run.specs.Runs.{Given, verdict_on, allowed, machine_at, outcome_on, run_left_by, run_left, CountedLeft, counted_by, counted_left, CountedMeets}
use Rattle.sheet.specs.declared.Sheet.{Sheet}
use Rattle.sheet.specs.Sheet.{empty, sums, was_accepted, feed_left}
use Rattle.claims.specs.Session.{Engine, through_rules, through_table, stepper_of}
use Rattle.claims.specs.CReplies.{run_of, step_left}
use Rattle.claims.specs.Usage.{Run, step_run, Fed, Returned, none, more, more_step, Reordered, counts_by, one_by, counts_of, accepted_of, Feeds, steps_in, steps_of, sheet_of, Sheets}
use Rattle.claims.proofs.Counts.{at_total, Counts, counts_none, counts_plus, traced}
use Rattle.claims.proofs.Feeding.{next_by, turned, next, into, taken_of, feeds, fed_into, fed_few, any_into, any_taken, any_steps, first_last}
use Rattle.claims.proofs.CReplies.{host_step}
use Rattle.claims.proofs.Journaled.{start_is, allowed_few}
use Rattle.claims.proofs.Refusals.{refusals}

-- ---- A run, by its verdict

-- what a run returned, where x is its verdict
record Ran (x : Verdict) (g : Given) (l : CountedLeft) : Type 0 where
  usage : l.usage ≡ counts_by x g
  once : flag (was_accepted l.left.reply) ≡ one_by x
  refused_none : was_accepted l.left.reply ≡ false → l.usage ≡ unused
  counts : Counts l.usage (steps_in l.left.reply)
  few : steps_in l.left.reply ≤ one_by x * 4294967295

-- an accepted run's budget, and so its steps
fits : (g : Given) → accepted ≡ verdict_on g → g.state.n + g.budget ≤ 4294967295
unfolding run_left
fits g e =
    let few = ((refusals.run by_rules g).accepts.0 (_, _, _, ap (λ (x : Verdict). (run_left_by by_rules x g).reply) (sym e))).2 in
    omega (arith, few)

by_verdict : (g : Given) (x : Verdict) → x ≡ verdict_on g → Ran x g (counted_by by_rules x g)
by_verdict g accepted e =
    let z = outcome_on by_rules g in
    let t = traced (allowed g) (length (machine_at g).L + length g.log) (machine_at g) in
    let steps : t.steps ≡ z.after.state.n - g.state.n = omega (arith, t.grew, ap (λ s. s.n) (start_is g.journal g.state)) in
    record {
      usage = refl;
      once = refl;
      refused_none = λ f. never (sym f);
      counts = rw steps at t.counts;
      few = omega (arith, t.few, allowed_few g.journal g.state.journaled g.budget, fits g e, steps);
    }
by_verdict g (refused k) e = record { usage = refl; once = refl; refused_none = λ f. refl; counts = counts_none; few = omega arith }

engines : (e : Engine) (g : Given) → counted_left (stepper_of e) g ≡ counted_left by_rules g
engines through_rules g = refl
engines through_table g = ap (λ v. counted_left v g) same_stepper

ran : (r : Run) (l : CountedLeft) → CountedMeets (stepper_of r.engine) r.of l → Ran (verdict_on r.of) r.of l
unfolding counted_left
ran r l h = subst (Ran (verdict_on r.of) r.of) (sym (h ∙ engines r.engine r.of)) (by_verdict r.of (verdict_on r.of) refl)

-- ---- All of them

-- below 2^64 nothing wraps
sums_plus : (xs ys : List ℕ) → length xs ≡ length ys → ((j : ℕ) → get_or (plus_counts ys xs) j 0 < 2 ^ 64) → sums xs ys ≡ plus_counts ys xs
unfolding sums plus_counts
sums_plus [] [] e h = refl
sums_plus [] (y ∷ ys) e h = absurd (omega arith)
sums_plus (x ∷ xs) [] e h = absurd (omega arith)
sums_plus (x ∷ xs) (y ∷ ys) e h =
    let here : (x + y) % 2 ^ 64 ≡ y + x = omega (arith, h 0) in
    λ i. here i ∷ sums_plus xs ys (omega arith) (λ j. h (suc j)) i

-- counts of zero leave a sheet's counts as they are
none_joins : (v : Usage) (l n : ℕ) → Counts v l → sheet_of (plus_usage unused v) (0 + n) ≡ sheet_of v n
none_joins v l n b =
    let e = unused_plus (record { kinds = b.kinds; reads = b.reads.long; writes = b.writes.long }) in
    λ i. sheet_of (e i) (zero-add n i)

-- a run fed to a sheet of other counts, their sum below 2^64
joins : (t : Bool) (u v : Usage) (k l n : ℕ) → (t ≡ false → u ≡ unused) → Counts u k → Counts v l → k + l < 2 ^ 64
    → next_by t (sheet_of v n) u ≡ sheet_of (plus_usage u v) (flag t + n)
joins true u v k l n z a b h =
    let c = counts_plus u v k l a b in
    let runs : n + 1 ≡ 1 + n = omega arith in
    let taken : (v.taken + u.taken) % 2 ^ 64 ≡ u.taken + v.taken = omega (arith, c.sum) in
    λ i. record {
      kinds = sums_plus v.kinds u.kinds (b.kinds ∙ sym a.kinds) (λ j. omega (arith, at_total (plus_counts u.kinds v.kinds) j, c.sum)) i;
      taken = taken i;
      reads = sums_plus v.reads u.reads (b.reads.long ∙ sym a.reads.long) (λ j. omega (arith, c.reads.at j)) i;
      writes = sums_plus v.writes u.writes (b.writes.long ∙ sym a.writes.long) (λ j. omega (arith, c.writes.at j)) i;
      runs = runs i;
    }
joins false u v k l n z a b h = rw (z refl) (sym (none_joins v l n b))

record Summed (rs : List Run) (fs : List Fed) : Type 0 where
  taken : taken_of fs ≡ accepted_of rs
  counts : Counts (counts_of rs) (steps_of fs)
  few : steps_of fs ≤ accepted_of rs * 4294967295
  sheet : accepted_of rs ≤ 65535 → into empty fs ≡ sheet_of (counts_of rs) (accepted_of rs)

one_more : (r : Run) (l : CountedLeft) (rs : List Run) (fs : List Fed) → Ran (verdict_on r.of) r.of l → Summed rs fs → Summed (r ∷ rs) (record { reply = l.left.reply; usage = l.usage } ∷ fs)
unfolding taken_of into counts_of accepted_of steps_of
one_more r l rs fs a s =
    let f : Fed = record { reply = l.left.reply; usage = l.usage } in
    let few : steps_in l.left.reply + steps_of fs ≤ (one_by (verdict_on r.of) + accepted_of rs) * 4294967295 = omega (arith, a.few, s.few) in
    record {
      taken = omega (arith, a.once, s.taken);
      counts = rw (← a.usage) (counts_plus l.usage (counts_of rs) _ _ a.counts s.counts);
      few = few;
      sheet =
          λ h. first_last f fs empty ∙ ap (λ (x : Sheet). next x f) (s.sheet (omega arith))
          ∙ rw (← a.usage, ← a.once) (joins (was_accepted l.left.reply) l.usage (counts_of rs) _ _ (accepted_of rs) a.refused_none a.counts s.counts (omega (arith, few)));
    }

summed : {rs : List Run} {fs : List Fed} → Returned rs fs → Summed rs fs
unfolding taken_of into counts_of accepted_of steps_of
summed none = record { taken = refl; counts = counts_none; few = omega arith; sheet = λ h. refl }
summed (more {rs} {fs} r l h p) = one_more r l rs fs (ran r l h) (summed p)
summed (more_step {rs} {fs} h after a e p) =
    let l = run_of (step_left a after) in
    one_more (step_run h) l rs fs (ran (step_run h) l (host_step h after a e).gives_back) (summed p)

-- the counts of a sheet that was fed
fed_counts : {rs : List Run} {fs order : List Fed} {s : Sheet} → Returned rs fs → Reordered fs order → Feeds empty order s
    → Counts (record { kinds = s.kinds; taken = s.taken; reads = s.reads; writes = s.writes }) (steps_of order)
fed_counts {rs} {s = s} p q f =
    let few : accepted_of rs ≤ 65535 = omega (arith, fed_few f (omega arith), any_taken q, (summed p).taken) in
    let is : sheet_of (counts_of rs) (accepted_of rs) ≡ s = sym ((summed p).sheet few) ∙ any_into q empty ∙ fed_into f in
    rw (← is, ← any_steps q) (summed p).counts

returned : (rs : List Run) → (fs : List Fed) × Returned rs fs
returned [] = ([], none)
returned (r ∷ rs) = (_, more r (counted_left (stepper_of r.engine) r.of) refl (returned rs).1)

pub sheets : Sheets
unfolding feed_left
sheets =
    record {
      returns_exist = returned;
      any_order = λ rs fs order p h q.
          subst (Feeds empty order) (sym (any_into q empty) ∙ (summed p).sheet h) (feeds order empty (omega (arith, any_taken q, (summed p).taken)));
      one_sheet = λ s a b fs p q. sym (fed_into p) ∙ fed_into q;
      kinds_sum = λ rs fs order s p q f. (fed_counts p q f).sum;
      reads_at_most = λ rs fs order s j p q f. (fed_counts p q f).reads.at j;
      writes_at_most = λ rs fs order s j p q f. (fed_counts p q f).writes.at j;
      few_steps = λ rs fs p. (summed p).few;
      refused_13 = λ s r u. (
        λ e. let t = turned (was_accepted r) s u 13 e in (t.was, t.full),
        λ h. rw (h.0, le-ltb s.runs 65535 h.1),
      );
      no_other = λ s r u k e. (turned (was_accepted r) s u k e).number;
      nothing_changes = λ s r u k e. (turned (was_accepted r) s u k e).back;
    }
