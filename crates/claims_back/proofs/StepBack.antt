-- Going back by Returned, and forward again by Rerun, stretch by stretch; and the key over the steps gone back.
-- Assumes nothing.
use mathlib.Core.Path.{◌≡◌, refl, sym, ap, subst, ◌∙◌}
use mathlib.Core.Bool.{true}
use mathlib.Core.Logic.{inl, inr}
use mathlib.Core.List.{List, [], ◌∷◌, ◌++◌}
use Prim.Native.Nat.{ℕ, suc, ◌+◌, ◌-◌, ◌≤◌}
use native.Mathlib.Omega.{arith}
use lib.Bits.{bit_or, or_zero_r}
use lib.ListN.{length, get_or, set, take, length-take, length-reverse}
use lib.Seq.{set-set}
use Rattle.refusal.specs.Refusals.{Verdict, accepted, refused}
use Rattle.word.specs.Word.{pick}
use Rattle.word.proofs.Tests.{either}
use Rattle.machine.specs.Machine.{Machine}
use Rattle.machine.specs.Run.{fetches_a}
use Rattle.journal.specs.Journal.{reads_key, key_back, keys_back}
use Rattle.run.specs.Runs.{Journal, stopped, CountedLeft}
use Rattle.back.specs.Backs.{BackLeft, gone_back, back_verdict, fallen, back_left_by, back_left}
use Rattle.back.proofs.Left.{accepted_left_lem}
use Rattle.claims.specs.Session.{Engine, Host, after_one_run, machine_on}
use Rattle.claims_back.specs.History.{held_as, Past, given_back, after_back}
use Rattle.claims_back.specs.StepBack.{earlier, outs, pending_back, gained, last_steps, WentBack, from_outside, RunsAgain, Again, Keeps, count_in, NoKeyRead, StepBack}
use Rattle.claims_back.proofs.Pasts.{known, earlier_history}
use Rattle.claims_back.proofs.Kept.{last_kept}
use Rattle.claims_back.proofs.Returned.{may_go, went, returned, fallen_is}
use Rattle.claims_back.proofs.Stretches.{held_with, gained_outs, as_led, at_end, last_chain}
use Rattle.claims_back.proofs.Again.{Led, run_again}
use Rattle.claims_back.proofs.Rerun.{outside_on, Lending, without, with, Reran, Holds, own, reran}

lending : {j : Journal} {xs : List ℕ} {p count : ℕ} → Keeps j xs → count ≡ p → Lending xs p count j
lending {xs} {p} {count} (inl e) c = subst (Lending xs p count) (sym e) without
lending {xs} {p} {count} (inr e) c = subst (Lending xs p count) (sym e) (with c)

module _ (h : Host) (xs : List ℕ) (ms : List Machine) (p : Past h xs ms) (k : ℕ) (l : BackLeft) (left : l ≡ back_left (given_back h xs k)) where
  -- ---- Going back

  gone : k ≤ length ms → l ≡ back_left_by accepted (given_back h xs k)
  gone few = left ∙ sym (accepted_left_lem (given_back h xs k) (may_go h xs ms p k few))

  says : k ≤ length ms → l.reply ≡ gone_back (outs (take k ms))
  says few =
      ap (λ (x : BackLeft). x.reply) (gone few)
      ∙ ap gone_back (ap (λ c. fallen k c xs) p.counted ∙ fallen_is k ms few p.history)

  restores : k ≤ length ms
      → let m = machine_on h [] in
      machine_on (after_back l) [] ≡ held_as (length ms - k) (pending_back k m ms) (keys_back (take k ms) h.I) [] (earlier k m ms)
  restores few = ap (λ (x : BackLeft). machine_on (after_back x) []) (gone few) ∙ returned h xs ms p k few

  stays : l.journal ≡ xs
  unfolding back_left
  stays = ap (λ (x : BackLeft). x.journal) left ∙ go (back_verdict (given_back h xs k))
    where
      go : (v : Verdict) → (back_left_by v (given_back h xs k)).journal ≡ xs
      go accepted = refl
      go (refused n) = refl

  went_back : WentBack h xs ms k l
  unfolding gained
  went_back =
      record {
        accepts = (λ r. went h xs ms p k l left r.0 r.1, λ few. (outs (take k ms), says few));
        restores = restores;
        says = says;
        gains = λ few. omega (arith, gained_outs k ms [] p.history);
        journal = stays;
      }

  -- ---- Forward again

  module _ (few : k ≤ length ms) where
    abbrev then : Machine
    then = earlier k (machine_on h []) ms

    many : length (last_steps k ms) ≡ k
    many = length-reverse (take k ms) ∙ length-take k ms ∙ omega arith

    -- a host that holds the machine of k steps earlier
    holds : (b : Host) → machine_on b [] ≡ held_with b.state.journaled (outside_on b) [] then → Holds b (machine_on h []) then (last_steps k ms) xs (length ms - k)
    holds b here =
        record {
          chain = last_chain k ms [] p.history at_end;
          here = here;
          few = p.few;
          kept = last_kept k ms [] p.history refl;
          places = omega (arith, (known p.history).places, many);
        }

    -- with its inputs and pending byte
    ran_forward : (b : Host) → machine_on b [] ≡ held_with (length ms - k) (from_outside then) [] (machine_on (after_back l) [])
        → (j : Journal) → Keeps j xs → (e : Engine) (log : List ℕ) (r : CountedLeft) → RunsAgain j b (last_steps k ms) e log r
        → Reran j b (machine_on h []) (last_steps k ms) (length ms - k) log r.left
    ran_forward b at j keeps e log r again =
        let here = at ∙ ap (held_with (length ms - k) (from_outside then) []) (restores few) in
        let start = (known (earlier_history k ms p.history)).sound in
        reran (holds b (own then here)) (ap from_outside here) log start e r (lending keeps (ap (λ x. x.state.journaled) here)) again

    ran_again : (last : Host) (j j' : Journal) → Keeps j xs → (es : List ℕ) → Again j (after_back l) (last_steps k ms) es j' last
        → Led j (after_back l) (machine_on h []) (last_steps k ms) es j' last
    ran_again last j j' keeps es again =
        let here = restores few in
        run_again again (holds (after_back l) (own then here)) (lending keeps (ap (λ x. x.state.journaled) here))

-- ---- The key

unread : (ms : List Machine) (I : List ℕ) → NoKeyRead ms → keys_back ms I ≡ I
unfolding keys_back
unread [] I h = refl
unread (m ∷ ms) I h =
    ap (λ t. keys_back ms (pick t (set I 0 (get_or m.I 0 0)) I)) (h 0 m ms refl) ∙ unread ms I (λ j. h (suc j))

-- what a later read gave input 0 is overwritten
earliest : (later before : List Machine) (m : Machine) (I : List ℕ) → fetches_a reads_key m ≡ true → NoKeyRead before
    → keys_back (later ++ m ∷ before) I ≡ set I 0 (get_or m.I 0 0)
unfolding keys_back
earliest [] before m I e h = unread before (key_back m I) h ∙ ap (λ t. pick t (set I 0 (get_or m.I 0 0)) I) e
earliest (q ∷ later) before m I e h =
    let v = get_or m.I 0 0 in
    earliest later before m (key_back q I) e h
    ∙ either (λ J. set J 0 v ≡ set I 0 v) (fetches_a reads_key q) (set-set I 0 (get_or q.I 0 0) v) refl

-- ---- THE CLAIM

pub step_back : StepBack
step_back =
    record {
      goes_back = went_back;
      forward = λ h b xs ms p k l left few at j keeps e log r again.
          let z = ran_forward h xs ms p k l left few b at j keeps e log r again in
          let steps = many h xs ms p k l left few in
          let outside = ap from_outside z.machine in
          let all : length ms - k + length (last_steps k ms) ≡ length ms = omega (arith, steps) in (
            z.reply ∙ ap (λ n. stopped 0 n (length (gained (last_steps k ms)))) steps,
            z.entries,
            z.machine ∙ (λ x. held_with (count_in j (all x)) (sym outside x) [] (machine_on h [])),
            as_led (take k ms) (outside_on b) (after_one_run r.left) outside,
            z.journal,
          );
      again = λ h last xs ms p k l left few j j' keeps es again.
          let z = ran_again h xs ms p k l left few last j j' keeps es again in
          (z.entries, z.there, as_led (take k ms) (outside_on (after_back l)) last z.outside, z.journal);
      unraised = λ k m ms e. ap (bit_or (earlier k m ms).state.pending) e ∙ or_zero_r (earlier k m ms).state.pending;
      no_key_read = unread;
      earliest_key_read = earliest;
    }
