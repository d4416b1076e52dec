-- Runs, settings and raisings keep the lengths, and an even PC and an even return address even: where these are right, only refusal 6 is left
-- for runs, and 16 for raisings.
-- Assumes nothing.
use mathlib.Core.Path.{◌≡◌, refl, sym, ap, subst, ◌∙◌}
use mathlib.Core.Bool.{Bool, true, false}
use mathlib.Core.List.{List, []}
use Prim.Native.Nat.{ℕ, ◌+◌}
use lib.Dec.{leb, ltb}
use lib.ListN.{length, set, length-set}
use Rattle.refusal.specs.Refusals.{Verdict, accepted, refused}
use Rattle.word.specs.Word.{pick}
use Rattle.machine.specs.declared.State.{State}
use Rattle.machine.specs.Machine.{Machine, with_line, put_pending}
use Rattle.machine.specs.Step.{to}
use Rattle.machine.specs.Run.{by_rules}
use Rattle.machine.proofs.Runs.{Even}
use Rattle.panel.specs.Calls.{SetLeft, set_left, RaiseLeft, raise_left}
use Rattle.control.proofs.Laws.{lawful_rules, local_rules}
use Rattle.run.specs.Runs.{Journal, no_journal, lent_journal, start_in, counted_in, verdict, verdict_on, allowed, machine_at, CountedLeft, counted_by, counted_left}
use Rattle.claims.specs.Session.{Call, Reply, of_raise, Host, Lent, given_to, after_one_run, after_set, after_raise, CallMeets, a_run, a_setting, a_raise, Calls, none, more, machine_on, Only6, All, nil, cons}
use Rattle.claims.proofs.Shift.{run_keeps}
use Rattle.claims.proofs.Together.{both, told}

abbrev lengths : Machine → ℕ × ℕ × ℕ × ℕ
lengths m = (length m.P, length m.D, length m.I, length m.O)

-- what a run's first two tests ask
abbrev pub Fit : Machine → Type 0
Fit m = (lengths m ≡ (65536, 65536, 256, 256)) × Even m.state

step_fits : (m next : Machine) → by_rules.steps m ≡ to next → Fit m → Fit next
step_fits m next s f = (ap (λ k. (length k.0, k.1, k.2, k.3)) (local_rules.keeps m next s) ∙ f.0, lawful_rules.even m next s f.1)

-- counting steps leaves PC and the return address
start_even : (x : Journal) (s : State) → Even s → Even (start_in x s)
start_even no_journal s e = e
start_even (lent_journal xs) s e = e

counted_even : (x : Journal) (k : ℕ) (s : State) → Even s → Even (counted_in x k s)
counted_even no_journal k s e = e
counted_even (lent_journal xs) k s e = e

module _ (h : Host) (f : Fit (machine_on h [])) where
  -- ---- A run

  run_fits : (lent : Lent) (v : Verdict) → Fit (machine_on (after_one_run (counted_by by_rules v (given_to h lent)).left) [])
  run_fits lent accepted =
      let g = given_to h lent in
      let z = run_keeps Fit step_fits (allowed g) (0 + length lent.log) (machine_at g) (f.0, start_even lent.journal h.state f.1) in
      (z.0, counted_even lent.journal _ _ z.1)
  run_fits lent (refused k) = f

  pub only : (lent : Lent) → verdict_on (given_to h lent) ≡ pick (leb (h.state.n + lent.budget) 4294967295) accepted (refused 6)
  unfolding verdict
  only lent =
      let p : length h.P ≡ 65536 = ap (λ x. x.0) f.0 in
      let d : length h.D ≡ 65536 = ap (λ x. x.1) f.0 in
      let i : length h.I ≡ 256 = ap (λ x. x.2) f.0 in
      let o : length h.O ≡ 256 = ap (λ x. x.3) f.0 in
      rw (p, d, i, o, f.1.0, f.1.1)

  run_only : (lent : Lent) (t : Bool) → Only6 (told (counted_by by_rules (pick t accepted (refused 6)) (given_to h lent)))
  run_only lent true = tt
  run_only lent false = refl

  run_both : (lent : Lent) → (let x = counted_left by_rules (given_to h lent) in Only6 (told x) × Fit (machine_on (after_one_run x.left) []))
  unfolding counted_left
  run_both lent =
      subst (λ v. let x = counted_by by_rules v (given_to h lent) in Only6 (told x) × Fit (machine_on (after_one_run x.left) [])) (sym (only lent))
      (let t = leb (h.state.n + lent.budget) 4294967295 in (run_only lent t, run_fits lent (pick t accepted (refused 6))))

  -- ---- A setting

  setting_done : (port value : ℕ) → set_left (record { I = h.I; port = port; value = value }) ≡ record { reply = accepted; I = set h.I port value }
  unfolding set_left
  setting_done port value = let i : length h.I ≡ 256 = ap (λ x. x.2) f.0 in rw i

  -- ---- A raising

  raise_both : (line : ℕ) → (let x = raise_left h.state line in Only6 (of_raise x.reply) × Fit (machine_on (after_raise h x) []))
  unfolding raise_left
  raise_both line = by_test (ltb line 8)
    where
      by_test : (t : Bool)
          → (let s = h.state in
          let x : RaiseLeft = pick t (record { reply = accepted; state = put_pending (with_line line s.pending) s }) (record { reply = refused 16; state = s }) in
          Only6 (of_raise x.reply) × Fit (machine_on (after_raise h x) []))
      by_test true = (tt, f)
      by_test false = (refl, f)

-- ---- Lists

does_fits : {h h' : Host} {c : Call} {r : Reply} → CallMeets h c r h' → Fit (machine_on h []) → Only6 r × Fit (machine_on h' [])
does_fits (a_run h e lent x promise) f =
    subst (λ (y : CountedLeft). Only6 (told y) × Fit (machine_on (after_one_run y.left) [])) (sym (both e (given_to h lent) x promise)) (run_both h f lent)
does_fits (a_setting h port value x promise) f =
    subst (λ (y : SetLeft). (y.reply ≡ accepted) × Fit (machine_on (after_set h y) [])) (sym (promise ∙ setting_done h f port value))
    (refl, (simp length-set f.0, f.1))
does_fits (a_raise h line x promise) f =
    subst (λ (y : RaiseLeft). Only6 (of_raise y.reply) × Fit (machine_on (after_raise h y) [])) (sym promise) (raise_both h f line)

pub calls_fit : {h h' : Host} {cs : List Call} {rs : List Reply} → Calls h cs rs h' → Fit (machine_on h []) → All Only6 rs
calls_fit none f = nil
calls_fit (more d ds) f = let t = does_fits d f in cons t.0 (calls_fit ds t.1)
