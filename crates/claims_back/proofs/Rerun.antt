-- A run again over steps of a history, with as many steps as they are and room for their log entries: what it replies and leaves, with
-- the journal that has their entries or with none.
-- Assumes nothing.
use mathlib.Core.Path.{◌≡◌, refl, sym, ap, subst, ◌∙◌}
use mathlib.Core.List.{List, [], ◌++◌, map}
use Prim.Native.Nat.{ℕ, ◌+◌, ◌-◌, ◌≤◌}
use native.Mathlib.Omega.{arith}
use borrow.Author.Tests.{le-leb}
use lib.ListN.{length, drop, length-map}
use Rattle.refusal.specs.Refusals.{accepted}
use Rattle.machine.specs.Machine.{Machine, put_journaled, on_state}
use Rattle.machine.specs.Run.{by_rules, run_from, trace_from}
use Rattle.machine.proofs.Runs.{even_places_lem}
use Rattle.journal.specs.Journal.{entry_of, but_for}
use Rattle.run.specs.Runs.{Journal, no_journal, lent_journal, Given, Left, stopped, verdict, verdict_on, allowed, machine_at, counted_in, placed, kept_in, outcome_on, trace_on, left_of, accepted_left, CountedLeft, counted_by, counted_left}
use Rattle.claims.specs.Session.{Engine, Lent, Host, given_to, after_one_run, machine_on}
use Rattle.claims_back.specs.History.{held_as}
use Rattle.claims_back.specs.StepBack.{gained, from_outside, Unset, RunsAgain, count_in}
use Rattle.claims.proofs.Together.{both}
use Rattle.claims_back.proofs.Pasts.{Sound, lengths_fit_lem, held_sound}
use Rattle.claims_back.proofs.Walks.{walk_runs}
use Rattle.claims_back.proofs.Kept.{Kept, placed_kept}
use Rattle.claims_back.proofs.Stretches.{Outside, outside_after, held_with, Chain, chain_n, Starts, chain_starts, repeated}

-- ---- It is accepted

pub run_accepted : (b : Host) (lent : Lent) → Sound (machine_on b []) → b.state.n + lent.budget ≤ 4294967295 → verdict_on (given_to b lent) ≡ accepted
unfolding verdict
run_accepted b lent s h = rw (lengths_fit_lem s, even_places_lem b.state s.even, le-leb _ _ h)

-- ---- It takes these steps

-- from m with the count c, to mid
record Retaken (g : Given) (c : ℕ) (x : Outside) (mid : Machine) (ms : List Machine) : Type 0 where
  outcome : outcome_on by_rules g ≡ record { reason = 0; after = held_with c (outside_after x ms) (gained ms) mid }
  entries : map entry_of (trace_on by_rules g) ≡ map entry_of ms

retaken : {mid m : Machine} {ms : List Machine} (g : Given) (c : ℕ) (x : Outside) → Chain mid m ms → Unset ms → Starts x ms
    → machine_at g ≡ held_with c x [] m → allowed g ≡ length ms → length (gained ms) ≤ length g.log → Retaken g c x mid ms
retaken {ms} g c x chain unset starts at steps room =
    let r = repeated chain unset c x [] starts in
    let full = 0 + length g.log in
    let many : allowed g ≡ length r.ts =
    steps ∙ sym (length-map ms entry_of) ∙ ap length (sym r.entries) ∙ length-map r.ts entry_of in
    let w = walk_runs full r.walk (omega arith) in
    record {
      outcome = (λ i. run_from by_rules (many i) full (at i)) ∙ w.0;
      entries = ap (map entry_of) ((λ i. trace_from by_rules (many i) full (at i)) ∙ w.1) ∙ r.entries;
    }

-- ---- What it replies and leaves

-- the inputs and the pending byte that a host holds
abbrev pub outside_on : Host → Outside
outside_on b = from_outside (machine_on b [])

-- without a journal, or with xs, where the count is p
pub data Lending (xs : List ℕ) (p count : ℕ) : Journal → Type 0 where
  without : Lending xs p count no_journal
  with : count ≡ p → Lending xs p count (lent_journal xs)

pub record Reran (j : Journal) (b : Host) (mid : Machine) (ms : List Machine) (p : ℕ) (log : List ℕ) (l : Left) : Type 0 where
  pub reply : l.reply ≡ stopped 0 (length ms) (length (gained ms))
  pub entries : l.log ≡ gained ms ++ drop (length (gained ms)) log
  pub machine : machine_on (after_one_run l) [] ≡ held_with (count_in j (p + length ms)) (outside_after (outside_on b) ms) [] mid
  pub journal : l.journal ≡ j

-- b holds m, the first machine of steps that lead to mid, but for its inputs and pending byte; xs has their entries from place p on
pub record Holds (b : Host) (mid m : Machine) (ms : List Machine) (xs : List ℕ) (p : ℕ) : Type 0 where
  pub chain : Chain mid m ms
  pub here : machine_on b [] ≡ held_with b.state.journaled (outside_on b) [] m
  pub few : mid.state.n ≤ 4294967295
  pub kept : Kept xs p ms
  pub places : p + length ms ≤ length xs

-- with its own count, inputs and pending byte
pub own : {b : Host} (m : Machine) {c p : ℕ} {I : List ℕ} → machine_on b [] ≡ held_as c p I [] m → machine_on b [] ≡ held_with b.state.journaled (outside_on b) [] m
own {b} m e = e ∙ (λ i. held_with (ap (λ x. x.state.journaled) (sym e) i) (ap from_outside (sym e) i) [] m)

module _ {b : Host} {mid m : Machine} {ms : List Machine} {xs : List ℕ} {p : ℕ} (r : Holds b mid m ms xs p) (i : outside_on b ≡ from_outside m) (log : List ℕ) where
  abbrev again : Journal → Given
  again j = given_to b (record { budget = length ms; log = log; journal = j })

  same_n : b.state.n ≡ m.state.n
  same_n = ap (λ x. x.state.n) r.here

  many : mid.state.n - b.state.n ≡ length ms
  many = omega (arith, same_n, chain_n r.chain)

  -- by the count and the journal that it leaves
  left_by : {j : Journal} {c : ℕ} → Retaken (again j) c (outside_on b) mid ms → (let t = trace_on by_rules (again j) in
      let s = (held_with c (outside_after (outside_on b) ms) [] mid).state in
      counted_in j (length t) s ≡ put_journaled (count_in j (p + length ms)) s
      → kept_in j b.state.journaled t ≡ j → Reran j b mid ms p log (accepted_left by_rules (again j)))
  left_by {j} z count kept =
      let g = again j in
      let t = trace_on by_rules g in
      record {
        reply = ap (λ x. (left_of g t x).reply) z.outcome ∙ ap (λ n. stopped 0 n (length (gained ms))) many;
        entries = ap (λ x. (left_of g t x).log) z.outcome;
        machine = ap (λ x. machine_on (after_one_run (left_of g t x)) []) z.outcome ∙ ap (λ s. on_state (λ x. s) (but_for (outside_after (outside_on b) ms).0 [] mid)) count;
        journal = kept;
      }

  left_again : {j : Journal} → Unset ms → length (gained ms) ≤ length log → Lending xs p b.state.journaled j → Reran j b mid ms p log (accepted_left by_rules (again j))
  left_again unset room without =
      left_by (retaken (again no_journal) 0 (outside_on b) r.chain unset (chain_starts i r.chain) (ap (held_with 0 (outside_on b) []) r.here) refl room) refl refl
  left_again unset room (with e) =
      let g = again (lent_journal xs) in
      let c = b.state.journaled in
      let z = retaken g c (outside_on b) r.chain unset (chain_starts i r.chain) r.here (omega (arith, e, r.places)) room in
      let t = trace_on by_rules g in
      let count : c + length t ≡ p + length ms =
      omega (arith, e, length-map t entry_of, length-map ms entry_of, ap length z.entries) in
      left_by z (ap (λ n. (held_with n (outside_after (outside_on b) ms) [] mid).state) count) (ap lent_journal ((λ i. placed (e i) (z.entries i) xs) ∙ placed_kept p ms xs r.kept))

  pub reran : {j : Journal} → Sound m → (e : Engine) (l : CountedLeft) → Lending xs p b.state.journaled j → RunsAgain j b ms e log l
      → Reran j b mid ms p log l.left
  unfolding counted_left
  reran {j} s e l lends again-run =
      let sound = subst Sound (sym r.here) (held_sound b.state.journaled [] (rw (ap (λ x. x.1) i) s.stays_in_range.pending) (rw (ap (λ x. x.0) i) s.stays_in_range.inputs) s) in
      let ok = run_accepted b (record { budget = length ms; log = log; journal = j }) sound (omega (arith, r.few, same_n, chain_n r.chain)) in
      let ran : l ≡ counted_by by_rules accepted (again j) = both e (again j) l again-run.meets ∙ ap (λ v. counted_by by_rules v (again j)) ok in
      subst (λ (x : CountedLeft). Reran j b mid ms p log x.left) (sym ran) (left_again again-run.unset again-run.room lends)
