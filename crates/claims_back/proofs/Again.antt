-- Steps of a history run again stretch by stretch, with the same sets in between.
-- Assumes nothing.
use mathlib.Core.Path.{◌≡◌, refl, sym, ap, subst, ◌∙◌}
use mathlib.Core.List.{List, [], ◌∷◌, ◌++◌}
use Prim.Native.Nat.{ℕ, ◌+◌}
use native.Mathlib.Omega.{arith}
use lib.ListN.{length, take, length-append}
use lib.Seq.{take_at}
use Rattle.machine.specs.Machine.{Machine}
use Rattle.journal.specs.Journal.{but_for}
use Rattle.run.specs.Runs.{Journal, stopped, CountedLeft}
use Rattle.claims.specs.Session.{Host, of_run, machine_on, wrote}
use Rattle.claims_back.specs.StepBack.{gained, from_outside, Again, done, sets, runs, count_in}
use Rattle.claims_back.proofs.Kept.{Kept, kept_parts}
use Rattle.claims_back.proofs.Stretches.{gained_append, outside_after, held_with, outside_append, chain_n, chain_first, chain_none, Parts, chain_parts}
use Rattle.claims_back.proofs.Rerun.{outside_on, Lending, without, with, Holds, own, reran}

-- what the runs leave, of steps that lead to z
pub record Led (j : Journal) (b : Host) (z : Machine) (ms : List Machine) (es : List ℕ) (j' : Journal) (last : Host) : Type 0 where
  pub entries : es ≡ gained ms
  pub there : machine_on last [] ≡ held_with last.state.journaled (outside_on last) [] z
  pub outside : outside_on last ≡ outside_after (outside_on b) ms
  pub journal : j' ≡ j

-- A set comes before a step.
set_holds : {b : Host} {z m : Machine} {ms : List Machine} {xs : List ℕ} {p : ℕ} (I : List ℕ) → Holds b z m ms xs p
    → Holds (record { state = b.state; P = b.P; D = b.D; I = I; O = b.O }) z m ms xs p
set_holds I f =
    record { chain = f.chain; here = ap (but_for I []) f.here; few = f.few; kept = f.kept; places = f.places }

-- ---- A stretch and the rest

module _ {b : Host} {z m : Machine} (ms rest : List Machine) {xs : List ℕ} {p : ℕ} (f : Holds b z m (ms ++ rest) xs p) where
  parts : Parts z m ms rest
  parts = chain_parts ms rest f.chain

  kept_both : Kept xs p ms × Kept xs (p + length ms) rest
  kept_both = kept_parts xs p ms rest f.kept

  stretch : Holds b parts.mid m ms xs p
  stretch =
      record {
        chain = parts.first;
        here = f.here;
        few = omega (arith, f.few, chain_n parts.second);
        kept = kept_both.0;
        places = omega (arith, f.places, length-append ms rest);
      }

  onward : {b' : Host} → machine_on b' [] ≡ held_with b'.state.journaled (outside_on b') [] parts.mid → Holds b' z parts.mid rest xs (p + length ms)
  onward here =
      record {
        chain = parts.second;
        here = here;
        few = f.few;
        kept = kept_both.1;
        places = omega (arith, f.places, length-append ms rest);
      }

lends_on : {j : Journal} {xs : List ℕ} {p c d : ℕ} (n : ℕ) → d ≡ count_in j (p + n) → Lending xs p c j → Lending xs (p + n) d j
lends_on n e without = without
lends_on n e (with x) = with e

-- what a run wrote
wrote_is : (l : CountedLeft) {q s : ℕ} (es tail : List ℕ) → l.left.reply ≡ stopped q s (length es) → l.left.log ≡ es ++ tail
    → wrote (of_run l.left.reply l.usage l.ticks l.left.log l.left.journal) ≡ es
wrote_is l es tail r e =
    ap (λ x. wrote (of_run x l.usage l.ticks l.left.log l.left.journal)) r ∙ ap (take (length es)) e ∙ take_at es tail (length es) refl

-- ---- All of them

pub run_again : {j j' : Journal} {b last : Host} {ms : List Machine} {es : List ℕ} → Again j b ms es j' last
    → {z m : Machine} {xs : List ℕ} {p : ℕ} → Holds b z m ms xs p → Lending xs p b.state.journaled j → Led j b z ms es j' last
unfolding gained outside_after
run_again (done {b = b}) f lends =
    record {
      entries = refl;
      there = f.here ∙ ap (held_with b.state.journaled (outside_on b) []) (chain_none f.chain);
      outside = refl;
      journal = refl;
    }
run_again (sets port value l e a) f lends =
    let r = run_again a (set_holds l.I f) lends in
    record { entries = r.entries; there = r.there; outside = r.outside; journal = r.journal }
run_again {j = j} {b = b} (runs {m = q} {ms = qs} {rest = rest} {es = es} e log l i again a) {xs = xs} {p = p} f lends =
    let ms = q ∷ qs in
    let (same, s) = chain_first f.chain in
    let r = reran (stretch ms rest f) (i ∙ ap from_outside (sym same)) log s e l lends again in
    let count = ap (λ (x : Machine). x.state.journaled) r.machine in
    let outside = ap from_outside r.machine in
    let lends' = subst (Lending xs (p + length ms) l.left.state.journaled) (sym r.journal) (lends_on (length ms) count lends) in
    let z = run_again a (onward ms rest f (own (parts ms rest f).mid r.machine)) lends' in
    record {
      entries = (λ k. wrote_is l (gained ms) _ r.reply r.entries k ++ z.entries k) ∙ sym (gained_append ms rest);
      there = z.there;
      outside = z.outside ∙ ap (λ x. outside_after x rest) outside ∙ sym (outside_append (outside_on b) ms rest);
      journal = z.journal ∙ r.journal;
    }
