-- A run from two hosts that differ only in locked bytes: it goes alike (Steps.antt), so all that is told of its trace and its end is the same.
-- And a run leaves the range as it is.
-- Assumes nothing.
use mathlib.Core.Path.{◌≡◌, refl, sym, ap, subst, ◌∙◌}
use mathlib.Core.Bool.{true, and-eq-true_iff}
use mathlib.Core.List.{List, []}
use Prim.Native.Nat.{ℕ, ◌+◌}
use borrow.Author.Tests.{eqb-true}
use lib.Dec.{eqb}
use lib.ListN.{length, get_or, length-map}
use Rattle.refusal.specs.Refusals.{Verdict, accepted, refused}
use Rattle.word.proofs.Tests.{clash, passed}
use Rattle.machine.specs.Machine.{is_locked, put_d}
use Rattle.machine.specs.Lengths.{lengths_fit}
use Rattle.machine.specs.Run.{by_rules, run_from}
use Rattle.control.proofs.Laws.{lawful_rules}
use Rattle.image.specs.declared.Range.{Range}
use Rattle.run.specs.Runs.{Given, given, left, verdict, verdict_on, allowed, machine_at, outcome_on, trace_on, CountedLeft, counted_by, counted_left}
use Rattle.claims.specs.Saved.{range_of}
use Rattle.claims.proofs.Alike.{alike, usage_alike, ticks_alike, kept_alike, steps_keep}
use Rattle.claims.proofs.Journaled.{start_is, counted_is}
use Rattle.claims_isolation.specs.Locked.{Differ}
use Rattle.claims_isolation.proofs.Over.{over, over_length, over_keeps, over_differs, differs_over, same_range}
use Rattle.claims_isolation.proofs.Steps.{with_over, Ranged, maps}

-- what is given with E in the place of its data memory; what is left, likewise
abbrev pub given_d : List ℕ → Given → Given
given_d E g = given g.state g.P E g.I g.O g.budget g.log g.journal

abbrev pub left_d : List ℕ → CountedLeft → CountedLeft
left_d E c =
    let l = c.left in
    record { left = left l.reply l.state l.P E l.I l.O l.log l.journal; usage = c.usage; ticks = c.ticks }

module _ (g : Given) (Z : List ℕ) where
  -- of the data memory the tests look at the length alone
  same_verdict : verdict_on (given_d (over g.state Z g.D) g) ≡ verdict_on g
  unfolding verdict
  same_verdict = rw (over_length g.state Z g.D)

  -- an accepted run is lent a whole memory
  long : verdict_on g ≡ accepted → length g.D ≡ 65536
  unfolding verdict
  long e =
      let lent = passed (lengths_fit g.P g.D g.I g.O) (λ x. clash (cc)) e in
      let to-outputs = (and-eq-true_iff _ (eqb (length g.O) 256)).0 lent.0 in
      let to-inputs = (and-eq-true_iff _ (eqb (length g.I) 256)).0 to-outputs.0 in
      eqb-true _ _ ((and-eq-true_iff (eqb (length g.P) 65536) _).0 to-inputs.0).1

  -- its start has the range
  starts : verdict_on g ≡ accepted → Ranged g.state Z (machine_at g)
  starts e = record { range = λ a. ap (is_locked a) (start_is g.journal g.state); long = long e }

  pub run_alike : let c = counted_left by_rules g in counted_left by_rules (given_d (over g.state Z g.D) g) ≡ left_d (over g.state Z c.left.D) c
  unfolding counted_left
  run_alike = ap (λ x. counted_by by_rules x (given_d (over g.state Z g.D) g)) same_verdict ∙ go (verdict_on g) refl
    where
      go : (x : Verdict) → verdict_on g ≡ x
          → let c = counted_by by_rules x g in counted_by by_rules x (given_d (over g.state Z g.D) g) ≡ left_d (over g.state Z c.left.D) c
      go accepted e =
          let f = with_over g.state Z in
          let ms = trace_on by_rules g in
          let t = alike (maps g.state Z) (allowed g) (0 + length g.log) (machine_at g) (starts e) in
          rw (
            t.ends,
            t.traces,
            length-map ms f,
            usage_alike f ms t.seen,
            ticks_alike f ms t.seen,
            kept_alike f g.journal g.state.journaled ms t.seen,
          )
      go (refused k) e = refl

-- ---- Locked bytes stay: a memory with its own locked bytes over it is itself

module _ (g : Given) (v : verdict_on g ≡ accepted) where
  abbrev last : List ℕ
  last = (outcome_on by_rules g).after.D

  last_long : length last ≡ 65536
  last_long =
      (steps_keep by_rules (Ranged g.state g.D) (maps g.state g.D).keeps (allowed g) (0 + length g.log) (machine_at g) (starts g g.D v)).long

  last_over : last ≡ over g.state g.D last
  last_over =
      let own = differs_over g.state g.D g.D (record { long = refl; same = λ k e. refl }) in
      ap (λ M. (run_from by_rules (allowed g) (0 + length g.log) (put_d M (machine_at g))).after.D) own
      ∙ ap (λ z. z.after.D) (alike (maps g.state g.D) (allowed g) (0 + length g.log) (machine_at g) (starts g g.D v)).ends

  stays : (k : ℕ) → is_locked k g.state ≡ true → get_or last k 0 ≡ get_or g.D k 0
  stays = over_keeps g.state g.D last (last_long ∙ sym (long g g.D v)) last_over

pub run_locked : (g : Given) (k : ℕ) → is_locked k g.state ≡ true → get_or (counted_left by_rules g).left.D k 0 ≡ get_or g.D k 0
unfolding counted_left
run_locked g k e = go (verdict_on g) refl
  where
    go : (x : Verdict) → verdict_on g ≡ x → get_or (counted_by by_rules x g).left.D k 0 ≡ get_or g.D k 0
    go accepted v = stays g v k e
    go (refused j) v = refl

-- ---- The range stays

abbrev pub range_in : ℕ × ℕ × ℕ × ℕ × ℕ → Range
range_in u = record { locked = u.2; first = u.3; last = u.4 }

pub run_range : (g : Given) → range_of (counted_left by_rules g).left.state ≡ range_of g.state
unfolding counted_left
run_range g = go (verdict_on g)
  where
    go : (x : Verdict) → range_of (counted_by by_rules x g).left.state ≡ range_of g.state
    go accepted =
        ap range_of (counted_is g.journal _ _)
        ∙ steps_keep by_rules (λ m. range_of m.state ≡ range_of g.state) (λ m next e h. ap range_in (lawful_rules.leaves m next e) ∙ h)
        (allowed g) (0 + length g.log) (machine_at g) (ap range_of (start_is g.journal g.state))
    go (refused k) = refl

-- ---- Two runs

-- what is left but for the data memory
abbrev pub bare : CountedLeft → CountedLeft
bare c = left_d [] c

-- what two runs left and told differs only in bytes of the data memory that are locked at the end
pub record LeftApart (c d : CountedLeft) : Type 0 where
  pub same : bare c ≡ bare d
  pub memory : Differ c.left.state c.left.D d.left.D

pub run_apart : (g : Given) (E : List ℕ) → Differ g.state g.D E → LeftApart (counted_left by_rules g) (counted_left by_rules (given_d E g))
run_apart g E d =
    let c = counted_left by_rules g in
    let F = over g.state E c.left.D in
    let z : counted_left by_rules (given_d E g) ≡ left_d F c = ap (λ M. counted_left by_rules (given_d M g)) (differs_over g.state g.D E d) ∙ run_alike g E in
    record {
      same = ap bare (sym z);
      memory = subst (λ (x : CountedLeft). Differ c.left.state c.left.D x.left.D) (sym z) (same_range (run_range g) (over_differs g.state E c.left.D));
    }
