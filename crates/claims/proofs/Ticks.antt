-- A run's ticks are those of its trace, which has as many machines as the run reports steps; the two ends by runs of one step, which antt
-- computes.
-- Assumes nothing.
use mathlib.Core.Path.{◌≡◌, refl, sym, ap, subst, ◌∙◌}
use mathlib.Core.Bool.{Bool, true, false, not, ◌||◌, ◌&&◌}
use mathlib.Core.List.{List, [], ◌∷◌}
use Prim.Native.Nat.{ℕ, ◌*◌, ◌≤◌}
use native.Mathlib.Omega.{arith}
use lib.Dec.{T, eqb, eqb→eq}
use lib.ListN.{length, replicate}
use Rattle.refusal.specs.Refusals.{Verdict, accepted, refused}
use Rattle.word.specs.Fields.{opcode, e_of, f_of}
use Rattle.word.specs.Word.{pick, SE}
use Rattle.word.proofs.Computed.{both, both_split}
use Rattle.word.proofs.Tests.{clash}
use Rattle.kinds.specs.declared.Kind.TheVariants.{Ld, St, Ldb, Stb}
use Rattle.std.specs.Prelude.{Option}
use Rattle.std.specs.declared.option.Option.TheVariants.{Some}
use Rattle.kinds.specs.declared.Kind.{Kind}
use Rattle.isa.specs.Sheet.{kind_at}
use Rattle.machine.specs.Machine.{Machine, takes_line, reset}
use Rattle.machine.specs.Step.{addi, ld, choice, fetched, step}
use Rattle.machine.specs.Run.{by_rules, no_place_at, run_from, trace_from}
use Rattle.usage.specs.Usage.{is_kind, does, ticks_at, ticks_of}
use Rattle.control.proofs.Laws.{lawful_rules}
use Rattle.run.specs.Runs.{no_journal, Given, given, stopped, run_refused, verdict, verdict_on, trace_on, CountedLeft, counted_by, counted_left}
use Rattle.run.proofs.Ticks.{steps_traced}
use Rattle.claims_sheet.proofs.Rules.{unstopped}
use Rattle.claims.specs.Session.{Engine, stepper_of}
use Rattle.claims.specs.Ticks.{Row, Each, tick_rows, Timed, Takes, Ticks}
use Rattle.claims.proofs.Together.{both as by-either}

-- ---- Rows

-- the ticks of a word of this entry
abbrev ticks_in : Option Kind → ℕ
ticks_in e = pick (is_kind e 14 || is_kind e 15 || is_kind e 16 || is_kind e 17) 4 3

-- of what m does next, where t tells whether it takes a line
abbrev ticks_by : Bool → Machine → ℕ
ticks_by t m =
    let w = fetched m in
    let e = kind_at (opcode w) (e_of w) (f_of w) in
    pick ((not t && is_kind e 14) || (not t && is_kind e 15) || (not t && is_kind e 16) || (not t && is_kind e 17)) 4 3

fetching : (m : Machine) (t : Bool) → t ≡ false → ticks_by t m ≡ ticks_in (kind_at (opcode (fetched m)) (e_of (fetched m)) (f_of (fetched m)))
fetching m t e = ap (λ b. ticks_by b m) e

taking : (m : Machine) (t : Bool) → t ≡ true → ticks_by t m ≡ 3
taking m t e = ap (λ b. ticks_by b m) e

tests : List Row → Bool
tests [] = true
tests (x ∷ xs) = both (eqb (ticks_in (Some x.kind)) x.ticks) (tests xs)

each : (xs : List Row) → T (tests xs) → Each xs
unfolding tests
each [] t = tt
each (x ∷ xs) t =
    let (a, b) = both_split (eqb (ticks_in (Some x.kind)) x.ticks) (tests xs) t in
    (λ m f e. fetching m (takes_line m.state) (unstopped m.state f).0 ∙ ap ticks_in e ∙ eqb→eq _ _ a, each xs b)

tested : T (tests tick_rows)
unfolding tests
tested = tt

-- ---- A run

a_step : (m : Machine) → (3 ≤ ticks_at m) × (ticks_at m ≤ 4)
a_step m = go (does Ld m || does St m || does Ldb m || does Stb m)
  where
    go : (t : Bool) → (3 ≤ pick t 4 3) × (pick t 4 3 ≤ 4)
    go true = (omega arith, omega arith)
    go false = (omega arith, omega arith)

between : (ms : List Machine) → (3 * length ms ≤ ticks_of ms) × (ticks_of ms ≤ 4 * length ms)
unfolding ticks_of
between [] = (omega arith, omega arith)
between (m ∷ ms) =
    let (a, b) = a_step m in
    let (c, d) = between ms in
    (omega arith, omega arith)

by_verdict : (g : Given) (x : Verdict) (q s k : ℕ) → (counted_by by_rules x g).left.reply ≡ stopped q s k → Timed g s (counted_by by_rules x g)
by_verdict g accepted q s k e =
    let steps : length (trace_on by_rules g) ≡ s = sym (steps_traced by_rules lawful_rules g) ∙ cc in
    let (a, b) = between (trace_on by_rules g) in
    record { sum = refl; at_least = omega arith; at_most = omega arith }
by_verdict g (refused n) q s k e = clash (cc)

none_refused : (g : Given) (x : Verdict) (k : ℕ) → (counted_by by_rules x g).left.reply ≡ run_refused k → (counted_by by_rules x g).ticks ≡ 0
none_refused g accepted k e = clash (cc)
none_refused g (refused n) k e = refl

-- ---- The ends

-- a run of one step, of the word with this high byte and a low byte 0
abbrev one_step : ℕ → Given
one_step high = given reset (0 ∷ high ∷ replicate 65534 0) (replicate 65536 0) (replicate 256 0) (replicate 256 0) 1 [] no_journal

-- by either engine, where the rules do it
taken : (e : Engine) (g : Given) (times q s k : ℕ) → 1 ≤ s → (counted_left by_rules g).left.reply ≡ stopped q s k → (counted_left by_rules g).ticks ≡ times * s → Takes e times
taken e g times q s k some r t =
    let is = by-either e g (counted_left (stepper_of e) g) refl in
    record { of = g; reason = q; steps = s; entries = k; reported = ap (λ (l : CountedLeft). l.left.reply) is ∙ r; some = some; ticks = ap (λ (l : CountedLeft). l.ticks) is ∙ t }

-- ADDI R0, R0, 0
least : ((counted_left by_rules (one_step 0x20)).left.reply ≡ stopped 0 1 0) × ((counted_left by_rules (one_step 0x20)).ticks ≡ 3)
unfolding counted_left verdict run_from trace_from no_place_at step choice fetched addi SE ticks_of kind_at
least = (refl, refl)

-- LD R0, 0(R0)
most : ((counted_left by_rules (one_step 0x30)).left.reply ≡ stopped 0 1 0) × ((counted_left by_rules (one_step 0x30)).ticks ≡ 4)
unfolding counted_left verdict run_from trace_from no_place_at step choice fetched ld SE ticks_of kind_at
most = (refl, refl)

pub ticks : Ticks
unfolding counted_left
ticks =
    record {
      every_kind = refl;
      rows = each tick_rows tested;
      taking = λ m. taking m (takes_line m.state);
      of_accepted = λ e g l met q s k r.
          let is = by-either e g l met in
          subst (Timed g s) (sym is) (by_verdict g (verdict_on g) q s k (ap (λ (x : CountedLeft). x.left.reply) (sym is) ∙ r));
      least_taken = λ e. taken e (one_step 0x20) 3 0 1 0 (omega arith) least.0 least.1;
      most_taken = λ e. taken e (one_step 0x30) 4 0 1 0 (omega arith) most.0 most.1;
      of_refused = λ e g l met k r.
          let is = by-either e g l met in
          ap (λ (x : CountedLeft). x.ticks) is ∙ none_refused g (verdict_on g) k (ap (λ (x : CountedLeft). x.left.reply) (sym is) ∙ r);
    }
