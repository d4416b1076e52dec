-- A line over the calls: what a step, a walk of steps and steps taken back make of its bit, and so every call.
-- Assumes nothing.
use mathlib.Core.Path.{◌≡◌, refl, sym, ap, ◌∙◌}
use mathlib.Core.Bool.{Bool, true, false, not, ◌&&◌, ◌||◌}
use mathlib.Core.List.{List, [], ◌∷◌}
use Prim.Native.Nat.{ℕ, zero, suc, ◌<◌, ◌≤◌, max}
use native.Mathlib.Omega.{arith}
use lib.Bits.{bit_or, or_zero_l}
use lib.Dec.{eqb}
use lib.ListN.{take}
use Rattle.word.specs.Word.{pick, flag}
use Rattle.word.proofs.Tests.{clash}
use Rattle.machine.specs.declared.State.{State}
use Rattle.machine.specs.Machine.{Machine, bit_of, lowest_line, takes_line, is_enabled, line_taken_by, count, on_state}
use Rattle.machine.specs.Step.{to, taking, step}
use Rattle.journal.specs.Ranges.{InRange}
use Rattle.journal.proofs.Lines.{or_assoc}
use Rattle.journal.proofs.Undone.{taken_back}
use Rattle.control.proofs.Laws.{lawful_rules}
use Rattle.claims_back.specs.History.{History}
use Rattle.claims_back.specs.StepBack.{earlier, raised_after, raised_since}
use Rattle.claims_back.specs.Lines.{takes_it, some_takes}
use Rattle.claims_back.proofs.Lines.{bit_or_lem, lowest_taken}
use Rattle.claims_back.proofs.Pasts.{known, last}
use Rattle.claims_back.proofs.Returned.{raised_after_lem}
use Rattle.claims_back.proofs.Walks.{Walk, there, then}

-- a machine that takes a line
taking_step : (m : Machine) → takes_line m.state ≡ true → step m ≡ taking m
unfolding step
taking_step m e = rw e

-- ---- The bit of a line

module _ (line : ℕ) (eight : line < 8) where
  -- after steps that took it or not, from m to `after`
  pub record Bit (t : Bool) (m after : Machine) : Type 0 where
    pub after_is : bit_of line after.state.pending ≡ pick t 0 (bit_of line m.state.pending)
    pub before : flag t ≤ bit_of line m.state.pending

  -- a line is taken where one is pending
  some_line : (s : State) → takes_line s ≡ true → 0 < s.pending
  some_line s e = go s.pending (is_enabled s) e
    where
      go : (p : ℕ) (t : Bool) → (t && not (eqb p 0)) ≡ true → 0 < p
      go zero true e = clash (cc)
      go zero false e = clash (cc)
      go (suc p) t e = omega arith

  step_bit : (m next : Machine) → InRange m → step m ≡ to next → Bit (takes_it line m) m next
  step_bit m next r e = go (takes_line m.state) refl
    where
      go : (t : Bool) → takes_line m.state ≡ t → Bit (t && eqb (lowest_line m.state.pending) line) m next
      go true t =
          let z = lowest_taken line m.state.pending eight (some_line m.state t) r.pending in
          let led : on_state (λ s. count (line_taken_by s)) m ≡ next = let w = sym (taking_step m t) ∙ e in cc in
          record { after_is = ap (λ (x : Machine). bit_of line x.state.pending) (sym led) ∙ z.0; before = z.1 }
      go false t = record { after_is = ap (bit_of line) (lawful_rules.lines m next e t); before = omega arith }

  pub walk_bit : {m after : Machine} {ms : List Machine} → Walk m ms after → InRange m → Bit (some_takes line ms) m after
  unfolding some_takes
  walk_bit there r = record { after_is = refl; before = omega arith }
  walk_bit (then {m} {next} {after} {ms} e w) r =
      joined (takes_it line m) (some_takes line ms) (step_bit m next r e) (walk_bit w (taken_back m next r e).stays_in_range)
    where
      joined : (t u : Bool) → Bit t m next → Bit u next after → Bit (t || u) m after
      joined true true a b = let z = a.after_is in absurd (omega (arith, b.before, z))
      joined true false a b = record { after_is = b.after_is ∙ a.after_is; before = a.before }
      joined false true a b = record { after_is = b.after_is; before = omega (arith, b.before, a.after_is) }
      joined false false a b = record { after_is = b.after_is ∙ a.after_is; before = omega arith }

  -- ---- Steps taken back, with further lines

  highest : (x y : ℕ) → x ≡ 1 → y < 2 → max x y ≡ 1
  highest x y e l = omega arith

  pub back_bit : {xs : List ℕ} {m : Machine} (k : ℕ) (ms : List Machine) → History xs m ms → (lines : ℕ)
      → bit_of line (bit_or (earlier k m ms).state.pending (bit_or (raised_since k m ms) lines))
      ≡ pick (some_takes line (take k ms)) 1 (bit_of line (bit_or m.state.pending lines))
  unfolding earlier raised_since some_takes
  back_bit {m = m} zero ms z lines = ap (λ x. bit_of line (bit_or m.state.pending x)) (or_zero_l lines)
  back_bit {m = m} (suc k) [] z lines = ap (λ x. bit_of line (bit_or m.state.pending x)) (or_zero_l lines)
  back_bit {m = m} (suc k) (p ∷ ms) z lines =
      let l = last z in
      let since = raised_after (step p) m in
      let then = (earlier k p ms).state.pending in
      let r = (known l.before).sound.stays_in_range in
      ap (λ x. bit_of line (bit_or then x)) (or_assoc (raised_since k p ms) since lines)
      ∙ back_bit k ms l.before (bit_or since lines)
      ∙ by_taking_lem l.next (bit_or since lines) (takes_it line p) (some_takes line (take k ms)) (step_bit p l.next r l.stepped)
      ∙ ap (λ x. pick (takes_it line p || some_takes line (take k ms)) 1 (bit_of line x))
      (sym (or_assoc l.next.state.pending since lines) ∙ ap (λ x. bit_or x lines) (sym (raised_after_lem l)))
    where
      by_taking_lem : (next : Machine) (further : ℕ) (t u : Bool) → Bit t p next
          → pick u 1 (bit_of line (bit_or p.state.pending further)) ≡ pick (t || u) 1 (bit_of line (bit_or next.state.pending further))
      by_taking_lem next further true true b = refl
      by_taking_lem next further true false b =
          bit_or_lem line p.state.pending further ∙ highest _ _ (omega (arith, b.before)) (omega arith)
      by_taking_lem next further false true b = refl
      by_taking_lem next further false false b =
          bit_or_lem line p.state.pending further
          ∙ ap (λ x. max x (bit_of line further)) (sym b.after_is)
          ∙ sym (bit_or_lem line next.state.pending further)
