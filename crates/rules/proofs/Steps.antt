-- What is held after the step of a word: at no port, IN, and OUT.
-- Assumes nothing.
use mathlib.Core.Path.{◌≡◌, refl, sym, ap, ap₂, ◌∙◌}
use mathlib.Core.Bool.{true, false, ◌&&◌}
use mathlib.Core.List.{List}
use Prim.Native.Nat.{ℕ, ◌+◌, ◌*◌, ◌%◌, ◌≤◌, ◌<◌}
use native.Mathlib.Omega.{arith}
use borrow.Author.Tests.{le-leb, lt-leb}
use lib.ListN.{length, get_or, set, length-set}
use Rattle.word.specs.Fields.{N8}
use Rattle.machine.specs.declared.State.{State}
use Rattle.std.specs.Prelude.{Result}
use Rattle.std.specs.declared.result.Result.TheVariants.{Ok, Err}
use Rattle.machine.specs.declared.Stop.{Stop}
use Rattle.machine.specs.declared.Stop.TheVariants.{FullLog}
use Rattle.machine.specs.Machine.{put_r, read_from}
use Rattle.machine.specs.Step.{d11_9, rule, choice, Next, cannot, to, step_by, input, output}
use Rattle.machine.specs.Run.{is_out, unless}
use Rattle.machine.specs.Held.{Held, held, machine_of, is_full, outcome_of}
use Rattle.machine.proofs.Answers.{Leaves, answered}
use Rattle.machine.proofs.Log.{put_take, put_drop}
use Rattle.rules.specs.Parts.{advanced_of, RuleMeets, ra_of}
use Rattle.rules.proofs.Values.{N8-is}

not_full : (x : Next) → unless false x ≡ x
not_full (cannot q) = refl
not_full (to next) = refl

module _ (w : ℕ) (h : Held) (filled : h.entries ≤ length h.log) {r : Result State Stop} where
  pub by_rule_done : {D' : List ℕ} → is_out w ≡ false → RuleMeets w h.state h.D r D' → Leaves (step_by (choice w) w) (is_out w) h r D' h.I h.O h.log h.entries
  by_rule_done {D'} not-out meets =
      record {
        machine =
            λ P.
            ap (λ t. outcome_of (machine_of P h) (unless (t && is_full h) (step_by (choice w) w (machine_of P h)))) not-out
            ∙ ap (outcome_of (machine_of P h)) (not_full (step_by (choice w) w (machine_of P h)))
            ∙ meets.machine (machine_of P h) refl refl;
        rest = refl;
        filled = filled;
      }

  pub out_full : length h.log ≤ h.entries → r ≡ Err FullLog → Leaves (step_by (rule output) w) true h r h.D h.I h.O h.log h.entries
  out_full full er =
      answered r _ er
      record {
        machine = λ P. ap (λ t. outcome_of (machine_of P h) (unless t (step_by (rule output) w (machine_of P h)))) (le-leb _ _ full);
        rest = refl;
        filled = filled;
      }

  module _ {next : State} (advanced : next ≡ advanced_of h.state) where
    pub in_done : {t : State} {I' : List ℕ} → (t ≡ put_r (d11_9 w) (get_or h.I (N8 w) 0) next) × (I' ≡ read_from (N8 w) h.I) → r ≡ Ok t
        → Leaves (step_by (rule input) w) false h r h.D I' h.O h.log h.entries
    unfolding input
    in_done e er =
        answered r _ er
        record {
          machine =
              λ P.
              ap₂ (λ u J. record { reason = 0; after = machine_of P (held u h.D J h.O h.log h.entries) })
              (sym (e.0 ∙ ap (put_r (d11_9 w) (get_or h.I (N8 w) 0)) advanced)) (sym e.1);
          rest = refl;
          filled = filled;
        }

    pub out_done : {x entry : ℕ} {O' : List ℕ}
        → h.entries < length h.log
        → x ≡ ra_of w h.state
        → O' ≡ set h.O (w % 256) x
        → entry ≡ h.state.n * 16777216 + w % 256 * 65536 + x
        → r ≡ Ok next
        → Leaves (step_by (rule output) w) true h r h.D h.I O' (set h.log h.entries entry) (h.entries + 1)
    unfolding output
    out_done {x} {entry} free ex eO ee er =
        answered r _ er
        record {
          machine =
              λ P.
              ap (λ t. outcome_of (machine_of P h) (unless t (step_by (rule output) w (machine_of P h)))) (lt-leb _ _ free)
              ∙ cc (put_take h.entries entry h.log free, N8-is w);
          rest = put_drop h.entries entry h.log free;
          filled = simp length-set (omega arith);
        }
