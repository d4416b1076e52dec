-- The loop that undoes entries: what it keeps at each turn, and what that comes to at its end.
-- Assumes nothing.
use mathlib.Core.Path.{◌≡◌, refl, sym, ap, ◌∙◌}
use mathlib.Core.Bool.{Bool, true, false}
use mathlib.Core.List.{List}
use Prim.Native.Nat.{ℕ, ◌+◌, ◌-◌, ◌<◌, ◌≤◌}
use native.Mathlib.Omega.{arith}
use mir.Val.{bool_byte}
use lib.ListN.{length, get_or}
use Rattle.word.specs.Word.{flag}
use Rattle.machine.specs.declared.State.{State}
use Rattle.machine.specs.Machine.{put_journaled, on_state}
use Rattle.journal.specs.Journal.{is_output}
use Rattle.journal.specs.Parts.{machine_with, IsUndone}
use Rattle.std.specs.declared.result.Result.TheVariants.{Ok}
use Rattle.back.specs.Backs.{undone, fallen}
use Rattle.back.specs.Parts.{CanGo, GoneBack}
use Rattle.back.proofs.Held.{held_counted, held_within}
use Rattle.back.proofs.Undone.{undone_first, fallen_first, flag_most}

-- From s, D, I and O, `left` of the k entries are to be undone, those below `at`; `gone` of those undone are an output's.
pub record Undoing (s₀ : State) (D₀ I₀ O₀ journal : List ℕ) (k : ℕ) (s : State) (D I O : List ℕ) (at left gone : ℕ) : Type 0 where
  pub places : at + k ≡ s₀.journaled + left
  pub enough : left ≤ at
  pub within : 0 < left → at ≤ length journal
  pub memory : length D ≡ 65536
  pub inputs : length I ≡ 256
  pub outputs : length O ≡ 256
  pub few : gone + left ≤ k
  pub machine : (P L : List ℕ) → undone left at journal (machine_with s D I O P L) ≡ undone k s₀.journaled journal (machine_with s₀ D₀ I₀ O₀ P L)
  pub outs : gone + fallen left at journal ≡ fallen k s₀.journaled journal

pub start : {s : State} {D I O journal : List ℕ} {k : ℕ} → CanGo s D I O journal k → Undoing s D I O journal k s D I O s.journaled k 0
start {s} {journal = journal} h =
    record {
      places = refl;
      enough = held_counted s journal h.held;
      within = held_within s journal h.held;
      memory = h.memory;
      inputs = h.inputs;
      outputs = h.outputs;
      few = omega arith;
      machine = λ P L. refl;
      outs = omega arith;
    }

-- the last of these is undone
pub turn : {s₀ s s' : State} {D₀ I₀ O₀ D I O D' I' O' journal : List ℕ} {k at left gone gone' : ℕ}
    → Undoing s₀ D₀ I₀ O₀ journal k s D I O at left gone
    → 0 < left
    → length D' ≡ length D
    → length I' ≡ length I
    → length O' ≡ length O
    → IsUndone (get_or journal (at - 1) 0) s D I O s' D' I' O'
    → gone' ≡ gone + flag (is_output (get_or journal (at - 1) 0))
    → Undoing s₀ D₀ I₀ O₀ journal k s' D' I' O' (at - 1) (left - 1) gone'
turn {journal = journal} {at = at} {left = left} v h d i o e g =
    let b = flag_most (is_output (get_or journal (at - 1) 0)) in
    record {
      places = omega (arith, h, v.places, v.enough);
      enough = omega (arith, h, v.enough);
      within = λ more. omega (arith, v.within h);
      memory = d ∙ v.memory;
      inputs = i ∙ v.inputs;
      outputs = o ∙ v.outputs;
      few = omega (arith, h, v.few, g, b);
      machine =
          λ P L. sym (undone_first journal left at _ h ∙ ap (undone (left - 1) (at - 1) journal) (e P L)) ∙ v.machine P L;
      outs = omega (arith, v.outs, g, fallen_first journal left at h);
    }

-- The count of an output's entries fits its 64 bits, and grows by one at such an entry.
pub room : {s₀ s : State} {D₀ I₀ O₀ D I O journal : List ℕ} {k at left gone : ℕ}
    → Undoing s₀ D₀ I₀ O₀ journal k s D I O at left gone → 0 < left → k < 18446744073709551616 → (b : Bool) → gone + bool_byte b < 18446744073709551616
room v h f true = omega (arith, v.few)
room v h f false = omega (arith, v.few)

pub counted : (gone : ℕ) {b o : Bool} → b ≡ o → gone + bool_byte b ≡ gone + flag o
counted gone {b} e = ap (λ x. gone + x) (go b) ∙ ap (λ x. gone + flag x) e
  where
    go : (b : Bool) → bool_byte b ≡ flag b
    go true = refl
    go false = refl

-- none is left
pub ends : {s₀ s : State} {D₀ I₀ O₀ D I O journal : List ℕ} {k at left gone : ℕ} {s' : State}
    → Undoing s₀ D₀ I₀ O₀ journal k s D I O at left gone
    → left ≡ 0
    → s' ≡ put_journaled (s₀.journaled - k) s
    → GoneBack s₀ D₀ I₀ O₀ journal k (record { state = s'; reply = Ok gone }) D I O
unfolding undone fallen
ends {s₀} {s} {D = D} {I = I} {O = O} {journal = journal} {k = k} {at = at} {gone = gone} v e q =
    let z : gone + 0 ≡ fallen k s₀.journaled journal = ap (λ l. gone + fallen l at journal) (sym e) ∙ v.outs in
    record {
      reply = ap Ok (omega (arith, z));
      machine =
          λ P L. ap (on_state (put_journaled (s₀.journaled - k))) (sym (v.machine P L) ∙ ap (λ l. undone l at journal (machine_with s D I O P L)) e)
          ∙ ap (λ t. machine_with t D I O P L) (sym q);
    }
