-- What the arms of `entry` promise, by the opcode.
-- Assumes nothing.
use mathlib.Core.Path.{◌≡◌, refl, ap, ◌∙◌}
use mathlib.Core.List.{List}
use Prim.Native.Nat.{ℕ, ◌/◌, ◌<◌, ◌≤◌}
use native.Mathlib.Omega.{arith}
use lib.ListN.{get_or}
use Rattle.word.specs.Fields.{opcode}
use Rattle.word.proofs.Tables.{vacant}
use Rattle.machine.specs.declared.State.{State}
use Rattle.journal.specs.Journal.{nothing, overwritten_by, overwritten, coded, entry_with}
use Rattle.journal.specs.Parts.{machine_with, IsEntry}

-- what the last arm is told of the opcode
pub over_12 : (op : ℕ) → 8 ≤ op → (op ≡ 9 → ⊥) → (op ≡ 10 → ⊥) → (op ≡ 11 → ⊥) → (op ≡ 12 → ⊥) → (op ≡ 8 → ⊥) → 13 ≤ op
over_12 op l n9 n10 n11 n12 n8 = omega arith

module _ (w : ℕ) (s : State) (D I O : List ℕ) (small : w < 65536) {x : ℕ} where
  pub entry_at : (op : ℕ) → w / 4096 ≡ op → ((P L : List ℕ) → x ≡ entry_with s.pc (get_or (overwritten_by w (machine_with s D I O P L)) op nothing)) → IsEntry w s D I O x
  unfolding overwritten
  entry_at op has e =
      let i : op ≡ opcode w = omega arith in
      λ P L. e P L ∙ ap (λ k. entry_with s.pc (get_or (overwritten_by w (machine_with s D I O P L)) k nothing)) i

  -- nothing is overwritten where the opcode is 8 or there is none
  pub entry_of_none : ((w / 4096 ≡ 8 → ⊥) → 13 ≤ w / 4096) → x ≡ coded s.pc 0 0 0 0 → IsEntry w s D I O x
  unfolding overwritten
  entry_of_none h e =
      λ P L. e ∙ ap (entry_with s.pc) (vacant (overwritten_by w (machine_with s D I O P L)) 8 nothing (opcode w) refl (λ n. omega (arith, h (λ z. n (omega arith)))))
