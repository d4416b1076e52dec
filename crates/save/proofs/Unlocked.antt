-- Data memory with its locked bytes zero.
-- Assumes nothing.
use Prim.Native.Nat.{ℕ, zero, suc, ◌+◌, ◌<◌, ◌≤◌}
use mathlib.Core.Path.{◌≡◌, refl, sym, ap, ◌∙◌}
use mathlib.Core.Bool.{false}
use mathlib.Core.List.{List, [], ◌∷◌}
use native.Mathlib.Nat.{add-zero, zero-add, suc-add, add-suc}
use native.Mathlib.Numerals.{add-one}
use native.Mathlib.Omega.{arith}
use lib.ListN.{length, get_or, set}
use lib.Seq.{paste, paste-suc}
use Rattle.word.specs.Word.{pick}
use Rattle.word.proofs.Tests.{either}
use Rattle.machine.specs.declared.State.{State}
use Rattle.machine.specs.Machine.{is_locked}
use Rattle.save.specs.Saved.{unlocked_from, unlocked}

from_length : (s : State) (k : ℕ) (D : List ℕ) → length (unlocked_from s k D) ≡ length D
unfolding unlocked_from
from_length s k [] = refl
from_length s k (x ∷ xs) = ap suc (from_length s (suc k) xs)

pub unlocked_length : (s : State) (D : List ℕ) → length (unlocked s D) ≡ length D
unlocked_length s D = from_length s 0 D

from_at : (s : State) (k : ℕ) (D : List ℕ) (i : ℕ) → get_or (unlocked_from s k D) i 0 ≡ pick (is_locked (k + i) s) 0 (get_or D i 0)
unfolding unlocked_from
from_at s k [] i = sym (either (λ x. x ≡ 0) (is_locked (k + i) s) refl refl)
from_at s k (x ∷ xs) zero = rw (add-zero k)
from_at s k (x ∷ xs) (suc i) = from_at s (suc k) xs i ∙ rw (suc-add, add-suc)

-- byte by byte
pub unlocked_at : (s : State) (D : List ℕ) (i : ℕ) → get_or (unlocked s D) i 0 ≡ pick (is_locked i s) 0 (get_or D i 0)
unlocked_at s D i = from_at s 0 D i ∙ ap (λ k. pick (is_locked k s) 0 (get_or D i 0)) (zero-add i)

-- without a range it is the memory
none_locked : (s : State) (a : ℕ) → s.locked ≡ 0 → is_locked a s ≡ false
none_locked s a e = rw e

from_none : (s : State) (k : ℕ) (D : List ℕ) → s.locked ≡ 0 → unlocked_from s k D ≡ D
unfolding unlocked_from
from_none s k [] e = refl
from_none s k (x ∷ xs) e = (λ i. pick (none_locked s k e i) 0 x ∷ from_none s (suc k) xs e i)

pub unlocked_none : (s : State) (D : List ℕ) → s.locked ≡ 0 → unlocked s D ≡ D
unlocked_none s D e = from_none s 0 D e

-- ---- The loop that copies it: i of its bytes are in the target from `at` on

pub record Copied (target : List ℕ) (at : ℕ) (s : State) (D : List ℕ) (count : ℕ) (new : List ℕ) (i : ℕ) : Type 0 where
  pub within : i ≤ count
  pub is : new ≡ paste target at (unlocked s D) i

module _ {target : List ℕ} {at : ℕ} {s : State} {D : List ℕ} {count : ℕ} {new : List ℕ} {i : ℕ} (c : Copied target at s D count new i) (d : count ≤ length D) (t : at + count ≤ length target) where
  pub copy_turn : {v : ℕ} → i < count → v ≡ pick (is_locked i s) 0 (get_or D i 0) → Copied target at s D count (set new (at + i) v) (i + 1)
  copy_turn {v} h e =
      let value : v ≡ get_or (unlocked s D) i 0 = e ∙ sym (unlocked_at s D i) in
      record {
        within = omega arith;
        is = (λ j. set (c.is j) (at + i) (value j)) ∙ paste-suc target at (unlocked s D) i 0 (omega arith) (omega (arith, unlocked_length s D)) ∙ ap (paste target at (unlocked s D)) (sym (add-one i));
      }
