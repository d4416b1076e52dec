-- k entries undone in turn, of a journal of any numbers, and how many of them are an output's.
-- Assumes nothing.
use mathlib.Core.Path.{◌≡◌, ap, ◌∙◌}
use mathlib.Core.Bool.{Bool, true, false}
use mathlib.Core.List.{List}
use Prim.Native.Nat.{ℕ, zero, suc, ◌+◌, ◌-◌, ◌<◌, ◌≤◌}
use native.Mathlib.Omega.{arith}
use lib.ListN.{get_or}
use Rattle.word.specs.Word.{flag}
use Rattle.machine.specs.Machine.{Machine}
use Rattle.journal.specs.Journal.{undo, is_output}
use Rattle.journal.specs.Ranges.{InRange}
use Rattle.journal.proofs.Undone.{undo_counts, undo_in_range}
use Rattle.back.specs.Backs.{undone, fallen}

-- one place less, then j places
less : (count j : ℕ) → count - 1 - j ≡ count - suc j
less count j = omega arith

pred : (k : ℕ) → k ≡ suc k - 1
pred k = omega arith

pub flag_most : (b : Bool) → flag b ≤ 1
flag_most true = omega arith
flag_most false = omega arith

module _ (journal : List ℕ) where
  -- one entry, then the others
  pub undone_first : (k count : ℕ) (m : Machine) → 0 < k → undone k count journal m ≡ undone (k - 1) (count - 1) journal (undo (get_or journal (count - 1) 0) m)
  unfolding undone
  undone_first zero count m h = absurd (omega arith)
  undone_first (suc k) count m h = ap (λ i. undone i (count - 1) journal (undo (get_or journal (count - 1) 0) m)) (pred k)

  pub fallen_first : (k count : ℕ) → 0 < k → fallen k count journal ≡ flag (is_output (get_or journal (count - 1) 0)) + fallen (k - 1) (count - 1) journal
  unfolding fallen
  fallen_first zero count h = absurd (omega arith)
  fallen_first (suc k) count h = ap (λ i. flag (is_output (get_or journal (count - 1) 0)) + fallen i (count - 1) journal) (pred k)

  -- n is less by k
  pub undone_counts : (k count : ℕ) (m : Machine) → (undone k count journal m).state.n ≡ m.state.n - k
  unfolding undone
  undone_counts zero count m = omega arith
  undone_counts (suc k) count m =
      undone_counts k (count - 1) _ ∙ ap (λ n. n - k) (undo_counts _ m) ∙ less m.state.n k

  pub undone_in_range : (k count : ℕ) (m : Machine) → InRange m → InRange (undone k count journal m)
  unfolding undone
  undone_in_range zero count m r = r
  undone_in_range (suc k) count m r = undone_in_range k (count - 1) _ (undo_in_range _ m r)
