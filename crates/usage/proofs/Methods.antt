-- What the methods of `Usage` make of a usage, list by list.
-- Assumes nothing.
use mathlib.Core.Path.{◌≡◌, ◌∙◌, ap}
use mathlib.Core.Bool.{Bool}
use mathlib.Core.List.{List}
use Prim.Native.Nat.{ℕ, ◌+◌, ◌<◌}
use lib.Dec.{eqb}
use lib.ListN.{length, get_or}
use Rattle.usage.specs.declared.Usage.{Usage}
use Rattle.usage.specs.Counting.{usage_with, nowhere, raised, raised_by, Room}
use Rattle.usage.proofs.Words.{none}

-- at the place of a kind
pub at_kind : (n : ℕ) (xs : List ℕ) {k j : ℕ} {ys : List ℕ} → ys ≡ raised n (eqb k) xs → k ≡ j → ys ≡ raised n (eqb j) xs
at_kind n xs e p = e ∙ ap (λ k. raised n (eqb k) xs) p

-- a register written after others were read
module _ (n : ℕ) (kind reads : ℕ → Bool) (u : Usage) {v : Usage} (e : v ≡ raised_by n kind reads nowhere u) where
  unwritten : v.writes ≡ u.writes
  unwritten = ap (λ (x : Usage). x.writes) e ∙ none n u.writes

  pub write_room : (d : ℕ) → d < length u.writes → Room n u → (d < length v.writes) × (get_or v.writes d 0 + n < 18446744073709551616)
  write_room d l r = rw unwritten (l, r.writes d)

  pub written : (d : ℕ) {ys : List ℕ} → ys ≡ raised n (eqb d) v.writes
      → ◌≡◌ {A = Usage} (usage_with v.taken v.kinds v.reads ys) (raised_by n kind reads (eqb d) u)
  written d p = λ i. usage_with (e i).taken (e i).kinds (e i).reads ((p ∙ ap (λ xs. raised n (eqb d) xs) unwritten) i)
