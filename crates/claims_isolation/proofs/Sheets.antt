-- A sheet fed the same in two orders: it becomes the same, and where one order is taken whole, so is the other.
-- Assumes nothing.
use mathlib.Core.Path.{◌≡◌, sym, subst, ◌∙◌}
use mathlib.Core.List.{List}
use Prim.Native.Nat.{◌≤◌}
use native.Mathlib.Omega.{arith}
use Rattle.sheet.specs.declared.Sheet.{Sheet}
use Rattle.claims.specs.Usage.{Fed, Reordered, Feeds}
use Rattle.claims.proofs.Feeding.{into, feeds, fed_into, fed_few, any_into, any_taken}

pub same_sheets : (fs order₁ order₂ : List Fed) → Reordered fs order₁ → Reordered fs order₂ → (s after : Sheet) → s.runs ≤ 65535 → Feeds s order₁ after
    → Feeds s order₂ after × ((other : Sheet) → Feeds s order₂ other → other ≡ after)
same_sheets fs order₁ order₂ p q s after few f =
    let is : into s order₂ ≡ after = sym (any_into q s) ∙ any_into p s ∙ fed_into f in (
      subst (Feeds s order₂) is (feeds order₂ s (omega (arith, fed_few f few, any_taken p, any_taken q))),
      λ other g. sym (fed_into g) ∙ is,
    )
