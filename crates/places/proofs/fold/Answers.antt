-- Place by place, a block at a time where nothing is counted.
use mathlib.Core.Path.{◌≡◌, refl, ap, subst}
use Prim.Native.Nat.{◌+◌, ◌*◌}
use native.Mathlib.Omega.{arith}
use Rattle.places.specs.Places.{with_taken}
use Rattle.places.proofs.Folding.{Folding, fold_starts, fold_skips, fold_counts, fold_ends}
use Rattle.places.proofs.fold.Goals as goal
use Rattle.places.proofs.fold.Goals.{then-not-is_empty+else-loop-place-test, else-not-is_empty}

pub loop-block-init : goal.loop-block-init
loop-block-init c = rw c.none-usage.ensures (fold_starts c.args.counts.now c.requires)

pub loop-place-preserved : goal.loop-place-preserved
loop-place-preserved c = fold_counts c.loop-place.invariant (omega (arith, c.type_inv.counts c.loop-place.place)) (omega arith) refl c.count_place.ensures

pub loop-block-preserved : goal.loop-block-preserved
loop-block-preserved c =
    let counts = c.args.counts.now in
    let next : c.loop-block.block * 64 + 64 ≡ (c.loop-block.block + 1) * 64 = omega arith in
    elim c.if-not-is_empty.branch [
      | then-not-is_empty+else-loop-place-test w ↦
          let end : w.loop-place.place ≡ (c.loop-block.block + 1) * 64 = omega arith in
          rw w.usage-is (subst (λ k. Folding counts k w.loop-place.usage) end w.loop-place.invariant)
      | else-not-is_empty w ↦
          rw w.usage-is (subst (λ k. Folding counts k c.loop-block.usage) next (fold_skips c.loop-block.invariant (omega arith) (c.is_empty.ensures w.if-not-is_empty.false)))
    ]

pub returns : goal.returns
returns c = ap (with_taken c.args.taken) (fold_ends c.loop-block.invariant (omega (arith, c.loop-block-test.false)))
