-- What fits is written over zeros.
use mathlib.Core.Path.{refl}
use native.Mathlib.Omega.{arith}
use Rattle.std.proofs.Common.{rules}
use Rattle.printing.proofs.Padding.{padded, full, padded_after, wrote_after}
use Rattle.printing.proofs.Printed.with_word.Goals as goal

pub invariant_of-self : goal.invariant_of-self
invariant_of-self c =
    let word = c.copy_from_slice.ensures.after in
    let least = c.min-fits.ensures in
    let h = padded c.self.invariant in
    let after = padded_after _ h (search rules) (omega (arith, least, h.short)) (omega arith) (full _ _ word least) in
    (after.short, after.text, after.zeros)

pub returns : goal.returns
returns c =
    let word = c.copy_from_slice.ensures.after in
    let least = c.min-fits.ensures in
    let h = padded c.self.invariant in
    rw (← c.self.view_is)
    (wrote_after _ h (search rules) (omega (arith, least, h.short)) (omega arith) (full _ _ word least) refl word least)
