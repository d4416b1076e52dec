-- What the verdict says of the file and of what is lent (`fits`) lets the memories be filled; the laws of `Left` join what is left.
use mathlib.Core.Path.{ap, ◌∙◌}
use Rattle.image.specs.Image.{with_range}
use Rattle.image.proofs.Fits.{fits}
use Rattle.image.proofs.Left.{ports_left, accepted_left_lem}
use Rattle.image.proofs.accept.Goals as goal

pub fill-requires : goal.fill-requires
fill-requires c = let f = fits _ c.requires in (f.file, f.program, f.memory, f.holds)

pub returns : goal.returns
returns c =
    let f = fits _ c.requires in
    accepted_left_lem _ _ _ (c.with_range.ensures ∙ ap (with_range c.args.range) c.reset_on.ensures) c.fill.ensures.0 c.fill.ensures.1
    (ports_left f.inputs (c.fill-2.ensures.after (λ y e. e)))
    (ports_left f.outputs (c.fill-3.ensures.after (λ y e. e)))
