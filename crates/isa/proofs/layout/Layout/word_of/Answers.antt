-- Bits of n that a word holds (`back`).
use mathlib.Core.Path.{sym, ◌∙◌}
use Rattle.isa.proofs.Numbers.{back}
use Rattle.isa.proofs.layout.Layout.word_of.Goals as goal

pub sum-requires : goal.sum-requires
sum-requires c =
    let small = (back c.args.self.size c.args.self.negatives _ _ c.requires.negatives_few (sym c.low_bits.ensures ∙ c.in-Some.is)).0 in
    c.requires.room _ _ _ _ c.if-self-a.false c.if-self-b.false c.if-self-d.false small
