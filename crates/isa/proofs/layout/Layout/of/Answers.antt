-- The code can rely on each kind's layout (`sound`).
use Rattle.isa.proofs.Lines.{sound}
use Rattle.isa.proofs.layout.Layout.of.Goals as goal

pub returns-clause-sound : goal.returns-clause-sound
returns-clause-sound c = rw (c.layout.ensures, c.of.ensures) (sound c.args.kind)
