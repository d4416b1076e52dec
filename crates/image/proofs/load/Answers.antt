-- By the verdict: `accept` leaves what an accepted load leaves (`left_by`), and a refused one changes nothing (`refused_left`).
use Rattle.image.proofs.Left.{left_by, refused_left}
use Rattle.image.proofs.load.Goals as goal

pub returns-in-Ok : goal.returns-in-Ok
returns-in-Ok c = left_by _ c.in-Ok.ensures c.accept.ensures

pub returns-in-Err : goal.returns-in-Err
returns-in-Err c = refused_left _ c.in-Err.ensures c.reset.ensures
