-- Header, program and data are put one after the other (`written`).
use Rattle.save.specs.Saved.{unlocked}
use Rattle.save.proofs.Unlocked.{unlocked_length}
use Rattle.save.proofs.Writing.{written}
use Rattle.save.proofs.write.Goals as goal

pub returns : goal.returns
returns c =
    let a = c.args in
    written a.program.now (unlocked a.state a.memory.now) a.destination.now a.words a.bytes
    c.header.ensures c.requires.1 (rw (unlocked_length a.state a.memory.now) c.requires.2)
    c.put_at.ensures c.put_at-2.ensures c.put_data.ensures
