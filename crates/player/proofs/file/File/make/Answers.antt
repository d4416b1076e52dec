-- Each byte is what `byte` answers.
use Rattle.std.proofs.Common.{rules}
use Rattle.player.specs.File.{file_byte}
use Rattle.player.proofs.Places.{made}
use Rattle.player.proofs.file.File.make.Goals as goal

pub returns : goal.returns
returns c = made (file_byte c.args.self.sort c.args.self.case c.args.self.damage) (λ i r q k. search rules) c.from_fn.ensures.items
