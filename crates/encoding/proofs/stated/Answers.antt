-- By whether there is a statement.
use Rattle.std.proofs.Common.{rules, refl}
use Rattle.encoding.specs.Words.{words_in, stated}
use Rattle.encoding.proofs.stated.Goals as goal

pub returns-in-Some : goal.returns-in-Some
unfolding words_in
returns-in-Some c = rw c.in-Some.is (record { comes_to = search rules; places = refl })

pub returns-in-None : goal.returns-in-None
unfolding stated words_in
returns-in-None c = rw c.in-None.is (record { comes_to = refl; places = refl })
