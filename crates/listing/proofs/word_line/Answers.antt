-- By k: word k of the program part, or what lies past the last.
use Rattle.std.proofs.Common.{◌≡◌, ℕ, List}
use Rattle.refusal.specs.Refusals.{accepted}
use Rattle.machine.specs.declared.Board.TheVariants.{TwoMemories}
use Rattle.image.specs.Image.{file_reply}
use Rattle.image.specs.Parts.{Placeable}
use Rattle.image.proofs.Fits.{file_fits}
use Rattle.listing.proofs.Lines.{no_word, word_inside, address_fits, word_there}
use Rattle.listing.proofs.word_line.Goals as goal

fits : (file : List ℕ) → accepted ≡ file_reply file TwoMemories → Placeable file
fits file e = (file_fits _ TwoMemories e).0

pub program_part-part-requires : goal.program_part-part-requires
program_part-part-requires c = (fits _ c.requires).header

pub returns-then-part-k : goal.returns-then-part-k
returns-then-part-k c = no_word _ c.program_part-part.ensures c.if-part-k.true

pub word_from-word-requires : goal.word_from-word-requires
word_from-word-requires c = word_inside _ c.program_part-part.ensures (fits _ c.requires) c.if-part-k.false

pub overflow_cast-k : goal.overflow_cast-k
overflow_cast-k c = record { fits = address_fits _ c.program_part-part.ensures (fits _ c.requires) c.if-part-k.false }

pub returns : goal.returns
returns c = word_there _ c.program_part-part.ensures (fits _ c.requires) c.if-part-k.false c.word_from-word.ensures c.line_of.ensures
