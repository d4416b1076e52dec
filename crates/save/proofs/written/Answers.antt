-- Test after test; `write` leaves what a saved file leaves (`written_left`).
use mathlib.Core.Logic.{inl, inr}
use Rattle.save.proofs.Files.{lengths}
use Rattle.save.proofs.Writing.{refused_left, short_left, written_left}
use Rattle.save.proofs.written.Goals as goal
use Rattle.save.proofs.written.Goals.{then-program-ne-MEMORY_BYTES-via-then-program-ne-MEMORY_BYTES as of_program, then-program-ne-MEMORY_BYTES-via-else-program-ne-MEMORY_BYTES+then-memory-ne-MEMORY_BYTES as of_memory}

pub returns-then-program-ne-MEMORY_BYTES : goal.returns-then-program-ne-MEMORY_BYTES
returns-then-program-ne-MEMORY_BYTES c =
    refused_left _ (lengths (elim c.then-program-ne-MEMORY_BYTES.branch [
      | of_program w ↦ inl w.if-program-ne-MEMORY_BYTES.true
      | of_memory w ↦ inr w.if-memory-ne-MEMORY_BYTES.true
    ]))

pub returns-then-destination-end : goal.returns-then-destination-end
returns-then-destination-end c = short_left _ c.if-program-ne-MEMORY_BYTES.false c.if-memory-ne-MEMORY_BYTES.false c.words_saved-words.ensures.0 c.bytes_saved-bytes.ensures.0 c.if-destination-end.true

pub returns : goal.returns
returns c = written_left _ c.if-program-ne-MEMORY_BYTES.false c.if-memory-ne-MEMORY_BYTES.false c.words_saved-words.ensures.0 c.bytes_saved-bytes.ensures.0 c.if-destination-end.false c.write.ensures
