-- The parts of a file as the code reads them.
use Rattle.std.specs.Prelude.{ℕ, ◌+◌, ◌*◌, ◌<◌, ◌≤◌, ◌≡◌, List, length}
use Rattle.image.specs.declared.Part.{Part}
use Rattle.image.specs.Image.{W, program_offset, C, data_offset}

abbrev pub program_part : List ℕ → Part
program_part file = record { offset = program_offset file; count = 2 * W file }

abbrev pub data_part : List ℕ → Part
data_part file = record { offset = data_offset file; count = C file }

-- `part` as the code read it; its end fits a usize
pub record ReadAs (part read : Part) : Type 0 where
  pub offset : read.offset ≡ part.offset
  pub count : read.count ≡ part.count
  pub end_fits : read.offset + read.count < 18446744073709551616

-- a part, whose bytes the file has, and which a memory has room for
pub record PartInside (file : List ℕ) (part : Part) : Type 0 where
  pub inside_file : part.offset + part.count ≤ length file
  pub inside_memory : part.count ≤ 65536

-- the file has a header, and both parts are inside it
pub record Placeable (file : List ℕ) : Type 0 where
  pub header : 16 ≤ length file
  pub program : PartInside file (program_part file)
  pub bytes : PartInside file (data_part file)
