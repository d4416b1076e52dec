-- The printed run of 01, and a refusal.
use Rattle.std.specs.Prelude.{ℕ, ◌≡◌, List, [], ◌∷◌}
use Rattle.token.specs.Ascii.{ascii}
use Rattle.report.specs.Printed.{printed}

-- A file with W 4, offset 16, C 0, offset 24 and words 0x9AF6, 0x9B3A, 0xAB03, 0xF000 (low byte first).
abbrev pub example_file : List ℕ
example_file =
    4 ∷ 0 ∷ 0 ∷ 0 ∷ 16 ∷ 0 ∷ 0 ∷ 0 ∷ 0 ∷ 0 ∷ 0 ∷ 0 ∷ 24 ∷ 0 ∷ 0 ∷ 0 ∷ 0xF6 ∷ 0x9A ∷ 0x3A ∷ 0x9B ∷ 0x03 ∷ 0xAB ∷ 0x00 ∷ 0xF0 ∷ []

pub record Example : Type 0 where
  -- the four lines that it prints
  pub run : printed example_file ≡ ascii "run 1 3 1\nout 2 3 3AF6\npc 0006\nr 0000 0000 0000 0000 0000 3AF6 0000 0000\n"
  -- A refusal prints one line only, as `refused 2`: 2 is a file under 16 bytes.
  pub refusal : printed [] ≡ ascii "refused 2\n"
