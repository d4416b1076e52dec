-- The test of refusal 1, which loads and runs share (01, "Refusal table").
use Rattle.std.specs.Prelude.{ℕ, Bool, ◌&&◌, List, eqb, length}

-- ---- Refusal 1: P or D not 65,536 bytes, or I or O not 256 words

abbrev pub lengths_fit : List ℕ → List ℕ → List ℕ → List ℕ → Bool
lengths_fit P D I O = eqb (length P) 65536 && eqb (length D) 65536 && eqb (length I) 256 && eqb (length O) 256
