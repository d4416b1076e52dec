-- How the engines test an instruction's f. Nothing here is promised to a caller.
use Rattle.std.specs.Prelude.{ℕ, Bool, false, ◌==◌, nat_lt}
use Rattle.word.specs.Word.{pick}

-- f is below 6 and not the gap: the f that opcode 1 and unit 1 have (gap 2), and those of opcode 11 and unit 5 (gap 3)
abbrev pub below6_but : ℕ → ℕ → Bool
below6_but gap f = pick (f == gap) false (nat_lt f 6)
