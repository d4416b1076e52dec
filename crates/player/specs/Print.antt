-- What is printed (docs/CONFORMANCE.md). A text is the list of its bytes.
use Rattle.std.specs.Prelude.{ℕ, List, [], ◌∷◌, ◌++◌}
use Rattle.std.specs.List.{flat_map}
use Rattle.std.specs.Fmt.{decimal}
use Rattle.machine.specs.declared.State.{State}
use Rattle.player.specs.declared.runs.Reply.{Reply}

-- a space and a number, in decimal
abbrev pub field : ℕ → List ℕ
field n = 32 ∷ decimal n

abbrev pub fields : List ℕ → List ℕ
fields numbers = flat_map field numbers

-- the last field of a line
abbrev pub last_field : ℕ → List ℕ
last_field n = field n ++ 10 ∷ []

-- a line: its first word, and its fields
abbrev pub line : List ℕ → List ℕ → List ℕ
line word numbers = word ++ fields numbers ++ 10 ∷ []

-- the line of what a state has for interrupts:  lines c i ENABLED PENDING LINE RETURN
abbrev pub lines : ℕ → ℕ → State → List ℕ
lines c i state =
    (108 ∷ 105 ∷ 110 ∷ 101 ∷ 115 ∷ [])
    ++ fields (c ∷ i ∷ state.enabled ∷ state.pending ∷ state.line ∷ [])
    ++ last_field state.return_address

-- what follows the engine's name on the line of a run, but for its digests
abbrev pub reply_fields : ℕ → ℕ → Reply → List ℕ
reply_fields c i r = fields (c ∷ i ∷ r.refusal ∷ r.stop ∷ r.steps ∷ r.entries ∷ [])
