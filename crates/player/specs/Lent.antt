-- What is lent (docs/CONFORMANCE.md).
use Rattle.std.specs.Prelude.{ℕ, ◌+◌, ◌-◌, ◌*◌, ◌%◌, Bool, List}
use Rattle.word.specs.Word.{flag}
use Rattle.player.specs.Lists.{places}
use Rattle.player.specs.declared.lent.Lent.{Lent}

-- at the start program byte i is i mod 251
abbrev pub first_program : List ℕ
first_program = places 65536 (λ i. i % 251)

-- input i is 7 · i
abbrev pub first_inputs : List ℕ
first_inputs = places 256 (λ i. 7 * i)

-- a log of 64 places, place i being 1,000 + i
abbrev pub first_log : List ℕ
first_log = places 64 (λ i. 1000 + i)

-- memory and outputs are zero
unfoldable pub first_lent : Lent
first_lent =
    record {
      program = first_program;
      memory = places 65536 (λ _. 0);
      inputs = first_inputs;
      outputs = places 256 (λ _. 0);
      log = first_log;
    }

-- all of a number of elements, or all but one where the test holds
abbrev pub all_but : Bool → ℕ → ℕ
all_but short count = count - flag short
