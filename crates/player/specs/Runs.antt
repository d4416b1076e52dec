-- What a run is handed and lent, and what the host keeps (docs/CONFORMANCE.md, "the calls of case c").
use Rattle.std.specs.Prelude.{ℕ, ◌+◌, ◌*◌, ◌%◌, ◌||◌, [], ◌∷◌, ◌==◌, slice_index_or}
use Rattle.word.specs.Word.{pick, add}
use Rattle.numbers.specs.Numbers.{number_of}
use Rattle.machine.specs.declared.State.{State}
use Rattle.machine.specs.Machine.{put_pc, put_n, put_journaled}
use Rattle.player.specs.declared.runs.Request.{Request}
use Rattle.player.specs.declared.runs.Reply.{Reply}
use Rattle.player.specs.declared.runs.Change.{Change}
use Rattle.player.specs.declared.runs.Change.TheVariants.{NextPc, OtherN, ShortMemory, ShortOutputs, ShortJournal, NoJournal, NextReturn, Nothing}

-- number(c, q + k) of call i, with q = 5,000 + 16·i. On the page i and k are under 16.
abbrev pub of_call : ℕ → ℕ → ℕ → ℕ
of_call c i k = number_of c (5000 + 16 * (i % 16) + k % 16)

-- number(c, q + 3) mod 16 says what is changed in what a call is handed and lent: 0, PC; 1, n; 2, the memory; 3, the outputs; 4, the journal;
-- 5, whether there is one; 6, the address to return to; else nothing.
abbrev pub change_of : ℕ → Change
change_of number =
    slice_index_or (NextPc ∷ OtherN ∷ ShortMemory ∷ ShortOutputs ∷ ShortJournal ∷ NoJournal ∷ NextReturn ∷ []) (number % 16) Nothing

-- The state handed is the one kept, but by change 0 PC handed is (the kept one + 1) mod 65,536; by 1 n handed is the one that the program gives.
abbrev pub handed_of : Change → ℕ → State → State
handed_of NextPc n kept = put_pc (add kept.pc 1) kept
handed_of OtherN n kept = put_n n kept
handed_of change n kept = kept

-- By change 2 the memory lent is all but a byte; by 3 the outputs lent are all but a word.
abbrev pub bytes_lent : Change → ℕ
bytes_lent ShortMemory = 65535
bytes_lent change = 65536

abbrev pub ports_lent : Change → ℕ
ports_lent ShortOutputs = 255
ports_lent change = 256

-- What is handed and lent by a change. The budget, and how many places of the log are lent, the program says.
abbrev pub request_by : Change → State → ℕ → ℕ → ℕ → Request
request_by change kept n budget places =
    record {
      state = handed_of change n kept;
      budget = budget;
      bytes = bytes_lent change;
      ports = ports_lent change;
      places = places;
    }

-- The budget of a run is number(c, q + 1) mod 2,000.
abbrev pub request_of : ℕ → ℕ → State → ℕ → ℕ → Request
request_of c i kept n places = request_by (change_of (of_call c i 3)) kept n (of_call c i 1 % 2000) places

-- Where the call was accepted the host keeps that state, after a stop 1, 3 or 4 with PC moved on by 2 (modulo 65,536) and the count of journal
-- entries made 0 (a run without a journal leaves it 0); where it was refused it keeps the one it had.
abbrev pub kept_after : State → Reply → State
kept_after kept reply =
    let state = reply.state in
    let moved = put_journaled 0 (put_pc (add state.pc 2) state) in
    pick (reply.refusal == 0) (pick ((reply.stop == 1 || reply.stop == 3) || reply.stop == 4) moved state) kept
