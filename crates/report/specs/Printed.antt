-- What the program `panelrun` prints for a file (01, "Marked cases and the printed run"). A text is the list of its bytes.
use Rattle.std.specs.Prelude.{ℕ, ◌/◌, ◌%◌, List, ◌++◌, leb, length, take, replicate}
use Rattle.refusal.specs.Refusals.{Verdict, accepted, refused}
use Rattle.word.specs.Word.{pick}
use Rattle.token.specs.Ascii.{ascii}
use Rattle.machine.specs.declared.State.{State}
use Rattle.machine.specs.declared.Board.TheVariants.{TwoMemories}
use Rattle.image.specs.Image.{LoadLeft, load_left}
use Rattle.control.specs.Control.{by_the_table}
use Rattle.run.specs.Runs.{no_journal, given, RunReply, stopped, run_refused, Left, run_left}
use Rattle.printing.specs.Text.{decimal, hex4, each}

-- ---- Lines

-- `run`: stop, steps, entries.
unfoldable pub run_line : ℕ → ℕ → ℕ → List ℕ
run_line stop steps entries =
    ascii "run " ++ decimal stop ++ ascii " " ++ decimal steps ++ ascii " " ++ decimal entries ++ ascii "\n"

-- `out`, one per entry: n and port (decimal), value. (A log entry is n before the step times 16,777,216, plus port times
-- 65,536, plus value.)
unfoldable pub out_line : ℕ → List ℕ
out_line entry =
    ascii "out "
    ++ decimal (entry / 16777216)
    ++ ascii " "
    ++ decimal (entry / 65536 % 256)
    ++ ascii " "
    ++ hex4 (entry % 65536)
    ++ ascii "\n"

-- Then PC and R0 to R7.
unfoldable pub pc_line : ℕ → List ℕ
pc_line pc = ascii "pc " ++ hex4 pc ++ ascii "\n"

abbrev pub register : ℕ → List ℕ
register v = ascii " " ++ hex4 v

unfoldable pub registers_line : List ℕ → List ℕ
registers_line r = ascii "r" ++ each register r ++ ascii "\n"

-- A refusal prints one line only, `refused`, a space and its number.
unfoldable pub refused_line : ℕ → List ℕ
refused_line number = ascii "refused " ++ decimal number ++ ascii "\n"

-- ---- The program

-- the lines of a run that stopped, with the log entries that it wrote and the state that it left
unfoldable pub stopped_lines : ℕ → ℕ → ℕ → List ℕ → State → List ℕ
stopped_lines stop steps entries written state =
    run_line stop steps entries ++ each out_line written ++ pc_line state.pc ++ registers_line state.r

-- what a run prints; its entries stand in the first places of the log
abbrev pub lines_by : RunReply → Left → List ℕ
lines_by (stopped stop steps entries) l = stopped_lines stop steps entries (take entries l.log) l.state
lines_by (run_refused number) l = refused_line number

unfoldable pub ran_lines : Left → List ℕ
ran_lines l = lines_by l.reply l

-- what a load prints; `panelrun` runs the table engine with inputs zero, as the load left them, budget 1,000, a 64-place log and no
-- journal
abbrev pub loaded_by : Verdict → LoadLeft → List ℕ
loaded_by accepted l = ran_lines (run_left by_the_table (given l.state l.P l.D l.I l.O 1000 (replicate 64 0) no_journal))
loaded_by (refused number) l = refused_line number

-- 8: the program's file exceeds 65,536 bytes. The program tests 8 before its load.
unfoldable pub printed : List ℕ → List ℕ
printed file =
    let l = load_left (record { file = file; board = TwoMemories; range = record { locked = 0; first = 0; last = 0 }; P = replicate 65536 0; D = replicate 65536 0; I = replicate 256 0; O = replicate 256 0 }) in
    pick (leb (length file) 65536) (loaded_by l.reply l) (refused_line 8)
