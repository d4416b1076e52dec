-- What the program `panelasm` writes for a text (02, L1 and L2): the trim file of its words, or the diagnostic of its refusal.
use Rattle.std.specs.Prelude.{ℕ, List, replicate, Result, Ok, Err}
use Rattle.machine.specs.Machine.{reset}
use Rattle.save.specs.Saved.{SaveReply, saved, save_refused, save_left}
use Rattle.assembler.specs.Text.{Reply, words, text_refused, assemble_left}
use Rattle.diagnostic.specs.Diagnostic.{diagnostic_of}

-- the file's length or the diagnostic, and the destination, which the file stands at the front of
pub record FileLeft : Type 0 where
  pub trim : Result ℕ (List ℕ)
  pub destination : List ℕ

-- no file, and the diagnostic
abbrev pub turned_away : List ℕ → ℕ → ℕ → Result ℕ (List ℕ)
turned_away text line number = Err (diagnostic_of text line number)

-- a save has no line: the diagnostic says 0
abbrev pub saved_by : List ℕ → SaveReply → Result ℕ (List ℕ)
saved_by text (saved n) = Ok n
saved_by text (save_refused number) = turned_away text 0 number

-- the program is saved with a data memory of zeros, for the board with two memories
unfoldable pub saved_left : List ℕ → List ℕ → List ℕ → FileLeft
saved_left text program destination =
    let s = save_left (record { state = reset; P = program; D = replicate 65536 0; destination = destination }) in
    record { trim = saved_by text s.reply; destination = s.destination }

abbrev pub assembled_by : List ℕ → Reply → List ℕ → List ℕ → FileLeft
assembled_by text (words n) program destination = saved_left text program destination
assembled_by text (text_refused line number) program destination = record { trim = turned_away text line number; destination = destination }

-- the text is assembled into a program memory of zeros
unfoldable pub file_left : List ℕ → List ℕ → FileLeft
file_left text destination =
    let a = assemble_left text (replicate 65536 0) in
    assembled_by text a.reply a.program destination
