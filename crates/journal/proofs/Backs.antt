-- What the arms of `undo` promise, by what an entry says was overwritten.
-- Assumes nothing.
use mathlib.Core.Path.{◌≡◌, sym, ap, ◌∙◌}
use mathlib.Core.List.{List}
use Prim.Native.Nat.{ℕ, ◌-◌, ◌/◌, ◌%◌}
use lib.ListN.{get_or, get_or-map}
use Rattle.word.specs.Word.{clear0}
use Rattle.machine.specs.declared.State.{State}
use Rattle.machine.specs.Machine.{put_pc, put_n, on_state}
use Rattle.journal.specs.declared.What.{What}
use Rattle.journal.specs.declared.What.TheVariants.{Nothing, Register, DataWord, DataByte, Output, KeyRead, EnableFlag, LineTaken}
use Rattle.journal.specs.Journal.{Overwritten, nothing, register, data_word, data_byte, output_word, key_read, enable_flag, line_taken, value_in, place_in, which_in, pc_in, what_in, readings, overwritten_in, put_back, undo}
use Rattle.journal.specs.Parts.{whats, machine_with, IsUndone}

-- PC is that before the step, and n is less by 1
abbrev pub retreated_by : ℕ → State → State
retreated_by x s = put_pc (pc_in x) (put_n (s.n - 1) s)

-- what a number says, by what was overwritten
abbrev pub reading_of : ℕ → What → Overwritten
reading_of x Nothing = nothing
reading_of x Register = register (place_in x % 8) (value_in x)
reading_of x DataWord = data_word (clear0 (place_in x)) (value_in x)
reading_of x DataByte = data_byte (place_in x) (value_in x)
reading_of x Output = output_word (place_in x % 256) (value_in x)
reading_of x KeyRead = key_read (which_in x % 8) (value_in x) (place_in x)
reading_of x EnableFlag = enable_flag (value_in x % 256)
reading_of x LineTaken = line_taken (which_in x % 8) (place_in x % 256) (place_in x / 256) (value_in x)

module _ (x : ℕ) (s : State) (D I O : List ℕ) (s' : State) (D' I' O' : List ℕ) where
  -- what is overwritten is put back
  abbrev PutsBack : Overwritten → Type 0
  PutsBack o = (P L : List ℕ) → on_state (retreated_by x) (put_back o (machine_with s D I O P L)) ≡ machine_with s' D' I' O' P L

  put_back_lem : {o : Overwritten} → get_or (readings x) (what_in x) nothing ≡ o → PutsBack o → IsUndone x s D I O s' D' I' O'
  unfolding undo overwritten_in
  put_back_lem t e = λ P L. ap (λ y. on_state (retreated_by x) (put_back y (machine_with s D I O P L))) t ∙ e P L

  pub undo_as : {what : What} → what ≡ get_or whats (what_in x) Nothing → PutsBack (reading_of x what) → IsUndone x s D I O s' D' I' O'
  undo_as said = put_back_lem (get_or-map (reading_of x) whats (what_in x) Nothing ∙ ap (reading_of x) (sym said))
