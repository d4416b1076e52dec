-- Both by computing what the definitions give.
-- Assumes nothing.
use mathlib.Core.Path.{refl}
use Rattle.word.specs.Word.{signed, low_bits, SE}
use Rattle.machine.specs.Step.{fetched}
use Rattle.machine.specs.Run.{no_place_at, run_from}
use Rattle.image.specs.Image.{loaded, file_reply, load_reply, load_left}
use Rattle.control.specs.Control.{second, unit, result_of, next, stored_data, stored, written, performed, assigned, zero_divisor, locked_access, control_step, control_in}
use Rattle.run.specs.Runs.{verdict, run_left}
use Rattle.printing.specs.Text.{digit, digits, decimal, hex4, each}
use Rattle.report.specs.Printed.{run_line, out_line, pc_line, registers_line, refused_line, stopped_lines, ran_lines, printed}
use Rattle.report.specs.Example.{Example}

pub example : Example
unfolding signed low_bits SE fetched second unit result_of next stored_data stored written performed assigned zero_divisor locked_access control_step control_in no_place_at run_from loaded file_reply load_reply load_left verdict run_left
    digit digits decimal hex4 each run_line out_line pc_line registers_line refused_line stopped_lines ran_lines printed
example = record { run = refl; refusal = refl }
