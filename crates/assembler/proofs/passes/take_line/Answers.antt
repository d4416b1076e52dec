-- By what the line is, and by what became of its name.
use mathlib.Core.Path.{ap}
use Rattle.std.proofs.Common.{rules}
use Rattle.statement.specs.Parts.{shown_line, shown_content}
use Rattle.assembler.proofs.Lines.{one_at_most, outside_taken, crowded_taken, repeated_taken, read_taken}
use Rattle.assembler.proofs.passes.take_line.Goals as goal

pub returns-in_default : goal.returns-in_default
unfolding shown_line
returns-in_default c = outside_taken c.requires.room c.requires.few (ap shown_line c.in_default.is) c.after.ensures

pub after-requires-in-Ok : goal.after-requires-in-Ok
after-requires-in-Ok c = (c.requires.lines, c.requires.words, c.requires.bytes, one_at_most c.stated-j.result _ c.stated-j.ensures.places)

pub after-requires-in-Err : goal.after-requires-in-Err
after-requires-in-Err c = (c.requires.lines, c.requires.words, c.requires.bytes, one_at_most c.stated-j.result _ c.stated-j.ensures.places)

pub returns-in-Ok : goal.returns-in-Ok
unfolding shown_line shown_content
returns-in-Ok c =
    read_taken c.stated-j.result (ap shown_line c.in-Some.is) c.stated-j.ensures.places c.in-Ok.ensures
    c.stated-j.ensures.comes_to c.after-in-Ok.ensures

pub returns-in-Err-TextLine : goal.returns-in-Err-TextLine
unfolding shown_line shown_content
returns-in-Err-TextLine c =
    let e = rw c.in-Err-TextLine.is at c.give-given.ensures in
    crowded_taken c.stated-j.result (ap shown_line c.in-Some.is) c.stated-j.ensures.places c.requires.room c.requires.few e
    (search rules) c.after-in-Err-TextLine.ensures

pub returns-in-Err : goal.returns-in-Err
unfolding shown_line shown_content
returns-in-Err c =
    repeated_taken c.stated-j.result (ap shown_line c.in-Some.is) c.stated-j.ensures.places c.requires.room c.requires.few c.in-Err.ensures
    (λ e. search rules) c.after-in-Err.ensures
