-- By whether the line is the last of a long text.
use Rattle.assembler.proofs.Scanning.{outside_read, line_read}
use Rattle.assembler.proofs.passes.read_line.Goals as goal

pub returns-then-long-end : goal.returns-then-long-end
returns-then-long-end c =
    let a = c.args in
    outside_read a.long a.text.now a.names.now a.at a.end c.if-long-end.true

pub returns : goal.returns
returns c =
    let a = c.args in
    line_read a.long a.text.now a.names.now a.at a.end _ c.if-long-end.false c.line_at.ensures
