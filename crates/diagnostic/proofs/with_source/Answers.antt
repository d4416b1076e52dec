-- Part after part of the line.
use native.Mathlib.Omega.{arith}
use Rattle.printing.proofs.Writing.{◌then◌, at_most}
use Rattle.diagnostic.proofs.Lines.{no_source, source_is}
use Rattle.diagnostic.proofs.with_source.Goals as goal

pub returns-then-line-eq0 : goal.returns-then-line-eq0
returns-then-line-eq0 c = no_source _ c.if-line-eq0.true

pub returns : goal.returns
returns c =
    source_is _ c.if-line-eq0.false c.line_of.ensures
    (at_most (omega arith) (c.with_word.ensures then c.with_line.ensures then c.with_byte.ensures))
