-- By the reading.
use mathlib.Core.Path.{sym, ap, ◌∙◌}
use native.Mathlib.Omega.{arith}
use Rattle.isa.specs.Instructions.{shown_reading}
use Rattle.printing.proofs.Writing.{◌then◌}
use Rattle.listing.proofs.Registers.{read_registers}
use Rattle.listing.proofs.Rows.{text_written}
use Rattle.listing.proofs.text.with_text.Goals as goal

pub with_instruction-requires : goal.with_instruction-requires
with_instruction-requires c = read_registers _ (sym (ap shown_reading c.in-Some.is) ∙ c.requires)

pub returns-in-Some : goal.returns-in-Some
returns-in-Some c = text_written _ _ (sym (ap shown_reading c.in-Some.is) ∙ c.requires) c.with_instruction.ensures (omega arith)

pub returns-in-None : goal.returns-in-None
returns-in-None c = text_written _ _ (sym (ap shown_reading c.in-None.is) ∙ c.requires) (c.with_word.ensures then c.with_value.ensures) (omega arith)
