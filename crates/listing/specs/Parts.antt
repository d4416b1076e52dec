-- What the contracts of the crate's private functions cite; nothing here is promised to a caller.
use Rattle.std.specs.Prelude.{◌<◌}
use Rattle.isa.specs.declared.Instruction.{Instruction}

-- each register is one of R0 to R7
pub record Registers (i : Instruction) : Type 0 where
  pub a : i.a < 8
  pub b : i.b < 8
  pub d : i.d < 8
