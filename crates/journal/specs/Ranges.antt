-- The numbers of a machine are within their widths (01: registers and PC 16 bits, eight registers, 65,536 bytes, 256 words; 02, L12: three
-- bytes and a return address of 16 bits), so that an entry of a journal can hold them. The counts n and `journaled` are left aside: no entry
-- holds them.
use Rattle.std.specs.Prelude.{◌≡◌, List, ℕ, ◌<◌, length, get_or}
use Rattle.machine.specs.Machine.{Machine}
use Rattle.machine.specs.Step.{PC}

-- so many numbers, each below a bound
pub record Numbers (count bound : ℕ) (xs : List ℕ) : Type 0 where
  pub many : length xs ≡ count
  pub below : (k : ℕ) → get_or xs k 0 < bound

pub record InRange (m : Machine) : Type 0 where
  pub registers : Numbers 8 65536 m.state.r
  pub pc : PC m < 65536
  pub enabled : m.state.enabled < 256
  pub pending : m.state.pending < 256
  pub line : m.state.line < 256
  pub address : m.state.return_address < 65536
  pub program : Numbers 65536 256 m.P
  pub memory : Numbers 65536 256 m.D
  pub inputs : Numbers 256 65536 m.I
  pub outputs : Numbers 256 65536 m.O
