-- Part after part of the line, for which the array has room.
use mathlib.Core.Path.{ap}
use native.Mathlib.Omega.{arith}
use Rattle.isa.specs.Masks.{Decoding}
use Rattle.printing.proofs.Writing.{◌then◌, wrote_held}
use Rattle.listing.specs.Listing.{line_text}
use Rattle.listing.proofs.text.line_of.Goals as goal

pub with_text-named-requires : goal.with_text-named-requires
with_text-named-requires c = ap (λ (d : Decoding). d.reading) c.read-decoded.ensures

pub returns : goal.returns
unfolding line_text
returns c =
    wrote_held c.empty.ensures
    (c.with_hex.ensures
    then c.with_byte.ensures
    then c.with_hex-2.ensures
    then c.with_byte-head.ensures
    then c.with_text-named.ensures
    then c.with_word.ensures
    then (rw (ap (λ (d : Decoding). d.masks.reads) c.read-decoded.ensures) at c.with_registers-read.ensures)
    then c.with_word-2.ensures
    then (rw (ap (λ (d : Decoding). d.masks.writes) c.read-decoded.ensures) at c.with_registers.ensures)
    then c.with_byte-2.ensures)
    (omega arith)
