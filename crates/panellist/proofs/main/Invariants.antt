-- The loop prints line after line; the measure is how many of the listing are left.
use Rattle.std.proofs.Common.{◌-◌, length}
use Rattle.listing.specs.File.{listing}
use Rattle.panellist.proofs.main.Given as goal

abbrev pub decreases-loop-line : goal.decreases-loop-line
decreases-loop-line l = length (listing l.file.items) - l.k
