-- By the equations of what it calls.
use mathlib.Core.Path.{ap, ◌∙◌}
use Rattle.control.specs.Control.{written}
use Rattle.datapath.proofs.result_done.Goals as goal

pub returns : goal.returns
returns c = c.write_destination.ensures ∙ ap (written c.args.control c.args.w c.args.v) c.advanced.ensures
