-- By the test.
use mathlib.Core.Path.{refl, sym, ap, ◌∙◌}
use native.Mathlib.Nat.{div-one}
use lib.ListN.{set}
use Rattle.datapath.proofs.fields.store_port.Goals as goal

pub push-requires : goal.push-requires
push-requires c = c.requires.1 (sym c.writes_port.ensures ∙ c.if-writes_port.true)

pub returns-then-writes_port : goal.returns-then-writes_port
returns-then-writes_port c =
    let p = c.push.ensures in
    let entry = ap (set c.args.log.now.places.now c.args.log.now.entries) c.entry_of.ensures in
    rw (sym c.writes_port.ensures ∙ c.if-writes_port.true, div-one)
    record { outputs = c.write_port.ensures; places = p.places ∙ entry; entries = p.entries; same = p.same }

pub returns-else-writes_port : goal.returns-else-writes_port
returns-else-writes_port c = rw (sym c.writes_port.ensures ∙ c.if-writes_port.false) record { outputs = refl; places = refl; entries = refl; same = record { places = refl; many = refl } }
