-- By whether there is a name, whether it was given before, and whether there is room.
use mathlib.Core.Path.{refl}
use Rattle.assembler.proofs.Giving.{known_by, gives_none, given_before, no_room, gives_one}
use Rattle.assembler.proofs.passes.give.Goals as goal

pub returns-in_default : goal.returns-in_default
returns-in_default c = rw c.in_default.is (gives_none _ _ _ c.requires.0 c.requires.1)

pub returns-then-name_value : goal.returns-then-name_value
returns-then-name_value c =
    let k = known_by c.args.table.now c.args.labels c.in-Some.name.now c.name_value.ensures c.if-name_value.true in
    rw c.in-Some.is (given_before _ _ _ c.requires.0 c.requires.1 _ k)

pub returns-then-labels-eq-NAMES : goal.returns-then-labels-eq-NAMES
returns-then-labels-eq-NAMES c =
    let k = known_by c.args.table.now c.args.labels c.in-Some.name.now c.name_value.ensures c.if-name_value.false in
    rw c.in-Some.is (no_room _ _ _ c.requires.0 c.requires.1 _ k c.if-labels-eq-NAMES.true)

pub returns : goal.returns
returns c =
    let k = known_by c.args.table.now c.args.labels c.in-Some.name.now c.name_value.ensures c.if-name_value.false in
    rw c.in-Some.is (gives_one _ _ _ c.requires.0 c.requires.1 _ refl k c.if-labels-eq-NAMES.false)
