-- By the label that was found.
use Rattle.std.proofs.Common.{sym, ap, ◌∙◌, rules, tests}
use Rattle.token.specs.Scan.{alike}
use Rattle.std.proofs.lemmas.Iterator.{YieldsList-from_slice}
use Rattle.std.proofs.lemmas.Iterator.Search.{find_from_yields_List}
use Rattle.expression.proofs.Labels.{found_value, value_found}
use Rattle.expression.proofs.names.name_value.Goals as goal

pub returns-in-Some : goal.returns-in-Some
returns-in-Some c =
    let w = c.args.word.now in
    let f =
    find_from_yields_List (λ l. alike w l.name.now) _ _ c.find.result c.find.ensures.ran (YieldsList-from_slice c.args.names.now (cc))
    (λ x b q k. search (rules, tests)) in
    let g = rw c.in-Some.is at f in
    sym (value_found w c.args.names.now ∙ ap found_value (sym g))

pub returns-in-None : goal.returns-in-None
returns-in-None c =
    let w = c.args.word.now in
    let f =
    find_from_yields_List (λ l. alike w l.name.now) _ _ c.find.result c.find.ensures.ran (YieldsList-from_slice c.args.names.now (cc))
    (λ x b q k. search (rules, tests)) in
    let g = rw c.in-None.is at f in
    sym (value_found w c.args.names.now ∙ ap found_value (sym g))
