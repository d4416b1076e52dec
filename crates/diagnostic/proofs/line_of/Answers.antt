-- The line is a part that `split` gives.
use Rattle.std.proofs.Common.{◌≡◌, rules, refl, sym, ap, ◌∙◌, eqb, get_or, List, [], ℕ, Bor}
use Rattle.std.specs.Prelude.{Option}
use Rattle.std.specs.List.{slice_split}
use Rattle.std.specs.Option.{option_map, unwrap_or}
use Rattle.std.specs.declared.option.Option.TheVariants.{None, Some}
use Rattle.std.proofs.lemmas.Option.{unwrap_or-slice_get}
use Rattle.std.proofs.lemmas.Iterator.Consumers.{nth_from_yields_List}
use Rattle.std.proofs.lemmas.Iterator.Splits.{YieldsList-from_slice_split}
use Rattle.diagnostic.proofs.Lines.{lines_are}
use Rattle.diagnostic.proofs.line_of.Goals as goal

now_or : (o : Option (Bor (List ℕ))) (d : Bor (List ℕ)) → (unwrap_or o d).now ≡ unwrap_or (option_map (λ x. x.now) o) d.now
now_or None d = refl
now_or (Some x) d = refl

pub returns : goal.returns
returns c =
    let part = nth_from_yields_List _ _ _ c.nth.ensures.ran (YieldsList-from_slice_split _ (λ b. eqb b 10) c.args.text.now c.split.ensures.rest c.split.ensures.done c.split.ensures.closure (λ x b q k. search rules)) in
    ap (λ x. x.now) c.unwrap_or.ensures
    ∙ now_or c.nth.result _
    ∙ ap (λ o. unwrap_or o []) part
    ∙ unwrap_or-slice_get (slice_split (λ b. eqb b 10) c.args.text.now) c.args.k []
    ∙ sym (ap (λ ls. get_or ls c.args.k []) (lines_are c.args.text.now))
