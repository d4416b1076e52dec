-- By the contract of `write`, to which n is handed on as it is.
use mathlib.Core.Path.{◌≡◌, ◌∙◌, ap}
use mir.Syntax.{w16}
use mir.Val.{to_z, of_z}
use borrow.Author.Rules.{rules}
use Rattle.replies.specs.Sisa.{sisa_write}
use Rattle.sisa.proofs.sisa_write.Goals as goal

pub returns : goal.returns
returns c =
    let a = c.args in
    let same : to_z w16 (of_z w16 a.n) ≡ a.n = search rules in
    c.write.ensures ∙ ap (λ n. sisa_write a.kind a.a a.b a.d n) same
