-- Test after test; the trims are looked at by `checked_in_order`.
use Rattle.page.proofs.Verdicts.{refuses_none, refuses_many, refuses-P, refuses-D, refuses-I, refuses-O, by_trims}
use Rattle.page.proofs.checks.checked.Goals as goal

pub returns-then-count-eq0 : goal.returns-then-count-eq0
returns-then-count-eq0 c = λ log. refuses_none _ c.if-count-eq0.true

pub returns-then-count-gt8 : goal.returns-then-count-gt8
returns-then-count-gt8 c = λ log. refuses_many _ c.if-count-gt8.true

pub returns-then-programs-n : goal.returns-then-programs-n
returns-then-programs-n c = λ log. refuses-P _ c.if-count-eq0.false c.if-count-gt8.false c.if-programs-n.true

pub returns-then-memories-n : goal.returns-then-memories-n
returns-then-memories-n c = λ log. refuses-D _ c.if-count-eq0.false c.if-count-gt8.false c.if-programs-n.false c.if-memories-n.true

pub returns-then-inputs-n : goal.returns-then-inputs-n
returns-then-inputs-n c = λ log. refuses-I _ c.if-count-eq0.false c.if-count-gt8.false c.if-programs-n.false c.if-memories-n.false c.if-inputs-n.true

pub returns-then-outputs-n : goal.returns-then-outputs-n
returns-then-outputs-n c = λ log. refuses-O _ c.if-count-eq0.false c.if-count-gt8.false c.if-programs-n.false c.if-memories-n.false c.if-inputs-n.false c.if-outputs-n.true

pub returns : goal.returns
returns c = λ log. by_trims _ c.if-count-eq0.false c.if-count-gt8.false c.if-programs-n.false c.if-memories-n.false c.if-inputs-n.false c.if-outputs-n.false c.checked_in_order.ensures
