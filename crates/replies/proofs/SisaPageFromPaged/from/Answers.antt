-- The answers are made one by one (`page_in_numbers_lem`).
use mathlib.Core.Path.{◌≡◌}
use borrow.Author.Rules.{rules}
use lib.ListN.{length}
use Rattle.page.proofs.Verdicts.{mapped_long}
use Rattle.refusal.specs.Refusals.{shown_check}
use Rattle.replies.proofs.Pages.{page_in_numbers_lem}
use Rattle.replies.proofs.SisaPageFromPaged.from.Goals as goal

pub returns : goal.returns
returns c =
    let a = c.args.paged in
    let eight : length a.answers ≡ 8 = search (rules, mapped_long, c.well_formed.0.1.1.1.1) in
    page_in_numbers_lem a.trims (shown_check a.check) a.answers eight _ c.number-refusal.ensures
    c.answer.ensures
    c.answer-2.ensures
    c.answer-3.ensures
    c.answer-4.ensures
    c.answer-5.ensures
    c.answer-6.ensures
    c.answer-7.ensures
    c.answer-8.ensures
