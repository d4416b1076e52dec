-- By `page_meets`.
use Rattle.sisa.proofs.Numbers.{page_meets}
use Rattle.sisa.proofs.sisa_page_by_rules.Goals as goal

pub returns : goal.returns
returns c = page_meets _ _ c.page_by_rules-paged.ensures c.from.ensures
