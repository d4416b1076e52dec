-- What `feed_by` leaves, in numbers.
use mathlib.Core.Path.{◌∙◌, ap}
use Rattle.replies.specs.Sisa.{sisa_fed, sisa_feed}
use Rattle.sisa.proofs.sisa_feed.Goals as goal

pub returns : goal.returns
unfolding sisa_feed
returns c = c.from.ensures ∙ ap sisa_fed c.feed_by.ensures
