-- The loop writes item after item; the measure is how many are left.
use Rattle.listing.proofs.Items.{writing, all_written, last_written, item_written}
use Rattle.listing.proofs.text.with_items.Goals as goal

pub loop-at-init : goal.loop-at-init
loop-at-init c = writing

pub returns-then-item-eq32 : goal.returns-then-item-eq32
returns-then-item-eq32 c = last_written c.loop-at.invariant c.loop-at-test.true c.requires.0 c.if-item-eq32.true

pub loop-at-preserved : goal.loop-at-preserved
loop-at-preserved c = item_written c.loop-at.invariant c.loop-at-test.true c.requires.0 c.if-item-eq32.false c.with_item-written.ensures

pub returns : goal.returns
returns c = all_written c.loop-at.invariant c.loop-at-test.false
