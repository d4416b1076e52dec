-- Test after test.
use borrow.Author.Tests.{lt-ltb, le-ltb}
use Rattle.places.specs.Places.{word_of}
use Rattle.places.proofs.word_of.Goals as goal

pub returns-then-place-lt1024 : goal.returns-then-place-lt1024
unfolding word_of
returns-then-place-lt1024 c = rw (lt-ltb _ 1024 c.if-place-lt1024.true)

pub returns-then-place-lt9216 : goal.returns-then-place-lt9216
unfolding word_of
returns-then-place-lt9216 c = rw (le-ltb _ 1024 c.if-place-lt1024.false, lt-ltb _ 9216 c.if-place-lt9216.true)

pub returns-else-place-lt9216 : goal.returns-else-place-lt9216
unfolding word_of
returns-else-place-lt9216 c = rw (le-ltb _ 1024 c.if-place-lt1024.false, le-ltb _ 9216 c.if-place-lt9216.false)
