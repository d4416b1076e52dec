-- Test after test.
use native.Mathlib.Omega.{arith}
use borrow.Author.Tests.{lt-ltb, le-ltb}
use Rattle.places.specs.Places.{place_of}
use Rattle.places.proofs.place_of.Goals as goal

pub returns-then-op-lt2 : goal.returns-then-op-lt2
unfolding place_of
returns-then-op-lt2 c = record { is = rw (lt-ltb _ 2 c.if-op-lt2.true); few = omega arith }

pub returns-then-op-lt11 : goal.returns-then-op-lt11
unfolding place_of
returns-then-op-lt11 c = record { is = rw (le-ltb _ 2 c.if-op-lt2.false, lt-ltb _ 11 c.if-op-lt11.true); few = omega arith }

pub returns-then-op-lt13 : goal.returns-then-op-lt13
unfolding place_of
returns-then-op-lt13 c = record { is = rw (le-ltb _ 2 c.if-op-lt2.false, le-ltb _ 11 c.if-op-lt11.false, lt-ltb _ 13 c.if-op-lt13.true); few = omega arith }

pub returns-else-op-lt13 : goal.returns-else-op-lt13
unfolding place_of
returns-else-op-lt13 c = record { is = rw (le-ltb _ 2 c.if-op-lt2.false, le-ltb _ 11 c.if-op-lt11.false, le-ltb _ 13 c.if-op-lt13.false); few = omega arith }
