-- A slice that is lent to a call, by & or by &mut. A contract names it whole; what it holds at the call's entry and at its exit is said here.
use Rattle.std.specs.Borrow.{Bor, MutBor}
use denote.Triple.Both.{Both}
use Rattle.std.specs.Prelude.{List, ℕ}

-- ---- By &mut

abbrev pub MutSlice : Type 0
MutSlice = Both (MutBor (List ℕ)) (MutBor (List ℕ))

-- what it holds when the call begins, and what it holds when the call ends
abbrev pub before : MutSlice → List ℕ
before x = x.entry.now

abbrev pub after : MutSlice → List ℕ
after x = x.exit.now

-- ---- By &

abbrev pub Slice : Type 0
Slice = Both (Bor (List ℕ)) (Bor (List ℕ))

abbrev pub read_before : Slice → List ℕ
read_before x = x.entry.now

abbrev pub read_after : Slice → List ℕ
read_after x = x.exit.now
