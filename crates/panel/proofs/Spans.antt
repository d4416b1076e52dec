-- A span holds a locked byte where a range is locked that has bytes, and neither ends before the other begins.
-- Assumes nothing.
use mathlib.Core.Path.{◌≡◌, refl, sym, ap, ◌∙◌}
use mathlib.Core.Bool.{Bool, true, false, not, ◌&&◌, ◌||◌, and-false}
use Prim.Native.Nat.{ℕ, zero, suc, ◌-◌, ◌<◌, ◌≤◌}
use native.Mathlib.Omega.{arith}
use borrow.Author.Tests.{ltb-true, ltb-false, leb-true, leb-false, lt-ltb, le-ltb, le-leb, lt-leb}
use lib.Dec.{eqb, leb, ltb}
use Rattle.machine.specs.declared.State.{State}
use Rattle.machine.specs.Machine.{is_locked}
use Rattle.panel.specs.Calls.{holds_locked}

-- the tests of the code, of a range f to l that the flag names
abbrev tested : Bool → ℕ → ℕ → ℕ → ℕ → Bool
tested flag f l start count = flag && leb f l && leb start l && ltb (f - start) count

-- ---- One byte more, at the front

-- it is in the range
inside : (flag x y z : Bool) → ((flag && true && true) || (flag && x && y && z)) ≡ (flag && true && true && true)
inside true x y z = refl
inside false x y z = refl

-- it is past the range
past : (flag x y z : Bool) → ((flag && true && false) || (flag && x && false && y)) ≡ (flag && x && false && z)
past true true y z = refl
past true false y z = refl
past false x y z = refl

-- it is before a range that has bytes, or none
before : (flag x y z : Bool) → ((flag && false && y) || (flag && x && true && z)) ≡ (flag && x && true && z)
before true x y z = refl
before false x y z = refl

none : (flag x y z u v : Bool) → ((flag && false && x) || (flag && false && y && z)) ≡ (flag && false && u && v)
none true x y z u v = refl
none false x y z u v = refl

module _ (flag : Bool) (f l start count : ℕ) where
  same_end : f ≤ start → ltb (f - start) (suc count) ≡ true
  same_end h = lt-ltb (f - start) (suc count) (omega arith)

  nearer : start < f → (t : Bool) → ltb (f - suc start) count ≡ t → ltb (f - start) (suc count) ≡ t
  nearer h true e = lt-ltb (f - start) (suc count) (omega (arith, ltb-true (f - suc start) count e))
  nearer h false e = le-ltb (f - start) (suc count) (omega (arith, ltb-false (f - suc start) count e))

  one_more : ((flag && leb f start && leb start l) || tested flag f l (suc start) count) ≡ tested flag f l start (suc count)
  one_more = by_tests (leb f start) refl (leb start l) refl (leb f l) refl
    where
      by_tests : (a : Bool) → leb f start ≡ a → (b : Bool) → leb start l ≡ b → (c : Bool) → leb f l ≡ c
          → ((flag && leb f start && leb start l) || tested flag f l (suc start) count) ≡ tested flag f l start (suc count)
      by_tests true p true q c r =
          let has : leb f l ≡ true = le-leb f l (omega (arith, leb-true f start p, leb-true start l q)) in
          rw (p, q, has, same_end (leb-true f start p)) (inside flag true (leb (suc start) l) (ltb (f - suc start) count))
      by_tests true p false q c r =
          let after : leb (suc start) l ≡ false = lt-leb (suc start) l (omega (arith, leb-false start l q)) in
          rw (p, q, after) (past flag (leb f l) (ltb (f - suc start) count) (ltb (f - start) (suc count)))
      by_tests false p b q true r =
          let here : leb start l ≡ true = le-leb start l (omega (arith, leb-false f start p, leb-true f l r)) in
          let next : leb (suc start) l ≡ true = le-leb (suc start) l (omega (arith, leb-false f start p, leb-true f l r)) in
          rw (p, r, here, next, nearer (leb-false f start p) (ltb (f - suc start) count) refl) (before flag true true (ltb (f - suc start) count))
      by_tests false p b q false r =
          rw (p, r) (none flag (leb start l) (leb (suc start) l) (ltb (f - suc start) count) (leb start l) (ltb (f - start) (suc count)))

pub span_is : (s : State) (count start : ℕ) → holds_locked s start count ≡ tested (not (eqb s.locked 0)) s.first_locked s.last_locked start count
unfolding holds_locked
span_is s zero start =
    let front = not (eqb s.locked 0) && leb s.first_locked s.last_locked && leb start s.last_locked in
    sym (ap (λ t. front && t) (le-ltb (s.first_locked - start) 0 (omega arith)) ∙ and-false front)
span_is s (suc count) start =
    ap (λ t. is_locked start s || t) (span_is s count (suc start)) ∙ one_more (not (eqb s.locked 0)) s.first_locked s.last_locked start count
