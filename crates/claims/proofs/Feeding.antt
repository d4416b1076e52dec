-- Feeding two runs in either order gives one sheet, so any order does.
-- Assumes nothing.
use mathlib.Core.Path.{◌≡◌, refl, sym, ◌∙◌, ap}
use mathlib.Core.Bool.{Bool, true, false}
use mathlib.Core.List.{List, [], ◌∷◌}
use Prim.Native.Nat.{ℕ, ◌+◌, ◌%◌, ◌^◌, ◌≤◌}
use native.Mathlib.Nat.{mod-add-mod}
use native.Mathlib.Omega.{arith}
use borrow.Author.Tests.{ltb-true, ltb-false, lt-ltb}
use lib.Dec.{ltb}
use Rattle.refusal.specs.Refusals.{accepted, refused}
use Rattle.word.specs.Word.{pick, flag}
use Rattle.word.proofs.Tests.{clash}
use Rattle.usage.specs.declared.Usage.{Usage}
use Rattle.sheet.specs.declared.Sheet.{Sheet}
use Rattle.sheet.specs.Sheet.{sums, with_run, FeedLeft, feed_by, was_accepted, feed_left}
use Rattle.claims.specs.Usage.{Fed, Reordered, nothing, same, swapped, then, Feeds, done, feed, steps_in, steps_of}

-- ---- A feeding that is not refused

abbrev pub next_by : Bool → Sheet → Usage → Sheet
next_by true s u = with_run s u
next_by false s u = s

took : (t : Bool) (s : Sheet) (u : Usage) → s.runs + flag t ≤ 65535 → feed_by t s u ≡ record { reply = accepted; sheet = next_by t s u }
took true s u h = rw (lt-ltb s.runs 65535 (omega arith))
took false s u h = refl

runs_next : (t : Bool) (s : Sheet) (u : Usage) → (next_by t s u).runs ≡ s.runs + flag t
runs_next true s u = refl
runs_next false s u = omega arith

-- what an accepted run's feeding leaves, by whether the sheet has a place for it
abbrev taken_if : Bool → Sheet → Usage → FeedLeft
taken_if b s u = pick b (record { reply = accepted; sheet = with_run s u }) (record { reply = refused 13; sheet = s })

came : (t : Bool) (s next : Sheet) (u : Usage) → feed_by t s u ≡ record { reply = accepted; sheet = next } → next_by t s u ≡ next
came true s next u e = by_test (ltb s.runs 65535) e
  where
    by_test : (b : Bool) → taken_if b s u ≡ record { reply = accepted; sheet = next } → with_run s u ≡ next
    by_test true e = ap (λ (l : FeedLeft). l.sheet) e
    by_test false e = let z = ap (λ (l : FeedLeft). l.reply) e in clash (cc)
came false s next u e = ap (λ (l : FeedLeft). l.sheet) e

-- it was not refused, so the sheet had a place
had_place : (t : Bool) (s next : Sheet) (u : Usage) → feed_by t s u ≡ record { reply = accepted; sheet = next } → s.runs ≤ 65535 → s.runs + flag t ≤ 65535
had_place true s next u e h = by_test (ltb s.runs 65535) refl e
  where
    by_test : (b : Bool) → ltb s.runs 65535 ≡ b → taken_if b s u ≡ record { reply = accepted; sheet = next } → s.runs + 1 ≤ 65535
    by_test true t e = omega (arith, ltb-true s.runs 65535 t)
    by_test false t e = let z = ap (λ (l : FeedLeft). l.reply) e in clash (cc)
had_place false s next u e h = omega arith

-- ---- A refused one

pub record Turned (t : Bool) (s : Sheet) (k : ℕ) (l : FeedLeft) : Type 0 where
  pub number : k ≡ 13
  pub was : t ≡ true
  pub full : 65535 ≤ s.runs
  pub back : l.sheet ≡ s

pub turned : (t : Bool) (s : Sheet) (u : Usage) (k : ℕ) → (feed_by t s u).reply ≡ refused k → Turned t s k (feed_by t s u)
turned true s u k e = by_test (ltb s.runs 65535) refl e
  where
    by_test : (b : Bool) → ltb s.runs 65535 ≡ b → (taken_if b s u).reply ≡ refused k → Turned true s k (taken_if b s u)
    by_test true t e = clash (cc)
    by_test false t e = record { number = cc; was = refl; full = ltb-false s.runs 65535 t; back = refl }
turned false s u k e = clash (cc)

-- ---- Any order

sum_swap : (x y z : ℕ) → ((x + y) % 2 ^ 64 + z) % 2 ^ 64 ≡ ((x + z) % 2 ^ 64 + y) % 2 ^ 64
sum_swap x y z = mod-add-mod (x + y) (2 ^ 64) z ∙ ap (λ (k : ℕ). k % 2 ^ 64) (omega arith) ∙ sym (mod-add-mod (x + z) (2 ^ 64) y)

sums_swap : (xs ys zs : List ℕ) → sums (sums xs ys) zs ≡ sums (sums xs zs) ys
unfolding sums
sums_swap [] ys zs = refl
sums_swap (x ∷ xs) [] [] = refl
sums_swap (x ∷ xs) [] (z ∷ zs) = refl
sums_swap (x ∷ xs) (y ∷ ys) [] = refl
sums_swap (x ∷ xs) (y ∷ ys) (z ∷ zs) =
    λ i. sum_swap x y z i ∷ sums_swap xs ys zs i

swap : (a b : Bool) (s : Sheet) (u v : Usage) → next_by b (next_by a s u) v ≡ next_by a (next_by b s v) u
swap true true s u v =
    λ i. record {
      kinds = sums_swap s.kinds u.kinds v.kinds i;
      taken = sum_swap s.taken u.taken v.taken i;
      reads = sums_swap s.reads u.reads v.reads i;
      writes = sums_swap s.writes u.writes v.writes i;
      runs = s.runs + 1 + 1;
    }
swap true false s u v = refl
swap false true s u v = refl
swap false false s u v = refl

abbrev pub next : Sheet → Fed → Sheet
next s f = next_by (was_accepted f.reply) s f.usage

-- the sheet after feeding all, as if none were refused
unfoldable pub into : Sheet → List Fed → Sheet
into s [] = s
into s (f ∷ fs) = into (next s f) fs

-- the accepted ones
abbrev once : Fed → ℕ
once f = flag (was_accepted f.reply)

unfoldable pub taken_of : List Fed → ℕ
taken_of [] = 0
taken_of (f ∷ fs) = once f + taken_of fs

pub feeds : (fs : List Fed) (s : Sheet) → s.runs + taken_of fs ≤ 65535 → Feeds s fs (into s fs)
unfolding into taken_of feed_left
feeds [] s h = done
feeds (f ∷ fs) s h =
    let t = was_accepted f.reply in
    feed f (took t s f.usage (omega arith)) (feeds fs (next s f) (omega (arith, runs_next t s f.usage)))

pub fed_into : {s last : Sheet} {fs : List Fed} → Feeds s fs last → into s fs ≡ last
unfolding into feed_left
fed_into done = refl
fed_into (feed {s} {next = after} {fs = fs} f e r) = ap (λ (x : Sheet). into x fs) (came (was_accepted f.reply) s after f.usage e) ∙ fed_into r

pub fed_few : {s last : Sheet} {fs : List Fed} → Feeds s fs last → s.runs ≤ 65535 → s.runs + taken_of fs ≤ 65535
unfolding taken_of feed_left
fed_few done h = omega arith
fed_few (feed {s} {next = after} {fs = fs} f e r) h =
    let t = was_accepted f.reply in
    let runs : after.runs ≡ s.runs + flag t = ap (λ (x : Sheet). x.runs) (sym (came t s after f.usage e)) ∙ runs_next t s f.usage in
    omega (arith, had_place t s after f.usage e h, fed_few r (omega (arith, had_place t s after f.usage e h)))

swap_next : (f g : Fed) (s : Sheet) → next (next s f) g ≡ next (next s g) f
swap_next f g s = swap (was_accepted f.reply) (was_accepted g.reply) s f.usage g.usage

pub any_into : {fs gs : List Fed} → Reordered fs gs → (s : Sheet) → into s fs ≡ into s gs
unfolding into
any_into nothing s = refl
any_into (same f r) s = any_into r (next s f)
any_into (swapped f g fs) s = ap (λ (x : Sheet). into x fs) (swap_next f g s)
any_into (then p q) s = any_into p s ∙ any_into q s

pub any_taken : {fs gs : List Fed} → Reordered fs gs → taken_of fs ≡ taken_of gs
unfolding taken_of
any_taken nothing = refl
any_taken (same f r) = ap (λ (k : ℕ). once f + k) (any_taken r)
any_taken (swapped f g fs) = omega arith
any_taken (then p q) = any_taken p ∙ any_taken q

pub any_steps : {fs gs : List Fed} → Reordered fs gs → steps_of fs ≡ steps_of gs
unfolding steps_of
any_steps nothing = refl
any_steps (same f r) = ap (λ (k : ℕ). steps_in f.reply + k) (any_steps r)
any_steps (swapped f g fs) = omega arith
any_steps (then p q) = any_steps p ∙ any_steps q

-- what is fed first may be fed last
pub first_last : (f : Fed) (fs : List Fed) (s : Sheet) → into (next s f) fs ≡ next (into s fs) f
unfolding into
first_last f [] s = refl
first_last f (g ∷ fs) s = ap (λ (x : Sheet). into x fs) (swap_next f g s) ∙ first_last f fs (next s g)
