-- Usages added up, their lengths, and a bound on every counter: what a loop that counts its steps keeps.
-- Assumes nothing.
use mathlib.Core.Path.{◌≡◌, refl, sym, ◌∙◌, ap}
use mathlib.Core.Bool.{Bool, true, false}
use mathlib.Core.List.{List, [], ◌∷◌}
use Prim.Native.Nat.{ℕ, zero, suc, ◌+◌, ◌≤◌, ◌<◌}
use native.Mathlib.Nat.{add-zero, add_comm}
use native.Mathlib.Omega.{arith}
use lib.ListN.{length, get_or, replicate}
use Rattle.word.specs.Word.{flag}
use Rattle.kinds.specs.Kinds.{kinds}
use Rattle.isa.specs.Masks.{Masks, in_mask}
use Rattle.machine.specs.Machine.{Machine, takes_line}
use Rattle.usage.specs.declared.Usage.{Usage}
use Rattle.usage.specs.Usage.{added_from, counted, does_kind, masks_at, took_lines, step_counted, unused, usage_of, plus_counts, plus_usage}
use Rattle.usage.specs.Counting.{usage_with, Countable}
use Rattle.usage.proofs.Added.{added_length}

-- ---- Sums

counts_comm : (xs ys : List ℕ) → plus_counts xs ys ≡ plus_counts ys xs
unfolding plus_counts
counts_comm [] [] = refl
counts_comm [] (y ∷ ys) = refl
counts_comm (x ∷ xs) [] = refl
counts_comm (x ∷ xs) (y ∷ ys) = λ i. add_comm x y i ∷ counts_comm xs ys i

pub plus_comm : (u v : Usage) → plus_usage u v ≡ plus_usage v u
plus_comm u v = λ i. usage_with (add_comm u.taken v.taken i) (counts_comm u.kinds v.kinds i) (counts_comm u.reads v.reads i) (counts_comm u.writes v.writes i)

counts_added : (n : ℕ) (t : ℕ → Bool) (xs ys : List ℕ) → plus_counts xs (added_from n t ys) ≡ added_from n t (plus_counts xs ys)
unfolding plus_counts added_from
counts_added n t [] ys = refl
counts_added n t (x ∷ xs) [] = refl
counts_added n t (x ∷ xs) (y ∷ ys) = let e : x + (y + flag (t n)) ≡ (x + y) + flag (t n) = omega arith in λ i. e i ∷ counts_added (suc n) t xs ys i

module _ (kind : ℕ → Bool) (masks : Masks) (u x : Usage) where
  pub plus_counted : plus_usage u (counted kind masks x) ≡ counted kind masks (plus_usage u x)
  plus_counted =
      λ i.
      usage_with (u.taken + x.taken) (counts_added 0 kind u.kinds x.kinds i)
      (counts_added 0 (in_mask masks.reads) u.reads x.reads i)
      (counts_added 0 (in_mask masks.writes) u.writes x.writes i)

-- lines taken, on the right and on either side
pub plus_took : (k : ℕ) (u x : Usage) → plus_usage u (took_lines k x) ≡ took_lines k (plus_usage u x)
plus_took k u x =
    let e : u.taken + (x.taken + k) ≡ u.taken + x.taken + k = omega arith in
    λ i. usage_with (e i) (plus_counts u.kinds x.kinds) (plus_counts u.reads x.reads) (plus_counts u.writes x.writes)

took_plus : (k : ℕ) (u x : Usage) → plus_usage (took_lines k u) x ≡ plus_usage u (took_lines k x)
took_plus k u x = plus_comm (took_lines k u) x ∙ plus_took k x u ∙ ap (took_lines k) (plus_comm x u) ∙ sym (plus_took k u x)

-- a step counted on either side
pub counted_plus : (kind : ℕ → Bool) (masks : Masks) (u x : Usage) → plus_usage (counted kind masks u) x ≡ plus_usage u (counted kind masks x)
counted_plus kind masks u x =
    plus_comm (counted kind masks u) x ∙ plus_counted kind masks x u ∙ ap (counted kind masks) (plus_comm x u) ∙ sym (plus_counted kind masks u x)

-- so it is with the step of a machine
pub plus_step : (m : Machine) (u x : Usage) → plus_usage u (step_counted m x) ≡ step_counted m (plus_usage u x)
plus_step m u x = plus_took _ u (counted (does_kind m) (masks_at m) x) ∙ ap (took_lines (flag (takes_line m.state))) (plus_counted (does_kind m) (masks_at m) u x)

pub step_plus : (m : Machine) (u x : Usage) → plus_usage (step_counted m u) x ≡ plus_usage u (step_counted m x)
step_plus m u x = plus_comm (step_counted m u) x ∙ plus_step m x u ∙ ap (step_counted m) (plus_comm x u) ∙ sym (plus_step m u x)

-- ---- Lengths

pub record Sized (u : Usage) : Type 0 where
  pub kinds : length u.kinds ≡ length kinds
  pub reads : length u.reads ≡ 8
  pub writes : length u.writes ≡ 8

pub unused_sized : Sized unused
unused_sized = record { kinds = refl; reads = refl; writes = refl }

pub counted_sized : (kind : ℕ → Bool) (masks : Masks) {u : Usage} → Sized u → Sized (counted kind masks u)
counted_sized kind masks s =
    record { kinds = added_length 0 _ _ ∙ s.kinds; reads = added_length 0 _ _ ∙ s.reads; writes = added_length 0 _ _ ∙ s.writes }

pub took_sized : (k : ℕ) {u : Usage} → Sized u → Sized (took_lines k u)
took_sized k s = record { kinds = s.kinds; reads = s.reads; writes = s.writes }

pub trace_sized : (ms : List Machine) → Sized (usage_of ms)
unfolding usage_of
trace_sized [] = unused_sized
trace_sized (m ∷ ms) = took_sized _ (counted_sized (does_kind m) (masks_at m) (trace_sized ms))

counts_none : (n : ℕ) (xs : List ℕ) → length xs ≡ n → plus_counts xs (replicate n 0) ≡ xs
unfolding plus_counts
counts_none n [] e = refl
counts_none zero (x ∷ xs) e = absurd (omega arith)
counts_none (suc n) (x ∷ xs) e = λ i. add-zero x i ∷ counts_none n xs (omega arith) i

pub plus_unused : {u : Usage} → Sized u → plus_usage u unused ≡ u
plus_unused {u} s = λ i. usage_with (add-zero u.taken i) (counts_none _ u.kinds s.kinds i) (counts_none _ u.reads s.reads i) (counts_none _ u.writes s.writes i)

pub unused_plus : {u : Usage} → Sized u → plus_usage unused u ≡ u
unused_plus {u} s = plus_comm unused u ∙ plus_unused s

-- ---- A bound

pub record AtMost (n : ℕ) (u : Usage) : Type 0 where
  pub taken : u.taken ≤ n
  pub kinds : (k : ℕ) → get_or u.kinds k 0 ≤ n
  pub reads : (k : ℕ) → get_or u.reads k 0 ≤ n
  pub writes : (k : ℕ) → get_or u.writes k 0 ≤ n

flag_few : (b : Bool) → flag b ≤ 1
flag_few true = omega arith
flag_few false = omega arith

added_most : (m n : ℕ) (t : ℕ → Bool) (xs : List ℕ) → ((k : ℕ) → get_or xs k 0 ≤ n) → (k : ℕ) → get_or (added_from m t xs) k 0 ≤ n + 1
unfolding added_from
added_most m n t [] h k = omega arith
added_most m n t (x ∷ xs) h zero = omega (arith, h 0, flag_few (t m))
added_most m n t (x ∷ xs) h (suc k) = added_most (suc m) n t xs (λ k. h (suc k)) k

pub counted_most : (kind : ℕ → Bool) (masks : Masks) {n : ℕ} {u : Usage} → AtMost n u → AtMost (n + 1) (counted kind masks u)
counted_most kind masks a =
    record { taken = omega (arith, a.taken); kinds = added_most 0 _ _ _ a.kinds; reads = added_most 0 _ _ _ a.reads; writes = added_most 0 _ _ _ a.writes }

-- so it is with the step of a machine
pub step_most : (m : Machine) {n : ℕ} {u : Usage} → AtMost n u → AtMost (n + 1) (step_counted m u)
step_most m a =
    let c = counted_most (does_kind m) (masks_at m) a in
    record { taken = omega (arith, a.taken, flag_few (takes_line m.state)); kinds = c.kinds; reads = c.reads; writes = c.writes }

pub unused_most : AtMost 0 unused
unused_most = record { taken = omega arith; kinds = zeros (length kinds); reads = zeros 8; writes = zeros 8 }
  where
    zeros : (n k : ℕ) → get_or (replicate n 0) k 0 ≤ 0
    zeros zero k = omega arith
    zeros (suc n) zero = omega arith
    zeros (suc n) (suc k) = zeros n k

pub countable : {n : ℕ} {u : Usage} → n < 18446744073709551615 → AtMost n u → Countable u
countable l a = record { kinds = λ k. omega (arith, a.kinds k); reads = λ k. omega (arith, a.reads k); writes = λ k. omega (arith, a.writes k) }
