-- What is kept when trailing zeros are dropped: what stands after it is zero, and what stands last in it is not.
-- Assumes nothing.
use Prim.Native.Nat.{ℕ, zero, suc, ◌+◌, ◌-◌, ◌*◌, ◌/◌, ◌≤◌, ◌<◌}
use mathlib.Core.Path.{◌≡◌, refl, sym, ◌∙◌}
use mathlib.Core.Bool.{Bool, true, false, ◌&&◌, and-true, and-false}
use mathlib.Core.List.{List}
use native.Mathlib.Nat.{le_antisymm}
use native.Mathlib.Numerals.{add-one}
use native.Mathlib.Omega.{arith}
use native.Mathlib.Decide.{dec_le, dec_lt}
use lib.Dec.{eqb}
use lib.ListN.{length, get_or, take, drop, length-take, length-drop}
use lib.Seq.{get_or-take, get_or-drop}
use borrow.Author.Tests.{eqb-true, eqb-false, eq-eqb, ne_eqb}
use Rattle.word.specs.Word.{add}
use Rattle.machine.specs.Machine.{word_at}
use Rattle.save.specs.Saved.{kept, words_kept, bytes_kept}

-- r of n elements are kept
pub record Cut (f : ℕ → ℕ) (n r : ℕ) : Type 0 where
  pub within : r ≤ n
  pub zeros : (k : ℕ) → r ≤ k → k < n → f k ≡ 0
  pub last : (k : ℕ) → suc k ≡ r → f k ≡ 0 → ⊥

module _ (f : ℕ → ℕ) where
  dropped : (n : ℕ) → f n ≡ 0 → kept f (suc n) ≡ kept f n
  unfolding kept
  dropped n e = rw (eq-eqb _ _ e)

  stays : (n : ℕ) → (f n ≡ 0 → ⊥) → kept f (suc n) ≡ suc n
  unfolding kept
  stays n e = rw (ne_eqb _ _ e)

  none : Cut f 0 (kept f 0)
  unfolding kept
  none = record { within = omega arith; zeros = λ k h l. absurd (omega arith); last = λ k e z. absurd (omega arith) }

  -- more elements, all zero
  pub widen : {m n r : ℕ} → Cut f m r → m ≤ n → ((k : ℕ) → m ≤ k → k < n → f k ≡ 0) → Cut f n r
  widen {m} {n} {r} c h z =
      record {
        within = omega (arith, c);
        zeros = λ k l u. elim (dec_lt k m) [
          | yes p ↦ c.zeros k l p
          | no p ↦ z k (omega arith) u
        ];
        last = c.last;
      }

  at_last : {n : ℕ} → Cut f n (kept f n) → (b : Bool) → eqb (f n) 0 ≡ b → Cut f (suc n) (kept f (suc n))
  at_last {n} c true e =
      let z = eqb-true _ _ e in
      rw (dropped n z) (widen c (omega arith) (λ k l u. let q : k ≡ n = omega arith in rw q z))
  at_last {n} c false e =
      let z = eqb-false _ _ e in
      rw (stays n z)
      (record {
        within = omega arith;
        zeros = λ k h l. absurd (omega arith);
        last = λ k q y. let p : k ≡ n = omega arith in z (rw p at y);
      })

  pub cut : (n : ℕ) → Cut f n (kept f n)
  cut zero = none
  cut (suc n) = at_last (cut n) (eqb (f n) 0) refl

  -- where all from m on is zero, at most m are kept
  pub least : {n r : ℕ} → Cut f n r → (m : ℕ) → ((k : ℕ) → m ≤ k → k < n → f k ≡ 0) → r ≤ m
  least {n} {r} c m z =
      elim (dec_le r m) [
        | yes p ↦ p
        | no p ↦ absurd (c.last (r - 1) (omega arith) (z (r - 1) (omega arith) (omega (arith, c))))
      ]

  -- so no other number is
  pub only : {n r : ℕ} → Cut f n r → r ≡ kept f n
  only {n} {r} c =
      let d = cut n in
      le_antisymm (least c (kept f n) d.zeros) (least d r c.zeros)

-- ---- A loop that tests whether all are zero: of the first i of n none is kept, or not

pub record Tested (f : ℕ → ℕ) (n i : ℕ) (zero : Bool) : Type 0 where
  pub within : i ≤ n
  pub tested : zero ≡ eqb (kept f i) 0

pub test_start : {f : ℕ → ℕ} {n : ℕ} → Tested f n 0 true
unfolding kept
test_start = record { within = omega arith; tested = refl }

test_more : (f : ℕ → ℕ) (n : ℕ) (b : Bool) → eqb (f n) 0 ≡ b → (eqb (kept f n) 0 && b) ≡ eqb (kept f (suc n)) 0
test_more f n true e = rw (dropped f n (eqb-true _ _ e), and-true)
test_more f n false e = rw (stays f n (eqb-false _ _ e), and-false) (sym (ne_eqb (suc n) 0 (λ q. omega arith)))

module _ {f : ℕ → ℕ} {n i : ℕ} {zero : Bool} (t : Tested f n i zero) where
  pub test_turn : i < n → Tested f n (i + 1) (zero && eqb (f i) 0)
  test_turn h = record { within = omega arith; tested = rw (t.tested, add-one i) (test_more f i (eqb (f i) 0) refl) }

  pub test_whole : n ≤ i → zero ≡ eqb (kept f n) 0
  test_whole h = let e : i ≡ n = omega (arith, t) in t.tested ∙ rw e

-- ---- A loop that looks for the end of what is kept: it is that of the first m of n

pub record Narrowed (f : ℕ → ℕ) (n m : ℕ) : Type 0 where
  pub within : m ≤ n
  pub same : kept f m ≡ kept f n

module _ {f : ℕ → ℕ} {n m : ℕ} (t : Narrowed f n m) where
  narrow : {k : ℕ} → k ≤ m → kept f k ≡ kept f m → Narrowed f n k
  narrow h e = record { within = omega (arith, t); same = e ∙ t.same }

  at_end : 0 < m → suc (m - 1) ≡ m
  at_end h = omega arith

  pub narrow_one : 0 < m → f (m - 1) ≡ 0 → Narrowed f n (m - 1)
  narrow_one h e = narrow (omega arith) (sym (dropped f (m - 1) e) ∙ rw (at_end h))

  pub narrow_found : 0 < m → (f (m - 1) ≡ 0 → ⊥) → m - 1 + 1 ≡ kept f n
  narrow_found h z = rw (add-one (m - 1)) (sym (stays f (m - 1) z) ∙ rw (at_end h) t.same)

  pub narrow_none : m ≤ 0 → 0 ≡ kept f n
  unfolding kept
  narrow_none h = let e : m ≡ 0 = omega arith in rw e at t.same

-- what the first m bytes of a list have kept
kept_of_front : (l : List ℕ) (m : ℕ) → m ≤ length l → bytes_kept (take m l) ≡ kept (λ k. get_or l k 0) m
kept_of_front l m h =
    let size : length (take m l) ≡ m = simp length-take (omega arith) in
    let c = rw size at (cut (λ k. get_or (take m l) k 0) (length (take m l))) in
    rw size (only _ (record {
      within = c.within;
      zeros = λ k p u. rw get_or-take at (c.zeros k p u);
      last = λ k e z. let u : k < m = omega (arith, c.within) in c.last k e (rw get_or-take z);
    }))

pub narrow_ends : (l : List ℕ) {m r : ℕ} → Narrowed (λ k. get_or l k 0) (length l) m → r ≡ bytes_kept (take m l) → (r ≡ bytes_kept l) × (r ≤ length l)
narrow_ends l {m} t e =
    let f = λ (k : ℕ). get_or l k 0 in
    let is = e ∙ kept_of_front l m t.within ∙ t.same in
    (is, omega (arith, is, (cut f (length l)).within))

-- a part of a list that ends at m, none of which is kept
module _ (l : List ℕ) {m a : ℕ} (t : Narrowed (λ k. get_or l k 0) (length l) m) (h : a ≤ m)
    (e : eqb (bytes_kept (take (m - a) (drop a l))) 0 ≡ true) where
  part_zero : (i : ℕ) → i < m - a → get_or l (a + i) 0 ≡ 0
  part_zero i u =
      let part = take (m - a) (drop a l) in
      let size : length part ≡ m - a = simp (length-take, length-drop) (omega (arith, t)) in
      let none : bytes_kept part ≡ 0 = eqb-true _ _ e in
      rw (get_or-take (m - a) (drop a l) i 0 u, get_or-drop) at ((cut (λ k. get_or part k 0) (length part)).zeros i (omega arith) (omega arith))

  from_part : (k : ℕ) → a ≤ k → k < m → get_or l k 0 ≡ 0
  from_part k p q = let n : a + (k - a) ≡ k = omega arith in rw n at (part_zero (k - a) (omega arith))

  pub narrow_part : Narrowed (λ k. get_or l k 0) (length l) a
  narrow_part = narrow t h (only _ (widen _ (cut _ a) h from_part))

-- ---- The words of a program

-- a word is zero where both its bytes are
module _ (P : List ℕ) {n r : ℕ} (c : Cut (λ k. get_or P k 0) (2 * n) r) (h : 2 * n ≤ 65536) where
  word : (k : ℕ) → k < n → word_at P (2 * k) ≡ get_or P (2 * k) 0 + 256 * get_or P (2 * k + 1) 0
  word k l = let e : add (2 * k) 1 ≡ 2 * k + 1 = omega arith in rw e

  pub words_cut : Cut (λ k. word_at P (2 * k)) n ((r + 1) / 2)
  words_cut =
      record {
        within = omega (arith, c);
        zeros = λ k l u. rw (word k u, c.zeros (2 * k) (omega (arith, c)) (omega arith), c.zeros (2 * k + 1) (omega arith) (omega arith));
        last = λ k e z.
            let w = rw (word k (omega (arith, c))) at z in
            elim (dec_le r (2 * k + 1)) [
              | yes p ↦ c.last (2 * k) (omega arith) (omega arith)
              | no p ↦ c.last (2 * k + 1) (omega arith) (omega arith)
            ];
      }

pub words_kept_lem : (P : List ℕ) {bytes : ℕ} → length P ≡ 65536 → bytes ≡ bytes_kept P → (bytes + 1) / 2 ≡ words_kept P
words_kept_lem P h b =
    let e : 2 * (length P / 2) ≡ length P = omega arith in
    only _ (words_cut P (rw (e, b) (cut (λ k. get_or P k 0) (length P))) (omega arith))
