-- A memory with the locked bytes of another over it: what it has at each address, and that a store to a byte that is not locked goes alike.
-- Assumes nothing.
use mathlib.Core.Path.{◌≡◌, refl, sym, ap, ◌∙◌}
use mathlib.Core.Bool.{Bool, true, false, not, ◌&&◌}
use mathlib.Core.List.{List, [], ◌∷◌}
use Prim.Native.Nat.{ℕ, zero, suc, ◌+◌, ◌<◌, ◌≤◌}
use native.Mathlib.Nat.{add-zero, zero-add, suc-add, add-suc}
use native.Mathlib.Omega.{arith}
use borrow.Author.Tests.{ltb-true, ltb-false}
use lib.Dec.{eqb, leb, ltb}
use lib.ListN.{length, get_or, set, get_or-eq_default}
use lib.Seq.{ext_get_or}
use Rattle.word.specs.Word.{pick}
use Rattle.machine.specs.declared.State.{State}
use Rattle.machine.specs.Machine.{is_locked}
use Rattle.image.specs.declared.Range.{Range}
use Rattle.claims.specs.Saved.{range_of}
use Rattle.claims_isolation.specs.Locked.{Differ}

module _ (s : State) (Z : List ℕ) where
  -- from address k on
  unfoldable pub over_from : ℕ → List ℕ → List ℕ
  over_from k [] = []
  over_from k (x ∷ xs) = pick (is_locked k s) (get_or Z k 0) x ∷ over_from (suc k) xs

  from_length : (k : ℕ) (D : List ℕ) → length (over_from k D) ≡ length D
  unfolding over_from
  from_length k [] = refl
  from_length k (x ∷ xs) = ap suc (from_length (suc k) xs)

  from_at : (k : ℕ) (D : List ℕ) (i : ℕ) → i < length D → get_or (over_from k D) i 0 ≡ pick (is_locked (k + i) s) (get_or Z (k + i) 0) (get_or D i 0)
  unfolding over_from
  from_at k [] i h = absurd (omega arith)
  from_at k (x ∷ xs) zero h = rw (add-zero k)
  from_at k (x ∷ xs) (suc i) h = from_at (suc k) xs i (omega arith) ∙ rw (suc-add, add-suc)

  from_free : (k : ℕ) (D : List ℕ) (i : ℕ) → is_locked (k + i) s ≡ false → get_or (over_from k D) i 0 ≡ get_or D i 0
  unfolding over_from
  from_free k [] i e = refl
  from_free k (x ∷ xs) zero e =
      let here : is_locked k s ≡ false = ap (λ j. is_locked j s) (sym (add-zero k)) ∙ e in ap (λ t. pick t (get_or Z k 0) x) here
  from_free k (x ∷ xs) (suc i) e = from_free (suc k) xs i (ap (λ j. is_locked j s) (suc-add k i ∙ sym (add-suc k i)) ∙ e)

  from_set : (k : ℕ) (D : List ℕ) (i v : ℕ) → is_locked (k + i) s ≡ false → over_from k (set D i v) ≡ set (over_from k D) i v
  unfolding over_from
  from_set k [] i v e = refl
  from_set k (x ∷ xs) zero v e =
      let here : is_locked k s ≡ false = ap (λ j. is_locked j s) (sym (add-zero k)) ∙ e in ap (λ t. pick t (get_or Z k 0) v ∷ over_from (suc k) xs) here
  from_set k (x ∷ xs) (suc i) v e =
      ap (λ (ys : List ℕ). pick (is_locked k s) (get_or Z k 0) x ∷ ys) (from_set (suc k) xs i v (ap (λ j. is_locked j s) (suc-add k i ∙ sym (add-suc k i)) ∙ e))

  -- a store past the end changes nothing
  from_past : (k : ℕ) (D : List ℕ) (i v : ℕ) → length D ≤ i → over_from k (set D i v) ≡ set (over_from k D) i v
  unfolding over_from
  from_past k [] i v h = refl
  from_past k (x ∷ xs) zero v h = absurd (omega arith)
  from_past k (x ∷ xs) (suc i) v h = ap (λ (ys : List ℕ). pick (is_locked k s) (get_or Z k 0) x ∷ ys) (from_past (suc k) xs i v (omega arith))

  -- ---- From address 0 on

  abbrev pub over : List ℕ → List ℕ
  over D = over_from 0 D

  pub over_length : (D : List ℕ) → length (over D) ≡ length D
  over_length D = from_length 0 D

  pub over_free : (D : List ℕ) (i : ℕ) → is_locked i s ≡ false → get_or (over D) i 0 ≡ get_or D i 0
  over_free D i e = from_free 0 D i (ap (λ j. is_locked j s) (zero-add i) ∙ e)

  pub over_locked : (D : List ℕ) (i : ℕ) → i < length D → is_locked i s ≡ true → get_or (over D) i 0 ≡ get_or Z i 0
  over_locked D i h e =
      from_at 0 D i h ∙ ap (λ j. pick (is_locked j s) (get_or Z j 0) (get_or D i 0)) (zero-add i) ∙ ap (λ t. pick t (get_or Z i 0) (get_or D i 0)) e

  pub over_set : (D : List ℕ) (i v : ℕ) → is_locked i s ≡ false → over (set D i v) ≡ set (over D) i v
  over_set D i v e = from_set 0 D i v (ap (λ j. is_locked j s) (zero-add i) ∙ e)

  pub over_past : (D : List ℕ) (i v : ℕ) → length D ≤ i → over (set D i v) ≡ set (over D) i v
  over_past D i v h = from_past 0 D i v h

  -- it differs from the memory only in locked bytes
  pub over_differs : (D : List ℕ) → Differ s D (over D)
  over_differs D = record { long = sym (over_length D); same = λ k e. sym (over_free D k e) }

-- a memory that has the locked bytes of another over it, and its length, has them
pub over_keeps : (s : State) (D E : List ℕ) → length E ≡ length D → E ≡ over s D E → (a : ℕ) → is_locked a s ≡ true → get_or E a 0 ≡ get_or D a 0
over_keeps s D E l e a h = by_end (ltb a (length E)) refl
  where
    by_end : (t : Bool) → ltb a (length E) ≡ t → get_or E a 0 ≡ get_or D a 0
    by_end true q = ap (λ M. get_or M a 0) e ∙ over_locked s D E a (ltb-true a (length E) q) h
    by_end false q =
        get_or-eq_default E 0 (omega (arith, ltb-false a (length E) q)) ∙ sym (get_or-eq_default D 0 (omega (arith, ltb-false a (length E) q, l)))

-- and a memory that differs so is that
pub differs_over : (s : State) (D E : List ℕ) → Differ s D E → E ≡ over s E D
differs_over s D E d = ext_get_or 0 E (over s E D) (sym d.long ∙ sym (over_length s E D)) (λ i h. at i h (is_locked i s) refl)
  where
    at : (i : ℕ) → i < length E → (t : Bool) → is_locked i s ≡ t → get_or E i 0 ≡ get_or (over s E D) i 0
    at i h t e =
        let here = from_at s E 0 D i (omega (arith, d.long)) ∙ ap (λ j. pick (is_locked j s) (get_or E j 0) (get_or D i 0)) (zero-add i) in
        by_test t e ∙ sym here
      where
        by_test : (t : Bool) → is_locked i s ≡ t → get_or E i 0 ≡ pick (is_locked i s) (get_or E i 0) (get_or D i 0)
        by_test true e = ap (λ t. pick t (get_or E i 0) (get_or D i 0)) (sym e)
        by_test false e = sym (d.same i e) ∙ ap (λ t. pick t (get_or E i 0) (get_or D i 0)) (sym e)

-- which bytes are locked is seen in the range
pub same_locked : (s t : State) → range_of t ≡ range_of s → (a : ℕ) → is_locked a t ≡ is_locked a s
same_locked s t r a = ap (λ (x : Range). not (eqb x.locked 0) && leb x.first a && leb a x.last) r

pub same_range : {s t : State} {D E : List ℕ} → range_of t ≡ range_of s → Differ s D E → Differ t D E
same_range {s} {t} r d = record { long = d.long; same = λ k e. d.same k (sym (same_locked s t r k) ∙ e) }
