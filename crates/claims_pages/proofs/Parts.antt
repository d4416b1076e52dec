-- A list in parts: the length of a part, the parts of lists joined, and one of each trim.
-- Assumes nothing.
use mathlib.Core.Path.{◌≡◌, refl, sym, ap, ◌∙◌}
use mathlib.Core.List.{List, [], ◌++◌, map, append_assoc, append-nil}
use Prim.Native.Nat.{ℕ, zero, suc, ◌+◌, ◌*◌, ◌<◌, ◌≤◌}
use native.Mathlib.Nat.{zero-add, add-zero, zero-mul, suc-mul, mul-le-mul_right, mul-div-le}
use native.Mathlib.Omega.{arith}
use lib.ListN.{length, get_or, take, drop, length-append, length-take, length-drop, take-append-drop, drop_of_length-le}
use lib.Seq.{take_at, drop_at, drop-append-add, drop-drop}
use Rattle.run.specs.Runs.{CountedLeft}
use Rattle.page.specs.Pages.{PageGiven, up_from, part, places, rejoined}
use Rattle.page.specs.Parts.{Whole}

part_long : (n m k : ℕ) (xs : List ℕ) → k < m → m * n ≤ length xs → length (part n k xs) ≡ n
part_long n m k xs h l =
    length-take n (drop (k * n) xs)
    ∙ omega (arith, length-drop (k * n) xs, suc-mul k n, mul-le-mul_right n h, l)

-- the lengths of what trim k is handed
pub record Long (g : PageGiven) (k : ℕ) : Type 0 where
  pub P : length (part 65536 k g.P) ≡ 65536
  pub D : length (part 65536 k g.D) ≡ 65536
  pub I : length (part 256 k g.I) ≡ 256
  pub O : length (part 256 k g.O) ≡ 256
  pub log : length (part (places g) k g.log) ≡ places g

pub handed_long : (g : PageGiven) → Whole g.count g.P g.D g.I g.O → (k : ℕ) → k < g.count → Long g k
handed_long g w k h =
    let n = g.count in
    record {
      P = part_long 65536 n k g.P h (omega (arith, w.programs));
      D = part_long 65536 n k g.D h (omega (arith, w.memories));
      I = part_long 256 n k g.I h (omega (arith, w.inputs));
      O = part_long 256 n k g.O h (omega (arith, w.outputs));
      log = part_long (places g) n k g.log h (mul-div-le (length g.log) n);
    }

-- ---- Lists of each, joined

module _ (n : ℕ) (f : CountedLeft → List ℕ) (h : ℕ → CountedLeft) where
  abbrev joined : ℕ → ℕ → List ℕ
  joined i m = rejoined f (map h (up_from i m))

  abbrev Sized : ℕ → ℕ → Type 0
  Sized i m = (j : ℕ) → i ≤ j → j < i + m → length (f (h j)) ≡ n

  later : (i m : ℕ) → Sized i (suc m) → Sized (suc i) m
  later i m s j a b = s j (omega arith) (omega arith)

  long_from : (i m : ℕ) → Sized i m → length (joined i m) ≡ m * n
  unfolding rejoined up_from
  long_from i zero s = sym (zero-mul n)
  long_from i (suc m) s =
      length-append (f (h i)) (joined (suc i) m)
      ∙ omega (arith, s i (omega arith) (omega arith), long_from (suc i) m (later i m s), suc-mul m n)

  part_joined : (past : List ℕ) (i m k : ℕ) → Sized i m → k < m → part n k (joined i m ++ past) ≡ f (h (i + k))
  unfolding rejoined up_from
  part_joined past i zero k s l = absurd (omega arith)
  part_joined past i (suc m) zero s l =
      let first = s i (omega arith) (omega arith) in
      ap (λ j. take n (drop j (joined i (suc m) ++ past))) (zero-mul n)
      ∙ ap (take n) (append_assoc (f (h i)) (joined (suc i) m) past)
      ∙ take_at (f (h i)) (joined (suc i) m ++ past) n first
      ∙ ap (λ j. f (h j)) (sym (add-zero i))
  part_joined past i (suc m) (suc k) s l =
      let first = s i (omega arith) (omega arith) in
      let place : suc k * n ≡ length (f (h i)) + k * n = omega (arith, first, suc-mul k n) in
      let next : suc i + k ≡ i + suc k = omega arith in
      ap (λ j. take n (drop j (joined i (suc m) ++ past))) place
      ∙ ap (λ xs. take n (drop (length (f (h i)) + k * n) xs)) (append_assoc (f (h i)) (joined (suc i) m) past)
      ∙ ap (take n) (drop-append-add (f (h i)) (joined (suc i) m ++ past) (k * n))
      ∙ part_joined past (suc i) m k (later i m s) (omega arith)
      ∙ ap (λ j. f (h j)) next

  -- from the first on
  module _ (m : ℕ) (s : (j : ℕ) → j < m → length (f (h j)) ≡ n) where
    sized : Sized 0 m
    sized j a b = s j (omega arith)

    pub joined_long : length (joined 0 m) ≡ m * n
    joined_long = long_from 0 m sized

    pub past_joined : (past : List ℕ) → drop (m * n) (joined 0 m ++ past) ≡ past
    past_joined past = drop_at (joined 0 m) past (m * n) joined_long

    pub part_is : (past : List ℕ) (k : ℕ) → k < m → part n k (joined 0 m ++ past) ≡ f (h k)
    part_is past k l = part_joined past 0 m k sized l ∙ ap (λ j. f (h j)) (zero-add k)

    -- with nothing past them
    pub part_of_all : (k : ℕ) → k < m → part n k (joined 0 m) ≡ f (h k)
    part_of_all k l = ap (part n k) (sym (append-nil (joined 0 m))) ∙ part_is [] k l

  -- lists that are the parts of xs join to it again
  again_from : (xs : List ℕ) (i m : ℕ) → ((j : ℕ) → i ≤ j → j < i + m → f (h j) ≡ part n j xs) → joined i m ++ drop ((i + m) * n) xs ≡ drop (i * n) xs
  unfolding rejoined up_from
  again_from xs i zero is = ap (λ j. drop (j * n) xs) (add-zero i)
  again_from xs i (suc m) is =
      let next : i + suc m ≡ suc i + m = omega arith in
      let first = is i (omega arith) (omega arith) in
      let others = again_from xs (suc i) m (λ j a b. is j (omega arith) (omega arith)) in
      append_assoc (f (h i)) (joined (suc i) m) (drop ((i + suc m) * n) xs)
      ∙ ap (λ j. f (h i) ++ (joined (suc i) m ++ drop (j * n) xs)) next
      ∙ (λ k. first k ++ others k)
      ∙ ap (λ j. part n i xs ++ drop j xs) (suc-mul i n)
      ∙ ap (λ ys. part n i xs ++ ys) (sym (drop-drop n (i * n) xs))
      ∙ take-append-drop n (drop (i * n) xs)

  pub joins_again : (xs : List ℕ) (m : ℕ) → length xs ≡ m * n → ((j : ℕ) → j < m → f (h j) ≡ part n j xs) → joined 0 m ≡ xs
  joins_again xs m l is =
      let none : drop ((0 + m) * n) xs ≡ [] = drop_of_length-le xs {i = (0 + m) * n} (omega (arith, l, ap (λ k. k * n) (zero-add m))) in
      sym (append-nil (joined 0 m))
      ∙ ap (λ ys. joined 0 m ++ ys) (sym none)
      ∙ again_from xs 0 m (λ j a b. is j (omega arith))
      ∙ ap (λ k. drop k xs) (zero-mul n)

-- ---- One of each

module _ {A : Type 0} (f : CountedLeft → A) (h : ℕ → CountedLeft) (past : List A) where
  each_at : (i m k : ℕ) (d : A) → k < m → get_or (map f (map h (up_from i m)) ++ past) k d ≡ f (h (i + k))
  unfolding up_from
  each_at i zero k d l = absurd (omega arith)
  each_at i (suc m) zero d l = ap (λ j. f (h j)) (sym (add-zero i))
  each_at i (suc m) (suc k) d l = let next : suc i + k ≡ i + suc k = omega arith in each_at (suc i) m k d (omega arith) ∙ ap (λ j. f (h j)) next

  pub one_is : (m k : ℕ) (d : A) → k < m → get_or (map f (map h (up_from 0 m)) ++ past) k d ≡ f (h k)
  one_is m k d l = each_at 0 m k d l ∙ ap (λ j. f (h j)) (zero-add k)

  pub past_each : (i m : ℕ) → drop m (map f (map h (up_from i m)) ++ past) ≡ past
  unfolding up_from
  past_each i zero = refl
  past_each i (suc m) = past_each (suc i) m
