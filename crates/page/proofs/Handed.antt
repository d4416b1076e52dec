-- The trims as a page is handed them: the lists that it is lent are theirs.
-- Assumes nothing.
use mathlib.Core.Path.{◌≡◌, refl, sym, ap, subst, ◌∙◌}
use mathlib.Core.List.{List, [], ◌∷◌, ◌++◌, map, append_assoc}
use Prim.Native.Nat.{ℕ, zero, suc, ◌+◌, ◌*◌, ◌≤◌}
use native.Mathlib.Nat.{suc-mul, add-mul, add-zero}
use native.Mathlib.Omega.{arith}
use lib.ListN.{length, get_or, drop, replicate, length-take, length-drop, length-map, take-append-drop, drop_of_length-le}
use lib.Seq.{drop-drop, drop-cons}
use Rattle.usage.specs.Usage.{unused}
use Rattle.run.specs.Runs.{no_journal, Given, left, stopped, CountedLeft}
use Rattle.page.specs.Pages.{up_from, part, total_steps, rejoined}
use Rattle.page.specs.Parts.{Each, Joins}

-- a trim that has not run
abbrev pub untouched : Given → CountedLeft
untouched t = record { left = left (stopped 0 0 0) t.state t.P t.D t.I t.O t.log no_journal; usage = unused; ticks = 0 }

up_long : (k m : ℕ) → length (up_from k m) ≡ m
unfolding up_from
up_long k zero = refl
up_long k (suc m) = ap suc (up_long (suc k) m)

pub each_long : {A : Type 0} (f : ℕ → A) (k m : ℕ) → length (map f (up_from k m)) ≡ m
each_long f k m = length-map (up_from k m) f ∙ up_long k m

-- ---- A list in parts

module _ (xs : List ℕ) (n : ℕ) (f : CountedLeft → List ℕ) (h : ℕ → CountedLeft) (is : (k : ℕ) → f (h k) ≡ part n k xs) where
  -- from part k on
  in_parts : (k m : ℕ) → drop (k * n) xs ≡ rejoined f (map h (up_from k m)) ++ drop ((k + m) * n) xs
  unfolding up_from rejoined
  in_parts k zero = ap (λ j. drop (j * n) xs) (sym (add-zero k))
  in_parts k (suc m) =
      let e : (suc k + m) ≡ k + suc m = omega arith in
      sym (take-append-drop n (drop (k * n) xs))
      ∙ (λ j. sym (is k) j ++ (drop-drop n (k * n) xs ∙ ap (λ i. drop i xs) (sym (suc-mul k n))) j)
      ∙ ap (λ l. f (h k) ++ l) (in_parts (suc k) m ∙ ap (λ j. rejoined f (map h (up_from (suc k) m)) ++ drop (j * n) xs) e)
      ∙ sym (append_assoc (f (h k)) (rejoined f (map h (up_from (suc k) m))) (drop ((k + suc m) * n) xs))

  of_length : (k m : ℕ) → (k + m) * n ≤ length xs → Each (λ c. length (f c) ≡ n) (map h (up_from k m))
  unfolding up_from
  of_length k zero l = tt
  of_length k (suc m) l =
      let e : (suc k + m) ≡ k + suc m = omega arith in
      let fits : k * n + n ≤ length xs = omega (arith, add-mul k (suc m) n, suc-mul m n, l) in
      (ap length (is k) ∙ length-take n (drop (k * n) xs) ∙ omega (arith, length-drop (k * n) xs), of_length (suc k) m (rw (← e) at l))

  pub joins_parts : (m : ℕ) → m * n ≤ length xs → Joins n f (drop (m * n) xs) (map h (up_from 0 m)) xs
  joins_parts m l =
      let e : 0 + m ≡ m = omega arith in
      let z : 0 * n ≡ 0 = omega arith in
      record {
        sized = of_length 0 m (rw (← e) at l);
        is = ap (λ j. drop j xs) (sym z) ∙ in_parts 0 m ∙ ap (λ j. rejoined f (map h (up_from 0 m)) ++ drop (j * n) xs) e;
      }

  -- the whole of it
  pub joins_all : (m : ℕ) → length xs ≡ m * n → Joins n f [] (map h (up_from 0 m)) xs
  joins_all m l = subst (λ past. Joins n f past (map h (up_from 0 m)) xs) (drop_of_length-le xs {i = m * n} (omega arith)) (joins_parts m (omega arith))

-- ---- Arrays of one of each

module _ {A : Type 0} (xs : List A) (d : A) (f : CountedLeft → A) (h : ℕ → CountedLeft) (is : (k : ℕ) → f (h k) ≡ get_or xs k d) where
  in_places : (k m : ℕ) → k + m ≤ length xs → drop k xs ≡ map f (map h (up_from k m)) ++ drop (k + m) xs
  unfolding up_from
  in_places k zero l = ap (λ j. drop j xs) (sym (add-zero k))
  in_places k (suc m) l =
      let e : suc k + m ≡ k + suc m = omega arith in
      drop-cons xs k d (omega arith)
      ∙ (λ j. sym (is k) j ∷ (in_places (suc k) m (omega arith) ∙ ap (λ i. map f (map h (up_from (suc k) m)) ++ drop i xs) e) j)

  pub places_all : (m : ℕ) → m ≤ length xs → xs ≡ map f (map h (up_from 0 m)) ++ drop m xs
  places_all m l = let e : 0 + m ≡ m = omega arith in in_places 0 m (omega arith) ∙ ap (λ i. map f (map h (up_from 0 m)) ++ drop i xs) e

-- the same at each place
pub same_all : {A : Type 0} (a : A) (f : CountedLeft → A) (h : ℕ → CountedLeft) → ((k : ℕ) → f (h k) ≡ a) → (k m r : ℕ) → replicate (m + r) a ≡ map f (map h (up_from k m)) ++ replicate r a
unfolding up_from
same_all a f h is k zero r = let e : 0 + r ≡ r = omega arith in rw e
same_all a f h is k (suc m) r =
    let e : suc m + r ≡ suc (m + r) = omega arith in ap (λ n. replicate n a) e ∙ (λ j. sym (is k) j ∷ same_all a f h is (suc k) m r j)

-- ---- What holds of each

pub each_of : {A : Type 0} (Q : A → Type 0) (f : ℕ → A) → ((k : ℕ) → Q (f k)) → (k m : ℕ) → Each Q (map f (up_from k m))
unfolding up_from
each_of Q f q k zero = tt
each_of Q f q k (suc m) = (q k, each_of Q f q (suc k) m)

pub no_steps : (h : ℕ → Given) (k m : ℕ) → total_steps (map (λ j. untouched (h j)) (up_from k m)) ≡ 0
unfolding up_from total_steps
no_steps h k zero = refl
no_steps h k (suc m) = omega (arith, no_steps h (suc k) m)
