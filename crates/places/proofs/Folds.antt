-- The sum over the places: a step more at a place is a step more of its word, wherever it stands.
-- Assumes nothing.
use mathlib.Core.Path.{◌≡◌, refl, sym, ◌∙◌, ap}
use mathlib.Core.List.{List, [], ◌∷◌}
use Prim.Native.Nat.{ℕ, zero, suc, ◌+◌, ◌≤◌, ◌<◌}
use native.Mathlib.Nat.{add-zero, add-suc, suc-add}
use native.Mathlib.Omega.{arith}
use lib.ListN.{length, get_or, set, drop}
use lib.Seq.{drop-cons}
use Rattle.usage.specs.declared.Usage.{Usage}
use Rattle.usage.proofs.Sums.{Sized, unused_sized}
use Rattle.usage.specs.Counting.{counted_steps}
use Rattle.places.specs.Places.{word_of, NoneFrom, folded_from, folded}
use Rattle.places.proofs.Steps.{steps_none, steps_swap, steps_more, steps_sized}

folded_counted : (p : ℕ) (ns : List ℕ) (m v : ℕ) (u : Usage) → folded_from p ns (counted_steps m v u) ≡ counted_steps m v (folded_from p ns u)
unfolding folded_from
folded_counted p [] m v u = refl
folded_counted p (n ∷ ns) m v u =
    ap (λ (x : Usage). folded_from (suc p) ns x) (steps_swap n (word_of p) m v u) ∙ folded_counted (suc p) ns m v (counted_steps n (word_of p) u)

-- a step more at place k
pub folded_more : (p k : ℕ) (ns : List ℕ) (u : Usage) → k < length ns
    → folded_from p (set ns k (get_or ns k 0 + 1)) u ≡ counted_steps 1 (word_of (p + k)) (folded_from p ns u)
unfolding folded_from
folded_more p k [] u l = absurd (omega arith)
folded_more p zero (n ∷ ns) u l =
    ap (λ (x : Usage). folded_from (suc p) ns x) (steps_more n (word_of p) u)
    ∙ folded_counted (suc p) ns 1 (word_of p) (counted_steps n (word_of p) u)
    ∙ ap (λ q. counted_steps 1 (word_of q) (folded_from (suc p) ns (counted_steps n (word_of p) u))) (sym (add-zero p))
folded_more p (suc k) (n ∷ ns) u l =
    folded_more (suc p) k ns (counted_steps n (word_of p) u) (omega arith)
    ∙ ap (λ q. counted_steps 1 (word_of q) (folded_from (suc p) ns (counted_steps n (word_of p) u))) (suc-add p k ∙ sym (add-suc p k))

-- where no step is counted
pub folded_cleared : (p : ℕ) (ns : List ℕ) (u : Usage) → ((k : ℕ) → get_or ns k 0 ≡ 0) → folded_from p ns u ≡ u
unfolding folded_from
folded_cleared p [] u h = refl
folded_cleared p (n ∷ ns) u h =
    ap (λ m. folded_from (suc p) ns (counted_steps m (word_of p) u)) (h 0)
    ∙ ap (λ (x : Usage). folded_from (suc p) ns x) (steps_none (word_of p) u)
    ∙ folded_cleared (suc p) ns u (λ k. h (suc k))

sized_from : (p : ℕ) (ns : List ℕ) {u : Usage} → Sized u → Sized (folded_from p ns u)
unfolding folded_from
sized_from p [] s = s
sized_from p (n ∷ ns) s = sized_from (suc p) ns (steps_sized n (word_of p) s)

pub folded_sized : (ns : List ℕ) → Sized (folded ns)
folded_sized ns = sized_from 0 ns unused_sized

-- ---- From a place on

pub fold_next : (p : ℕ) (ns : List ℕ) (u : Usage) → p < length ns
    → folded_from p (drop p ns) u ≡ folded_from (p + 1) (drop (p + 1) ns) (counted_steps (get_or ns p 0) (word_of p) u)
unfolding folded_from
fold_next p ns u l =
    let one : suc p ≡ p + 1 = omega arith in
    ap (λ (xs : List ℕ). folded_from p xs u) (drop-cons ns p 0 l)
    ∙ ap (λ q. folded_from q (drop q ns) (counted_steps (get_or ns p 0) (word_of p) u)) one

pub fold_skip : (k p : ℕ) (ns : List ℕ) (u : Usage) → p + k ≤ length ns → NoneFrom k p ns
    → folded_from p (drop p ns) u ≡ folded_from (p + k) (drop (p + k) ns) u
fold_skip zero p ns u l h = ap (λ q. folded_from q (drop q ns) u) (sym (add-zero p))
fold_skip (suc k) p ns u l h =
    let here : get_or ns p 0 ≡ 0 = ap (λ q. get_or ns q 0) (sym (add-zero p)) ∙ h 0 (omega arith) in
    let later : NoneFrom k (p + 1) ns = λ j i. ap (λ q. get_or ns q 0) (omega arith) ∙ h (suc j) (omega arith) in
    let last : (p + 1) + k ≡ p + suc k = omega arith in
    fold_next p ns u (omega arith)
    ∙ ap (λ n. folded_from (p + 1) (drop (p + 1) ns) (counted_steps n (word_of p) u)) here
    ∙ ap (λ (x : Usage). folded_from (p + 1) (drop (p + 1) ns) x) (steps_none (word_of p) u)
    ∙ fold_skip k (p + 1) ns u (omega arith) later
    ∙ ap (λ q. folded_from q (drop q ns) u) last
