-- Words of one place count alike, by a test that antt computes over all words.
-- Assumes nothing.
use mathlib.Core.Path.{◌≡◌, refl, sym, ◌∙◌}
use mathlib.Core.Bool.{Bool, true, false}
use Prim.Native.Nat.{ℕ, ◌-◌, ◌/◌, ◌%◌, ◌<◌}
use native.Mathlib.Omega.{arith}
use borrow.Author.Tests.{ltb-true, ltb-false}
use lib.Dec.{T, eqb, ltb, eqb→eq}
use lib.ListN.{length, get_or}
use Rattle.word.specs.Fields.{a_of, b_of}
use Rattle.word.specs.Word.{pick}
use Rattle.word.proofs.Computed.{both, both_split, all, all_at}
use Rattle.kinds.specs.Kinds.{kinds}
use Rattle.isa.specs.Sheet.{kind_at}
use Rattle.usage.specs.declared.Usage.{Usage}
use Rattle.usage.specs.Counting.{raised_by, counted_steps}
use Rattle.places.specs.Places.{place_of, word_of}
use Rattle.places.proofs.Touched.{number_of, reads_by, touched, steps_by, steps_by_lem, steps_past}

-- the weight of the register that words of w's kind write
abbrev weight_of : ℕ → ℕ
weight_of w = get_or touched (number_of w) 0 - get_or touched (number_of w) 0 % 8

-- v is of w's kind, and has its a and b and the register that it writes
is_like : ℕ → ℕ → Bool
is_like v w = both (eqb (number_of v) (number_of w)) (both (eqb (v / 64) (w / 64)) (eqb (v / weight_of w % 8) (w / weight_of w % 8)))

all_alike : T (all 65536 (λ w. is_like (word_of (place_of w)) w))
unfolding all is_like place_of word_of kind_at
all_alike = tt

same_steps : (v w n : ℕ) (u : Usage) → number_of v ≡ number_of w → v / 64 ≡ w / 64 → v / weight_of w % 8 ≡ w / weight_of w % 8 → counted_steps n v u ≡ counted_steps n w u
same_steps v w n u number upper d = go (ltb (number_of w) (length kinds)) refl
  where
    a : a_of v ≡ a_of w
    a = omega (arith, upper)

    b : b_of v ≡ b_of w
    b = omega (arith, upper)

    go : (s : Bool) → ltb (number_of w) (length kinds) ≡ s → counted_steps n v u ≡ counted_steps n w u
    go true e =
        let l = ltb-true _ _ e in
        sym (steps_by_lem n v u (omega (arith, number, l)))
        ∙ (λ i. steps_by (number i) n v u)
        ∙ (λ i. raised_by n (eqb (number_of w)) (reads_by (get_or touched (number_of w) 0 % 8) (a i) (b i)) (λ j. pick (eqb (weight_of w) 0) false (eqb (d i) j)) u)
        ∙ steps_by_lem n w u l
    go false e = let l = ltb-false _ _ e in sym (steps_past n v u (omega (arith, number, l))) ∙ steps_past n w u l

like : (v w n : ℕ) (u : Usage) → T (is_like v w) → counted_steps n v u ≡ counted_steps n w u
unfolding is_like
like v w n u t =
    let p = both_split (eqb (number_of v) (number_of w)) _ t in
    let q = both_split (eqb (v / 64) (w / 64)) _ p.1 in
    same_steps v w n u (eqb→eq _ _ p.0) (eqb→eq _ _ q.0) (eqb→eq _ _ q.1)

pub counted_alike : (w n : ℕ) (u : Usage) → w < 65536 → counted_steps n (word_of (place_of w)) u ≡ counted_steps n w u
counted_alike w n u l = like (word_of (place_of w)) w n u (all_at 65536 (λ w. is_like (word_of (place_of w)) w) all_alike w l)
