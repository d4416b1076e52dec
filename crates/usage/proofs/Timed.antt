-- The ticks of a trace, from its steps and counts.
-- Assumes nothing.
use mathlib.Core.Path.{◌≡◌, refl, sym, ap, subst, ◌∙◌}
use mathlib.Core.Bool.{Bool, true, false, not, ◌&&◌, ◌||◌}
use mathlib.Core.List.{List, [], ◌∷◌}
use Prim.Native.Nat.{ℕ, zero, suc, ◌+◌, ◌<◌}
use native.Mathlib.Nat.{zero-add}
use native.Mathlib.Omega.{arith}
use borrow.Author.Tests.{eqb-true}
use lib.Dec.{eqb}
use lib.ListN.{length, get_or}
use Rattle.word.specs.Word.{pick, flag}
use Rattle.word.specs.Fields.{opcode, e_of, f_of}
use Rattle.kinds.specs.Kinds.{kinds, kind_number}
use Rattle.std.specs.Prelude.{Option}
use Rattle.std.specs.declared.option.Option.TheVariants.{Some, None}
use Rattle.kinds.specs.declared.Kind.{Kind}
use Rattle.isa.specs.Sheet.{kind_at}
use Rattle.machine.specs.Machine.{Machine, takes_line}
use Rattle.machine.specs.Step.{fetched}
use Rattle.usage.specs.Usage.{is_kind, does_kind, added_from, usage_of, ticks_of}
use Rattle.usage.specs.Counting.{ticks_counted}
use Rattle.usage.proofs.Sums.{trace_sized}

-- the place k, from number n on
added_at : (n k : ℕ) (t : ℕ → Bool) (xs : List ℕ) → k < length xs → get_or (added_from n t xs) k 0 ≡ get_or xs k 0 + flag (t (n + k))
unfolding added_from
added_at n k t [] h = absurd (omega arith)
added_at n zero t (x ∷ xs) h = let z : n + 0 ≡ n = omega arith in rw z
added_at n (suc k) t (x ∷ xs) h = let z : n + suc k ≡ suc n + k = omega arith in added_at (suc n) k t xs (omega arith) ∙ ap (λ j. get_or xs k 0 + flag (t j)) (sym z)

-- one tick more where j is one of four numbers
one_more : (j : ℕ) → pick (eqb j 14 || eqb j 15 || eqb j 16 || eqb j 17) 4 3 ≡ 3 + flag (eqb j 14) + flag (eqb j 15) + flag (eqb j 16) + flag (eqb j 17)
one_more j = first (eqb j 14) refl
  where
    Of : ℕ → Type 0
    Of j = pick (eqb j 14 || eqb j 15 || eqb j 16 || eqb j 17) 4 3 ≡ 3 + flag (eqb j 14) + flag (eqb j 15) + flag (eqb j 16) + flag (eqb j 17)

    fourth : eqb j 14 ≡ false → eqb j 15 ≡ false → eqb j 16 ≡ false → (t : Bool) → eqb j 17 ≡ t → Of j
    fourth a b c true e = subst Of (sym (eqb-true j 17 e)) refl
    fourth a b c false e = rw (a, b, c, e)

    third : eqb j 14 ≡ false → eqb j 15 ≡ false → (t : Bool) → eqb j 16 ≡ t → Of j
    third a b true e = subst Of (sym (eqb-true j 16 e)) refl
    third a b false e = fourth a b e (eqb j 17) refl

    second : eqb j 14 ≡ false → (t : Bool) → eqb j 15 ≡ t → Of j
    second a true e = subst Of (sym (eqb-true j 15 e)) refl
    second a false e = third a e (eqb j 16) refl

    first : (t : Bool) → eqb j 14 ≡ t → Of j
    first true e = subst Of (sym (eqb-true j 14 e)) refl
    first false e = second e (eqb j 15) refl

one_tick : (e : Option Kind) → pick (is_kind e 14 || is_kind e 15 || is_kind e 16 || is_kind e 17) 4 3 ≡ 3 + flag (is_kind e 14) + flag (is_kind e 15) + flag (is_kind e 16) + flag (is_kind e 17)
one_tick None = refl
one_tick (Some k) = one_more (kind_number k)

-- a machine that takes a line does no kind
no_tick : (t : Bool) (e : Option Kind) → let is : ℕ → Bool = λ j. not t && is_kind e j in
    pick (is 14 || is 15 || is 16 || is 17) 4 3 ≡ 3 + flag (is 14) + flag (is 15) + flag (is 16) + flag (is 17)
no_tick true e = refl
no_tick false e = one_tick e

pub ticks_counted_lem : (ms : List Machine) → ticks_of ms ≡ ticks_counted (length ms) (usage_of ms).kinds
unfolding ticks_of usage_of
ticks_counted_lem [] = refl
ticks_counted_lem (m ∷ ms) =
    let xs = (usage_of ms).kinds in
    let l : length xs ≡ length kinds = (trace_sized ms).kinds in
    let at : (k : ℕ) → k < length kinds → get_or (added_from 0 (does_kind m) xs) k 0 ≡ get_or xs k 0 + flag (does_kind m k) = λ k h. added_at 0 k (does_kind m) xs (omega arith) ∙ ap (λ j. get_or xs k 0 + flag (does_kind m j)) (zero-add k) in
    omega (arith, ticks_counted_lem ms, no_tick (takes_line m.state) (kind_at (opcode (fetched m)) (e_of (fetched m)) (f_of (fetched m))), at 14 (omega arith), at 15 (omega arith), at 16 (omega arith), at 17 (omega arith))
