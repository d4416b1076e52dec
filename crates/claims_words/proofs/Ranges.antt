-- The writer's test is the statement's InRange.
-- Assumes nothing.
use mathlib.Core.Path.{◌≡◌, sym, subst}
use mathlib.Core.Bool.{Bool, ◌||◌}
use mathlib.Core.Logic.{⊎_elim}
use Prim.Native.Nat.{ℕ, ◌^◌, ◌<◌}
use native.Mathlib.Omega.{arith}
use lib.Dec.{T, eqb, ltb}
use lib.IntN.{ℤ}
use Rattle.word.specs.Fields.{Bits}
use Rattle.word.specs.Word.{pick}
use Rattle.word.proofs.Computed.{both, both_split, all}
use Rattle.kinds.specs.declared.Kind.{Kind}
use Rattle.isa.specs.declared.Instruction.{Instruction}
use Rattle.isa.specs.Sheet.{Number, signed_n, unsigned_n, sheet_line}
use Rattle.isa.specs.Instructions.{in_range, fits}
use Rattle.isa.proofs.Every.{every}
use Rattle.claims_words.specs.Instructions.{RegisterRange, Range, InRange}
use Rattle.claims_words.proofs.Decides.{Decides, decides_eq, decides_lt, decides_le_z, decides_lt_z, decides_and, decides_or}
use Rattle.word.proofs.Tests.{is_true}

-- every register of the sheet has 3 bits or none
threefold : Bits → Bool
threefold p = eqb p.count 0 || eqb p.count 3

registers : (k : Kind) → T (both (threefold (sheet_line k).format.a) (both (threefold (sheet_line k).format.b) (threefold (sheet_line k).format.d)))
unfolding threefold all
registers k = every (λ k. both (threefold (sheet_line k).format.a) (both (threefold (sheet_line k).format.b) (threefold (sheet_line k).format.d))) tt k

register : (p : Bits) (x : ℕ) → T (threefold p) → Decides (ltb x (2 ^ p.count)) (RegisterRange p x)
unfolding threefold
register p x t =
    ⊎_elim (λ e. at 0 e (λ l. let h : x < 1 = (decides_lt x 1).0 l in omega arith, λ e. (decides_lt x 1).1 (omega arith))) (λ e. at 3 e (decides_lt x 8))
    ((decides_or (decides_eq p.count 0) (decides_eq p.count 3)).0 (is_true _ t))
  where
    at : (c : ℕ) → p.count ≡ c → Decides (ltb x (2 ^ c)) (pick (eqb c 0) (x ≡ 0) (x < 8)) → Decides (ltb x (2 ^ p.count)) (RegisterRange p x)
    at c e = subst (λ (c : ℕ). Decides (ltb x (2 ^ c)) (pick (eqb c 0) (x ≡ 0) (x < 8))) (sym e)

range : (z : Number) (p : Bits) (n : ℤ) → Decides (in_range z p n) (Range z p n)
range signed_n p n = decides_and (decides_le_z _ n) (decides_lt_z n _)
range unsigned_n p n = decides_and (decides_le_z _ n) (decides_lt_z n _)

pub stays_in_range : (i : Instruction) → Decides (fits (sheet_line i.kind) i) (InRange i)
stays_in_range i =
    let k = i.kind in
    let f = (sheet_line k).format in
    let t = both_split (threefold f.a) _ (registers k) in
    let u = both_split (threefold f.b) _ t.1 in
    let d =
    decides_and (decides_and (decides_and (register f.a i.a t.0) (register f.b i.b u.0)) (register f.d i.d u.1))
    (range (sheet_line k).number f.n i.n) in (
      λ e. let h = d.0 e in record { a = h.0.0.0; b = h.0.0.1; d = h.0.1; n = h.1 },
      λ h. d.1 (((h.a, h.b), h.d), h.n),
    )
