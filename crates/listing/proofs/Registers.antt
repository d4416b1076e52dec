-- The registers of an instruction that was read are R0 to R7; and those of a mask, one by one.
-- Assumes nothing.
use Prim.Native.Nat.{ℕ, ◌+◌, ◌-◌, ◌/◌, ◌%◌, ◌^◌, ◌<◌, ◌≤◌}
use mathlib.Core.Bool.{Bool, true, false}
use mathlib.Core.Path.{◌≡◌, sym, subst}
use mathlib.Core.List.{List, [], ◌∷◌}
use native.Mathlib.Nat.{mod-lt}
use native.Mathlib.Omega.{arith}
use borrow.Author.Tests.{eq-eqb, ne_eqb}
use lib.Dec.{T, eqb, leb, leb→le, eqb→eq}
use lib.ListN.{get_or}
use lib.Pow.{pow_mono, pow_pos}
use Rattle.word.specs.Fields.{Bits, field}
use Rattle.word.proofs.Computed.{both, both_split, all, all_at}
use Rattle.word.proofs.Tests.{clash}
use Rattle.kinds.specs.declared.Kind.{Kind}
use Rattle.isa.specs.declared.Instruction.{Instruction}
use Rattle.std.specs.Prelude.{Option}
use Rattle.std.specs.declared.option.Option.TheVariants.{Some, None}
use Rattle.isa.specs.Sheet.{sheet_line, kind_at}
use Rattle.isa.specs.Instructions.{instruction, parts_of, read_as, read_of}
use Rattle.isa.specs.Masks.{in_mask}
use Rattle.isa.proofs.Every.{every}
use Rattle.printing.specs.Writing.{Wrote}
use Rattle.printing.proofs.Writing.{◌then◌, wrote_nothing}
use Rattle.listing.specs.Listing.{register_text, register_in}
use Rattle.listing.specs.Parts.{Registers}

-- ---- Of an instruction

-- every register of the sheet has three bits at most
few : Bits → Bool
few p = leb p.count 3

few_bits : (k : Kind) → T (both (few (sheet_line k).format.a) (both (few (sheet_line k).format.b) (few (sheet_line k).format.d)))
unfolding few all
few_bits k = every (λ k. both (few (sheet_line k).format.a) (both (few (sheet_line k).format.b) (few (sheet_line k).format.d))) tt k

below_8 : (p : Bits) (w : ℕ) → T (few p) → field p w < 8
unfolding few
below_8 p w t =
    let low : w / 2 ^ p.lowest % 2 ^ p.count < 2 ^ p.count = mod-lt _ (pow_pos p.count) in
    let most : 2 ^ p.count ≤ 2 ^ 3 = pow_mono (leb→le _ _ t) in
    omega arith

entry_registers : (x : Option Kind) (w : ℕ) {i : Instruction} → instruction i ≡ read_as x w → Registers i
entry_registers None w e = clash (cc)
entry_registers (Some k) w {i} e =
    let f = (sheet_line k).format in
    let t = both_split (few f.a) _ (few_bits k) in
    let u = both_split (few f.b) _ t.1 in
    let same : i ≡ parts_of (sheet_line k) k w = cc in
    subst Registers (sym same) (record { a = below_8 f.a w t.0; b = below_8 f.b w u.0; d = below_8 f.d w u.1 })

pub read_registers : (w : ℕ) {i : Instruction} → instruction i ≡ read_of w → Registers i
unfolding read_of
read_registers w e = entry_registers (kind_at _ _ _) w e

-- ---- Of a mask

module _ (mask k : ℕ) where
  bit_is : (b : Bool) → eqb (mask / 2 ^ k % 2) 1 ≡ b → in_mask mask k ≡ b
  bit_is b h = let e : k + 1 - k ≡ 1 = omega arith in rw e h

  pub in_mask_lem : {t u r : List ℕ} → mask / 2 ^ k % 2 ≡ 1 → Wrote 1 (32 ∷ []) t u → Wrote 2 (register_text k) u r → Wrote 3 (register_in mask k) t r
  in_mask_lem e v w = rw (bit_is true (eq-eqb _ _ e)) (v then w)

  pub not_in_mask : {t : List ℕ} → (mask / 2 ^ k % 2 ≡ 1 → ⊥) → Wrote 3 (register_in mask k) t t
  not_in_mask n = rw (bit_is false (ne_eqb _ _ n)) wrote_nothing

abbrev pub eight : List ℕ
eight = 0 ∷ 1 ∷ 2 ∷ 3 ∷ 4 ∷ 5 ∷ 6 ∷ 7 ∷ []

pub eight_at : (k : ℕ) → k < 8 → get_or eight k 0 ≡ k
unfolding all
eight_at k h = eqb→eq _ _ (all_at 8 (λ n. eqb (get_or eight n 0) n) tt k h)
