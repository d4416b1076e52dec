-- The masks have just the registers that they are said to have.
-- Assumes nothing.
use mathlib.Core.Path.{◌≡◌, refl, ap, ap₂, subst, ◌∙◌}
use mathlib.Core.Bool.{Bool, true, false, not, ◌&&◌, ◌||◌}
use Prim.Native.Nat.{ℕ, ◌^◌, ◌<◌}
use native.Mathlib.Omega.{arith}
use lib.Dec.{T, eqb, eqb→eq}
use Rattle.word.specs.Fields.{Bits, field, opcode, e_of, f_of}
use Rattle.word.specs.Word.{pick}
use Rattle.word.proofs.Computed.{all}
use Rattle.word.proofs.Tests.{clash, is_true}
use Rattle.kinds.specs.Kinds.{kinds}
use Rattle.kinds.specs.declared.Kind.TheVariants.{And}
use lib.ListN.{length, get_or}
use Rattle.kinds.specs.declared.Kind.{Kind}
use Rattle.isa.specs.declared.Instruction.{Instruction}
use Rattle.std.specs.Prelude.{Option}
use Rattle.std.specs.declared.option.Option.TheVariants.{Some, None}
use Rattle.isa.specs.Sheet.{sheet_line, kind_at}
use Rattle.isa.specs.Instructions.{Register, a_register, b_register, d_register, instruction, parts_of, read_as, read_of}
use Rattle.isa.specs.Masks.{in_mask, register_mask, reads_destination, reads_of, masks_as, masks_of}
use Rattle.isa.proofs.Every.{every}
use Rattle.claims_sheet.specs.Masks.{has, is_used, Exact}
use Rattle.claims_sheet.proofs.Touched.{mask_of, in_one, in_or}

abbrev bits_of : Kind → Register → Bits
bits_of k a_register = (sheet_line k).format.a
bits_of k b_register = (sheet_line k).format.b
bits_of k d_register = (sheet_line k).format.d

-- a part that a format has is of three bits
abbrev right : Bits → Bool
right p = pick (has p) (eqb p.count 3) true

parts_right : (k : Kind) (p : Register) → T (right (bits_of k p))
unfolding all
parts_right k p = every (λ k. right (bits_of k p)) (at_each p) k
  where
    at_each : (p : Register) → T (all (length kinds) (λ n. right (bits_of (get_or kinds n And) p)))
    at_each a_register = tt
    at_each b_register = tt
    at_each d_register = tt

-- the d that is used is there
d_there : (k : Kind) → T (pick (reads_destination k) (has (bits_of k d_register)) true)
unfolding all
d_there = every (λ k. pick (reads_destination k) (has (bits_of k d_register)) true) tt

in_part : (p : Bits) (w j : ℕ) → T (right p) → j < 8 → in_mask (register_mask p w) j ≡ (has p && eqb (field p w) j)
unfolding mask_of
in_part p w j t h = go (eqb p.count 0) refl t
  where
    go : (z : Bool) → eqb p.count 0 ≡ z → T (pick (not z) (eqb p.count 3) true) → in_mask (pick z 0 (2 ^ field p w)) j ≡ (not z && eqb (field p w) j)
    go true e t = in_one None j tt h
    go false e t = in_one (Some (field p w)) j (let c : p.count ≡ 3 = eqb→eq _ _ t in rw c (omega arith)) h

module _ (k : Kind) (w j : ℕ) (h : j < 8) where
  in_its : (p : Register) → in_mask (register_mask (bits_of k p) w) j ≡ (has (bits_of k p) && eqb (field (bits_of k p) w) j)
  in_its p = in_part (bits_of k p) w j (parts_right k p) h

  in_d : in_mask (pick (reads_destination k) (register_mask (bits_of k d_register) w) 0) j ≡ (reads_destination k && eqb (field (bits_of k d_register) w) j)
  unfolding mask_of
  in_d = go (reads_destination k) (d_there k)
    where
      go : (t : Bool) → T (pick t (has (bits_of k d_register)) true) → in_mask (pick t (register_mask (bits_of k d_register) w) 0) j ≡ (t && eqb (field (bits_of k d_register) w) j)
      go true t = in_its d_register ∙ ap (λ b. b && eqb (field (bits_of k d_register) w) j) (is_true (has (bits_of k d_register)) t)
      go false t = in_one None j tt h

  in_reads : in_mask (reads_of k w) j ≡ (let i = parts_of (sheet_line k) k w in is_used i j a_register || is_used i j b_register || is_used i j d_register)
  in_reads =
      in_or _ (pick (reads_destination k) (register_mask (bits_of k d_register) w) 0) j
      ∙ ap₂ ◌||◌ (in_or (register_mask (bits_of k a_register) w) (register_mask (bits_of k b_register) w) j ∙ ap₂ ◌||◌ (in_its a_register) (in_its b_register)) in_d

pub exact : (w : ℕ) (i : Instruction) → read_of w ≡ instruction i → (j : ℕ) → j < 8 → Exact (masks_of w) i j
unfolding read_of masks_of
exact w i e j h = go (kind_at (opcode w) (e_of w) (f_of w)) e
  where
    go : (x : Option Kind) → read_as x w ≡ instruction i → Exact (masks_as x w) i j
    go (Some k) e =
        let z : parts_of (sheet_line k) k w ≡ i = cc in
        subst (λ (i : Instruction). Exact (masks_as (Some k) w) i j) z (record { reads = in_reads k w j h; writes = in_its k w j h d_register })
    go None e = clash (cc)
