-- The unassigned words, by one test over opcode, e and f.
-- Assumes nothing.
use mathlib.Core.Path.{◌≡◌, refl, sym, ◌∙◌}
use mathlib.Core.Bool.{Bool, beq, ◌&&◌, ◌||◌}
use mathlib.Core.Logic.{◌⊎◌, ◌↔◌}
use Prim.Native.Nat.{ℕ, ◌<◌}
use native.Mathlib.Omega.{arith}
use lib.Dec.{T, eqb, leb}
use Rattle.word.specs.Fields.{opcode, e_of, f_of}
use Rattle.word.proofs.Computed.{all, all_at}
use Rattle.word.proofs.Tests.{clash, never, same_test}
use Rattle.std.specs.Prelude.{Option, is_none}
use Rattle.std.specs.declared.option.Option.TheVariants.{Some, None}
use Rattle.kinds.specs.declared.Kind.{Kind}
use Rattle.isa.specs.Sheet.{kind_at}
use Rattle.isa.specs.Instructions.{unassigned, read_as, read_of}
use Rattle.claims_words.specs.Instructions.{Unassigned}
use Rattle.claims_words.proofs.Decides.{Decides, decides_eq, decides_le, decides_and, decides_or}

-- the statement, as a test of opcode and f
listed : ℕ → ℕ → Bool
listed op f = (eqb op 1 && (eqb f 2 || (eqb f 6 || eqb f 7))) || ((eqb op 11 && (eqb f 3 || (eqb f 6 || eqb f 7))) || ((eqb op 12 && leb 4 f) || leb 13 op))

test : ℕ → ℕ → ℕ → Bool
test op e f = beq (is_none (kind_at op e f)) (listed op f)

tested : T (all 16 (λ op. all 2 (λ e. all 8 (λ f. test op e f))))
unfolding all test listed kind_at
tested = tt

agrees : (w : ℕ) → w < 65536 → is_none (kind_at (opcode w) (e_of w) (f_of w)) ≡ listed (opcode w) (f_of w)
unfolding test
agrees w h =
    same_test _ _
    (all_at 8 (λ f. test (opcode w) (e_of w) f)
    (all_at 2 (λ e. all 8 (λ f. test (opcode w) e f))
    (all_at 16 (λ op. all 2 (λ e. all 8 (λ f. test op e f))) tested (opcode w) (omega arith)) (e_of w) (omega arith)) (f_of w) (omega arith))

says : (w : ℕ) → Decides (listed (opcode w) (f_of w)) (Unassigned w)
unfolding listed
says w =
    decides_or (gap 1 2)
    (decides_or (gap 11 3) (decides_or (decides_and (decides_eq (opcode w) 12) (decides_le 4 (f_of w))) (decides_le 13 (opcode w))))
  where
    -- the opcode op has no kind at f, 6 and 7
    gap : (op f : ℕ) → Decides (eqb (opcode w) op && (eqb (f_of w) f || (eqb (f_of w) 6 || eqb (f_of w) 7))) ((opcode w ≡ op) × ((f_of w ≡ f) ⊎ (f_of w ≡ 6) ⊎ (f_of w ≡ 7)))
    gap op f = decides_and (decides_eq (opcode w) op) (decides_or (decides_eq (f_of w) f) (decides_or (decides_eq (f_of w) 6) (decides_eq (f_of w) 7)))

reads : (x : Option Kind) (w : ℕ) → Decides (is_none x) (read_as x w ≡ unassigned)
reads None w = (λ e. refl, λ e. refl)
reads (Some k) w = (never, λ e. clash (cc))

pub unassigned_words : (w : ℕ) → w < 65536 → (read_of w ≡ unassigned) ↔ Unassigned w
unfolding read_of
unassigned_words w h =
    let x = kind_at (opcode w) (e_of w) (f_of w) in
    (λ e. (says w).0 (sym (agrees w h) ∙ (reads x w).1 e), λ u. (reads x w).0 (agrees w h ∙ (says w).1 u))
