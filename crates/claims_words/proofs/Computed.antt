-- Writing what was read, by one test over all 65,536 words.
-- Assumes nothing.
use mathlib.Core.Path.{◌≡◌, ap, subst}
use mathlib.Core.Bool.{Bool, true, false}
use Prim.Native.Nat.{ℕ, ◌+◌, ◌*◌, ◌/◌, ◌%◌, ◌<◌}
use native.Mathlib.Nat.{div-add-mod'}
use native.Mathlib.Omega.{arith}
use lib.Dec.{T, eqb, eqb→eq}
use Rattle.word.specs.Word.{signed, low_bits}
use Rattle.word.proofs.Computed.{all, all_at}
use Rattle.isa.specs.declared.Instruction.{Instruction}
use Rattle.isa.specs.Sheet.{kind_at}
use Rattle.isa.specs.Instructions.{Read, instruction, unassigned, read_of, WriteReply, word, write_refused, write_of}
use Rattle.claims_words.specs.Instructions.{cleared}

unfoldable pub is_word : WriteReply → ℕ → Bool
is_word (word v) w = eqb v w
is_word (write_refused k) w = false

pub word_is_lem : (r : WriteReply) (w : ℕ) → T (is_word r w) → r ≡ word w
unfolding is_word
word_is_lem (word v) w t = ap word (eqb→eq v w t)
word_is_lem (write_refused k) w t = absurd t

-- what was read at w is written as w, cleared
again : Read → ℕ → Bool
again (instruction i) w = is_word (write_of i) (cleared i.kind w)
again unassigned w = true

tested : T (all 16 (λ h. all 4096 (λ l. again (read_of (h * 4096 + l)) (h * 4096 + l))))
unfolding all is_word again read_of write_of kind_at signed low_bits
tested = tt

pub read_then_written : (w : ℕ) → w < 65536 → (i : Instruction) → read_of w ≡ instruction i → write_of i ≡ word (cleared i.kind w)
unfolding again
read_then_written w h i e =
    let t₀ = all_at 16 (λ h. all 4096 (λ l. again (read_of (h * 4096 + l)) (h * 4096 + l))) tested (w / 4096) (omega arith) in
    let t₁ = all_at 4096 (λ l. again (read_of (w / 4096 * 4096 + l)) (w / 4096 * 4096 + l)) t₀ (w % 4096) (omega arith) in
    let t₂ : T (again (read_of w) w) = subst (λ (m : ℕ). T (again (read_of m) m)) (div-add-mod' w 4096) t₁ in
    word_is_lem _ _ (subst (λ (r : Read). T (again r w)) e t₂)
