-- The statement's parts together.
-- Assumes nothing.
use mathlib.Core.Path.{◌≡◌, refl}
use mathlib.Core.Bool.{Bool, true, false}
use mathlib.Core.Logic.{◌↔◌}
use Prim.Native.Nat.{ℕ, ◌<◌}
use Rattle.word.specs.Word.{pick}
use Rattle.word.proofs.Tests.{clash, never}
use Rattle.isa.specs.declared.Instruction.{Instruction}
use Rattle.isa.specs.Sheet.{sheet_line}
use Rattle.isa.specs.Instructions.{Read, instruction, unassigned, read_of, word, write_refused, fits, write_of}
use Rattle.claims_words.specs.Instructions.{InRange, Instructions}
use Rattle.claims_words.proofs.Computed.{read_then_written}
use Rattle.claims_words.proofs.Decides.{Decides}
use Rattle.claims_words.proofs.Ranges.{stays_in_range}
use Rattle.claims_words.proofs.Unassigned.{unassigned_words}
use Rattle.claims_words.proofs.Written.{written_then_read}

-- ---- What a test that decides A says of an answer that hangs on it

chosen : (t : Bool) {A : Type 0} (v : ℕ) → Decides t A → A ↔ ((w : ℕ) × (pick t (word v) (write_refused 7) ≡ word w))
chosen true v d = (λ h. (v, refl), λ h. d.0 refl)
chosen false v d = (λ h. never (d.1 h), λ h. let e : write_refused 7 ≡ word h.0 = h.1 in clash (cc))

turned_away_lem : (t : Bool) {A : Type 0} (v : ℕ) → Decides t A → (A → ⊥) ↔ (pick t (word v) (write_refused 7) ≡ write_refused 7)
turned_away_lem true v d = (λ n. absurd (n (d.0 refl)), λ e. clash (cc))
turned_away_lem false v d = (λ n. refl, λ e h. never (d.1 h))

only_7 : (t : Bool) (v k : ℕ) → pick t (word v) (write_refused 7) ≡ write_refused k → k ≡ 7
only_7 true v k e = clash (cc)
only_7 false v k e = cc

-- ---- Words that are assigned

-- what was read is written again, so its parts are in range
read_in_range : (w : ℕ) → w < 65536 → (r : Read) → read_of w ≡ r → (r ≡ unassigned → ⊥) → (i : Instruction) × (read_of w ≡ instruction i) × InRange i
unfolding write_of
read_in_range w h (instruction i) e n =
    (i, e, (chosen (fits (sheet_line i.kind) i) _ (stays_in_range i)).1 (_, read_then_written w h i e))
read_in_range w h unassigned e n = absurd (n refl)

pub instructions : Instructions
unfolding write_of
instructions =
    record {
      unassigned_words = unassigned_words;
      assigned_words = λ w h n. read_in_range w h (read_of w) refl (λ e. n ((unassigned_words w h).0 e));
      read_then_written = read_then_written;
      written_then_read = written_then_read;
      written = λ i. chosen (fits (sheet_line i.kind) i) _ (stays_in_range i);
      refused_7 = λ i. turned_away_lem (fits (sheet_line i.kind) i) _ (stays_in_range i);
      no_other = λ i k. only_7 (fits (sheet_line i.kind) i) _ k;
    }
