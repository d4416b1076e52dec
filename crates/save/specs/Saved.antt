-- Saving a trim file from the panel (02, L1), of the board that the state names (02, L11).
use Rattle.std.specs.Prelude.{ℕ, zero, suc, ◌+◌, ◌*◌, ◌/◌, ◌%◌, Bool, ◌&&◌, List, [], ◌∷◌, ◌++◌, ◌≡◌, eqb, leb, length, get_or, take, drop, Result}
use Rattle.std.specs.declared.result.Result.TheVariants.{Ok, Err}
use Rattle.refusal.specs.declared.Refusal.{Refusal}
use Rattle.refusal.specs.Refusals.{refusal_number}
use Rattle.word.specs.Word.{pick}
use Rattle.machine.specs.declared.State.{State}
use Rattle.machine.specs.Machine.{is_single, is_locked, word_at}
use Rattle.machine.specs.Slices.{MutSlice, Slice, before, after, read_before, read_after}
use Rattle.save.specs.declared.Saved.{Saved}

-- ---- The file

-- how many of the first n elements are kept when trailing zeros are dropped
unfoldable pub kept : (ℕ → ℕ) → ℕ → ℕ
kept element zero = 0
kept element (suc n) = pick (eqb (element n) 0) (kept element n) (suc n)

-- W and C of the file: trailing zero words of the program and trailing zero bytes of the data are dropped.
abbrev pub words_kept : List ℕ → ℕ
words_kept P = kept (λ k. word_at P (2 * k)) (length P / 2)

abbrev pub bytes_kept : List ℕ → ℕ
bytes_kept D = kept (λ k. get_or D k 0) (length D)

-- a 32-bit little-endian number
abbrev pub bytes32 : ℕ → List ℕ
bytes32 v = v % 256 ∷ v / 256 % 256 ∷ v / 65536 % 256 ∷ v / 16777216 % 256 ∷ []

-- Header (01): W program words, their offset, C data bytes, their offset. The program is at offset 16, the data straight
-- after it.
abbrev pub header : ℕ → ℕ → List ℕ
header w c = bytes32 w ++ bytes32 16 ++ bytes32 c ++ bytes32 (16 + 2 * w)

-- the file of the first w words of P and the first c bytes of D
abbrev pub file_of : ℕ → ℕ → List ℕ → List ℕ → List ℕ
file_of w c P D = header w c ++ take (2 * w) P ++ take c D

-- L1's call now also gets the state and saves the new board's data memory as data with W zero.
abbrev pub words_saved : State → List ℕ → ℕ
words_saved s P = pick (is_single s) 0 (words_kept P)

-- data memory from address k on with its locked bytes zero (02, L14)
unfoldable pub unlocked_from : State → ℕ → List ℕ → List ℕ
unlocked_from s k [] = []
unlocked_from s k (x ∷ xs) = pick (is_locked k s) 0 x ∷ unlocked_from s (suc k) xs

abbrev pub unlocked : State → List ℕ → List ℕ
unlocked s D = unlocked_from s 0 D

-- Write a trim file from program and data memory. It leaves locked bytes as zero; trailing zeros are dropped then.
unfoldable pub saved_file : State → List ℕ → List ℕ → List ℕ
saved_file s P D = file_of (words_saved s P) (bytes_kept (unlocked s D)) P (unlocked s D)

-- ---- The call

-- the file's length, or the number of the refusal
pub data SaveReply : Type 0 where
  saved : ℕ → SaveReply
  save_refused : ℕ → SaveReply

abbrev pub shown_saving : Result ℕ Refusal → SaveReply
shown_saving (Ok n) = saved n
shown_saving (Err r) = save_refused (refusal_number r)

pub record SaveGiven : Type 0 where
  pub state : State
  pub P : List ℕ
  pub D : List ℕ
  pub destination : List ℕ

pub record SaveLeft : Type 0 where
  pub reply : SaveReply
  pub state : State
  pub P : List ℕ
  pub D : List ℕ
  pub destination : List ℕ

-- refusal 1, P or D not 65,536 bytes, is where this fails
abbrev pub memories_fit : List ℕ → List ℕ → Bool
memories_fit P D = eqb (length P) 65536 && eqb (length D) 65536

-- Turned away: 9, destination shorter than the file, after 1. Otherwise the file's length is returned.
unfoldable pub save_reply : SaveGiven → SaveReply
save_reply g =
    let size = length (saved_file g.state g.P g.D) in
    pick (memories_fit g.P g.D) (pick (leb size (length g.destination)) (saved size) (save_refused 9)) (save_refused 1)

-- The destination begins with the file, and its unused end keeps its bytes. Nothing else lent changes, and in a refused
-- call nothing does. The state comes back as it was.
abbrev pub save_left_by : SaveReply → SaveGiven → SaveLeft
save_left_by (saved n) g =
    record {
      reply = saved n;
      state = g.state;
      P = g.P;
      D = g.D;
      destination = saved_file g.state g.P g.D ++ drop n g.destination;
    }
save_left_by (save_refused k) g =
    record { reply = save_refused k; state = g.state; P = g.P; D = g.D; destination = g.destination }

unfoldable pub save_left : SaveGiven → SaveLeft
save_left g = save_left_by (save_reply g) g

-- ---- The contract, of save's parameters in their order and what it replies

abbrev pub lent_to_save : State → Slice → Slice → MutSlice → SaveGiven
lent_to_save state program memory destination =
    record { state = state; P = read_before program; D = read_before memory; destination = before destination }

abbrev pub saved_with : SaveReply → State → Slice → Slice → MutSlice → SaveLeft
saved_with reply state program memory destination =
    record { reply = reply; state = state; P = read_after program; D = read_after memory; destination = after destination }

abbrev pub Saves : State → Slice → Slice → MutSlice → Saved → Type 0
Saves state program memory destination r =
    saved_with (shown_saving r.reply) r.state program memory destination ≡ save_left (lent_to_save state program memory destination)
