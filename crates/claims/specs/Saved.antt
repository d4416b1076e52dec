-- Saving a trim from the panel (02, L1, L11 and L14): loading the file gives back both memories, on the single-memory board data memory alone,
-- but for locked bytes, which come back as zero; no trailing zero is in it; and which refusal is given when.
use Rattle.std.specs.Prelude.{◌≡◌, true, false, ◌⊎◌, ◌↔◌, List, ℕ, suc, ◌+◌, ◌*◌, ◌/◌, ◌<◌, ◌≤◌, length, get_or, take, replicate}
use Rattle.refusal.specs.Refusals.{accepted}
use Rattle.machine.specs.declared.State.{State}
use Rattle.machine.specs.declared.Board.{Board}
use Rattle.machine.specs.declared.Board.TheVariants.{TwoMemories, SingleMemory}
use Rattle.machine.specs.Machine.{is_single, reset_on, is_locked, word_at}
use Rattle.image.specs.declared.Range.{Range}
use Rattle.image.specs.Image.{with_range, LoadLeft, load_left}
use Rattle.save.specs.Saved.{words_kept, bytes_kept, unlocked, saved_file, saved, save_refused, SaveGiven, SaveLeft, save_left}

-- the range that a state keeps (02, L14)
abbrev pub range_of : State → Range
range_of s = record { locked = s.locked; first = s.first_locked; last = s.last_locked }

-- What a load leaves that gave back P, and D but for the bytes that s locks, for this board and the range of s, with ports and registers reset
pub record GivenBack (s : State) (board : Board) (P D : List ℕ) (l : LoadLeft) : Type 0 where
  pub reply : l.reply ≡ accepted
  pub state : l.state ≡ with_range (range_of s) (reset_on board)
  pub program : l.P ≡ P
  pub memory : length l.D ≡ length D
  -- every byte that is not locked is given back, and in the range are zeros;
  pub others : (k : ℕ) → is_locked k s ≡ false → get_or l.D k 0 ≡ get_or D k 0
  pub zeros : (k : ℕ) → is_locked k s ≡ true → get_or l.D k 0 ≡ 0
  -- without a range all of it is given back.
  pub whole : s.locked ≡ 0 → l.D ≡ D
  pub inputs : l.I ≡ replicate 256 0
  pub outputs : l.O ≡ replicate 256 0

-- Loading the file for the board and the range of s into any memories and ports of their lengths gives them back.
abbrev pub LoadsAs : State → Board → List ℕ → List ℕ → List ℕ → Type 0
LoadsAs s board file P D =
    (P' D' I' O' : List ℕ) → length P' ≡ 65536 → length D' ≡ 65536 → length I' ≡ 256 → length O' ≡ 256
    → GivenBack s board P D (load_left (record { file = file; board = board; range = range_of s; P = P'; D = D'; I = I'; O = O' }))

-- For the older board both memories; for the single-memory board data memory alone, and P is zero.
abbrev pub LoadsBack : State → List ℕ → List ℕ → List ℕ → Type 0
LoadsBack s file P D =
    (is_single s ≡ false → LoadsAs s TwoMemories file P D) × (is_single s ≡ true → LoadsAs s SingleMemory file (replicate 65536 0) D)

-- The range is none, or its first is at most its last.
abbrev pub InOrder : State → Type 0
InOrder s = (s.locked ≡ 0) ⊎ (s.first_locked ≤ s.last_locked)

-- ---- The conditions of the refusals

-- 1: P or D not 65,536 bytes
abbrev pub MemoryLengths : SaveGiven → Type 0
MemoryLengths g = (length g.P ≡ 65536 → ⊥) ⊎ (length g.D ≡ 65536 → ⊥)

-- 9: destination shorter than the file
abbrev pub ShortDestination : SaveGiven → Type 0
ShortDestination g = length g.destination < length (saved_file g.state g.P g.D)

pub record SaveRefusals (g : SaveGiven) : Type 0 where
  pub number_1 : ((save_left g).reply ≡ save_refused 1) ↔ MemoryLengths g
  pub number_9 : ((save_left g).reply ≡ save_refused 9) ↔ ((MemoryLengths g → ⊥) × ShortDestination g)
  -- otherwise the reply is the file's length
  pub accepts :
      (n : ℕ) → ((save_left g).reply ≡ saved n) ↔ ((MemoryLengths g → ⊥) × (ShortDestination g → ⊥) × (n ≡ length (saved_file g.state g.P g.D)))
  pub no_other : (k : ℕ) → (save_left g).reply ≡ save_refused k → (k ≡ 1) ⊎ (k ≡ 9)
  pub nothing_changes :
      (k : ℕ) → (save_left g).reply ≡ save_refused k → save_left g ≡ record { reply = save_refused k; state = g.state; P = g.P; D = g.D; destination = g.destination }

-- ---- The claim

pub record Saved : Type 0 where
  -- Loading the file for the state's board and range gives back the memories, but for locked bytes, with ports and registers reset;
  pub loads_back : (s : State) → InOrder s → (P D : List ℕ) → length P ≡ 65536 → length D ≡ 65536 → LoadsBack s (saved_file s P D) P D
  -- so does loading what a save left in as many first bytes of the destination as it replied.
  pub saved_then_loaded :
      (g : SaveGiven) → InOrder g.state → (l : SaveLeft) (n : ℕ) → l ≡ save_left g → l.reply ≡ saved n
      → LoadsBack g.state (take n l.destination) g.P g.D
  -- The state that was handed comes back as it was, accepted or refused.
  pub state_back : (g : SaveGiven) → (save_left g).state ≡ g.state
  -- W and C are the least: where all of P from word w on is zero, W is at most w; likewise C.
  pub least_words : (P : List ℕ) (w : ℕ) → ((k : ℕ) → w ≤ k → k < length P / 2 → word_at P (2 * k) ≡ 0) → words_kept P ≤ w
  pub least_bytes : (D : List ℕ) (c : ℕ) → ((k : ℕ) → c ≤ k → k < length D → get_or D k 0 ≡ 0) → bytes_kept D ≤ c
  -- So the last word and the last byte in the file are not zero.
  pub last_word : (P : List ℕ) (k : ℕ) → suc k ≡ words_kept P → word_at P (2 * k) ≡ 0 → ⊥
  pub last_byte : (D : List ℕ) (k : ℕ) → suc k ≡ bytes_kept D → get_or D k 0 ≡ 0 → ⊥
  -- the file's length, of the data memory with its locked bytes zero; on the single-memory board the file has no program words
  pub file_length : (s : State) (P D : List ℕ) → is_single s ≡ false → length (saved_file s P D) ≡ 16 + 2 * words_kept P + bytes_kept (unlocked s D)
  pub file_length_single : (s : State) (P D : List ℕ) → is_single s ≡ true → length (saved_file s P D) ≡ 16 + bytes_kept (unlocked s D)
  pub file_at_most : (s : State) (P D : List ℕ) → length P ≡ 65536 → length D ≡ 65536 → length (saved_file s P D) ≤ 131088
  pub refusals : (g : SaveGiven) → SaveRefusals g
