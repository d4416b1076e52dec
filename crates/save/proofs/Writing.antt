-- The destination that the code fills part after part, and what a call of `save` leaves.
-- Assumes nothing.
use Prim.Native.Nat.{ℕ, ◌+◌, ◌*◌, ◌≤◌, ◌<◌}
use mathlib.Core.Path.{◌≡◌, refl, sym, ap, ◌∙◌}
use mathlib.Core.List.{List, ◌++◌}
use native.Mathlib.Omega.{arith}
use lib.ListN.{length, take, drop, length-append, length-take}
use lib.Seq.{take_at, drop_at, drop-drop}
use Rattle.save.specs.Saved.{words_saved, bytes_kept, header, file_of, unlocked, saved_file, saved, save_refused, SaveGiven, SaveLeft, save_left_by, save_left}
use Rattle.save.proofs.Files.{file_length, Found, short, room, decided, replies, nothing_changes}

-- the memory begins with `front`, of n bytes, and is as it was after that
pub record Begun (front old memory : List ℕ) (n : ℕ) : Type 0 where
  pub size : length front ≡ n
  pub begins : memory ≡ front ++ drop n old

pub more : {front old memory new : List ℕ} {n : ℕ} (source : List ℕ) (count : ℕ) → Begun front old memory n → count ≤ length source
    → new ≡ take n memory ++ take count source ++ drop (n + count) memory → Begun (front ++ take count source) old new (n + count)
more {front} {old} {memory} {new} {n} source count b h e =
    record {
      size = simp (length-append, length-take) (omega (arith, b));
      begins = e ∙ rw (← drop-drop count n memory, b.begins, take_at front (drop n old) n b.size, drop_at front (drop n old) n b.size, drop-drop);
    }

module _ (P D old : List ℕ) (w c : ℕ) where
  pub written : {head d1 d2 d3 : List ℕ} → head ≡ header w c → 2 * w ≤ length P → c ≤ length D
      → d1 ≡ take 16 head ++ drop 16 old
      → d2 ≡ take 16 d1 ++ take (2 * w) P ++ drop (16 + 2 * w) d1
      → d3 ≡ take (16 + 2 * w) d2 ++ take c D ++ drop (16 + 2 * w + c) d2
      → d3 ≡ file_of w c P D ++ drop (16 + 2 * w + c) old
  written h p d e1 e2 e3 =
      let begun : Begun (header w c) old _ 16 = record { size = refl; begins = e1 ∙ rw h } in
      (more D c (more P (2 * w) begun p e2) d e3).begins

-- ---- What is left, from what the tests found

module _ (g : SaveGiven) where
  pub refused_left : {k : ℕ} → Found g (save_refused k)
      → ◌≡◌ {A = SaveLeft} (record { reply = save_refused k; state = g.state; P = g.P; D = g.D; destination = g.destination }) (save_left g)
  refused_left f = sym (nothing_changes g _ (replies g f))

  saved_left_lem : {n : ℕ} {new : List ℕ} → Found g (saved n) → new ≡ saved_file g.state g.P g.D ++ drop n g.destination
      → ◌≡◌ {A = SaveLeft} (record { reply = saved n; state = g.state; P = g.P; D = g.D; destination = new }) (save_left g)
  unfolding save_left
  saved_left_lem {n} f e =
      ap (λ (d : List ℕ). record { reply = saved n; state = g.state; P = g.P; D = g.D; destination = d }) e ∙ ap (λ r. save_left_by r g) (decided g f)

-- where the memories have their lengths, with the numbers that the code computes

module _ (g : SaveGiven) {w c : ℕ} (p : length g.P ≡ 65536) (d : length g.D ≡ 65536) (e : w ≡ words_saved g.state g.P) (f : c ≡ bytes_kept (unlocked g.state g.D)) where
  end : 16 + 2 * w + c ≡ length (saved_file g.state g.P g.D)
  end = rw (e, f) (sym (file_length g.state g.P g.D))

  file : file_of w c g.P (unlocked g.state g.D) ≡ saved_file g.state g.P g.D
  unfolding saved_file
  file = ap (λ n. file_of n c g.P (unlocked g.state g.D)) e ∙ ap (λ n. file_of (words_saved g.state g.P) n g.P (unlocked g.state g.D)) f

  pub short_left : length g.destination < 16 + 2 * w + c
      → ◌≡◌ {A = SaveLeft} (record { reply = save_refused 9; state = g.state; P = g.P; D = g.D; destination = g.destination }) (save_left g)
  short_left h = refused_left g (short (p, d) (rw end at h))

  pub written_left : {new : List ℕ} → 16 + 2 * w + c ≤ length g.destination
      → new ≡ file_of w c g.P (unlocked g.state g.D) ++ drop (16 + 2 * w + c) g.destination
      → ◌≡◌ {A = SaveLeft} (record { reply = saved (16 + 2 * w + c); state = g.state; P = g.P; D = g.D; destination = new }) (save_left g)
  written_left h n =
      let found : Found g (saved (length (saved_file g.state g.P g.D))) = room (p, d) (rw end at h) in
      saved_left_lem g (rw (← end) at found) (n ∙ ap (λ l. l ++ drop (16 + 2 * w + c) g.destination) file)
