-- Windows and saves of two memories that differ only in locked bytes are the same.
-- Assumes nothing.
use mathlib.Core.Path.{◌≡◌, refl, sym, ap, ◌∙◌}
use mathlib.Core.Bool.{Bool, true, false, ◌||◌}
use mathlib.Core.List.{List, []}
use Prim.Native.Nat.{ℕ, zero, suc, ◌+◌, ◌<◌, ◌≤◌}
use native.Mathlib.Nat.{add-zero, suc-add, add-suc}
use native.Mathlib.Omega.{arith}
use borrow.Author.Tests.{leb-true}
use lib.Dec.{leb, ltb}
use lib.ListN.{length, get_or, take, drop, length-drop}
use lib.Seq.{ext_get_or, length-take-le, get_or-take, get_or-drop}
use Rattle.word.specs.Word.{pick}
use Rattle.word.proofs.Tests.{never}
use Rattle.machine.specs.declared.State.{State}
use Rattle.refusal.specs.Refusals.{accepted, refused}
use Rattle.machine.specs.Machine.{is_locked, with_line, put_pending}
use Rattle.panel.specs.Calls.{RaiseLeft, raise_left, part_of, holds_locked, window_of}
use Rattle.save.specs.Saved.{unlocked, saved_file, SaveReply, saved, save_refused, save_reply, save_left_by, save_left}
use Rattle.save.proofs.Unlocked.{unlocked_length, unlocked_at}
use Rattle.claims.specs.Saved.{range_of}
use Rattle.claims_isolation.specs.Locked.{Differ}

module _ (s : State) (P : List ℕ) {D E : List ℕ} (d : Differ s D E) where
  -- ---- A window

  -- no byte of a span that holds no locked one is locked
  free_at : (start count i : ℕ) → i < count → holds_locked s start count ≡ false → is_locked (start + i) s ≡ false
  unfolding holds_locked
  free_at start zero i h e = absurd (omega arith)
  free_at start (suc count) i h e = by_first (is_locked start s) refl i h e (free_at (suc start) count)
    where
      by_first : (t : Bool) → is_locked start s ≡ t → (i : ℕ) → i < suc count → (t || holds_locked s (suc start) count) ≡ false
          → ((i : ℕ) → i < count → holds_locked s (suc start) count ≡ false → is_locked (suc start + i) s ≡ false) → is_locked (start + i) s ≡ false
      by_first true q i h e more = never (sym e)
      by_first false q zero h e more = ap (λ k. is_locked k s) (add-zero start) ∙ q
      by_first false q (suc i) h e more = ap (λ k. is_locked k s) (add-suc start i ∙ sym (suc-add start i)) ∙ more i (omega arith) e

  same_part : (start count : ℕ) → start + count ≤ length D → holds_locked s start count ≡ false → take count (drop start D) ≡ take count (drop start E)
  same_part start count h e =
      let a : length (take count (drop start D)) ≡ count = length-take-le count (drop start D) (omega (arith, length-drop start D)) in
      let b : length (take count (drop start E)) ≡ count = length-take-le count (drop start E) (omega (arith, length-drop start E, d.long)) in
      ext_get_or 0 (take count (drop start D)) (take count (drop start E)) (a ∙ sym b)
      (λ i l. let k : i < count = omega (arith, a, l) in
      get_or-take count (drop start D) i 0 k
      ∙ get_or-drop start D i 0
      ∙ d.same (start + i) (free_at start count i k e)
      ∙ sym (get_or-drop start E i 0)
      ∙ sym (get_or-take count (drop start E) i 0 k))

  pub same_window : (ofData : Bool) (start count : ℕ) → window_of s P D ofData start count ≡ window_of s P E ofData start count
  unfolding window_of
  same_window false start count = refl
  same_window true start count = by_span (holds_locked s start count) refl
    where
      by_end : (t : Bool) → leb (start + count) (length D) ≡ t → holds_locked s start count ≡ false → pick t (take count (drop start D)) [] ≡ pick t (take count (drop start E)) []
      by_end true h e = same_part start count (leb-true _ _ h) e
      by_end false h e = refl

      by_span : (t : Bool) → holds_locked s start count ≡ t → pick t [] (part_of D start count) ≡ pick t [] (part_of E start count)
      by_span true e = refl
      by_span false e =
          by_end (leb (start + count) (length D)) refl e ∙ ap (λ n. pick (leb (start + count) n) (take count (drop start E)) []) d.long

  -- ---- A save

  same_unlocked : unlocked s D ≡ unlocked s E
  same_unlocked =
      ext_get_or 0 (unlocked s D) (unlocked s E) (unlocked_length s D ∙ d.long ∙ sym (unlocked_length s E))
      (λ i h. unlocked_at s D i ∙ by_test i (is_locked i s) refl ∙ sym (unlocked_at s E i))
    where
      by_test : (i : ℕ) (t : Bool) → is_locked i s ≡ t → pick t 0 (get_or D i 0) ≡ pick t 0 (get_or E i 0)
      by_test i true e = refl
      by_test i false e = d.same i e

  same_file : saved_file s P D ≡ saved_file s P E
  unfolding saved_file
  same_file = rw same_unlocked

  -- reply and destination are the same, and each memory stays
  pub same_save : (destination : List ℕ)
      → let l = save_left (record { state = s; P = P; D = D; destination = destination }) in
      save_left (record { state = s; P = P; D = E; destination = destination }) ≡ record { reply = l.reply; state = s; P = P; D = E; destination = l.destination }
  unfolding save_left save_reply
  same_save destination = rw (← same_file, ← d.long) (go (save_reply (record { state = s; P = P; D = D; destination = destination })))
    where
      go : (x : SaveReply)
          → let l = save_left_by x (record { state = s; P = P; D = D; destination = destination }) in
          save_left_by x (record { state = s; P = P; D = E; destination = destination }) ≡ record { reply = l.reply; state = s; P = P; D = E; destination = l.destination }
      go (saved n) = rw same_file
      go (save_refused k) = refl

  -- the memory that is saved stays
  pub save_stays : (destination : List ℕ) → let l = save_left (record { state = s; P = P; D = D; destination = destination }) in (l.state ≡ s) × (l.P ≡ P) × (l.D ≡ D)
  unfolding save_left
  save_stays destination = go (save_reply (record { state = s; P = P; D = D; destination = destination }))
    where
      go : (x : SaveReply) → let l = save_left_by x (record { state = s; P = P; D = D; destination = destination }) in (l.state ≡ s) × (l.P ≡ P) × (l.D ≡ D)
      go (saved n) = (refl, refl, refl)
      go (save_refused k) = (refl, refl, refl)

-- ---- A raise leaves the range

pub raise_range : (s : State) (line : ℕ) → range_of (raise_left s line).state ≡ range_of s
unfolding raise_left
raise_range s line = go (ltb line 8)
  where
    go : (t : Bool)
        → range_of (pick {A = RaiseLeft} t (record { reply = accepted; state = put_pending (with_line line s.pending) s }) (record { reply = refused 16; state = s })).state ≡ range_of s
    go true = refl
    go false = refl
