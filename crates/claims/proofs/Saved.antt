-- By the laws of save/proofs/Files.antt.
-- Assumes nothing.
use mathlib.Core.Path.{◌≡◌, refl, sym, ap, subst, ◌∙◌}
use mathlib.Core.Bool.{true, ◌||◌, or-true}
use mathlib.Core.Logic.{inl, inr, ⊎_elim}
use mathlib.Core.List.{List}
use Prim.Native.Nat.{ℕ, ◌<◌, ◌≤◌}
use native.Mathlib.Omega.{arith}
use borrow.Author.Tests.{eq-eqb, le-leb}
use lib.Dec.{eqb}
use lib.ListN.{length, get_or, take, drop, replicate}
use lib.Seq.{take-append_seam}
use Rattle.refusal.specs.Refusals.{accepted}
use Rattle.word.specs.Word.{pick}
use Rattle.word.proofs.Tests.{clash}
use Rattle.machine.specs.declared.State.{State}
use Rattle.machine.specs.declared.Board.{Board}
use Rattle.machine.specs.Machine.{reset_on}
use Rattle.image.specs.Image.{with_range, range_fits, LoadLeft}
use Rattle.save.specs.Saved.{unlocked, saved_file, SaveReply, saved, save_refused, SaveGiven, SaveLeft, save_reply, save_left_by, save_left}
use Rattle.save.proofs.Files.{RightLengths, file_length, file_at_most, loads_back, loads_back_single, last_word, least_words, last_byte, least_bytes, number_1, number_9, saves, no_other, nothing_changes}
use Rattle.save.proofs.Unlocked.{unlocked_length, unlocked_at, unlocked_none}
use Rattle.claims.specs.Saved.{range_of, GivenBack, LoadsBack, InOrder, MemoryLengths, ShortDestination, SaveRefusals, Saved}
use Rattle.claims_words.proofs.Decides.{decides_eq, decides_le, decides_stable}

-- ---- The refusals

module _ (g : SaveGiven) where
  -- lengths that are not wrong are right
  right : (MemoryLengths g → ⊥) → RightLengths g
  right n =
      (decides_stable (decides_eq (length g.P) 65536) (λ x. n (inl x)), decides_stable (decides_eq (length g.D) 65536) (λ x. n (inr x)))

  not_wrong : RightLengths g → MemoryLengths g → ⊥
  not_wrong r w = ⊎_elim (λ n. n r.0) (λ n. n r.1) w

  refusals : SaveRefusals g
  refusals =
      record {
        number_1 = number_1 g;
        number_9 = (λ e. let h = (number_9 g).0 e in (not_wrong h.0, h.1), λ h. (number_9 g).1 (right h.0, h.1));
        accepts = λ n. (
          λ e. let h = (saves g n).0 e in (not_wrong h.1, λ s. omega (arith, h.2, s), h.0),
          λ h. (saves g n).1 (h.2, right h.0, at_least h.1),
        );
        no_other = no_other g;
        nothing_changes = nothing_changes g;
      }
    where
      longer : {a b : ℕ} → (a ≤ b → ⊥) → b < a
      longer m = omega arith

      at_least : (ShortDestination g → ⊥) → length (saved_file g.state g.P g.D) ≤ length g.destination
      at_least n = decides_stable (decides_le _ _) (λ m. n (longer m))

-- ---- What a save left

-- the range of the state is one that a load accepts
in_order : (s : State) → InOrder s → range_fits (range_of s) ≡ true
in_order s (inl e) = rw (eq-eqb _ _ e)
in_order s (inr h) = ap (λ t. eqb s.locked 0 || t) (le-leb _ _ h) ∙ or-true (eqb s.locked 0)

-- a load that left the data memory with its locked bytes zero gave back the others
gave_back : (s : State) (board : Board) (P D : List ℕ) (l : LoadLeft)
    → l ≡ record { reply = accepted; state = with_range (range_of s) (reset_on board); P = P; D = unlocked s D; I = replicate 256 0; O = replicate 256 0 }
    → GivenBack s board P D l
gave_back s board P D l e =
    let D-is : l.D ≡ unlocked s D = ap (λ (x : LoadLeft). x.D) e in
    record {
      reply = ap (λ (x : LoadLeft). x.reply) e;
      state = ap (λ (x : LoadLeft). x.state) e;
      program = ap (λ (x : LoadLeft). x.P) e;
      memory = ap length D-is ∙ unlocked_length s D;
      others = λ k n. ap (λ M. get_or M k 0) D-is ∙ unlocked_at s D k ∙ ap (λ t. pick t 0 (get_or D k 0)) n;
      zeros = λ k n. ap (λ M. get_or M k 0) D-is ∙ unlocked_at s D k ∙ ap (λ t. pick t 0 (get_or D k 0)) n;
      whole = λ n. D-is ∙ unlocked_none s D n;
      inputs = ap (λ (x : LoadLeft). x.I) e;
      outputs = ap (λ (x : LoadLeft). x.O) e;
    }

back : (s : State) → InOrder s → (P D : List ℕ) → length P ≡ 65536 → length D ≡ 65536 → LoadsBack s (saved_file s P D) P D
back s o P D p d =
    let named = in_order s o in (
      λ e P' D' I' O' p' d' i' o'. gave_back s _ _ D _ (loads_back s (range_of s) named P D p d P' D' I' O' p' d' i' o' e),
      λ e P' D' I' O' p' d' i' o'. gave_back s _ _ D _ (loads_back_single s (range_of s) named P D p d P' D' I' O' p' d' i' o' e),
    )

state_back : (g : SaveGiven) → (save_left g).state ≡ g.state
unfolding save_left
state_back g = go (save_reply g)
  where
    go : (x : SaveReply) → (save_left_by x g).state ≡ g.state
    go (saved n) = refl
    go (save_refused k) = refl

then_loaded : (g : SaveGiven) → InOrder g.state → (l : SaveLeft) (n : ℕ) → l ≡ save_left g → l.reply ≡ saved n → LoadsBack g.state (take n l.destination) g.P g.D
unfolding save_left
then_loaded g o l n e r =
    let s = (saves g n).0 (ap (λ (x : SaveLeft). x.reply) (sym e) ∙ r) in
    let file : take n l.destination ≡ saved_file g.state g.P g.D =
    ap (λ (x : SaveLeft). take n x.destination) e ∙ by_reply (save_reply g) (ap (λ (x : SaveLeft). x.reply) (sym e) ∙ r) s.0 in
    subst (λ f. LoadsBack g.state f g.P g.D) (sym file) (back g.state o g.P g.D s.1.0 s.1.1)
  where
    by_reply : (x : SaveReply) → (save_left_by x g).reply ≡ saved n → n ≡ length (saved_file g.state g.P g.D) → take n (save_left_by x g).destination ≡ saved_file g.state g.P g.D
    by_reply (saved k) q z = let same : k ≡ n = cc in rw (same, z) (take-append_seam (saved_file g.state g.P g.D) (drop (length (saved_file g.state g.P g.D)) g.destination))
    by_reply (save_refused k) q z = clash (cc)

pub saving : Saved
saving =
    record {
      loads_back = back;
      saved_then_loaded = then_loaded;
      state_back = state_back;
      least_words = least_words;
      least_bytes = least_bytes;
      last_word = last_word;
      last_byte = last_byte;
      file_length = λ s P D e. rw e at (file_length s P D);
      file_length_single = λ s P D e. rw e at (file_length s P D);
      file_at_most = file_at_most;
      refusals = refusals;
    }
