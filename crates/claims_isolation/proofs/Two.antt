-- Files of one data byte, 0 and 1, loaded with the range 0 to 0.
-- Assumes nothing.
use mathlib.Core.Path.{◌≡◌, refl, sym, ap, subst, ◌∙◌}
use mathlib.Core.Bool.{false}
use mathlib.Core.List.{List, [], ◌∷◌}
use Prim.Native.Nat.{ℕ, zero, suc}
use lib.ListN.{length, get_or, replicate, length-replicate}
use Rattle.refusal.specs.Refusals.{accepted}
use Rattle.word.proofs.Tests.{clash, never}
use Rattle.machine.specs.declared.Board.TheVariants.{TwoMemories}
use Rattle.machine.specs.Machine.{is_locked, reset_on}
use Rattle.image.specs.Image.{with_range, loaded, LoadGiven, LoadLeft, file_reply, load_reply, load_left}
use Rattle.claims_isolation.specs.Locked.{Differ, TwoLoads}

-- W 0 at 16, C 1 at 16, and the byte
abbrev file : ℕ → List ℕ
file x = 0 ∷ 0 ∷ 0 ∷ 0 ∷ 16 ∷ 0 ∷ 0 ∷ 0 ∷ 1 ∷ 0 ∷ 0 ∷ 0 ∷ 16 ∷ 0 ∷ 0 ∷ 0 ∷ x ∷ []

module _ (P D I O : List ℕ) (p : length P ≡ 65536) (d : length D ≡ 65536) (i : length I ≡ 256) (o : length O ≡ 256) where
  abbrev load : ℕ → LoadGiven
  load x = record { file = file x; board = TwoMemories; range = record { locked = 1; first = 0; last = 0 }; P = P; D = D; I = I; O = O }

  abbrev left : ℕ → LoadLeft
  left x =
      record {
        reply = accepted;
        state = with_range (record { locked = 1; first = 0; last = 0 }) (reset_on TwoMemories);
        P = replicate 65536 0;
        D = x ∷ replicate 65535 0;
        I = replicate 256 0;
        O = replicate 256 0;
      }

  loads : (x : ℕ) → load_left (load x) ≡ left x
  unfolding load_left load_reply file_reply loaded
  loads x = rw (p, d, i, o)

  differs : Differ (left 0).state (left 0).D (left 1).D
  differs = record { long = refl; same = at }
    where
      at : (k : ℕ) → is_locked k (left 0).state ≡ false → get_or (left 0).D k 0 ≡ get_or (left 1).D k 0
      at zero e = never (sym e)
      at (suc k) e = refl

  two : TwoLoads
  two =
      record {
        one = load 0;
        two = load 1;
        board = refl;
        range = refl;
        accepts = ap (λ (l : LoadLeft). l.reply) (loads 0);
        accepts_two = ap (λ (l : LoadLeft). l.reply) (loads 1);
        program = ap (λ (l : LoadLeft). l.P) (loads 0) ∙ sym (ap (λ (l : LoadLeft). l.P) (loads 1));
        memory = subst (λ (l : LoadLeft). Differ l.state l.D (load_left (load 1)).D) (sym (loads 0)) (subst (λ (l : LoadLeft). Differ (left 0).state (left 0).D l.D) (sym (loads 1)) differs);
        differ = λ e. let z : ◌≡◌ {A = ℕ} 0 1 = sym (ap (λ (l : LoadLeft). get_or l.D 0 0) (loads 0)) ∙ ap (λ M. get_or M 0 0) e ∙ ap (λ (l : LoadLeft). get_or l.D 0 0) (loads 1) in clash z;
      }

pub two_loads : TwoLoads
two_loads =
    two (replicate 65536 0) (replicate 65536 0) (replicate 256 0) (replicate 256 0)
    (length-replicate {A = ℕ} 65536 0) (length-replicate {A = ℕ} 65536 0) (length-replicate {A = ℕ} 256 0) (length-replicate {A = ℕ} 256 0)
