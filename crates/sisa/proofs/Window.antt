-- The window's numbers, by how many bytes `panel::window` hands back.
-- Assumes nothing.
use Prim.Native.Nat.{ℕ, ◌+◌, ◌≤◌}
use mathlib.Core.Bool.{Bool, true, false, ◌&&◌, not}
use mathlib.Core.List.{List, []}
use mathlib.Core.Path.{◌≡◌, refl, sym, ◌∙◌, ap}
use native.Mathlib.Omega.{arith}
use borrow.Author.Tests.{eqb-true, eqb-false, leb-true, eq-eqb, ne_eqb}
use lib.Dec.{eqb, leb}
use lib.ListN.{length, take, drop, length-drop}
use lib.Seq.{length-take-le}
use Rattle.word.specs.Word.{pick}
use Rattle.machine.specs.declared.State.{State}
use Rattle.panel.specs.Calls.{part_of, window_of}
use Rattle.replies.specs.declared.SisaWindow.{SisaWindow}
use Rattle.replies.specs.Sisa.{chosen, is_hidden, sisa_window, bytes_of}

-- the part, by whether it ends within M
abbrev part_by : Bool → List ℕ → ℕ → ℕ → List ℕ
part_by b M start count = pick b (take count (drop start M)) []

-- the numbers, by whether the part ends within M and whether it has no bytes
abbrev numbers_by : Bool → Bool → ℕ → ℕ → SisaWindow
numbers_by b z start count = pick (b && not z) (record { start = start; count = count }) (record { start = 0; count = 0 })

part_length : (M : List ℕ) (start count : ℕ) → start + count ≤ length M → length (take count (drop start M)) ≡ count
part_length M start count h = length-take-le count (drop start M) (let e = length-drop start M in omega arith)

none_by : (b : Bool) (M : List ℕ) (start count : ℕ) → leb (start + count) (length M) ≡ b → length (part_by b M start count) ≡ 0
    → record { start = 0; count = 0 } ≡ numbers_by b (eqb count 0) start count
none_by true M start count t e = rw (eq-eqb count 0 (sym (part_length M start count (leb-true _ _ t)) ∙ e))
none_by false M start count t e = refl

some_by : (b : Bool) (M : List ℕ) (start count : ℕ) → leb (start + count) (length M) ≡ b → (length (part_by b M start count) ≡ 0 → ⊥)
    → record { start = start; count = length (part_by b M start count) } ≡ numbers_by b (eqb count 0) start count
some_by true M start count t e =
    let l = part_length M start count (leb-true _ _ t) in
    rw (ne_eqb count 0 (λ z. e (l ∙ z))) (ap (λ (n : ℕ). record { start = start; count = n }) l)
some_by false M start count t e = absurd (e refl)

bytes_by : (b z : Bool) (M : List ℕ) (start count : ℕ) → eqb count 0 ≡ z → bytes_of (numbers_by b z start count) M ≡ part_by b M start count
bytes_by true true M start count t = rw (eqb-true count 0 t)
bytes_by true false M start count t = refl
bytes_by false z M start count t = refl

other_order : (b : Bool) (P D : List ℕ) → pick b P D ≡ pick (not b) D P
other_order true P D = refl
other_order false P D = refl

module _ (s : State) (P D : List ℕ) (ofData start count : ℕ) where
  -- the memory chosen, and whether its bytes are hidden
  abbrev M : List ℕ
  M = chosen ofData P D

  abbrev hidden : Bool
  hidden = is_hidden s ofData start count

  abbrev shown : Bool → List ℕ
  shown h = pick h [] (part_of (pick (not (eqb ofData 0)) D P) start count)

  bytes_are : (h : Bool) → bytes_of (sisa_window h M start count) M ≡ shown h
  unfolding sisa_window
  bytes_are true = refl
  bytes_are false = bytes_by (leb (start + count) (length M)) (eqb count 0) M start count refl ∙ ap (λ (M : List ℕ). part_of M start count) (other_order (eqb ofData 0) P D)

  -- a reply that has the numbers names the window's bytes
  pub shows : {r : SisaWindow} → r ≡ sisa_window hidden M start count → (r ≡ sisa_window hidden M start count) × (bytes_of r M ≡ window_of s P D (not (eqb ofData 0)) start count)
  unfolding window_of
  shows e = (e, ap (λ (w : SisaWindow). bytes_of w M) e ∙ bytes_are hidden)

  module _ (part : List ℕ) where
    none : part ≡ part_of M start count → length part ≡ 0 → record { start = 0; count = 0 } ≡ sisa_window false M start count
    unfolding sisa_window
    none is e = none_by _ M start count refl (sym (ap length is) ∙ e)

    some : part ≡ part_of M start count → (length part ≡ 0 → ⊥) → record { start = start; count = length part } ≡ sisa_window false M start count
    unfolding sisa_window
    some is e =
        ap (λ (l : List ℕ). record { start = start; count = length l }) is ∙ some_by _ M start count refl (λ z. e (ap length is ∙ z))

    abbrev numbers_of : Bool → SisaWindow
    numbers_of b = pick b (record { start = 0; count = 0 }) (record { start = start; count = length part })

    by_length : part ≡ part_of M start count → (b : Bool) → eqb (length part) 0 ≡ b → numbers_of b ≡ sisa_window false M start count
    by_length is true e = none is (eqb-true _ _ e)
    by_length is false e = some is (eqb-false _ _ e)

    by_hidden : (h : Bool) → part ≡ shown h → numbers_of (eqb (length part) 0) ≡ sisa_window h M start count
    unfolding sisa_window
    by_hidden true is = rw is
    by_hidden false is = by_length (is ∙ ap (λ (M : List ℕ). part_of M start count) (sym (other_order (eqb ofData 0) P D))) _ refl

    -- the numbers of the part that `panel::window` hands back
    pub numbers : part ≡ window_of s P D (not (eqb ofData 0)) start count → numbers_of (eqb (length part) 0) ≡ sisa_window hidden M start count
    unfolding window_of
    numbers is = by_hidden hidden is
