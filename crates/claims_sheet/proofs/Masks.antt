-- Which registers an instruction touches: the tables say it of the control word of a word, and the plain machine's step is that word's, where no
-- line is taken, which touches none.
-- Assumes nothing.
use mathlib.Core.Path.{◌≡◌, refl, sym, ap, ap₂, subst, ◌∙◌}
use mathlib.Core.Bool.{Bool, true, false, not, ◌&&◌}
use mathlib.Core.List.{[], ◌∷◌}
use Prim.Native.Nat.{ℕ, ◌<◌}
use native.Mathlib.Omega.{arith}
use lib.Bits.{bit_or}
use Rattle.word.specs.Fields.{opcode, a_of, b_of, e_of, f_of}
use Rattle.word.specs.Word.{pick}
use Rattle.word.proofs.Tables.{Each}
use Rattle.word.proofs.Tests.{clash}
use Rattle.std.specs.Prelude.{Option}
use Rattle.std.specs.declared.option.Option.TheVariants.{Some, None}
use Rattle.kinds.specs.declared.Kind.{Kind}
use Rattle.isa.specs.Sheet.{kind_at}
use Rattle.isa.specs.Instructions.{unassigned, read_as, read_of}
use Rattle.isa.specs.Masks.{Masks, in_mask, masks_as, masks_of}
use Rattle.machine.specs.Machine.{Machine, R, takes_line, fetch_locked}
use Rattle.machine.specs.Step.{Ra, Rb, Next, cannot, to, taking, fetched, step}
use Rattle.control.specs.Control.{unit, performed, assigned, zero_divisor, locked_access, by_interrupt, interrupted, interrupt_assigned, control_step, control_in}
use Rattle.control.proofs.Agreement.{agreement}
use Rattle.usage.specs.Usage.{masks_at}
use Rattle.claims_sheet.specs.Masks.{with_outside, on_next, MaskLaws}
use Rattle.claims_sheet.proofs.Rules.{after_taking}
use Rattle.claims_sheet.proofs.Exact.{exact}
use Rattle.claims_sheet.proofs.Apart.{few, does_writes, taking_writes, fetched_outside, takes_outside, locked_outside, fetch_locked_outside, in_mask_lem, goes_outside}
use Rattle.claims_sheet.proofs.Touched.{mask_of, is, in_one, destination, does_by_fields, does_by_f, does, does_used, uses_x, uses_y, control, kind, is_assigned_lem, by_zero, by_lock, x_in, y_in, writes_is, used, zero_used, lock_is, lock_used, lock_same}
use Rattle.claims_sheet.proofs.Witnesses.{reads_needed, writes_needed}

-- ---- A step by the control word of w

if_used : (t : Bool) {x y : ℕ} → (t ≡ true → x ≡ y) → pick t x 0 ≡ pick t y 0
if_used true e = e refl
if_used false e = refl

abbrev pub done : ℕ → Machine → Machine
done w m = does (control w) (f_of w) w (Ra w m) (Rb w m) m

-- the machine's step, where it fetches w
abbrev pub step_of : ℕ → Machine → Next
step_of w m = pick (is_assigned_lem w) (pick (by_zero w (Rb w m)) (cannot 3) (pick (by_lock w (Ra w m) (Rb w m) m.state) (cannot 4) (to (done w m)))) (cannot 1)

-- which is the control word's, by bit 15 or by its fields
control_is : (w : ℕ) (m : Machine) → control_step (control w) w m ≡ step_of w m
unfolding control_step interrupted performed unit does does_by_f does_by_fields
control_is w m = go (by_interrupt (control w)) ∙ ap (λ l. pick (is_assigned_lem w) (pick (by_zero w (Rb w m)) (cannot 3) (pick l (cannot 4) (to (done w m)))) (cannot 1)) (lock_is w m.state)
  where
    go : (t : Bool)
        → (let c = control w in
        let a = does_by_f c (f_of w) w m in
        let b = does_by_fields c (f_of w) w (Ra w m) (Rb w m) m in
        let z = zero_divisor c w (Rb w m) in
        let l = locked_access c w m.state in
        pick t (pick (interrupt_assigned c w) (to a) (cannot 1)) (pick (assigned c w) (pick z (cannot 3) (pick l (cannot 4) (to b))) (cannot 1))
        ≡ pick (pick t (interrupt_assigned c w) (assigned c w)) (pick (not t && z) (cannot 3) (pick (not t && l) (cannot 4) (to (pick t a b)))) (cannot 1))
    go true = refl
    go false = refl

-- the machine's step, where a line is taken or not, and the fetch touches a locked byte or not
abbrev pub step_at : Bool → Bool → Machine → Next
step_at t l m = pick t (taking m) (pick l (cannot 4) (step_of (fetched m) m))

pub step_is : (m : Machine) → step m ≡ step_at (takes_line m.state) (fetch_locked m.state) m
unfolding step control_in
step_is m = ap (λ x. pick (takes_line m.state) (taking m) (pick (fetch_locked m.state) (cannot 4) x)) (sym (agreement (fetched m) m) ∙ control_is (fetched m) m)

few_8 : Each (λ k. k < 8) (0 ∷ 1 ∷ 2 ∷ 3 ∷ 4 ∷ 5 ∷ 6 ∷ 7 ∷ [])
few_8 = omega arith

module _ (w : ℕ) (m : Machine) (v : ℕ → ℕ) where
  abbrev reads : ℕ
  reads = (masks_of w).reads

  abbrev changed : Machine
  changed = with_outside reads v m

  -- where Ra and Rb are looked at, they are the same in both
  same_x : pick (uses_x (kind w)) (Ra w changed) 0 ≡ pick (uses_x (kind w)) (Ra w m) 0
  same_x = if_used (uses_x (kind w)) (λ t. in_mask_lem reads v (a_of w) (x_in w t) _ m)

  same_y : pick (uses_y (kind w)) (Rb w changed) 0 ≡ pick (uses_y (kind w)) (Rb w m) 0
  same_y = if_used (uses_y (kind w)) (λ t. in_mask_lem reads v (b_of w) (y_in w t) _ m)

  done_outside : is_assigned_lem w ≡ true → done w changed ≡ with_outside (bit_or reads (masks_of w).writes) v (done w m)
  unfolding does_used
  done_outside e =
      used w (Ra w changed) (Rb w changed) changed
      ∙ ap₂ (λ x y. does (control w) (f_of w) w x y changed)
      same_x
      same_y
      ∙ goes_outside reads v (destination (control w) (f_of w) w) (few (control w) (f_of w) w) _
      (does_writes (control w) (f_of w) w (pick (uses_x (kind w)) (Ra w m) 0) (pick (uses_y (kind w)) (Rb w m) 0))
      _ few_8 m
      ∙ ap₂ (λ W a. with_outside (bit_or reads W) v a) (sym (writes_is w e)) (sym (used w (Ra w m) (Rb w m) m))

  same_zero : by_zero w (Rb w changed) ≡ by_zero w (Rb w m)
  same_zero = zero_used w (Rb w changed) ∙ ap (λ y. by_zero w y) same_y ∙ sym (zero_used w (Rb w m))

  same_lock : by_lock w (Ra w changed) (Rb w changed) changed.state ≡ by_lock w (Ra w m) (Rb w m) m.state
  same_lock =
      lock_used w (Ra w changed) (Rb w changed) changed.state
      ∙ ap₂ (λ x y. by_lock w x y changed.state) same_x same_y
      ∙ lock_same w _ _ changed.state m.state (λ a. locked_outside reads v a _ m)
      ∙ sym (lock_used w (Ra w m) (Rb w m) m.state)

  step_outside : step_of w changed ≡ on_next (with_outside (bit_or reads (masks_of w).writes) v) (step_of w m)
  step_outside =
      ap₂ (λ z l. pick (is_assigned_lem w) (pick z (cannot 3) (pick l (cannot 4) (to (done w changed)))) (cannot 1)) same_zero same_lock
      ∙ go (is_assigned_lem w) refl (by_zero w (Rb w m)) (by_lock w (Ra w m) (Rb w m) m.state)
    where
      go : (t : Bool) → is_assigned_lem w ≡ t → (z l : Bool)
          → pick t (pick z (cannot 3) (pick l (cannot 4) (to (done w changed)))) (cannot 1)
          ≡ on_next (with_outside (bit_or reads (masks_of w).writes) v) (pick t (pick z (cannot 3) (pick l (cannot 4) (to (done w m)))) (cannot 1))
      go true e true l = refl
      go true e false true = refl
      go true e false false = ap to (done_outside e)
      go false e z l = refl

step_other : (w : ℕ) (m next : Machine) (k : ℕ) → k < 8 → step_of w m ≡ to next → in_mask (masks_of w).writes k ≡ false → R next.state k ≡ R m.state k
step_other w m next k h e n = go (is_assigned_lem w) refl (by_zero w (Rb w m)) (by_lock w (Ra w m) (Rb w m) m.state) e
  where
    go : (t : Bool) → is_assigned_lem w ≡ t → (z l : Bool) → pick t (pick z (cannot 3) (pick l (cannot 4) (to (done w m)))) (cannot 1) ≡ to next → R next.state k ≡ R m.state k
    go true a true l e = clash (cc)
    go true a false true e = clash (cc)
    go true a false false e =
        let z : done w m ≡ next = cc in
        let o = destination (control w) (f_of w) w in
        let apart : is o k ≡ false = sym (in_one o k (few (control w) (f_of w) w) h) ∙ ap (λ W. in_mask W k) (sym (writes_is w a)) ∙ n in
        subst (λ (x : Machine). R x.state k ≡ R m.state k) z ((does_writes (control w) (f_of w) w (Ra w m) (Rb w m)).other m k apart)
    go false a z l e = clash (cc)

-- ---- A line taken, or the step of the word fetched

-- the masks of either
abbrev masks_if : Bool → Machine → Masks
masks_if t m = pick t (record { reads = 0; writes = 0 }) (masks_of (fetched m))

-- no register outside `writes` changes
others_stay : (t l : Bool) (m next : Machine) (k : ℕ) → k < 8 → step_at t l m ≡ to next → in_mask (masks_if t m).writes k ≡ false → R next.state k ≡ R m.state k
others_stay true l m next k h e n = let z : after_taking m ≡ next = cc in subst (λ (x : Machine). R x.state k ≡ R m.state k) z refl
others_stay false true m next k h e n = clash (cc)
others_stay false false m next k h e n = step_other (fetched m) m next k h e n

-- none outside `reads` is looked at
alike_at : (t l : Bool) (m : Machine) (v : ℕ → ℕ)
    → step_at t l (with_outside (masks_if t m).reads v m) ≡ on_next (with_outside (bit_or (masks_if t m).reads (masks_if t m).writes) v) (step_at t l m)
unfolding mask_of
alike_at true l m v = ap to (goes_outside 0 v None tt _ taking_writes _ few_8 m)
alike_at false true m v = refl
alike_at false false m v = ap (λ w. step_of w (changed (fetched m) m v)) (fetched_outside (masks_of (fetched m)).reads v _ m) ∙ step_outside (fetched m) m v

-- ---- The laws

no_masks : (w : ℕ) (k : Option Kind) → read_as k w ≡ unassigned → masks_as k w ≡ record { reads = 0; writes = 0 }
no_masks w (Some k) e = clash (cc)
no_masks w None e = refl

pub mask_laws : MaskLaws
unfolding read_of masks_of
mask_laws =
    record {
      others_stay = λ m next k h e. others_stay (takes_line m.state) (fetch_locked m.state) m next k h (sym (step_is m) ∙ e);
      alike =
          λ m v. let a = with_outside (masks_at m).reads v m in
          step_is a
          ∙ ap₂ (λ t l. step_at t l a) (takes_outside (masks_at m).reads v _ m) (fetch_locked_outside (masks_at m).reads v _ m)
          ∙ alike_at (takes_line m.state) (fetch_locked m.state) m v
          ∙ ap (on_next (with_outside (bit_or (masks_at m).reads (masks_at m).writes) v)) (sym (step_is m));
      exact = exact;
      unassigned_none = λ w. no_masks w (kind_at (opcode w) (e_of w) (f_of w));
      taking_none = λ m e. ap (λ t. masks_if t m) e;
      reads_needed = reads_needed;
      writes_needed = writes_needed;
    }
