-- Which registers the step of a control word writes and looks at, and which inputs it leaves: four equations of tables, by opcode, e and f,
-- which antt computes for an unknown word, Ra, Rb and machine.
-- Assumes nothing.
use mathlib.Core.Path.{◌≡◌, refl, ap, ap₂, ◌∙◌}
use mathlib.Core.Bool.{Bool, true, false, not, ◌&&◌, ◌||◌, or-true, beq}
use mathlib.Core.List.{List, [], ◌∷◌, ◌++◌}
use Prim.Native.Nat.{ℕ, ◌+◌, ◌-◌, ◌*◌, ◌/◌, ◌%◌, ◌^◌, ◌<◌}
use native.Mathlib.Omega.{arith}
use borrow.Author.Tests.{eq-eqb}
use lib.Bits.{bit_or, or_shr, or_mod}
use lib.Dec.{T, eqb}
use lib.ListN.{get_or, set}
use Rattle.word.specs.Fields.{bits, field, opcode, a_of, b_of, e_of, f_of, N8}
use Rattle.word.specs.Word.{pick, add, operation, comparison}
use Rattle.muldiv.specs.Muldiv.{muldiv}
use Rattle.word.proofs.Computed.{all, all_at}
use Rattle.word.proofs.Tests.{never, same_test}
use Rattle.std.specs.Prelude.{Option}
use Rattle.std.specs.declared.option.Option.TheVariants.{Some, None}
use Rattle.kinds.specs.declared.Kind.{Kind}
use Rattle.isa.specs.Sheet.{kind_at}
use Rattle.isa.specs.Masks.{Masks, in_mask, masks_as, masks_of}
use Rattle.isa.specs.Instructions.{Register, a_register, b_register, d_register}
use Rattle.machine.specs.declared.State.{State}
use Rattle.machine.specs.Machine.{Machine, R, is_locked, touches_locked, put_pc, count, on_state, on_inputs}
use Rattle.machine.specs.Step.{PC, d5_3, d8_6, d11_9, among, interrupt_rules}
use Rattle.journal.specs.Journal.{reads_key}
use Rattle.control.specs.Control.{second, units, unit_field, unit, result_field, store_field, touched_by, locked_access, result_of, inputs_after, next, by_interrupt, stored_data, stored, written, takes, assigned, divides, zero_divisor, interrupt_assigned, table as controls}
use Rattle.claims_sheet.specs.Masks.{said_to_use}
use Rattle.usage.proofs.Functions.{table}
use Rattle.claims_sheet.proofs.Rules.{table_of, at_word}

-- ---- Masks

-- of one register, or none
unfoldable pub mask_of : Option ℕ → ℕ
mask_of None = 0
mask_of (Some d) = 2 ^ d

-- Rk is that register
abbrev pub is : Option ℕ → ℕ → Bool
is None k = false
is (Some d) k = eqb d k

-- it is one of the eight
abbrev pub Few : Option ℕ → Type 0
Few None = Unit {0}
Few (Some d) = d < 8

-- two tests that are found alike at each i and j
both_at : (m n : ℕ) (f g : ℕ → ℕ → Bool) → T (all m (λ i. all n (λ j. beq (f i j) (g i j)))) → (i j : ℕ) → i < m → j < n → f i j ≡ g i j
both_at m n f g t i j h l =
    same_test _ _ (all_at n (λ j. beq (f i j) (g i j)) (all_at m (λ i. all n (λ j. beq (f i j) (g i j))) t i h) j l)

pub in_one : (o : Option ℕ) (k : ℕ) → Few o → k < 8 → in_mask (mask_of o) k ≡ is o k
unfolding mask_of all
in_one None k f h = both_at 1 8 (λ d k. in_mask 0 k) (λ d k. false) tt 0 k (omega arith) h
in_one (Some d) k f h = both_at 8 8 (λ d k. in_mask (2 ^ d) k) eqb tt d k f h

pub in_or : (A B k : ℕ) → in_mask (bit_or A B) k ≡ (in_mask A k || in_mask B k)
unfolding all
in_or A B k =
    let one : k + 1 - k ≡ 1 = omega arith in
    rw (one, or_shr A B k, or_mod (A / 2 ^ k) (B / 2 ^ k) 1)
    (both_at 2 2 (λ x y. eqb (bit_or x y) 1) (λ x y. eqb x 1 || eqb y 1) tt (A / 2 ^ k % 2) (B / 2 ^ k % 2) (omega arith) (omega arith))

-- ---- The tables: what a control word writes, and what it looks at

-- the control word of an opcode and e
abbrev pub control_at : ℕ → ℕ → ℕ
control_at op e = get_or controls (op * 2 + e) 0

abbrev pub destinations : ℕ → List (Option ℕ)
destinations w = None ∷ Some (d5_3 w) ∷ Some (d8_6 w) ∷ Some (d11_9 w) ∷ []

-- the register that bits 1..0 of a control word choose
abbrev pub chosen : ℕ → ℕ → Option ℕ
chosen c w = get_or (destinations w) (field (bits 1 0) c) None

-- with bit 15 (02, L12): EI, DI and RETI write none, GETIID that one
abbrev pub chosen_by_f : ℕ → ℕ → ℕ → Option ℕ
chosen_by_f c f w = get_or (None ∷ None ∷ None ∷ chosen c w ∷ []) f None

-- the register that a control word writes for this f
abbrev pub destination : ℕ → ℕ → ℕ → Option ℕ
destination c f w = pick (by_interrupt c) (chosen_by_f c f w) (chosen c w)

-- a control word is assigned for this f
abbrev taken : ℕ → ℕ → Bool
taken c f =
    let bit-14 = eqb (field (bits 14 14) c) 1 in
    pick (by_interrupt c) (bit-14 && among f (0 ∷ 1 ∷ 2 ∷ 3 ∷ [])) (bit-14 && takes (unit_field c) f)

-- what the masks go by
abbrev said : Option Kind → Register → Bool
said (Some k) p = said_to_use k p
said None p = false

abbrev mask_if : Bool → ℕ → ℕ
mask_if t k = mask_of (pick t (Some k) None)

-- The Rd that MOVHI uses stands where other words have a.
through_control : ℕ → ℕ → ℕ → ℕ → Masks
through_control op e f w =
    let k = kind_at op e f in
    let c = control_at op e in
    record {
      reads = bit_or (bit_or (mask_if (said k a_register) (a_of w)) (mask_if (said k b_register) (b_of w))) (mask_if (said k d_register) (a_of w));
      writes = mask_of (pick (taken c f) (destination c f w) None);
    }

same_masks : table_of (λ op e f. masks_as (kind_at op e f)) ≡ table_of through_control
unfolding table through_control kind_at mask_of
same_masks = refl

-- v is written, PC becomes p, and n grows by 1
abbrev pub ended : ℕ → ℕ → ℕ → ℕ → State → State
ended c w v p s = written c w v (put_pc p (count s))

-- the unit's result, of f and what stands in Ra and Rb
abbrev pub unit_of : ℕ → ℕ → ℕ → ℕ → ℕ → ℕ
unit_of c f w x y = get_or (units f x (second c w y)) (unit_field c) 0

-- what a control word does by its fields
unfoldable pub does_by_fields : ℕ → ℕ → ℕ → ℕ → ℕ → Machine → Machine
does_by_fields c f w x y m =
    let u = unit_of c f w x y in
    on_state (ended c w (result_of c w u (PC m) m.D m.I) (next c w x (PC m))) (on_inputs (inputs_after c w) (stored c w x y u m))

-- what one with bit 15 does, of f
unfoldable pub does_by_f : ℕ → ℕ → ℕ → Machine → Machine
does_by_f c f w m = on_state (λ s. count (let on = put_pc (add s.pc 2) s in get_or (interrupt_rules (written c w) on) f on)) m

-- what a control word does
unfoldable pub does : ℕ → ℕ → ℕ → ℕ → ℕ → Machine → Machine
does c f w x y m = pick (by_interrupt c) (does_by_f c f w m) (does_by_fields c f w x y m)

-- Ra and Rb are used
abbrev pub uses_x : Option Kind → Bool
uses_x k = said k a_register || said k d_register

abbrev pub uses_y : Option Kind → Bool
uses_y k = said k b_register

-- the same, of 0 for what is not
unfoldable pub does_used : Option Kind → ℕ → ℕ → ℕ → ℕ → ℕ → Machine → Machine
does_used k c f w x y m = does c f w (pick (uses_x k) x 0) (pick (uses_y k) y 0) m

same_uses : table_of (λ op e f. does (control_at op e) f) ≡ table_of (λ op e f. does_used (kind_at op e f) (control_at op e) f)
unfolding table does does_by_f does_by_fields does_used kind_at second result_of inputs_after next stored_data stored written operation comparison muldiv
same_uses = refl

-- the inputs that it leaves
leaves : ℕ → ℕ → ℕ → ℕ → ℕ → ℕ → Machine → List ℕ
leaves op e f w x y m = (does (control_at op e) f w x y m).I

-- as they were, but for IN from port 1
said_to_leave : ℕ → ℕ → ℕ → ℕ → ℕ → ℕ → Machine → List ℕ
said_to_leave op e f w x y m = pick (eqb op 10 && eqb e 0 && eqb (N8 w) 1) (set m.I 0 0) m.I

same_inputs : table_of leaves ≡ table_of said_to_leave
unfolding table does does_by_f does_by_fields leaves said_to_leave inputs_after stored
same_inputs = refl

-- whether the divisor is zero, of Rb (with bit 15 there is none); and the same, of 0 for it where it is not used
zero_at : ℕ → ℕ → ℕ → ℕ → Bool
zero_at c f w y = not (by_interrupt c) && (divides (unit_field c) f && eqb (second c w y) 0)

same_zeros : table_of (λ op e f. zero_at (control_at op e) f) ≡ table_of (λ op e f w y. zero_at (control_at op e) f w (pick (uses_y (kind_at op e f)) y 0))
unfolding table zero_at kind_at second
same_zeros = refl

-- whether it touches a locked byte (with bit 15 none), of Ra and Rb; and the same, of 0 for what is not used
locked_at : ℕ → ℕ → ℕ → ℕ → ℕ → State → Bool
locked_at c f w x y s =
    let u = unit_of c f w x y in
    not (by_interrupt c) && touches_locked (touched_by (result_field c) u ++ touched_by (store_field c) u) s

same_locks : table_of (λ op e f. locked_at (control_at op e) f)
    ≡ table_of (λ op e f w x y. let k = kind_at op e f in locked_at (control_at op e) f w (pick (uses_x k) x 0) (pick (uses_y k) y 0))
unfolding table locked_at kind_at second
same_locks = refl

-- which bytes are locked is seen in the range
same_range : (at : List ℕ) (s t : State) → ((a : ℕ) → is_locked a s ≡ is_locked a t) → touches_locked at s ≡ touches_locked at t
same_range [] s t e = refl
same_range (a ∷ at) s t e = ap₂ (λ x y. x || y) (e a) (same_range at s t e)

-- ---- What the tables say of a word

or_left : (A B k : ℕ) → in_mask A k ≡ true → in_mask (bit_or A B) k ≡ true
or_left A B k e = in_or A B k ∙ rw e

or_right : (A B k : ℕ) → in_mask B k ≡ true → in_mask (bit_or A B) k ≡ true
or_right A B k e = in_or A B k ∙ rw e (or-true (in_mask A k))

alone : (d : ℕ) → d < 8 → in_mask (mask_if true d) d ≡ true
alone d h = in_one (Some d) d h h ∙ eq-eqb d d refl

module _ (w : ℕ) where
  abbrev pub control : ℕ
  control = control_at (opcode w) (e_of w)

  abbrev pub kind : Option Kind
  kind = kind_at (opcode w) (e_of w) (f_of w)

  masks_at : masks_of w ≡ through_control (opcode w) (e_of w) (f_of w) w
  unfolding masks_of
  masks_at = ap (λ g. g w) (at_word _ _ same_masks w)

  pub x_in : uses_x kind ≡ true → in_mask (masks_of w).reads (a_of w) ≡ true
  unfolding through_control
  x_in e =
      ap (λ M. in_mask M.reads (a_of w)) masks_at
      ∙ go (a_of w) (mask_if (said kind b_register) (b_of w)) (omega arith) (said kind a_register) (said kind d_register) e
    where
      go : (a b : ℕ) → a < 8 → (t u : Bool) → (t || u) ≡ true → in_mask (bit_or (bit_or (mask_if t a) b) (mask_if u a)) a ≡ true
      go a b h true u e = or_left (bit_or (mask_if true a) b) (mask_if u a) a (or_left (mask_if true a) b a (alone a h))
      go a b h false true e = or_right (bit_or (mask_if false a) b) (mask_if true a) a (alone a h)
      go a b h false false e = never e

  pub y_in : uses_y kind ≡ true → in_mask (masks_of w).reads (b_of w) ≡ true
  unfolding through_control
  y_in e =
      let a = mask_if (said kind a_register) (a_of w) in
      let b = mask_if true (b_of w) in
      ap (λ M. in_mask M.reads (b_of w)) masks_at
      ∙ rw e (or_left (bit_or a b) (mask_if (said kind d_register) (a_of w)) (b_of w) (or_right a b (b_of w) (alone (b_of w) (omega arith))))

  -- the word is assigned, and its divisor is zero
  abbrev pub is_assigned_lem : Bool
  is_assigned_lem = pick (by_interrupt control) (interrupt_assigned control w) (assigned control w)

  abbrev pub by_zero : ℕ → Bool
  by_zero y = not (by_interrupt control) && zero_divisor control w y

  -- it touches a locked byte
  pub by_lock : ℕ → ℕ → State → Bool
  by_lock x y s = locked_at control (f_of w) w x y s

  pub writes_is : is_assigned_lem ≡ true → (masks_of w).writes ≡ mask_of (destination control (f_of w) w)
  unfolding through_control assigned interrupt_assigned
  writes_is e = ap (λ M. M.writes) masks_at ∙ ap (λ t. mask_of (pick t (destination control (f_of w) w) None)) e

  pub used : (x y : ℕ) (m : Machine) → does control (f_of w) w x y m ≡ does_used kind control (f_of w) w x y m
  used x y m = ap (λ g. g w x y m) (at_word _ _ same_uses w)

  pub inputs_left : (x y : ℕ) (m : Machine) → (does control (f_of w) w x y m).I ≡ pick (reads_key w) (set m.I 0 0) m.I
  unfolding leaves said_to_leave
  inputs_left x y m = ap (λ g. g w x y m) (at_word _ _ same_inputs w)

  pub zero_used : (y : ℕ) → by_zero y ≡ by_zero (pick (uses_y kind) y 0)
  unfolding zero_divisor zero_at
  zero_used y = ap (λ g. g w y) (at_word _ _ same_zeros w)

  -- which is the control word's
  pub lock_is : (s : State) → (not (by_interrupt control) && locked_access control w s) ≡ by_lock (R s (a_of w)) (R s (b_of w)) s
  unfolding by_lock locked_at locked_access unit
  lock_is s = refl

  pub lock_used : (x y : ℕ) (s : State) → by_lock x y s ≡ by_lock (pick (uses_x kind) x 0) (pick (uses_y kind) y 0) s
  unfolding by_lock
  lock_used x y s = ap (λ g. g w x y s) (at_word _ _ same_locks w)

  -- it is seen in Ra, Rb and the range
  pub lock_same : (x y : ℕ) (s t : State) → ((a : ℕ) → is_locked a s ≡ is_locked a t) → by_lock x y s ≡ by_lock x y t
  unfolding by_lock locked_at
  lock_same x y s t e =
      let u = unit_of control (f_of w) w x y in
      ap (λ b. not (by_interrupt control) && b) (same_range (touched_by (result_field control) u ++ touched_by (store_field control) u) s t e)
