-- A step of any control word, with x and y for what stands in Ra and Rb, changes no register but the one that it writes, and looks at
-- none: with other values in the registers outside a mask it does the same. So it is where a line is taken, which writes none.
-- Assumes nothing.
use mathlib.Core.Path.{◌≡◌, refl, sym, ap, ◌∙◌}
use mathlib.Core.Bool.{Bool, true, false, ◌||◌}
use mathlib.Core.List.{List, [], ◌∷◌}
use Rattle.std.specs.Prelude.{Option}
use Rattle.std.specs.declared.option.Option.TheVariants.{Some, None}
use Prim.Native.Nat.{ℕ, zero, suc, ◌<◌}
use native.Mathlib.Omega.{arith}
use borrow.Author.Tests.{eqb-true, eqb-false}
use lib.Bits.{bit_or}
use lib.Dec.{eqb}
use lib.ListN.{get_or-map}
use lib.Seq.{get_or-set_other, set-set, set_comm}
use Rattle.word.specs.Fields.{bits, field, N8}
use Rattle.word.specs.Word.{pick, add}
use Rattle.word.proofs.Tables.{Each, looked_up}
use Rattle.word.proofs.Tests.{never, either}
use Rattle.isa.specs.Masks.{in_mask}
use Rattle.machine.specs.declared.State.{State}
use Rattle.machine.specs.Machine.{Machine, R, put_r, put_pc, count, takes_line, is_locked, fetch_locked, on_state, on_inputs, put_o, put_d}
use Rattle.machine.specs.Step.{PC, write, fetched}
use Rattle.control.specs.Control.{result_of, inputs_after, next, by_interrupt, writes_port, stored_data, stored, written}
use Rattle.claims_sheet.specs.Masks.{put_outside}
use Rattle.claims_sheet.proofs.Rules.{after_taking}
use Rattle.claims_sheet.proofs.Touched.{mask_of, is, Few, in_one, in_or, destinations, chosen, chosen_by_f, destination, ended, unit_of, does_by_fields, does_by_f, does}

-- ---- The register written

chosen_few : (c w : ℕ) → Few (chosen c w)
chosen_few c w = looked_up Few (destinations w) (tt, (omega arith, (omega arith, (omega arith, tt)))) tt (field (bits 1 0) c)

pub few : (c f w : ℕ) → Few (destination c f w)
few c f w =
    let h = chosen_few c w in
    either Few (by_interrupt c) (looked_up Few (None ∷ None ∷ None ∷ chosen c w ∷ []) (tt, (tt, (tt, (h, tt)))) tt f) h

-- u is written there
abbrev put : ℕ → State → Option ℕ → State
put u s None = s
put u s (Some d) = put_r d u s

written_is : (c w u : ℕ) (s : State) → written c w u s ≡ put u s (chosen c w)
unfolding written
written_is c w u s = get_or-map (put u s) (destinations w) (field (bits 1 0) c) None

put_other : (u : ℕ) (s : State) (o : Option ℕ) (k : ℕ) → is o k ≡ false → R (put u s o) k ≡ R s k
put_other u s None k e = refl
put_other u s (Some d) k e = get_or-set_other s.r d k u 0 (λ z. eqb-false d k e (sym z))

-- z put in Rk first is lost where Rk is written
put_after : (k z u : ℕ) (s : State) (o : Option ℕ) → put u (put_r k z s) o ≡ pick (is o k) (put u s o) (put_r k z (put u s o))
put_after k z u s None = refl
put_after k z u s (Some d) = go (eqb d k) refl
  where
    go : (t : Bool) → eqb d k ≡ t → put_r d u (put_r k z s) ≡ pick t (put_r d u s) (put_r k z (put_r d u s))
    go true e = rw (eqb-true d k e, set-set s.r k z u)
    go false e = rw (set_comm s.r k d z u (λ x. eqb-false d k e (sym x)))

-- What is done where register o alone is written: no other changes, and what is put in a register before is lost where it is o.
pub record WritesOnly (o : Option ℕ) (g : Machine → Machine) : Type 0 where
  pub other : (m : Machine) (k : ℕ) → is o k ≡ false → R (g m).state k ≡ R m.state k
  pub after : (k z : ℕ) (m : Machine) → g (write k z m) ≡ pick (is o k) (g m) (write k z (g m))

-- a step by the fields, for v and p given
ended_after : (c w v p k z : ℕ) (m : Machine)
    → on_state (ended c w v p) (write k z m) ≡ pick (is (chosen c w) k) (on_state (ended c w v p) m) (write k z (on_state (ended c w v p) m))
ended_after c w v p k z m =
    let o = chosen c w in
    let s = put_pc p (count m.state) in
    ap (λ t. on_state (λ x. t) m) (written_is c w v (put_r k z s) ∙ put_after k z v s o ∙ ap (λ t. pick (is o k) t (put_r k z t)) (sym (written_is c w v s)))
    ∙ go (is o k) (written c w v s)
  where
    go : (t : Bool) (s : State) → on_state (λ x. pick t s (put_r k z s)) m ≡ pick t (on_state (λ x. s) m) (write k z (on_state (λ x. s) m))
    go true s = refl
    go false s = refl

-- and no other register changes
ended_other : (c w v p k : ℕ) (s : State) → is (chosen c w) k ≡ false → R (ended c w v p s) k ≡ R s k
ended_other c w v p k s e = ap (λ s. R s k) (written_is c w v _) ∙ put_other v _ (chosen c w) k e

module _ (c f w x y : ℕ) where
  store_after : (k z u : ℕ) (m : Machine) → stored c w x y u (write k z m) ≡ write k z (stored c w x y u m)
  unfolding stored
  store_after k z u m = go (writes_port c)
    where
      go : (t : Bool) → pick t (put_o (N8 w) x (write k z m)) (put_d (stored_data c y u m.D) (write k z m)) ≡ write k z (pick t (put_o (N8 w) x m) (put_d (stored_data c y u m.D) m))
      go true = refl
      go false = refl

  fields_write : WritesOnly (chosen c w) (does_by_fields c f w x y)
  unfolding does_by_fields stored
  fields_write =
      record {
        other =
            λ m k e. let u = unit_of c f w x y in
            ended_other c w _ _ k (stored c w x y u m).state e
            ∙ either (λ (a : Machine). R a.state k ≡ R m.state k) (writes_port c) refl refl;
        after =
            λ k z m. let u = unit_of c f w x y in
            let v = result_of c w u (PC m) m.D m.I in
            let p = next c w x (PC m) in
            ap (λ a. on_state (ended c w v p) (on_inputs (inputs_after c w) a)) (store_after k z u m) ∙ ended_after c w v p k z (on_inputs (inputs_after c w) (stored c w x y u m));
      }

-- n may grow before a register is written or after
counted : (c w u : ℕ) (s : State) → count (written c w u s) ≡ written c w u (count s)
counted c w u s = ap count (written_is c w u s) ∙ go (chosen c w) ∙ sym (written_is c w u (count s))
  where
    go : (o : Option ℕ) → count (put u s o) ≡ put u (count s) o
    go None = refl
    go (Some d) = refl

-- GETIID, which writes the line number
abbrev getiid : ℕ → ℕ → Machine → Machine
getiid c w m = on_state (ended c w m.state.line (add (PC m) 2)) m

getiid_is : (c w : ℕ) (m : Machine) → does_by_f c 3 w m ≡ getiid c w m
unfolding does_by_f
getiid_is c w m = ap (λ t. on_state (λ x. t) m) (counted c w m.state.line (put_pc (add (PC m) 2) m.state))

-- by f: GETIID writes the register chosen, and EI, DI and RETI write none
f_writes : (c f w : ℕ) → WritesOnly (chosen_by_f c f w) (does_by_f c f w)
unfolding does_by_f
f_writes c zero w = record { other = λ m k e. refl; after = λ k z m. refl }
f_writes c (suc zero) w = record { other = λ m k e. refl; after = λ k z m. refl }
f_writes c (suc (suc zero)) w = record { other = λ m k e. refl; after = λ k z m. refl }
f_writes c (suc (suc (suc zero))) w =
    record {
      other = λ m k e. ap (λ (a : Machine). R a.state k) (getiid_is c w m) ∙ ended_other c w _ _ k m.state e;
      after =
          λ k z m. getiid_is c w (write k z m)
          ∙ ended_after c w m.state.line (add (PC m) 2) k z m
          ∙ ap (λ a. pick (is (chosen c w) k) a (write k z a)) (sym (getiid_is c w m));
    }
f_writes c (suc (suc (suc (suc f)))) w = record { other = λ m k e. refl; after = λ k z m. refl }

-- by either
pub does_writes : (c f w x y : ℕ) → WritesOnly (destination c f w) (does c f w x y)
unfolding does
does_writes c f w x y = go (by_interrupt c)
  where
    go : (t : Bool)
        → WritesOnly (pick t (chosen_by_f c f w) (chosen c w)) (λ m. pick t (does_by_f c f w m) (does_by_fields c f w x y m))
    go true = f_writes c f w
    go false = fields_write c f w x y

-- a line taken
pub taking_writes : WritesOnly None after_taking
taking_writes = record { other = λ m k e. refl; after = λ k z m. refl }

-- ---- Registers outside a mask

module _ (mask : ℕ) (v : ℕ → ℕ) where
  -- v in those of the list
  abbrev outside : List ℕ → Machine → Machine
  outside ks m = on_state (put_outside mask v ks) m

  outside_one : (k : ℕ) (ks : List ℕ) (m : Machine) → outside (k ∷ ks) m ≡ pick (in_mask mask k) (outside ks m) (write k (v k) (outside ks m))
  unfolding put_outside
  outside_one k ks m = go (in_mask mask k)
    where
      go : (t : Bool)
          → on_state (λ s. pick t (put_outside mask v ks s) (put_r k (v k) (put_outside mask v ks s))) m
          ≡ pick t (outside ks m) (write k (v k) (outside ks m))
      go true = refl
      go false = refl

  -- what looks at no register stays
  stays : {A : Type 0} (g : Machine → A) → ((k z : ℕ) (m : Machine) → g (write k z m) ≡ g m) → (ks : List ℕ) (m : Machine) → g (outside ks m) ≡ g m
  unfolding put_outside
  stays g h [] m = refl
  stays g h (k ∷ ks) m =
      let e = stays g h ks m in
      ap g (outside_one k ks m) ∙ either (λ x. g x ≡ g m) (in_mask mask k) e (h k (v k) (outside ks m) ∙ e)

  -- the word fetched, and whether a line is to be taken
  pub fetched_outside : (ks : List ℕ) (m : Machine) → fetched (outside ks m) ≡ fetched m
  unfolding fetched
  fetched_outside = stays fetched (λ k z m. refl)

  pub takes_outside : (ks : List ℕ) (m : Machine) → takes_line (outside ks m).state ≡ takes_line m.state
  takes_outside = stays (λ m. takes_line m.state) (λ k z m. refl)

  -- whether a byte is locked, and the fetch
  pub locked_outside : (a : ℕ) (ks : List ℕ) (m : Machine) → is_locked a (outside ks m).state ≡ is_locked a m.state
  locked_outside a = stays (λ m. is_locked a m.state) (λ k z m. refl)

  pub fetch_locked_outside : (ks : List ℕ) (m : Machine) → fetch_locked (outside ks m).state ≡ fetch_locked m.state
  fetch_locked_outside = stays (λ m. fetch_locked m.state) (λ k z m. refl)

  -- and so does a register in the mask
  pub in_mask_lem : (j : ℕ) → in_mask mask j ≡ true → (ks : List ℕ) (m : Machine) → R (outside ks m).state j ≡ R m.state j
  unfolding put_outside
  in_mask_lem j h [] m = refl
  in_mask_lem j h (k ∷ ks) m = ap (λ x. R x.state j) (outside_one k ks m) ∙ go (in_mask mask k) refl ∙ in_mask_lem j h ks m
    where
      go : (t : Bool) → in_mask mask k ≡ t → R (pick t (outside ks m) (write k (v k) (outside ks m))).state j ≡ R (outside ks m).state j
      go true e = refl
      go false e = get_or-set_other (outside ks m).state.r k j (v k) 0 (λ z. never (sym e ∙ ap (in_mask mask) (sym z) ∙ h))

module _ (mask : ℕ) (v : ℕ → ℕ) (o : Option ℕ) (few-o : Few o) (g : Machine → Machine) (writes : WritesOnly o g) where
  pub goes_outside : (ks : List ℕ) → Each (λ k. k < 8) ks → (m : Machine) → g (outside mask v ks m) ≡ outside (bit_or mask (mask_of o)) v ks (g m)
  unfolding put_outside
  goes_outside [] h m = refl
  goes_outside (k ∷ ks) h m =
      ap g (outside_one mask v k ks m)
      ∙ go (in_mask mask k)
      ∙ ap (λ a. pick (in_mask mask k || is o k) a (write k (v k) a)) (goes_outside ks h.1 m)
      ∙ sym (outside_one (bit_or mask (mask_of o)) v k ks (g m) ∙ rw (in_or mask (mask_of o) k, in_one o k few-o h.0))
    where
      go : (t : Bool) → (let a = outside mask v ks m in g (pick t a (write k (v k) a)) ≡ pick (t || is o k) (g a) (write k (v k) (g a)))
      go true = refl
      go false = writes.after k (v k) (outside mask v ks m)
