-- What a step of a word counts, by opcode, e and f: tests of the numbers that stand in the word, and no masks.
-- Assumes nothing.
use mathlib.Core.Path.{◌≡◌, refl, sym, ◌∙◌, ap}
use mathlib.Core.Bool.{Bool, true, false, not, ◌&&◌}
use mathlib.Core.List.{List}
use mathlib.Core.Logic.{◌⊎◌, inl, inr}
use Prim.Native.Nat.{ℕ, ◌/◌, ◌^◌, ◌<◌, ◌≤◌}
use native.Mathlib.Nat.{add-zero}
use native.Mathlib.Omega.{arith}
use borrow.Author.Tests.{ne_eqb, le-ltb}
use lib.Bits.{bit_or}
use lib.Dec.{eqb, ltb}
use Rattle.word.specs.Fields.{Bits, bits, field, opcode, e_of, f_of, a_of, b_of}
use Rattle.word.specs.Word.{pick, flag}
use Rattle.kinds.specs.declared.Kind.{Kind}
use Rattle.kinds.specs.declared.Kind.TheVariants.{Not, Getiid}
use Rattle.kinds.specs.Kinds.{kind_number}
use Rattle.std.specs.Prelude.{Option}
use Rattle.std.specs.declared.option.Option.TheVariants.{Some, None}
use Rattle.isa.specs.Sheet.{sheet_line, kind_at}
use Rattle.isa.specs.Masks.{in_mask, register_mask, reads_destination, reads_of, masks_as, masks_of}
use Rattle.usage.specs.declared.Usage.{Usage}
use Rattle.machine.specs.Machine.{Machine, takes_line}
use Rattle.machine.specs.Step.{fetched}
use Rattle.usage.specs.Usage.{is_kind, word_is, added, counted_by, counted, took_lines, step_counted}
use Rattle.usage.specs.Counting.{usage_with, either_of, nowhere, raised, raised_by, counted_steps}
use Rattle.usage.proofs.Raised.{raised_nowhere, raised_once}
use Rattle.usage.proofs.Added.{added_nowhere}
use Rattle.usage.proofs.InMasks.{in_none, in_one, in_or}
use Rattle.usage.proofs.Functions.{table, at}

-- the register that stands in those bits of w; none where the format lacks the part
abbrev pub is_part : Bits → ℕ → ℕ → Bool
is_part p w j = pick (eqb p.count 0) false (eqb (field p w) j)

pub in_part : (p : Bits) (w j : ℕ) → in_mask (register_mask p w) j ≡ is_part p w j
in_part p w j = go (eqb p.count 0)
  where
    go : (t : Bool) → in_mask (pick t 0 (2 ^ field p w)) j ≡ pick t false (eqb (field p w) j)
    go true = in_none j
    go false = in_one (field p w) j

-- Rj is read: as a or b, or as d where that is read too
abbrev pub is_read : Kind → ℕ → ℕ → Bool
is_read k w j =
    let ab = pick (is_part (sheet_line k).format.b w j) true (is_part (sheet_line k).format.a w j) in
    pick (reads_destination k) (pick ab true (is_part (sheet_line k).format.d w j)) ab

pub in_reads : (k : Kind) (w j : ℕ) → in_mask (reads_of k w) j ≡ is_read k w j
in_reads k w j =
    in_or (bit_or (register_mask (sheet_line k).format.a w) (register_mask (sheet_line k).format.b w)) _ j
    ∙ simp (in_or, in_part) (go (reads_destination k) _)
  where
    other : (s t : Bool) → pick s true t ≡ pick t true s
    other true true = refl
    other true false = refl
    other false true = refl
    other false false = refl

    go : (t s : Bool) → pick (in_mask (pick t (register_mask (sheet_line k).format.d w) 0) j) true s ≡ pick t (pick s true (is_part (sheet_line k).format.d w j)) s
    go true s = rw in_part (other _ s)
    go false s = rw (in_none j)

-- ---- n steps more

abbrev pub after : ℕ → Option Kind → ℕ → Usage → Usage
after n (Some k) w u = raised_by n (eqb (kind_number k)) (is_read k w) (is_part (sheet_line k).format.d w) u
after n None w u = u

pub none : (n : ℕ) (xs : List ℕ) → raised n nowhere xs ≡ xs
none n xs = raised_nowhere n 0 nowhere xs (λ j l. refl)

after_is : (n : ℕ) (x : Option Kind) (w : ℕ) (u : Usage)
    → after n x w u ≡ raised_by n (is_kind x) (in_mask (masks_as x w).reads) (in_mask (masks_as x w).writes) u
after_is n (Some k) w u =
    sym (λ i. raised_by n (eqb (kind_number k)) (λ j. in_reads k w j i) (λ j. in_part (sheet_line k).format.d w j i) u)
after_is n None w u =
    sym ((λ i. raised_by n nowhere (λ j. in_none j i) (λ j. in_none j i) u) ∙ (λ i. usage_with u.taken (none n u.kinds i) (none n u.reads i) (none n u.writes i)))

-- one step more is `counted`
pub steps_once : (w : ℕ) (u : Usage) → counted_steps 1 w u ≡ counted (word_is w) (masks_of w) u
steps_once w u = λ i. usage_with u.taken (raised_once 0 (word_is w) u.kinds i) (raised_once 0 (in_mask (masks_of w).reads) u.reads i) (raised_once 0 (in_mask (masks_of w).writes) u.writes i)

uncounted : (u : Usage) → counted_by nowhere nowhere nowhere u ≡ u
uncounted u = λ i. usage_with u.taken (once u.kinds i) (once u.reads i) (once u.writes i)
  where
    once : (xs : List ℕ) → added nowhere xs ≡ xs
    once xs = added_nowhere 0 nowhere xs (λ j l. refl)

-- ---- The step of a machine

by_test : (t : Bool) (w : ℕ) (u : Usage)
    → took_lines (flag t) (counted (λ j. not t && word_is w j) (pick t (record { reads = 0; writes = 0 }) (masks_of w)) u)
    ≡ pick t (took_lines 1 u) (counted (word_is w) (masks_of w) u)
by_test true w u = ap (took_lines 1) ((λ i. counted_by nowhere (λ j. in_none j i) (λ j. in_none j i) u) ∙ uncounted u)
by_test false w u = let x = counted (word_is w) (masks_of w) u in λ i. usage_with (add-zero x.taken i) x.kinds x.reads x.writes

module _ (m : Machine) (u : Usage) where
  -- one that takes a line counts that line and nothing else
  pub taking_counted : takes_line m.state ≡ true → step_counted m u ≡ took_lines 1 u
  taking_counted e = by_test (takes_line m.state) (fetched m) u ∙ ap (λ t. pick t (took_lines 1 u) (counted (word_is (fetched m)) (masks_of (fetched m)) u)) e

  -- any other counts its word
  pub fetching_counted : takes_line m.state ≡ false → step_counted m u ≡ counted (word_is (fetched m)) (masks_of (fetched m)) u
  fetching_counted e = by_test (takes_line m.state) (fetched m) u ∙ ap (λ t. pick t (took_lines 1 u) (counted (word_is (fetched m)) (masks_of (fetched m)) u)) e

-- at the opcode, e and f of w
pub of_word : (n w op e f : ℕ) (u : Usage) → opcode w ≡ op → e_of w ≡ e → f_of w ≡ f → after n (kind_at op e f) w u ≡ counted_steps n w u
unfolding masks_of
of_word n w op e f u p q r = sym (λ i. after n (kind_at (p i) (q i) (r i)) w u) ∙ after_is n (kind_at (opcode w) (e_of w) (f_of w)) w u

-- ---- What the code counts at an opcode whose kinds f tells apart

-- what g counts at each e and f
abbrev by_e_f : (ℕ → ℕ → ℕ → Usage → Usage) → List (List (ℕ → Usage → Usage))
by_e_f g = table 2 (λ e. table 8 (λ f. g e f))

row : (n op : ℕ) (g : ℕ → ℕ → ℕ → Usage → Usage) → by_e_f g ≡ by_e_f (λ e f. after n (kind_at op e f)) → (w : ℕ) (u : Usage) → opcode w ≡ op
    → g (e_of w) (f_of w) w u ≡ counted_steps n w u
row n op g t w u p =
    ap (λ h. h w u) (at 8 _ _ (at 2 _ _ t (e_of w) (omega arith)) (f_of w) (omega arith)) ∙ of_word n w op (e_of w) (f_of w) u p refl refl

-- of the kind, if any, that the code finds: with a, b and d in the word, and with no register
abbrev pub three : ℕ → Option Kind → ℕ → Usage → Usage
three n (Some k) w u = raised_by n (eqb (kind_number k)) (either_of (a_of w) (b_of w)) (eqb (field (bits 5 3) w)) u
three n None w u = u

abbrev pub bare : ℕ → Option Kind → ℕ → Usage → Usage
bare n (Some k) w u = raised_by n (eqb (kind_number k)) nowhere nowhere u
bare n None w u = u

module _ (n w : ℕ) (u : Usage) {x : Option Kind} (found : x ≡ kind_at (opcode w) (e_of w) (f_of w)) where
  -- opcode 0: NOT has no b
  pub operation : opcode w ≡ 0 → (f_of w ≡ 3 → ⊥) → three n x w u ≡ counted_steps n w u
  unfolding table kind_at
  operation p h =
      (λ i. three n ((found ∙ ap (λ op. kind_at op (e_of w) (f_of w)) p) i) w u)
      ∙ rw (ne_eqb _ _ h) at (row n 0 (λ e f w u. pick (eqb f 3) (after n (Some Not) w u) (three n (kind_at 0 e f) w u)) refl w u p)

  -- opcodes 1 and 11
  pub by_f : (w / 4096 ≡ 1) ⊎ (w / 4096 ≡ 11) → three n x w u ≡ counted_steps n w u
  unfolding table kind_at
  by_f (inl e) =
      let p : opcode w ≡ 1 = omega (arith, e) in
      (λ i. three n ((found ∙ ap (λ op. kind_at op (e_of w) (f_of w)) p) i) w u) ∙ row n 1 (λ e f. three n (kind_at 1 e f)) refl w u p
  by_f (inr e) =
      let p : opcode w ≡ 11 = omega (arith, e) in
      (λ i. three n ((found ∙ ap (λ op. kind_at op (e_of w) (f_of w)) p) i) w u) ∙ row n 11 (λ e f. three n (kind_at 11 e f)) refl w u p

  -- opcode 12: EI, DI and RETI touch no register, GETIID writes d
  pub interrupt : opcode w ≡ 12 → (f_of w ≡ 3 → ⊥) → bare n x w u ≡ counted_steps n w u
  unfolding table kind_at
  interrupt p h =
      (λ i. bare n ((found ∙ ap (λ op. kind_at op (e_of w) (f_of w)) p) i) w u)
      ∙ rw (ne_eqb _ _ h) at (row n 12 (λ e f w u. pick (eqb f 3) (after n (Some Getiid) w u) (bare n (kind_at 12 e f) w u)) refl w u p)

-- from 13 on
unassigned : (op e f : ℕ) → op < 16 → 13 ≤ op → kind_at op e f ≡ None
unfolding table kind_at
unassigned op e f l h = rw (le-ltb op 13 h) at (at {A = Option Kind} 16 (λ op. pick (ltb op 13) None (kind_at op e f)) (λ op. None) refl op l)

pub past_12 : (n w : ℕ) (u : Usage) → 13 ≤ opcode w → u ≡ counted_steps n w u
past_12 n w u h = ap (λ x. after n x w u) (sym (unassigned (opcode w) (e_of w) (f_of w) (omega arith) h)) ∙ of_word n w _ _ _ u refl refl refl
