-- The test, part by part; the rows by computing it for the numbers that a row names; and the span of a window, byte by byte.
-- Assumes nothing.
use mathlib.Core.Path.{◌≡◌, refl, sym, ap, ◌∙◌}
use mathlib.Core.Bool.{Bool, true, false, not, ◌&&◌, ◌||◌}
use mathlib.Core.List.{List, [], ◌∷◌}
use mathlib.Core.Logic.{◌↔◌}
use Prim.Native.Nat.{ℕ, zero, suc, ◌+◌, ◌<◌, ◌≤◌}
use native.Mathlib.Omega.{arith}
use borrow.Author.Tests.{ne_eqb, le-leb, leb-true, eqb-true, eqb-false}
use lib.Dec.{eqb, leb}
use Rattle.word.specs.Word.{pick, add, clear0, signed, low_bits, SE}
use Rattle.word.proofs.Tests.{never}
use Rattle.isa.specs.Sheet.{kind_at}
use Rattle.isa.specs.Instructions.{read_of, write_of}
use Rattle.machine.specs.declared.State.{State}
use Rattle.machine.specs.Machine.{Machine, put_locked, is_single, takes_line, is_locked, touches_locked, bytes_at, fetch_locked}
use Rattle.machine.specs.Step.{PC, ld, st, ldb, choice, Next, cannot, to, doing, step}
use Rattle.image.specs.declared.Range.{Range}
use Rattle.image.specs.Image.{with_range}
use Rattle.panel.specs.Calls.{part_of, holds_locked, window_of}
use Rattle.claims_sheet.specs.Rules.{r, FetchesNow}
use Rattle.claims_sheet.proofs.Rules.{rules, fetching_step}
use Rattle.claims_locks.specs.Locks.{LiesIn, Keeps, Locks5, At5, Locks}

-- ---- In other words

-- the test, of its three numbers
abbrev within : ℕ → ℕ → ℕ → ℕ → Bool
within flag first last address = not (eqb flag 0) && leb first address && leb address last

within_is : (flag first last address : ℕ) → (within flag first last address ≡ true) ↔ LiesIn flag first last address
within_is flag first last address = (
  go (eqb flag 0) refl (leb first address) refl (leb address last) refl,
  λ h. rw (ne_eqb _ 0 h.range, le-leb _ _ h.from_first, le-leb _ _ h.to_last),
)
  where
    go : (t : Bool) → eqb flag 0 ≡ t → (u : Bool) → leb first address ≡ u → (v : Bool) → leb address last ≡ v
        → (not t && u && v) ≡ true → LiesIn flag first last address
    go true a u b v c e = never e
    go false a false b v c e = never e
    go false a true b false c e = never e
    go false a true b true c e = record { range = eqb-false _ 0 a; from_first = leb-true _ _ b; to_last = leb-true _ _ c }

locked_is : (address : ℕ) (s : State) → (is_locked address s ≡ true) ↔ LiesIn s.locked s.first_locked s.last_locked address
locked_is address s = within_is s.locked s.first_locked s.last_locked address

-- ---- What a load locks

module _ (range : Range) (s : State) where
  abbrev chosen : Bool → State
  chosen none = pick none (put_locked 0 0 0 s) (put_locked 1 range.first range.last s)

  load_locks : (address : ℕ) → (is_locked address (with_range range s) ≡ true) ↔ LiesIn range.locked range.first range.last address
  load_locks address = go (eqb range.locked 0) refl
    where
      go : (t : Bool) → eqb range.locked 0 ≡ t → (is_locked address (chosen t) ≡ true) ↔ LiesIn range.locked range.first range.last address
      go true e = (λ h. never h, λ h. absurd (h.range (eqb-true _ 0 e)))
      go false e =
          let z = within_is 1 range.first range.last address in (
            λ h. let in-it = z.0 h in record { range = eqb-false _ 0 e; from_first = in-it.from_first; to_last = in-it.to_last },
            λ h. z.1 (record { range = λ n. omega arith; from_first = h.from_first; to_last = h.to_last }),
          )

  load_keeps : (range.locked ≡ 0 → ⊥) → Keeps (with_range range s) 1 range.first range.last
  load_keeps n = let e = ne_eqb range.locked 0 n in record { flag = ap (λ t. (chosen t).locked) e; first = ap (λ t. (chosen t).first_locked) e; last = ap (λ t. (chosen t).last_locked) e }

  load_none : range.locked ≡ 0 → Keeps (with_range range s) 0 0 0
  load_none n =
      let e : eqb range.locked 0 ≡ true = ap (λ k. eqb k 0) n in
      record { flag = ap (λ t. (chosen t).locked) e; first = ap (λ t. (chosen t).first_locked) e; last = ap (λ t. (chosen t).last_locked) e }

-- ---- Rows: the range is 5 to 5, so that what a step touches is tested by numbers

any5 : List ℕ → Bool
any5 [] = false
any5 (k ∷ more) = within 1 5 5 k || any5 more

touches5 : {s : State} → Locks5 s → (touched : List ℕ) → touches_locked touched s ≡ any5 touched
unfolding any5
touches5 l [] = refl
touches5 l (k ∷ more) = λ i. within (l.flag i) (l.first i) (l.last i) k || touches5 l more i

-- a load or store of the word w, which touches these bytes where R0 has that value
module _ {w : ℕ} {m : Machine} (h : At5 w m) (touched : ℕ → List ℕ) where
  tested : (done : Next) → pick (touches_locked (touched (r m 0)) m.state) (cannot 4) done ≡ pick (any5 (touched 0)) (cannot 4) done
  tested done = ap (λ t. pick t (cannot 4) done) (ap (λ x. touches_locked (touched x) m.state) h.zero ∙ touches5 h.locks (touched 0))

module _ (m : Machine) where
  ld_4 : At5 0x3044 m → step m ≡ cannot 4
  unfolding choice SE signed low_bits any5
  ld_4 h = fetching_step m 0x3044 h.fetches h.word ∙ tested h (λ x. bytes_at (clear0 (add x 4))) (doing ld 0x3044 m)

  ld_6 : At5 0x3046 m → (next : Machine) × (step m ≡ to next)
  unfolding choice SE signed low_bits any5
  ld_6 h = (_, fetching_step m 0x3046 h.fetches h.word ∙ tested h (λ x. bytes_at (clear0 (add x 6))) (doing ld 0x3046 m))

  st_5 : At5 0x4045 m → step m ≡ cannot 4
  unfolding choice SE signed low_bits any5
  st_5 h = fetching_step m 0x4045 h.fetches h.word ∙ tested h (λ x. bytes_at (clear0 (add x 5))) (doing st 0x4045 m)

  ldb_4 : At5 0x5044 m → (next : Machine) × (step m ≡ to next)
  unfolding choice SE signed low_bits any5
  ldb_4 h = (_, fetching_step m 0x5044 h.fetches h.word ∙ tested h (λ x. add x 4 ∷ []) (doing ldb 0x5044 m))

  ldb_6 : At5 0x5046 m → (next : Machine) × (step m ≡ to next)
  unfolding choice SE signed low_bits any5
  ldb_6 h = (_, fetching_step m 0x5046 h.fetches h.word ∙ tested h (λ x. add x 6 ∷ []) (doing ldb 0x5046 m))

  -- the fetch touches 4 and 5
  fetch_4 : Locks5 m.state → takes_line m.state ≡ false → PC m ≡ 4
      → (is_single m.state ≡ true → step m ≡ cannot 4) × (is_single m.state ≡ false → FetchesNow m)
  unfolding any5
  fetch_4 l t p = (
    λ e. rules.locked_fetch m t (λ i. e i && (ap (λ k. touches_locked (bytes_at k) m.state) p ∙ touches5 l (bytes_at 4)) i),
    λ e. let free : fetch_locked m.state ≡ false = λ i. e i && touches_locked (bytes_at (PC m)) m.state in λ i. not (t i) && not (free i),
  )

-- ---- Windows

module _ (s : State) where
  held : (start count k : ℕ) → start ≤ k → k < start + count → is_locked k s ≡ true → holds_locked s start count ≡ true
  unfolding holds_locked
  held start zero k a b e = absurd (omega arith)
  held start (suc count) k a b e = by_first (is_locked start s) refl (held (suc start) count k)
    where
      by_first : (t : Bool) → is_locked start s ≡ t → (suc start ≤ k → k < suc start + count → is_locked k s ≡ true → holds_locked s (suc start) count ≡ true)
          → (t || holds_locked s (suc start) count) ≡ true
      by_first true q more = refl
      by_first false q more =
          let other : k ≡ start → ⊥ = λ z. never (sym q ∙ ap (λ j. is_locked j s) (sym z) ∙ e) in
          more (omega arith) (omega arith) e

  free : (start count : ℕ) → ((k : ℕ) → start ≤ k → k < start + count → is_locked k s ≡ false) → holds_locked s start count ≡ false
  unfolding holds_locked
  free start zero f = refl
  free start (suc count) f =
      ap (λ t. t || holds_locked s (suc start) count) (f start (omega arith) (omega arith))
      ∙ free (suc start) count (λ k a b. f k (omega arith) (omega arith))

  module _ (P D : List ℕ) (start count : ℕ) where
    window_by : (t : Bool) → holds_locked s start count ≡ t → window_of s P D true start count ≡ pick t [] (part_of D start count)
    unfolding window_of
    window_by t e = ap (λ u. pick u [] (part_of D start count)) e

    of_program : window_of s P D false start count ≡ part_of P start count
    unfolding window_of
    of_program = refl

pub locks : Locks
unfolding read_of write_of kind_at signed low_bits
locks =
    record {
      locked = locked_is;
      load_locks = load_locks;
      load_keeps = load_keeps;
      load_none = load_none;
      ld_at_4 = ((refl, refl), ld_4);
      ld_at_6 = ((refl, refl), ld_6);
      ldb_at_4 = ((refl, refl), ldb_4);
      st_at_5 = ((refl, refl), st_5);
      ldb_at_6 = ((refl, refl), ldb_6);
      fetch_at_4 = fetch_4;
      window_hidden = λ s P D start count k a b e. window_by s P D start count true (held s start count k a b e);
      window_shown = λ s P D start count f. window_by s P D start count false (free s start count f);
      window_program = of_program;
    }
