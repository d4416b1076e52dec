-- The marked cases: the words of a to g, of the key and of the interrupts by computing them, the instructions of h to l through the sheet's rules.
-- Assumes nothing.
use mathlib.Core.Path.{◌≡◌, refl, ◌∙◌, ap, ap₂}
use mathlib.Core.Bool.{Bool, true, false, not, ◌&&◌}
use mathlib.Core.List.{List}
use Prim.Native.Nat.{ℕ, ◌+◌, ◌/◌, ◌%◌, ◌<◌}
use native.Mathlib.Omega.{arith}
use borrow.Author.Tests.{ne_eqb}
use lib.Dec.{eqb, ltb}
use lib.IntN.{pos}
use lib.ListN.{length, get_or, set, length-set}
use lib.Seq.{get_or-set_same, get_or-set_other}
use lib.Signed.{lt_z}
use Rattle.word.specs.Fields.{Bits}
use Rattle.word.specs.Word.{pick, add, clear0, signed, low_bits, SE, shifted, sha, shl, flag}
use Rattle.muldiv.specs.Muldiv.{div}
use Rattle.kinds.specs.declared.Kind.{Kind}
use Rattle.kinds.specs.declared.Kind.TheVariants.{Sha, Shl, Cmplt, Cmpltu, Ldb, Bz, Div}
use Rattle.isa.specs.declared.Instruction.{Instruction}
use Rattle.isa.specs.Sheet.{kind_at, sheet_line}
use Rattle.isa.specs.Instructions.{read_of, write_of}
use Rattle.machine.specs.Machine.{Machine, touches_locked, bytes_at, count, without_line, lowest_from, lowest_line, on_state, read_from, word_at, put_word}
use Rattle.machine.specs.Step.{PC, write, jump, Rule, Touched, word_at_a', fetched, addi, ld, st, jalr, bnz, movi, movhi, input, interrupt, rule, access, choice, cannot, to, step_by}
use Rattle.claims_words.specs.Instructions.{RegisterRange, InRange}
use Rattle.claims_sheet.specs.Rules.{r, SE-n, address, done, effect, step_as}
use Rattle.claims_sheet.specs.Marked.{registers, Steps, Does, Gives, Marked}
use Rattle.claims_words.proofs.Instructions.{instructions}
use Rattle.claims_sheet.proofs.Rules.{fetching_step, taking_step, rules}

-- a step by the rule of a known word
by_word : (w : ℕ) (s : Rule) (m : Machine) {Q : Machine → Type 0} → choice w ≡ rule s
    → (length m.state.r ≡ 8 → Q (on_state count (s w (jump (add (PC m) 2) m)))) → Steps w m Q
by_word w s m e q l n h = (_, fetching_step m w n h ∙ ap (λ x. step_by x w m) e, q l)

-- and by that of a load or store, which touches no locked byte
by_access : (w : ℕ) (touched : Touched) (s : Rule) (m : Machine) {Q : Machine → Type 0} → choice w ≡ access touched s → touches_locked (touched w m) m.state ≡ false
    → (length m.state.r ≡ 8 → Q (on_state count (s w (jump (add (PC m) 2) m)))) → Steps w m Q
by_access w touched s m e u q l n h =
    (_, fetching_step m w n h ∙ ap (λ x. step_by x w m) e ∙ ap (λ b. pick b (cannot 4) (to (on_state count (s w (jump (add (PC m) 2) m))))) u, q l)

-- a step by an instruction
by_sheet_lem : (i : Instruction) (m : Machine) {next : Machine} {Q : Machine → Type 0} → step_as i m ≡ to next → (InRange i → length m.state.r ≡ 8 → Q next) → Does i m Q
by_sheet_lem i m {next} s q w e l n h = (next, rules.written i w e m n h ∙ s, q ((instructions.written i).1 (w, e)) l)

-- what was written in a register stands there
there : (rs : List ℕ) (k : ℕ) {v u : ℕ} → length rs ≡ 8 → k < 8 → v ≡ u → get_or (set rs k v) k 0 ≡ u
there rs k {v} l h e = get_or-set_same rs k v 0 (omega arith) ∙ e

-- a register, used or not, is one of the eight
few : (p : Bits) (x : ℕ) → RegisterRange p x → x < 8
few p x = go (eqb p.count 0)
  where
    go : (t : Bool) → pick t (x ≡ 0) (x < 8) → x < 8
    go true h = omega arith
    go false h = h

-- an instruction that writes g (Ra, Rb) in Rd
gives : (k : Kind) (g : ℕ → ℕ → ℕ) {x y v : ℕ} → ((m : Machine) (d a b : ℕ) → r m b ≡ y → effect k a b d (pos 0) m ≡ done (write d (g (r m a) (r m b)) m)) → g x y ≡ v → Gives k x y v
gives k g s e m d a b p q =
    by_sheet_lem (registers k d a b) m (s (jump (add (PC m) 2) m) d a b q)
    (λ i l. there m.state.r d l (few (sheet_line k).format.d d i.d) (ap₂ g p q ∙ e))

-- a word that was stored at 2 stands there
stored : (D : List ℕ) (v : ℕ) → length D ≡ 65536 → word_at (put_word 2 v D) 2 ≡ v
stored D v l =
    let low : get_or (set (set D 2 (v % 256)) 3 (v / 256)) 2 0 ≡ v % 256 =
    get_or-set_other (set D 2 (v % 256)) 3 2 (v / 256) 0 (λ e. omega (arith, e)) ∙ get_or-set_same D 2 (v % 256) 0 (omega (arith, l)) in
    let high : get_or (set (set D 2 (v % 256)) 3 (v / 256)) 3 0 ≡ v / 256 =
    get_or-set_same (set D 2 (v % 256)) 3 (v / 256) 0 (omega (arith, l, length-set D 2 (v % 256))) in
    rw (low, high) (omega arith)

pub marked : Marked
unfolding read_of write_of kind_at signed low_bits SE shifted choice fetched addi ld st jalr bnz movi movhi input interrupt lowest_from
marked =
    record {
      a = (refl, refl);
      b = (refl, refl);
      c =
          λ m. by_word 0x9AF6 movi m refl
          (λ l. let rs = set m.state.r 5 0xFFF6 in
          let x : get_or rs 5 0 ≡ 0xFFF6 = there m.state.r 5 l (omega arith) refl in
          by_word 0x9B3A movhi _ refl (λ l. there rs 5 l (omega arith) (ap (λ x. x % 256 + 0x3A00) x)));
      d = λ m p. by_word 0x24BF addi m refl (λ l. there m.state.r 2 l (omega arith) (ap (λ x. add x 0xFFFF) p));
      e = λ m p q. by_word 0x85FD bnz m refl (λ l. rw (q, p));
      f = λ m p q. by_word 0x7240 jalr m refl (λ l. (ap clear0 q, there m.state.r 1 l (omega arith) (ap (λ x. add x 2) p)));
      g = λ m p u. by_access 0x3043 word_at_a' ld m refl (ap (λ x. touches_locked (bytes_at (clear0 (add x 3))) m.state) p ∙ u) (λ l. there m.state.r 1 l (omega arith) (ap (λ x. word_at m.D (clear0 (add x 3))) p));
      h = (gives Sha sha (λ m d a b q. refl) refl, gives Shl shl (λ m d a b q. refl) refl);
      i = (gives Sha sha (λ m d a b q. refl) refl, gives Shl shl (λ m d a b q. refl) refl);
      j = (gives Cmplt (λ x y. flag (lt_z (signed 16 x) (signed 16 y))) (λ m d a b q. refl) refl, gives Cmpltu (λ x y. flag (ltb x y)) (λ m d a b q. refl) refl);
      k = λ m d a n p u. by_sheet_lem (record { kind = Ldb; a = a; b = 0; d = d; n = n }) m (ap (λ b. pick b (cannot 4) (done (write d (SE-n (signed 8 (get_or m.D (address m a n) 0))) (jump (add (PC m) 2) m)))) u) (λ i l. there m.state.r d l i.d (ap (λ x. SE-n (signed 8 x)) p));
      l = λ m a n p q. by_sheet_lem (record { kind = Bz; a = a; b = 0; d = 0; n = n }) m refl (λ i l. rw (ne_eqb _ 0 q, p));
      division = gives Div div (λ m d a b q. ap (λ x. pick (eqb x 0) (cannot 3) (done (write d (div (r m a) (r m b)) m))) q) refl;
      key =
          λ m others p. (
            by_word 0xA601 input m refl (λ l. (there m.state.r 3 l (omega arith) (ap (λ I. get_or I 1 0) p), ap (read_from 1) p)),
            by_word 0xA600 input m refl (λ l. (there m.state.r 3 l (omega arith) (ap (λ I. get_or I 0 0) p), p)),
          );
      patch =
          λ m v p q s l u. let free = ap (λ x. touches_locked (bytes_at (clear0 (add x 0))) m.state) q ∙ u in (
            λ t. by_access 0x4280 word_at_a' st m refl free (λ e. rw (t, p, q, s) (stored m.D v l)),
            λ t. by_access 0x4280 word_at_a' st m refl free (λ e. rw (t, p)),
          );
      interrupts = ((refl, refl), (refl, refl), (refl, refl), (refl, refl));
      reti = λ m p. by_word 0xC002 interrupt m refl (λ l. (p, refl));
      getiid = λ m p. by_word 0xC01B interrupt m refl (λ l. there m.state.r 3 l (omega arith) p);
      line_3 = λ m p e q. (_, taking_step m (ap₂ (λ e p. not (eqb e 0) && not (eqb p 0)) e q), refl, ap lowest_line q, p, ap (λ x. without_line (lowest_line x) x) q, refl);
    }
