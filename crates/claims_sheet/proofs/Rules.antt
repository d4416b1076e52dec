-- Two equations of tables of functions, by opcode, e and f, which antt computes for an unknown word and machine; and the line that is taken.
-- Assumes nothing.
use mathlib.Core.Path.{◌≡◌, refl, sym, ◌∙◌, ap}
use mathlib.Core.Bool.{Bool, true, false, not, ◌&&◌}
use mathlib.Core.Logic.{◌⊎◌, inl, inr, ⊎_elim, ◌↔◌}
use mathlib.Core.List.{List, [], ◌∷◌, ◌++◌}
use Prim.Native.Nat.{ℕ, zero, suc, ◌+◌, ◌≤◌, ◌<◌}
use native.Mathlib.Omega.{arith}
use borrow.Author.Tests.{eqb-true, eqb-false, eq-eqb, ne_eqb}
use lib.Dec.{T, eqb}
use lib.ListN.{get_or, take, drop}
use Rattle.word.specs.Fields.{opcode, e_of, f_of}
use Rattle.word.specs.Word.{pick, SE, operation, comparison}
use Rattle.word.proofs.Computed.{all, all_at}
use Rattle.word.proofs.Tests.{clash, is_true, never}
use Rattle.muldiv.specs.Muldiv.{muldiv}
use Rattle.isa.specs.Sheet.{kind_at}
use Rattle.isa.specs.Instructions.{Read, instruction, unassigned, read_as, read_of}
use Rattle.machine.specs.declared.State.{State}
use Rattle.machine.specs.Machine.{Machine, put_r, count, on_state, bit_of, without_line, lowest_from, lowest_line, takes_line, line_taken_by, fetch_locked}
use Rattle.machine.specs.Step.{Ra, Rb, d5_3, write, Rule, compute, compare, addi, ld, st, ldb, stb, jalr, bz, bnz, movi, movhi, input, output, multiply_divide, interrupt_rules, interrupt, RuleRow, by_f, by_f_dividing, no_rule, rule_rows, rule_in_row, choice, Next, cannot, to, step_by, taking, by_rule, fetched, fetches, step}
use Rattle.machine.proofs.Lines.{takes_none}
use Rattle.usage.proofs.Functions.{table, at}
use Rattle.claims_sheet.specs.Rules.{step_as, FetchesNow, LowestLine, TakesLine, Rules}
use Rattle.claims_words.proofs.Written.{written_then_read}

-- ---- Tables

-- what g says at each opcode, e and f
abbrev pub table_of : {A : Type 0} → (ℕ → ℕ → ℕ → A) → List (List (List A))
table_of g = table 16 (λ op. table 2 (λ e. table 8 (λ f. g op e f)))

pub at_word : {A : Type 0} (g h : ℕ → ℕ → ℕ → A) → table_of g ≡ table_of h → (w : ℕ) → g (opcode w) (e_of w) (f_of w) ≡ h (opcode w) (e_of w) (f_of w)
at_word g h t w = at 8 _ _ (at 2 _ _ (at 16 _ _ t (opcode w) (omega arith)) (e_of w) (omega arith)) (f_of w) (omega arith)

-- ---- The equations

-- the rows, but with F for the word's f in the rules of opcodes 0, 1, 11 and 12, which look at it
with_f : (ℕ → ℕ → ℕ → ℕ) → (ℕ → ℕ) → Rule
with_f g F w m = write (d5_3 w) (g (F w) (Ra w m) (Rb w m)) m

interrupt_with : (ℕ → ℕ) → Rule
interrupt_with F w m = on_state (λ s. get_or (interrupt_rules (put_r (d5_3 w)) s) (F w) s) m

rows_with : (ℕ → ℕ) → List RuleRow
rows_with F =
    by_f (0 ∷ 1 ∷ 2 ∷ 3 ∷ 4 ∷ 5 ∷ 6 ∷ 7 ∷ []) (with_f operation F) ∷ by_f (0 ∷ 1 ∷ 3 ∷ 4 ∷ 5 ∷ []) (with_f comparison F)
    ∷ (take 9 (drop 2 rule_rows)
    ++ (by_f_dividing (0 ∷ 1 ∷ 2 ∷ 4 ∷ 5 ∷ []) (4 ∷ 5 ∷ []) (with_f muldiv F) ∷ by_f (0 ∷ 1 ∷ 2 ∷ 3 ∷ []) (interrupt_with F) ∷ drop 13 rule_rows))

by_rows : ℕ → ℕ → ℕ → (ℕ → ℕ) → ℕ → Machine → Next
by_rows op e f F w m = step_by (rule_in_row (get_or (rows_with F) op no_rule) e f) w m

-- which is looked at for the one word
only_there : table_of by_rows ≡ table_of (λ op e f F w m. by_rows op e f (λ v. F w) w m)
unfolding table with_f interrupt_with rows_with by_rows
only_there = refl

-- the step of what was read
of_read : Read → Machine → Next
of_read (instruction i) m = step_as i m
of_read unassigned m = cannot 1

by_sheet_lem : ℕ → ℕ → ℕ → ℕ → Machine → Next
by_sheet_lem op e f w m = of_read (read_as (kind_at op e f) w) m

same : table_of (λ op e f. by_rows op e f (λ v. f)) ≡ table_of by_sheet_lem
unfolding table with_f interrupt_with rows_with by_rows of_read by_sheet_lem kind_at addi ld st ldb stb jalr bz bnz movi movhi input output SE operation comparison muldiv
same = refl

-- where the machine fetches, neither test holds
pub unstopped : (s : State) → fetches s ≡ true → (takes_line s ≡ false) × (fetch_locked s ≡ false)
unstopped s = go (takes_line s) (fetch_locked s)
  where
    go : (t l : Bool) → (not t && not l) ≡ true → (t ≡ false) × (l ≡ false)
    go true l e = never e
    go false true e = never e
    go false false e = (refl, refl)

-- where the machine fetches w, its step is w's
pub fetching_step : (m : Machine) (w : ℕ) → FetchesNow m → fetched m ≡ w → step m ≡ by_rule w m
unfolding step
fetching_step m w n h = let g = unstopped m.state n in λ i. pick (g.0 i) (taking m) (pick (g.1 i) (cannot 4) (by_rule (h i) m))

-- with the word's own f, the rows are the machine's
stepped : (m : Machine) (w : ℕ) → FetchesNow m → fetched m ≡ w → step m ≡ of_read (read_of w) m
unfolding choice with_f interrupt_with rows_with by_rows compute compare multiply_divide interrupt by_sheet_lem read_of
stepped m w n h =
    fetching_step m w n h
    ∙ ap (λ g. g f_of w m) (at_word _ _ only_there w)
    ∙ ap (λ g. g w m) (at_word _ _ same w)

-- ---- Taking

-- the machine after a line is taken
abbrev pub after_taking : Machine → Machine
after_taking m = on_state (λ s. count (line_taken_by s)) m

pub taking_step : (m : Machine) → takes_line m.state ≡ true → step m ≡ to (after_taking m)
unfolding step
taking_step m e = ap (λ t. pick t (taking m) (pick (fetch_locked m.state) (cannot 4) (by_rule (fetched m) m))) e

locked_step : (m : Machine) → takes_line m.state ≡ false → fetch_locked m.state ≡ true → step m ≡ cannot 4
unfolding step
locked_step m t l = λ i. pick (t i) (taking m) (pick (l i) (cannot 4) (by_rule (fetched m) m))

-- the lowest line, looked for from line i on
lowest_is : (p k n i : ℕ) → LowestLine p k → i ≤ k → k < i + n → lowest_from n i p ≡ k
unfolding lowest_from
lowest_is p k zero i l a b = absurd (omega (arith, a, b))
lowest_is p k (suc n) i l a b = go (eqb i k) refl (λ below. lowest_is p k n (suc i) l below (omega (arith, b)))
  where
    go : (t : Bool) → eqb i k ≡ t → (i < k → lowest_from n (suc i) p ≡ k) → pick (eqb (bit_of i p) 1) i (lowest_from n (suc i) p) ≡ k
    go true e further = let z = eqb-true i k e in rw (z, l.pends)
    go false e further = let below : i < k = omega (arith, a, eqb-false i k e) in rw (l.none_below i below) (further below)

-- line k out of a byte: its bit is clear, and the others stay
abbrev is_out_lem : ℕ → ℕ → ℕ → Bool
is_out_lem p k j = eqb (bit_of j (without_line k p)) (pick (eqb j k) 0 (bit_of j p))

every_byte : T (all 256 (λ p. all 8 (λ k. all 8 (is_out_lem p k))))
unfolding all
every_byte = tt

out : (p k j : ℕ) → p < 256 → k < 8 → j < 8 → bit_of j (without_line k p) ≡ pick (eqb j k) 0 (bit_of j p)
out p k j a b c =
    let t = all_at 256 (λ p. all 8 (λ k. all 8 (is_out_lem p k))) every_byte p a in
    eqb-true _ _ (is_true _ (all_at 8 (is_out_lem p k) (all_at 8 (λ k. all 8 (is_out_lem p k)) t k b) j c))

-- no bit of 0 is set
none_set : (k : ℕ) → k < 8 → bit_of k 0 ≡ 0
unfolding all
none_set k h = eqb-true _ _ (is_true _ (all_at 8 (λ k. eqb (bit_of k 0) 0) tt k h))

-- so a byte with a lowest line is not 0
takes : (s : State) (k : ℕ) → (s.enabled ≡ 0 → ⊥) → LowestLine s.pending k → takes_line s ≡ true
takes s k e l = rw (ne_eqb _ 0 e, ne_eqb _ 0 (λ z. clash (sym (none_set k l.one_of_eight) ∙ ap (bit_of k) (sym z) ∙ l.pends)))

-- and that line is taken out of it
takes_it_lem : (m : Machine) (k : ℕ) → m.state.pending < 256 → LowestLine m.state.pending k → TakesLine m k (after_taking m)
takes_it_lem m k b l =
    let p = m.state.pending in
    let e : lowest_line p ≡ k = lowest_is p k 8 0 l (omega arith) l.one_of_eight in
    rw e (record {
      clears = out p k k b l.one_of_eight l.one_of_eight ∙ rw (eq-eqb k k refl);
      others = λ j h n. out p k j b l.one_of_eight h ∙ rw (ne_eqb j k n);
      rest = refl;
    })

-- the tests of enable and of the pending byte
fetching_is : (s : State) → (fetches s ≡ true) ↔ (((s.enabled ≡ 0) ⊎ (s.pending ≡ 0)) × (fetch_locked s ≡ false))
fetching_is s = (
  λ e. let u = unstopped s e in (go (eqb s.enabled 0) refl (eqb s.pending 0) refl u.0, u.1),
  λ h. let t = takes_none s (⊎_elim inr inl h.0) in λ i. not (t i) && not (h.1 i),
)
  where
    go : (t : Bool) → eqb s.enabled 0 ≡ t → (u : Bool) → eqb s.pending 0 ≡ u → (not t && not u) ≡ false → (s.enabled ≡ 0) ⊎ (s.pending ≡ 0)
    go true a u b h = inl (eqb-true _ _ a)
    go false a true b h = inr (eqb-true _ _ b)
    go false a false b h = never (sym h)

pub rules : Rules
unfolding of_read
rules =
    record {
      read = λ i w e m n h. stepped m w n h ∙ ap (λ x. of_read x m) e;
      written = λ i w e m n h. stepped m w n h ∙ ap (λ x. of_read x m) (written_then_read i w e).1;
      unassigned_stops = λ w e m n h. stepped m w n h ∙ ap (λ x. of_read x m) e;
      taking = λ m k b e l. (after_taking m, taking_step m (takes m.state k e l), takes_it_lem m k b l);
      locked_fetch = locked_step;
      fetching = λ m. fetching_is m.state;
    }
