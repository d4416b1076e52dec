-- The choice of a word, by its opcode, and by f as the code tests it.
-- Assumes nothing.
use mathlib.Core.Path.{◌≡◌, refl, sym, ap, ap₂, ◌∙◌}
use mathlib.Core.Bool.{Bool, true, false, beq}
use mathlib.Core.List.{[], ◌∷◌}
use Prim.Native.Nat.{ℕ, zero, suc, ◌+◌, ◌/◌, ◌%◌, ◌<◌, ◌≤◌}
use native.Mathlib.Omega.{arith}
use borrow.Author.Tests.{lt-ltb, eq-eqb, ne_eqb}
use lib.Dec.{T, eqb, ltb}
use lib.ListN.{get_or}
use Rattle.word.specs.Codes.{below6_but}
use Rattle.word.specs.Fields.{opcode, e_of, f_of}
use Rattle.word.specs.Word.{pick}
use Rattle.word.proofs.Computed.{all, all_at}
use Rattle.word.proofs.Tests.{same_test}
use Rattle.machine.specs.Step.{RuleRow, by_f, by_f_dividing, one, one_at, by_e, no_rule, among, rule_rows, Choice, rule, division, access, unassigned, rule_in_row, choice, input, output}
use Rattle.machine.specs.Run.{is_out}
use Rattle.rules.proofs.Values.{f_is}

-- ---- Which words are assigned: the code's test, and that the rows say the same, by one computed test

abbrev is_assigned : Choice → Bool
is_assigned (rule r) = true
is_assigned (division r) = true
is_assigned (access touched r) = true
is_assigned unassigned = false

abbrev assigned_by : ℕ → ℕ → Bool
assigned_by op f = pick (ltb 12 op) false (pick (eqb op 1) (below6_but 2 f) (pick (eqb op 11) (below6_but 3 f) (pick (eqb op 12) (ltb f 4) true)))

abbrev agrees : ℕ → ℕ → ℕ → Bool
agrees e op f = beq (is_assigned (rule_in_row (get_or rule_rows op no_rule) e f)) (assigned_by op f)

test : (e : ℕ) → T (all 16 (λ op. all 8 (agrees e op)))
unfolding all
test e = tt

assigned_is : (w : ℕ) → w < 65536 → is_assigned (rule_in_row (get_or rule_rows (opcode w) no_rule) (e_of w) (f_of w)) ≡ assigned_by (opcode w) (f_of w)
assigned_is w l =
    let row = all_at 16 (λ op. all 8 (agrees (e_of w) op)) (test (e_of w)) (opcode w) (omega arith) in
    same_test _ _ (all_at 8 (agrees (e_of w) (opcode w)) row (f_of w) (omega arith))

-- the f by which opcode 11 divides, as the code tests it
pub divisions : (w : ℕ) → eqb (w % 8 / 2) 2 ≡ among (f_of w) (4 ∷ 5 ∷ [])
unfolding all
divisions w = same_test _ _ (all_at 8 (λ f. beq (eqb (f / 2) 2) (among f (4 ∷ 5 ∷ []))) tt (w % 8) (omega arith)) ∙ ap (λ f. among f (4 ∷ 5 ∷ [])) (f_is w)

-- ---- The last arm of a match over neighbouring numbers

-- f is none of the n numbers from k on
abbrev pub NoneFrom : ℕ → ℕ → ℕ → Type 0
NoneFrom k zero f = Unit {0}
NoneFrom k (suc n) f = NoneFrom k n f × (f ≡ k + n → ⊥)

pub past_from : (k n f : ℕ) → k ≤ f → NoneFrom k n f → k + n ≤ f
past_from k zero f l p = omega arith
past_from k (suc n) f l p = omega (arith, past_from k n f l p.0)

-- ---- The choice

-- of a row's assigned words with this e and f
abbrev choice_in : RuleRow → ℕ → ℕ → Choice
choice_in (by_f fs r) e f = rule r
choice_in (by_f_dividing fs gs r) e f = pick (among f gs) (division r) (rule r)
choice_in (one r) e f = rule r
choice_in (one_at touched r) e f = access touched r
choice_in (by_e r₀ r₁) e f = rule (pick (eqb e 0) r₀ r₁)
choice_in no_rule e f = unassigned

in_row : (x : RuleRow) (e f : ℕ) → rule_in_row x e f ≡ pick (is_assigned (rule_in_row x e f)) (choice_in x e f) unassigned
in_row (by_f fs r) e f = by_test (among f fs)
  where
    by_test : (t : Bool) → pick t (rule r) unassigned ≡ pick (is_assigned (pick t (rule r) unassigned)) (rule r) unassigned
    by_test true = refl
    by_test false = refl
in_row (by_f_dividing fs gs r) e f = by_tests (among f fs) (among f gs)
  where
    by_tests : (t s : Bool)
        → pick t (pick s (division r) (rule r)) unassigned
        ≡ pick (is_assigned (pick t (pick s (division r) (rule r)) unassigned)) (pick s (division r) (rule r)) unassigned
    by_tests true true = refl
    by_tests true false = refl
    by_tests false s = refl
in_row (one r) e f = refl
in_row (one_at touched r) e f = refl
in_row (by_e r₀ r₁) e f = refl
in_row no_rule e f = refl

module _ (op w : ℕ) (small : w < 65536) (has : w / 4096 ≡ op) where
  pub chosen : choice w ≡ pick (assigned_by op (f_of w)) (choice_in (get_or rule_rows op no_rule) (e_of w) (f_of w)) unassigned
  unfolding choice
  chosen =
      let o : opcode w ≡ op = omega arith in
      in_row (get_or rule_rows (opcode w) no_rule) (e_of w) (f_of w)
      ∙ ap₂ (λ t i. pick t (choice_in (get_or rule_rows i no_rule) (e_of w) (f_of w)) unassigned) (assigned_is w small ∙ ap (λ i. assigned_by i (f_of w)) o) o

  pub past_12 : 12 < op → choice w ≡ unassigned
  past_12 l = chosen ∙ rw (lt-ltb 12 op l)

-- an opcode with some f only, where the code's test of f says t
pub by_its_f : (op : ℕ) (has-f : ℕ → Bool) (w : ℕ) (x : Choice) {t : Bool} → w < 65536 → w / 4096 ≡ op → has-f (w % 8) ≡ t
    → pick (assigned_by op (f_of w)) (choice_in (get_or rule_rows op no_rule) (e_of w) (f_of w)) unassigned ≡ pick (has-f (f_of w)) x unassigned
    → choice w ≡ pick t x unassigned
by_its_f op has-f w x small has e s = chosen op w small has ∙ s ∙ ap (λ t. pick t x unassigned) (ap has-f (sym (f_is w)) ∙ e)

module _ (w : ℕ) (small : w < 65536) where
  pub at_no_port : (w / 4096 ≡ 10 → ⊥) → is_out w ≡ false
  at_no_port n = rw (ne_eqb (opcode w) 10 (λ e. n (omega arith)))

  module _ (has : w / 4096 ≡ 10) where
    port_word : (t : Bool) → eqb (e_of w) 0 ≡ t → choice w ≡ rule (pick t input output)
    port_word t e = chosen 10 w small has ∙ ap (λ t. rule (pick t input output)) e

    pub in_word : e_of w ≡ 0 → (choice w ≡ rule input) × (is_out w ≡ false)
    in_word e = let o : opcode w ≡ 10 = omega arith in (port_word true (eq-eqb _ 0 e), rw (o, e))

    pub out_word_lem : (e_of w ≡ 0 → ⊥) → (choice w ≡ rule output) × (is_out w ≡ true)
    out_word_lem n =
        let o : opcode w ≡ 10 = omega arith in
        let e : e_of w ≡ 1 = omega arith in
        (port_word false (ne_eqb _ 0 n), rw (o, e))
