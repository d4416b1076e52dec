-- What `take_line` leaves, by what the line is.
use Prim.Native.Nat.{ℕ, ◌+◌, ◌*◌, ◌≤◌}
use mathlib.Core.Bool.{Bool, true, false}
use mathlib.Core.Path.{◌≡◌, refl, sym, ap, ◌∙◌}
use mathlib.Core.List.{List, [], ◌∷◌, ◌++◌, append-nil}
use native.Mathlib.Omega.{arith}
use Rattle.std.proofs.Common.{Err}
use mathlib.Core.Logic.{inl, inr}
use lib.ListN.{length, take}
use Rattle.word.specs.Word.{pick}
use Rattle.word.proofs.Tests.{never, clash}
use Rattle.token.specs.Tokens.{Token}
use Rattle.expression.specs.declared.Label.{Label as Held}
use Rattle.expression.specs.declared.Value.{Value}
use Rattle.expression.specs.Operands.{Label}
use Rattle.expression.specs.Reading.{labels}
use Rattle.encoding.specs.declared.Judged.{Judged as Outcome}
use Rattle.refusal.specs.declared.Refusal.{Refusal}
use Rattle.refusal.specs.declared.Refusal.TheVariants.{TextLine, TextName}
use Rattle.assembler.specs.declared.passes.Progress.{Progress}
use Rattle.statement.specs.Syntax.{Statement, no_statement, of_row, line}
use Rattle.statement.specs.Reading.{ReadLine, outside, reads}
use Rattle.assembler.specs.Text.{Place, crowded, repeated, admitted, after, new_labels, judged}
use Rattle.encoding.specs.Words.{words_in, stated, Judged, bad}
use Rattle.encoding.specs.Numbers.{shown_judged, shown_word}
use Rattle.assembler.specs.Passes.{place_with, Given, NotGiven, finish, moved, Taken}
use Rattle.assembler.proofs.Taking.{counted_reply, counted_few}

abbrev outside_word : Outcome
outside_word = record { words = 0; word = Err TextLine }

-- a name given before is not one too many
not_both : (q : Place) (l : List Token) → repeated q l ≡ true → crowded q l ≡ false
unfolding repeated crowded
not_both q [] e = never e
not_both q (w ∷ l) e = rw e

-- a line that comes to j
module _ (table : List Held) (p : Progress) (l : ReadLine Value) (count : ℕ) (table' : List Held) (room : length table' ≡ 64) (few : count ≤ 64) (j : Outcome) (one : j.words ≤ 1) where
  abbrev here : Place
  here = place_with table p.labels p.address

  taken : judged here (admitted here l) ≡ shown_judged j
      → place_with table' count (p.address + 2 * j.words) ≡ after here (admitted here l)
      → Taken table l p table' (moved p count j)
  taken v m =
      record {
        place = m;
        reply = λ js. ap (λ (x : Judged). finish p (x ∷ js)) v ∙ counted_reply p.line p.reply j.word js;
        room = room;
        few = few;
        line = refl;
        bytes = omega arith;
        count = λ n h. counted_few p.line n p.reply j.word h;
      }

-- outside the grammar
taken_outside : (table : List Held) (p : Progress) → length table ≡ 64 → p.labels ≤ 64 → Taken table outside p table (moved p p.labels outside_word)
unfolding place_with judged admitted after
taken_outside table p r f =
    taken table p outside p.labels table r f outside_word (omega arith) refl
    (ap (λ (a : ℕ). record { names = labels (take p.labels table); address = a }) (let e : p.address + 2 * 0 ≡ p.address = omega arith in e))

module _ (table : List Held) (p : Progress) (name : List Token) (s : Statement Value) where
  abbrev at : Place
  at = place_with table p.labels p.address

  abbrev this : ReadLine Value
  this = reads (line name s)

  -- the name is one too many
  taken_crowded : length table ≡ 64 → p.labels ≤ 64 → crowded at name ≡ true → Taken table this p table (moved p p.labels outside_word)
  unfolding place_with judged admitted after
  taken_crowded r f w =
      taken table p this p.labels table r f outside_word (omega arith)
      (ap (λ (x : Bool). judged at (pick x outside this)) w)
      (ap (λ (a : ℕ). record { names = labels (take p.labels table); address = a }) (let e : p.address + 2 * 0 ≡ p.address = omega arith in e)
      ∙ sym (ap (λ (x : Bool). after at (pick x outside this)) w))

  -- the place after a line that is read
  places : (table' : List Held) (n : ℕ) (j : Outcome) → labels (take n table') ≡ labels (take p.labels table) ++ new_labels at name
      → j.words ≡ words_in s → crowded at name ≡ false → place_with table' n (p.address + 2 * j.words) ≡ after at (admitted at this)
  unfolding place_with admitted after
  places table' n j g e w =
      ap (λ (ns : List Label). record { names = ns; address = p.address + 2 * j.words }) g
      ∙ ap (λ (k : ℕ). record { names = labels (take p.labels table) ++ new_labels at name; address = p.address + 2 * k }) e
      ∙ sym (ap (λ (x : Bool). after at (pick x outside this)) w)

  none_new : (a : Place) (n : List Token) → repeated a n ≡ true → labels (take p.labels table) ≡ labels (take p.labels table) ++ new_labels a n
  unfolding repeated new_labels
  none_new a [] q = sym (append-nil _)
  none_new a (t ∷ ts) q = rw q (sym (append-nil _))

  -- an earlier line gave the name
  taken_repeated : (j : Outcome) → length table ≡ 64 → p.labels ≤ 64 → j.words ≡ words_in s → j.words ≤ 1 → j.word ≡ Err TextName → repeated at name ≡ true
      → Taken table this p table (moved p p.labels j)
  unfolding judged admitted place_with
  taken_repeated j r f o k e q =
      let w : crowded at name ≡ false = not_both at name q in
      taken table p this p.labels table r f j k
      (ap (λ (x : Bool). judged at (pick x outside this)) w ∙ ap (λ (x : Bool). pick x (bad 11) (stated p.address s)) q ∙ sym (ap shown_word e))
      (places table p.labels j (none_new at name q) o w)

  -- the line is read, and comes to j
  taken_read : (table' : List Held) (n : ℕ) (j : Outcome) → Given table p.labels name p.address table' n → j.words ≡ words_in s → j.words ≤ 1
      → shown_judged j ≡ stated p.address s → Taken table this p table' (moved p n j)
  unfolding judged admitted place_with
  taken_read table' n j g o f v =
      taken table p this n table' g.room g.few j f
      (ap (λ (x : Bool). judged at (pick x outside this)) g.fits ∙ ap (λ (x : Bool). pick x (bad 11) (stated p.address s)) g.new ∙ sym v)
      (places table' n j g.given o g.fits)

-- ---- As the code hands them on: by equations

pub words_few : (s : Statement Value) → words_in s ≤ 1
unfolding words_in
words_few no_statement = omega arith
words_few (of_row k q) = omega arith

pub outside_taken : {table : List Held} {p : Progress} {l : ReadLine Value} {r : Progress}
    → length table ≡ 64 → p.labels ≤ 64 → l ≡ outside → r ≡ moved p p.labels outside_word → Taken table l p table r
outside_taken {table} {p} k f e m = rw (e, m) (taken_outside table p k f)

pub one_at_most : (j : Outcome) (s : Statement Value) → j.words ≡ words_in s → j.words ≤ 1
one_at_most j s e = omega (arith, words_few s)

module _ {table table' : List Held} {p : Progress} {name : List Token} {s : Statement Value} {l : ReadLine Value} {r : Progress} (j : Outcome)
    (e : l ≡ reads (line name s)) (one : j.words ≡ words_in s) where
  pub read_taken : {n : ℕ} → Given table p.labels name p.address table' n → shown_judged j ≡ stated p.address s → r ≡ moved p n j
      → Taken table l p table' r
  read_taken {n} g v m = rw (e, m) (taken_read table p name s table' n j g one (one_at_most j s one) v)

  module _ (room : length table ≡ 64) (least : p.labels ≤ 64) {f : Refusal} (g : NotGiven table p.labels name p.address table' f) where
    pub crowded_taken : f ≡ TextLine → r ≡ moved p p.labels outside_word → Taken table l p table' r
    crowded_taken h m = elim g.why [
      | inl x ↦ clash (cc)
      | inr x ↦ rw (e, m, g.same) (taken_crowded table p name s room least x.1)
    ]

    pub repeated_taken : (f ≡ TextLine → ⊥) → r ≡ moved p p.labels (record { words = j.words; word = Err f }) → Taken table l p table' r
    repeated_taken h m = elim g.why [
      | inl x ↦ rw (e, m, g.same) (taken_repeated table p name s (record { words = j.words; word = Err f }) room least one (one_at_most j s one) (ap (λ (y : Refusal). Err y) x.0) x.1)
      | inr x ↦ absurd (h x.0)
    ]
