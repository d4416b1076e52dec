-- What `give` leaves, at each of its ends.
use Prim.Native.Nat.{ℕ, suc, ◌+◌, ◌-◌, ◌≤◌}
use mathlib.Core.Bool.{Bool, true, false}
use mathlib.Core.Path.{◌≡◌, refl, sym, ap, ◌∙◌}
use mathlib.Core.Logic.{inl, inr}
use mathlib.Core.List.{List, [], ◌∷◌, ◌++◌, append-nil}
use native.Mathlib.Omega.{arith}
use native.Mathlib.Numerals.{add-one}
use lib.Dec.{leb}
use lib.ListN.{length, take, set, length-take, length-set}
use lib.Seq.{take-suc-set}
use borrow.Author.Tests.{lt-leb, le-leb}
use Rattle.refusal.specs.declared.Refusal.TheVariants.{TextLine, TextName}
use Rattle.token.specs.Tokens.{Token}
use Rattle.expression.specs.declared.Label.{Label as Held}
use Rattle.expression.specs.declared.Value.{Value}
use Rattle.expression.specs.Operands.{Label, name_value}
use Rattle.expression.specs.Reading.{labels}
use Rattle.assembler.specs.Text.{given, crowded, repeated, new_labels}
use Rattle.assembler.specs.Passes.{place_with, Given, NotGiven}

labels_length : (ls : List Held) → length (labels ls) ≡ length ls
unfolding labels
labels_length [] = refl
labels_length (l ∷ ls) = ap suc (labels_length ls)

-- one label more
label_more : (ls : List Held) (l : Held) → labels (ls ++ (l ∷ [])) ≡ labels ls ++ (record { name = l.name.now; address = l.address } ∷ [])
unfolding labels
label_more [] l = refl
label_more (x ∷ ls) l = ap (λ (r : List Label). record { name = x.name.now; address = x.address } ∷ r) (label_more ls l)

-- the part of a table from its beginning to k
pub known_by : (table : List Held) (k : ℕ) (w : Token) {v : Value} {b : Bool} → v ≡ name_value (labels (take (k - 0) table)) w → v.known ≡ b
    → (name_value (labels (take k table)) w).known ≡ b
known_by table k w e f = let q : k ≡ k - 0 = omega arith in rw (q, ← e) f

module _ (table : List Held) (count address : ℕ) (room : length table ≡ 64) (few : count ≤ 64) where
  abbrev names : List Label
  names = labels (take count table)

  -- a line that gives no name
  pub gives_none : Given table count [] address table count
  unfolding repeated crowded new_labels
  gives_none = record { new = refl; fits = refl; given = sym (append-nil names); room = room; few = few }

  full : leb 64 count ≡ leb 64 (length names)
  full = ap (leb 64) (sym (labels_length (take count table) ∙ length-take count table ∙ omega arith))

  module _ (name : Token) where
    -- a name that was given before
    pub given_before : (name_value names name).known ≡ true → NotGiven table count (name ∷ []) address table TextName
    unfolding place_with repeated crowded new_labels given
    given_before e = record { why = inl (refl, e); same = refl }

    -- a 65th name
    pub no_room : (name_value names name).known ≡ false → count ≡ 64 → NotGiven table count (name ∷ []) address table TextLine
    unfolding place_with repeated crowded new_labels given
    no_room e q =
        let f : leb 64 (length names) ≡ true = sym full ∙ le-leb 64 count (omega arith) in
        record { why = inr (refl, rw (e, f)); same = refl }

  -- a new name
  pub gives_one : (l : Held) → l.address ≡ address → (name_value names l.name.now).known ≡ false → (count ≡ 64 → ⊥)
      → Given table count (l.name.now ∷ []) address (set table count l) (count + 1)
  unfolding place_with repeated crowded new_labels given
  gives_one l a e n =
      let f : leb 64 (length names) ≡ false = sym full ∙ lt-leb 64 count (omega arith) in
      record {
        new = e;
        fits = rw (e, f);
        given =
            rw (add-one, e, ← a)
            (ap labels (take-suc-set table count l (omega arith)) ∙ label_more (take count table) l);
        room = length-set table count l ∙ room;
        few = omega arith;
      }
