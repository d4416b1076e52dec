-- What begins after the minus signs: parentheses, or an operand.
-- Assumes nothing.
use Rattle.std.proofs.Common.{◌≡◌, ℕ, zero, suc, ◌-◌, ◌≤◌, Bool, true, false, eqb, List, [], ◌∷◌, sym, refl, ◌∙◌, arith, Some, None}
use Rattle.word.specs.Word.{pick}
use Rattle.token.specs.declared.Token.{Token as Found}
use Rattle.token.specs.Tokens.{Token}
use Rattle.token.specs.Scan.{tokens_at, symbol_of, symbol_number}
use Rattle.expression.specs.declared.Value.{Value}
use Rattle.expression.specs.declared.Parsed.{Parsed}
use Rattle.expression.specs.declared.prefix.Lead.{Lead}
use Rattle.expression.specs.Grammar.{value_of}
use Rattle.expression.specs.Reading.{Out, refused, read, bind, mapped, closed, leaf, ranked, inside, parse, told, Led, LedBy, Signed}
use Rattle.expression.proofs.Leads.{negated_refused}
use Rattle.expression.proofs.Climb.{from_refused}

map_closed : {A B : Type 0} (f : A → B) (v : A) (r : List Token) → mapped f (closed v r) ≡ closed (f v) r
unfolding mapped closed
map_closed f v [] = refl
map_closed f v (t ∷ r) = go (eqb (symbol_of t) 41)
  where
    go : (b : Bool) → mapped f (pick b (read v r) refused) ≡ pick b (read (f v) r) refused
    go true = refl
    go false = refl

map_bind : {A B : Type 0} (f : A → B) (o : Out A) → mapped f (bind o closed) ≡ bind (mapped f o) closed
unfolding mapped bind
map_bind f refused = refl
map_bind f (read v r) = map_closed f v r

inside_one : (d : ℕ) → 1 ≤ d → (ts : List Token) → inside d ts ≡ parse (d - 1) 5 ts
unfolding inside parse
inside_one zero n ts = absurd (omega arith)
inside_one (suc d) n ts = let e : suc d - 1 ≡ d = omega arith in rw e

module _ (mean : Token → Value) (d : ℕ) (s : List ℕ) where
  -- what begins with the token t is worth
  abbrev pub begun : Found → Out Value
  begun t =
      mapped (value_of mean)
      (pick (eqb (symbol_number t.symbol) 40) (bind (inside d (tokens_at s t.end)) closed) (leaf t.word.now (tokens_at s t.end)))

  pub lead_nothing : (at : ℕ) → Led s at None → told s None ≡ mapped (value_of mean) (parse d 0 (tokens_at s at))
  unfolding told parse ranked
  lead_nothing at h = sym (h mean (inside d))

  module _ {at : ℕ} {r : Lead} (h : LedBy s at r) where
    pub lead_refused : told s None ≡ begun r.first → told s None ≡ mapped (value_of mean) (parse d 0 (tokens_at s at))
    unfolding told parse ranked
    lead_refused e = sym (h.same mean (inside d) ∙ rw (← e) (negated_refused h.signs))

    pub lead_signed : (p q : Parsed) → told s (Some p) ≡ begun r.first → Signed r.negative p q
        → told s (Some q) ≡ mapped (value_of mean) (parse d 0 (tokens_at s at))
    unfolding parse ranked
    lead_signed p q e g = g h.signs h.parity s ∙ rw e (sym (h.same mean (inside d)))

  module _ (t : Found) where
    pub begun_leaf : eqb (symbol_number t.symbol) 40 ≡ false → mapped (value_of mean) (leaf t.word.now (tokens_at s t.end)) ≡ begun t
    begun_leaf e = rw e

    module _ (e : eqb (symbol_number t.symbol) 40 ≡ true) where
      bracket : begun t ≡ bind (mapped (value_of mean) (inside d (tokens_at s t.end))) closed
      bracket = rw e (map_bind (value_of mean) (inside d (tokens_at s t.end)))

      pub begun_deep : (1 ≤ d → ⊥) → told s None ≡ begun t
      unfolding told bind mapped inside
      begun_deep n = let z : d ≡ 0 = omega arith in sym (bracket ∙ rw z)

      module _ (n : 1 ≤ d) {k : ℕ} (m : k ≡ d - 1) where
        deeper : begun t ≡ bind (mapped (value_of mean) (parse k 5 (tokens_at s t.end))) closed
        deeper = bracket ∙ rw (inside_one d n, m)

        pub begun_refused : told s None ≡ mapped (value_of mean) (parse k 5 (tokens_at s t.end)) → told s None ≡ begun t
        unfolding told bind mapped
        begun_refused f = sym (deeper ∙ rw (from_refused (value_of mean) (parse k 5 (tokens_at s t.end)) (sym f)))

        pub begun_closed : (p : Parsed) → told s (Some p) ≡ mapped (value_of mean) (parse k 5 (tokens_at s t.end)) → closed p.value (tokens_at s p.next) ≡ begun t
        unfolding told bind
        begun_closed p f = sym (deeper ∙ rw (← f))

-- the steps of `operand`
pub ruleset beginnings = (lead_nothing, lead_refused, lead_signed, begun_leaf, begun_deep, begun_closed)
