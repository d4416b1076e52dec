-- The readings of a line by the grammar are what `line_of` finds of its tokens, and which line of a text is read so.
-- Assumes nothing.
use Prim.Native.Nat.{ℕ, zero, suc, ◌<◌}
use mathlib.Core.Bool.{Bool, true, false}
use mathlib.Core.Path.{◌≡◌, refl, sym, ap, ◌∙◌}
use mathlib.Core.Logic.{◌⊎◌, inl, inr, ◌↔◌}
use mathlib.Core.List.{List, [], ◌∷◌}
use native.Mathlib.Omega.{arith}
use lib.Dec.{eqb, ltb}
use lib.ListN.{length, get_or}
use borrow.Author.Tests.{lt-ltb, ltb-true, ltb-false, eqb-true, eqb-false}
use Rattle.word.proofs.Tests.{clash}
use Rattle.token.specs.Scan.{tokens}
use Rattle.token.proofs.Division.{divided, unique as one_division}
use Rattle.expression.specs.Grammar.{Tree}
use Rattle.statement.specs.Syntax.{Line}
use Rattle.statement.specs.Reading.{outside, reads, line_of}
use Rattle.statement.proofs.Grammar.{complete, sound, unique as one_derivation}
use Rattle.assembler.specs.Text.{readings, text_lines}
use Rattle.claims_texts.specs.Assembly.{Reads, Unique, text_parts, line_at}

-- ---- From its bytes

pub found : (s : List ℕ) (l : Line Tree) → (line_of (tokens s) ≡ reads l) ↔ Reads s l
found s l = (
  λ e. record { tokens = tokens s; divided = divided s; parsed = sound (tokens s) l e },
  λ r. ap line_of (one_division (divided s) r.divided) ∙ complete r.parsed,
)

pub one_reading : (s : List ℕ) (l m : Line Tree) → Reads s l → Reads s m → l ≡ m
one_reading s l m r q = let e : reads l ≡ reads m = sym ((found s l).1 r) ∙ (found s m).1 q in cc

pub readings_unique : Unique
readings_unique =
    record {
      one_division = λ s ts us d e. one_division d e;
      one_derivation = λ ts l m g h. one_derivation g h;
      one_reading = one_reading;
    }

-- ---- The lines of a text: all but the last of a long one are read so

pub readings_length : (long : Bool) (ls : List (List ℕ)) → length (readings long ls) ≡ length ls
unfolding readings
readings_length long [] = refl
readings_length long (l ∷ []) = refl
readings_length long (l ∷ m ∷ ls) = ap suc (readings_length long (m ∷ ls))

-- line k is read, unless it is the last of a long text, which is outside the grammar
read_at : (long : Bool) (ls : List (List ℕ)) (k : ℕ) → k < length ls → (long ≡ true → suc k ≡ length ls → ⊥) → get_or (readings long ls) k outside ≡ line_of (tokens (get_or ls k []))
unfolding readings
read_at long [] k h n = absurd (omega arith)
read_at true (l ∷ []) zero h n = absurd (n refl refl)
read_at false (l ∷ []) zero h n = refl
read_at long (l ∷ []) (suc k) h n = absurd (omega arith)
read_at long (l ∷ m ∷ ls) zero h n = refl
read_at long (l ∷ m ∷ ls) (suc k) h n = read_at long (m ∷ ls) k (omega arith) (λ e f. n e (ap suc f))

cut_at : (ls : List (List ℕ)) (k : ℕ) → suc k ≡ length ls → get_or (readings true ls) k outside ≡ outside
unfolding readings
cut_at [] k e = refl
cut_at (l ∷ []) zero e = refl
cut_at (l ∷ []) (suc k) e = refl
cut_at (l ∷ m ∷ ls) zero e = absurd (omega arith)
cut_at (l ∷ m ∷ ls) (suc k) e = cut_at (m ∷ ls) k (omega arith)

module _ (text : List ℕ) (k : ℕ) where
  -- line k holds the text's 65,537th byte
  abbrev pub Last : Type 0
  Last = (65536 < length text) × (suc k ≡ length (text_parts text))

  last_or_not : Last ⊎ (Last → ⊥)
  last_or_not = go (ltb 65536 (length text)) refl (eqb (suc k) (length (text_parts text))) refl
    where
      go : (a : Bool) → ltb 65536 (length text) ≡ a → (b : Bool) → eqb (suc k) (length (text_parts text)) ≡ b → Last ⊎ (Last → ⊥)
      go true e true f = inl (ltb-true _ _ e, eqb-true _ _ f)
      go true e false f = inr (λ l. eqb-false _ _ f l.1)
      go false e b f = inr (λ l. omega (arith, ltb-false 65536 (length text) e, l.0))

  cut : Last → get_or (text_lines text) k outside ≡ outside
  unfolding text_lines
  cut l = rw (lt-ltb 65536 (length text) l.0) (cut_at (text_parts text) k l.1)

  pub taken : k < length (text_parts text) → (Last → ⊥) → get_or (text_lines text) k outside ≡ line_of (tokens (line_at text k))
  unfolding text_lines
  taken h n = read_at (ltb 65536 (length text)) (text_parts text) k h (λ e f. n (ltb-true _ _ e, f))

  -- what it says of line k that it is outside the grammar, or read
  pub not_read : k < length (text_parts text) → get_or (text_lines text) k outside ≡ outside → Last ⊎ ((l : Line Tree) → Reads (line_at text k) l → ⊥)
  not_read h e = go last_or_not
    where
      go : Last ⊎ (Last → ⊥) → Last ⊎ ((l : Line Tree) → Reads (line_at text k) l → ⊥)
      go (inl l) = inl l
      go (inr n) = inr (λ l r. let f : outside ≡ reads l = sym e ∙ taken h n ∙ (found (line_at text k) l).1 r in clash (cc))

  pub is_read : k < length (text_parts text) → (l : Line Tree) → get_or (text_lines text) k outside ≡ reads l → Reads (line_at text k) l × (Last → ⊥)
  is_read h l e = ((found (line_at text k) l).0 (sym (taken h not_last) ∙ e), not_last)
    where
      not_last : Last → ⊥
      not_last c = let f : outside ≡ reads l = sym (cut c) ∙ e in clash (cc)
