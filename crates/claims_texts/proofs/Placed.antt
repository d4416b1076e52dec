-- The word at a line's address is the one that the line gives.
-- Assumes nothing.
use Prim.Native.Nat.{ℕ, zero, suc, ◌+◌, ◌*◌, ◌/◌, ◌%◌, ◌<◌, ◌≤◌}
use mathlib.Core.Bool.{Bool, true, false}
use mathlib.Core.Path.{◌≡◌, refl, ap, ◌∙◌, subst}
use mathlib.Core.Logic.{inl, inr}
use mathlib.Core.List.{List, [], ◌∷◌, ◌++◌}
use native.Mathlib.Nat.{mod-lt}
use native.Mathlib.Omega.{arith}
use lib.Dec.{eqb, leb}
use lib.ListN.{length, drop, get_or}
use borrow.Author.Tests.{eqb-true, eqb-false, leb-true, le-ltb}
use Rattle.word.specs.Word.{pick, subtract, signed, low_bits, SE}
use Rattle.word.proofs.Signed.{signed_is, SE-is}
use Rattle.word.proofs.Tests.{clash}
use Rattle.kinds.specs.declared.Kind.TheVariants.{And}
use Rattle.kinds.specs.Kinds.{kinds}
use Rattle.isa.specs.declared.Instruction.{Instruction}
use Rattle.isa.specs.Instructions.{WriteReply, word, write_refused, write_of}
use Rattle.machine.specs.Machine.{word_at}
use Rattle.token.specs.Tokens.{between}
use Rattle.expression.specs.declared.Value.{Value}
use Rattle.expression.specs.Operands.{Label, operand_value}
use Rattle.expression.specs.Grammar.{Tree, value_of}
use Rattle.statement.specs.Syntax.{Field, number, eight_bits, target, table, row_at, Parts, Statement, no_statement, of_row, Line}
use Rattle.statement.specs.Reading.{ReadLine, outside, reads, valued_parts, valued_statement, valued}
use Rattle.encoding.specs.Words.{words_in, distance, odd, number_of, Judged, bad, nothing, gives, written, encoded, stated}
use Rattle.assembler.specs.Text.{Place, crowded, admitted, after, repeated, judged, verdicts, words_of, bytes_of, stored}
use Rattle.claims_sheet.specs.Rules.{SE-n}
use Rattle.claims_texts.specs.Assembly.{Stands, WordOf, of_value, of_instruction, place_of}
use Rattle.claims_texts.proofs.Replies.{Fine}

-- ---- The number of an instruction

-- the distance to v, from the next instruction on, leads to v
there_and_back : (a v q d : ℕ) → d ≡ subtract v ((a + 2) % 65536) → (a + 2 + (d + q * 65536)) % 65536 ≡ v % 65536
there_and_back a v q d e = omega arith

-- half a distance, read as signed and doubled again
doubled : (d : ℕ) → d < 65536 → (eqb (d % 2) 1 ≡ false) → SE-n (signed 15 (d / 2)) * 2 ≡ d + d / 32768 * 65536
unfolding SE
doubled d h e =
    let s : low_bits 16 (signed 15 (d / 2)) ≡ d / 2 + d / 2 / 16384 * 32768 = SE-is 15 (d / 2) (omega arith) (omega arith) (omega arith) in
    let o = eqb-false (d % 2) 1 e in
    omega arith

-- eight bits, read as signed, are the same eight bits
same_bits : (v : ℕ) → 128 ≤ v → v ≤ 255 → low_bits 8 (signed 8 v) ≡ v
unfolding low_bits
same_bits v l u = rw (signed_is 8 v (omega arith), le-ltb v 128 l) (omega arith)

stands : (f : Field) (address v : ℕ) → odd f address v ≡ false → Stands f address v (number_of f address v)
unfolding odd number_of between distance
stands number address v e = refl
stands eight_bits address v e = go (leb 128 v) refl (leb v 255) refl
  where
    go : (b : Bool) → leb 128 v ≡ b → (c : Bool) → leb v 255 ≡ c → Stands eight_bits address v (number_of eight_bits address v)
    go true x true y = rw (x, y) (inr (leb-true _ _ x, leb-true _ _ y, same_bits v (leb-true _ _ x) (leb-true _ _ y)))
    go true x false y = rw (x, y) (inl refl)
    go false x c y = rw x (inl refl)
stands target address v e =
    let d = distance address v in
    ap (λ (x : ℕ). (address + 2 + x) % 65536) (doubled d (mod-lt _ (omega arith)) e)
    ∙ there_and_back address v (d / 32768) d refl

-- ---- The word of a statement

-- what is written is a word, where it is not turned away
was_written : (r : WriteReply) (w : ℕ) → written r ≡ gives w → r ≡ word w
unfolding written
was_written (word v) w e = cc
was_written (write_refused k) w e = clash (cc)

writes : (r : WriteReply) → Fine (written r) → (w : ℕ) × (written r ≡ gives w)
unfolding written
writes (word w) f = (w, refl)
writes (write_refused k) f = absurd f

pub word_of : (value : Tree → Value) (q address w : ℕ) (p : Parts Tree) → q < length table → encoded q address (valued_parts value p) ≡ gives w
    → WordOf q address (value p.n).word p w
unfolding encoded valued_parts
word_of value q address w p h e = go (eqb q (length kinds)) refl (odd (row_at q).field address v) refl e
  where
    v : ℕ
    v = (value p.n).word

    i : Instruction
    i = record { kind = get_or kinds q And; a = p.a; b = p.b; d = p.d; n = number_of (row_at q).field address v }

    go : (a : Bool) → eqb q (length kinds) ≡ a → (b : Bool) → odd (row_at q).field address v ≡ b
        → pick a (gives v) (pick b (bad 12) (written (write_of i))) ≡ gives w → WordOf q address v p w
    go true x b y z = of_value (eqb-true _ _ x) (cc)
    go false x true y z = clash (cc)
    go false x false y z =
        of_instruction (number_of (row_at q).field address v) (omega (arith, eqb-false q (length kinds) x)) (stands (row_at q).field address v y) (was_written (write_of i) w z)

-- ---- The word of a line

-- a statement that is not turned away gives a word
module _ (address q : ℕ) (p : Parts Value) where
  abbrev Encoded : Judged → Type 0
  Encoded j = (w : ℕ) × (j ≡ gives w) × (encoded q address p ≡ gives w)

  encodes : Fine (encoded q address p) → (w : ℕ) × (encoded q address p ≡ gives w)
  unfolding encoded
  encodes = go (eqb q (length kinds)) (odd (row_at q).field address p.n.word) _
    where
      go : (a b : Bool) (r : WriteReply) → Fine (pick a (gives p.n.word) (pick b (bad 12) (written r)))
          → (w : ℕ) × (pick a (gives p.n.word) (pick b (bad 12) (written r)) ≡ gives w)
      go true b r f = (p.n.word, refl)
      go false true r f = absurd f
      go false false r f = writes r f

  states : Fine (stated address (of_row q p)) → Encoded (stated address (of_row q p))
  unfolding stated
  states = go p.n.known
    where
      go : (b : Bool) → Fine (pick b (encoded q address p) (bad 11)) → Encoded (pick b (encoded q address p) (bad 11))
      go true f = let (w, e) = encodes f in (w, e, e)
      go false f = absurd f

module _ (value : Tree → Value) (p : Place) where
  -- what comes of a line's reading
  abbrev verdict : ReadLine Tree → Judged
  verdict x = judged p (valued value (admitted p x))

  -- a line that is not turned away goes by its statement
  by_statement : (l : Line Tree) → Fine (verdict (reads l)) → (admitted p (reads l) ≡ reads l) × (verdict (reads l) ≡ stated p.address (valued_statement value l.statement))
  unfolding judged valued admitted
  by_statement l = go (crowded p l.label) refl (repeated p l.label) refl
    where
      go : (a : Bool) → crowded p l.label ≡ a → (b : Bool) → repeated p l.label ≡ b → Fine (verdict (reads l))
          → (admitted p (reads l) ≡ reads l) × (verdict (reads l) ≡ stated p.address (valued_statement value l.statement))
      go true e b d f = absurd (rw e at f)
      go false e true d f = absurd (rw (e, d) at f)
      go false e false d f = (rw e, rw (e, d))

  pub line_word : (l : Line Tree) (q : ℕ) (r : Parts Tree) → l.statement ≡ of_row q r → Fine (verdict (reads l))
      → (w : ℕ) × (verdict (reads l) ≡ gives w) × (encoded q p.address (valued_parts value r) ≡ gives w)
  unfolding valued_statement
  line_word l q r e f =
      let s = (by_statement l f).1 ∙ ap (λ (s : Statement Tree). stated p.address (valued_statement value s)) e in
      let (w, x, y) = states p.address q (valued_parts value r) (subst Fine s f) in
      (w, s ∙ x, y)

  -- the next address is past the word that it gives, if any
  counted : (x : ReadLine Tree) → Fine (verdict x) → (after p (admitted p x)).address ≡ p.address + 2 * length (words_of (verdict x ∷ []))
  unfolding judged valued admitted after words_in words_of stated valued_statement
  counted outside f = absurd f
  counted (reads l) f = go l.statement refl
    where
      passed : (j : Judged) → verdict (reads l) ≡ j → words_in l.statement ≡ length (words_of (j ∷ []))
          → (after p (admitted p (reads l))).address ≡ p.address + 2 * length (words_of (verdict (reads l) ∷ []))
      passed j e n = ap (λ (x : ReadLine Tree). (after p x).address) (by_statement l f).0 ∙ rw (e, n)

      go : (s : Statement Tree) → l.statement ≡ s → (after p (admitted p (reads l))).address ≡ p.address + 2 * length (words_of (verdict (reads l) ∷ []))
      go no_statement e = passed nothing ((by_statement l f).1 ∙ rw e) (rw e)
      go (of_row q r) e = let (w, x, y) = line_word l q r e f in passed (gives w) x (rw e)

-- ---- The words of lines

module _ (names : List Label) where
  abbrev worth : Tree → Value
  worth = value_of (operand_value names)

  -- w stands at i among the words of js, and c is so many bytes after b
  abbrev Placed : List Judged → ℕ → ℕ → ℕ → Type 0
  Placed js w b c = (i : ℕ) × (c ≡ b + 2 * i) × (i < length (words_of js)) × (get_or (words_of js) i 0 ≡ w)

  further : (j : Judged) (js : List Judged) (w a b c : ℕ) → b ≡ a + 2 * length (words_of (j ∷ [])) → Placed js w b c → Placed (j ∷ js) w a c
  unfolding words_of
  further (bad r) js w a b c e (i, h, l, g) = (i, omega arith, l, g)
  further nothing js w a b c e (i, h, l, g) = (i, omega arith, l, g)
  further (gives v) js w a b c e (i, h, l, g) = (suc i, omega arith, omega arith, g)

  -- where no line is turned away, the address of line k is past the words before it
  pub placed : (p : Place) (ls : List (ReadLine Tree)) (k w : ℕ) → ((j : ℕ) → Fine (get_or (verdicts names p ls) j nothing))
      → get_or (verdicts names p ls) k nothing ≡ gives w → Placed (verdicts names p ls) w p.address (place_of k p ls).address
  unfolding verdicts place_of words_of
  placed p [] k w f e = clash (cc)
  placed p (l ∷ ls) zero w f e = rw e (0, omega arith, omega arith, refl)
  placed p (l ∷ ls) (suc k) w f e =
      let next = after p (admitted p l) in
      further (verdict worth p l) (verdicts names next ls) w p.address next.address _ (counted worth p l (f 0)) (placed next ls k w (λ j. f (suc j)) e)

-- ---- In the memory

bytes_at : (ws rest : List ℕ) (i : ℕ) → i < length ws
    → (get_or (bytes_of ws ++ rest) (2 * i) 0 ≡ get_or ws i 0 % 256) × (get_or (bytes_of ws ++ rest) (suc (2 * i)) 0 ≡ get_or ws i 0 / 256)
unfolding bytes_of
bytes_at [] rest i h = absurd (omega arith)
bytes_at (w ∷ ws) rest zero h = (refl, refl)
bytes_at (w ∷ ws) rest (suc i) h =
    let e : 2 * suc i ≡ suc (suc (2 * i)) = omega arith in
    rw e (bytes_at ws rest i (omega arith))

pub word_stored : (ws program : List ℕ) (i : ℕ) → i < length ws → length ws ≤ 32768 → word_at (stored ws program) (2 * i) ≡ get_or ws i 0
unfolding stored
word_stored ws program i h m =
    let (l, u) = bytes_at ws (drop (2 * length ws) program) i h in
    let e : (2 * i + 1) % 65536 ≡ suc (2 * i) = omega arith in
    rw (e, l, u) (omega arith)
