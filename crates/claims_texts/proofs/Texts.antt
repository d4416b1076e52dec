-- Every word has a text that gives it back: the theorem.
-- Assumes nothing.
use Prim.Native.Nat.{ℕ, ◌+◌, ◌<◌}
use mathlib.Core.Path.{◌≡◌, refl, ap}
use mathlib.Core.Bool.{true, false}
use mathlib.Core.List.{List, [], ◌∷◌, ◌++◌, map}
use native.Mathlib.Omega.{arith}
use lib.Dec.{eqb}
use lib.IntN.{ℤ}
use lib.ListN.{length, get_or, length-map}
use borrow.Author.Tests.{ne_eqb}
use Rattle.word.proofs.Tests.{clash, passed}
use Rattle.kinds.specs.declared.Kind.{Kind}
use Rattle.kinds.specs.declared.Kind.TheVariants.{And}
use Rattle.kinds.specs.Kinds.{kinds, kind_number}
use Rattle.isa.specs.declared.Instruction.{Instruction}
use Rattle.isa.specs.Sheet.{sheet_line}
use Rattle.isa.specs.Instructions.{Read, instruction, unassigned, read_of, word, write_of, fits}
use Rattle.isa.proofs.Every.{listed as kind-listed}
use Rattle.token.specs.Ascii.{ascii}
use Rattle.token.specs.Tokens.{Token, between, is_digit, is_letter, is_letter_or_digit}
use Rattle.printing.specs.Text.{hex4}
use Rattle.expression.specs.declared.Value.{Value}
use Rattle.expression.specs.Grammar.{Tree}
use Rattle.statement.specs.Syntax.{table, row_at, blank, Parts, put_n, Written, end, a_value_there, of_row, written as written_row, line, plain as unnamed}
use Rattle.statement.specs.Reading.{valued_parts, valued_statement, valued}
use Rattle.encoding.specs.Words.{odd, number_of, gives, written, encoded, stated}
use Rattle.listing.specs.Listing.{instruction_text, word_text, text_as, text_of}
use Rattle.assembler.specs.Text.{lines, repeated, judged}
use Rattle.claims_texts.specs.Texts.{cleared_as, cleared_word, GivesBack, third_column, Words, none, more, Texts}
use Rattle.claims_words.proofs.Computed.{read_then_written}
use Rattle.claims_texts.proofs.Joined.{row_test, word_test, plain, Text, wider, nothing_there, spaced_before, one_line, first_line_lem}
use Rattle.claims_texts.proofs.Operands.{worth, word_means}
use Rattle.claims_texts.proofs.Statements.{parts, parts_registers, parts_number, tokens_of, written as items_written, text}
use Rattle.claims_texts.proofs.Listed.{Gives, Lines, no_line, empty, a_word, assembled}

-- ---- A line

-- what is read as row k, with parts that come to w, gives w
row_gives : (address k w : ℕ) (s : List ℕ) (ts : List Token) (p : Parts Tree) → Text 300 s ((row_at k).mnemonic ∷ ts) → k < length table
    → Written (row_at k).items ts blank p → (worth p.n).known ≡ true → encoded k address (valued_parts worth p) ≡ gives w → Gives address s w
unfolding judged valued repeated valued_statement stated valued_parts
row_gives address k w s ts p x h g n e =
    record {
      line = line [] (of_row k p);
      read = record { tokens = (row_at k).mnemonic ∷ ts; divided = x.divided; parsed = unnamed (written_row k h g) };
      unnamed = refl;
      gives_back = rw (e, n);
      whole = x.whole;
      short = x.short;
    }

-- ---- An instruction

same_instruction : {k j : Kind} {a a₁ b b₁ d d₁ : ℕ} {n n₁ : ℤ} → k ≡ j → a ≡ a₁ → b ≡ b₁ → d ≡ d₁ → n ≡ n₁
    → ◌≡◌ {A = Instruction} (record { kind = k; a = a; b = b; d = d; n = n }) (record { kind = j; a = a₁; b = b₁; d = d₁; n = n₁ })
same_instruction o p q r s = λ x. record { kind = o x; a = p x; b = q x; d = r x; n = s x }

encodes : (k address : ℕ) (p : Parts Value) (i : Instruction) (w : ℕ) → eqb k (length kinds) ≡ false → odd (row_at k).field address p.n.word ≡ false
    → record { kind = get_or kinds k And; a = p.a; b = p.b; d = p.d; n = number_of (row_at k).field address p.n.word } ≡ i
    → write_of i ≡ word w → encoded k address p ≡ gives w
unfolding encoded written
encodes k address p i w e o s h = rw (e, o, s, h)

module _ (address : ℕ) (i : Instruction) (w : ℕ) (h : write_of i ≡ word w) where
  abbrev k : ℕ
  k = kind_number i.kind

  fitting : fits (sheet_line i.kind) i ≡ true
  unfolding write_of
  fitting = (passed (fits (sheet_line i.kind) i) (λ e. clash (cc)) h).0

  its_word : encoded k address (valued_parts worth (parts address i fitting)) ≡ gives w
  unfolding valued_parts
  its_word =
      let (x, o, n) = parts_number address i fitting in
      let (a, b, d) = parts_registers address i fitting in
      encodes k address (valued_parts worth (parts address i fitting)) i w
      (ne_eqb k (length kinds) (λ e. omega (arith, (kind-listed i.kind).0))) o (same_instruction (kind-listed i.kind).1 a b d n) h

  instruction_gives : Gives address (instruction_text address i) w
  instruction_gives =
      row_gives address k w _ (tokens_of address i fitting) (parts address i fitting) (text address i fitting) (omega (arith, (kind-listed i.kind).0))
      (items_written address i fitting) (parts_number address i fitting).0 its_word

-- ---- An unassigned word

unassigned_gives : (address w : ℕ) → w < 65536 → Gives address (ascii ".word " ++ word_text w) w
unfolding hex4 plain word_test row_test is_letter_or_digit is_letter is_digit between encoded valued_parts
unassigned_gives address w h =
    let m = word_means w h in
    row_gives address (length kinds) w _ (m.tokens ++ []) (put_n m.tree blank)
    (wider (omega arith) (spaced_before (ascii ".word") tt (m.before (λ t. tt) nothing_there)))
    (omega arith)
    (a_value_there m.read end)
    (ap (λ (v : Value). v.known) m.value)
    (ap (λ (v : Value). gives v.word) m.value)

-- ---- Every word

word_gives : (address w : ℕ) → w < 65536 → Gives address (text_of address w) (cleared_word w)
unfolding text_of
word_gives address w h = go (read_of w) refl
  where
    go : (r : Read) → read_of w ≡ r → Gives address (text_as address w r) (cleared_as r w)
    go (instruction i) e = instruction_gives address i _ (read_then_written w h i e)
    go unassigned e = unassigned_gives address w h

gives_back : (address w : ℕ) → w < 65536 → GivesBack address w
gives_back address w h =
    let g = word_gives address w h in
    record { line = g.line; read = g.read; unnamed = g.unnamed; gives_back = g.gives_back }

column_lines : (address : ℕ) {ws : List ℕ} → Words ws → Lines address (lines (third_column address ws)) (map cleared_word ws)
unfolding third_column lines
column_lines address none = empty
column_lines address (more {w} {ws} h r) =
    let g = word_gives address w h in
    rw (first_line_lem (text_of address w) (third_column (address + 2) ws) g.whole) (a_word g (column_lines (address + 2) r))

pub texts : Texts
texts =
    record {
      gives_back = gives_back;
      assembles = λ ws program h l m.
          rw (← length-map ws cleared_word) (assembled (third_column 0 ws) program (map cleared_word ws) (column_lines 0 h) l m);
      instructions = λ i w program h m.
          let g = instruction_gives 0 i w h in
          assembled (instruction_text 0 i) program (w ∷ []) (rw (one_line (instruction_text 0 i) g.whole) (a_word g no_line)) (omega (arith, g.short)) m;
    }
