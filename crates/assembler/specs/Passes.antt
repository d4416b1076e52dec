-- What the passes over a text's lines say. Of this only `shown_assembly`, the reply in numbers, is in the promise of `assemble`; the
-- rest serves inner contracts.
use Rattle.std.specs.Prelude.{ℕ, ◌+◌, ◌*◌, ◌/◌, ◌%◌, ◌<◌, ◌≤◌, Bool, true, false, ◌&&◌, ◌≡◌, ◌⊎◌, List, [], ◌∷◌, ◌++◌, eqb, length, take, drop, get_or, Option, Result, IfOk}
use Rattle.std.specs.declared.option.Option.TheVariants.{Some, None}
use Rattle.std.specs.declared.result.Result.TheVariants.{Ok, Err}
use denote.Ref.{Bor}
use Rattle.word.specs.Word.{pick}
use Rattle.token.specs.Ascii.{byte}
use Rattle.token.specs.Tokens.{Token}
use Rattle.token.specs.Scan.{first_line, tokens_at}
use Rattle.expression.specs.declared.Label.{Label as Held}
use Rattle.expression.specs.declared.Value.{Value}
use Rattle.expression.specs.Operands.{operand_value}
use Rattle.expression.specs.Grammar.{Tree, value_of}
use Rattle.expression.specs.Reading.{labels}
use Rattle.refusal.specs.declared.Refusal.{Refusal}
use Rattle.refusal.specs.declared.Refusal.TheVariants.{TextLine, TextName}
use Rattle.refusal.specs.Refusals.{refusal_number}
use Rattle.assembler.specs.declared.Rejected.{Rejected}
use Rattle.assembler.specs.declared.passes.Progress.{Progress}
use Rattle.statement.specs.declared.line.Content.{Content}
use Rattle.encoding.specs.declared.Judged.{Judged as Outcome}
use Rattle.statement.specs.Syntax.{Line}
use Rattle.statement.specs.Reading.{ReadLine, outside, reads, line_of, valued}
use Rattle.assembler.specs.Text.{Place, start, lines, readings, new_labels, crowded, repeated, admitted, after, names_from, verdicts, judged, Reply, words, text_refused, reply_from, words_of, stored, AssembleLeft, assemble_left_by}
use Rattle.encoding.specs.Words.{stated, Judged, bad, nothing, gives}
use Rattle.statement.specs.Parts.{label_of, shown_line}

-- the line from a position ends at r: no newline before, and one there unless the text ends there
pub record LineEnd (text : List ℕ) (at r : ℕ) : Type 0 where
  pub after : at ≤ r
  pub inside : r ≤ length text
  pub none : (i : ℕ) → at ≤ i → i < r → get_or text i 0 ≡ byte "\n" → ⊥
  pub newline : r < length text → get_or text r 0 ≡ byte "\n"

-- the place with the first so many labels of a table
unfoldable pub place_with : List Held → ℕ → ℕ → Place
place_with table count address = record { names = labels (take count table); address = address }

-- what `give` says where it gives the name, if there is one: n names are given then
pub record Given (table : List Held) (count : ℕ) (label : List Token) (address : ℕ) (table' : List Held) (n : ℕ) : Type 0 where
  pub new : repeated (place_with table count address) label ≡ false
  pub fits : crowded (place_with table count address) label ≡ false
  pub given : labels (take n table') ≡ labels (take count table) ++ new_labels (place_with table count address) label
  pub room : length table' ≡ 64
  pub few : n ≤ 64

-- and where it turns the line away
pub record NotGiven (table : List Held) (count : ℕ) (label : List Token) (address : ℕ) (table' : List Held) (r : Refusal) : Type 0 where
  pub why : (r ≡ TextName) × (repeated (place_with table count address) label ≡ true)
      ⊎ (r ≡ TextLine) × (crowded (place_with table count address) label ≡ true)
  pub same : table' ≡ table

abbrev pub Labelled : List Held → ℕ → Option (Bor (List ℕ)) → ℕ → List Held → Result ℕ Refusal → Type 0
Labelled table count label address table' (Ok n) = Given table count (label_of label) address table' n
Labelled table count label address table' (Err r) = NotGiven table count (label_of label) address table' r

-- the readings of the lines from a position on
unfoldable pub lines_from : Bool → List ℕ → ℕ → List (ReadLine Tree)
lines_from long text at = readings long (lines (drop at text))

-- what `read_line` says of the line from a position to its end: by the names of a table, it is the line that stands there; the
-- last one of a long text is outside the grammar
pub record LineRead (long : Bool) (text : List ℕ) (names : List Held) (at end : ℕ) (r : Option Content) : Type 0 where
  pub same : shown_line r
      ≡ valued (value_of (operand_value (labels names))) (pick (long && eqb end (length text)) outside (line_of (tokens_at text at)))

-- the reply, where line k is the next and the lines from here come to js
abbrev pub finish_by : ℕ → List Judged → Result ℕ Rejected → Reply
finish_by k js (Ok count) = reply_from k count js
finish_by k js (Err r) = text_refused r.line (refusal_number r.refusal)

abbrev pub finish : Progress → List Judged → Reply
finish p js = finish_by p.line js p.reply

-- the reply after line k, which comes to a word
abbrev pub counted : ℕ → Result ℕ Rejected → Result (Option ℕ) Refusal → Result ℕ Rejected
counted k (Err r) w = Err r
counted k (Ok count) (Ok None) = Ok count
counted k (Ok count) (Ok (Some w)) = Ok (count + 1)
counted k (Ok count) (Err f) = Err (record { line = k; refusal = f })

-- after a line that comes to j, with so many labels now
abbrev pub moved : Progress → ℕ → Outcome → Progress
moved p count j = record { line = p.line + 1; labels = count; address = p.address + 2 * j.words; reply = counted p.line p.reply j.word }

-- what `take_line` asks
pub record Ready (table : List Held) (p : Progress) : Type 0 where
  pub room : length table ≡ 64
  pub few : p.labels ≤ 64
  pub lines : p.line < 70000
  pub words : IfOk p.reply (λ n. n < 70000)
  pub bytes : p.address < 140000

-- what `take_line` says of a line
pub record Taken (table : List Held) (l : ReadLine Value) (p : Progress) (table' : List Held) (r : Progress) : Type 0 where
  pub place : place_with table' r.labels r.address
      ≡ after (place_with table p.labels p.address) (admitted (place_with table p.labels p.address) l)
  pub reply : (js : List Judged)
      → finish p (judged (place_with table p.labels p.address) (admitted (place_with table p.labels p.address) l) ∷ js) ≡ finish r js
  pub room : length table' ≡ 64
  pub few : r.labels ≤ 64
  pub line : r.line ≡ p.line + 1
  pub bytes : r.address ≤ p.address + 2
  pub count : (m : ℕ) → IfOk p.reply (λ n. n ≤ m) → IfOk r.reply (λ n. n ≤ m + 1)

-- what `pass` says: the names given, and the reply, by the names of a table
pub record Scanned (long : Bool) (text : List ℕ) (names table' : List Held) (r : Progress) : Type 0 where
  pub given : labels (take r.labels table') ≡ names_from start (lines_from long text 0)
  pub reply : finish r [] ≡ reply_from 1 0 (verdicts (labels names) start (lines_from long text 0))
  pub few : r.labels ≤ 64
  pub room : length table' ≡ 64

-- the bytes of the line from a position
abbrev pub line_bytes : List ℕ → ℕ → ℕ
line_bytes text at = length (first_line (drop at text))

-- room for a word, where the line is long enough to give one
abbrev pub WordRoom : List ℕ → ℕ → ℕ → List ℕ → Type 0
WordRoom text at address program = (2 ≤ line_bytes text at → address + 2 ≤ length program) × (address ≤ 65536)

-- what `write_line` says of the line L of so many bytes, where it has that room: it leaves the program and the next word's address
pub data Wrote (L : ReadLine Value) (bytes address : ℕ) (program : List ℕ) : List ℕ → ℕ → Type 0 where
  no_line : L ≡ outside → Wrote L bytes address program program address
  no_word : (l : Line Value) → L ≡ reads l → stated address l.statement ≡ nothing → Wrote L bytes address program program address
  bad_word : (l : Line Value) (r : ℕ) → L ≡ reads l → stated address l.statement ≡ bad r → Wrote L bytes address program program address
  one_word : (l : Line Value) (w : ℕ) → L ≡ reads l → stated address l.statement ≡ gives w → 2 ≤ bytes
      → Wrote L bytes address program (take address program ++ (w % 256 ∷ w / 256 ∷ drop (address + 2) program)) (address + 2)

abbrev pub WroteLine : List ℕ → List Held → ℕ → ℕ → List ℕ → List ℕ → ℕ → Type 0
WroteLine text names at address program program' r =
    Wrote (valued (value_of (operand_value (labels names))) (line_of (tokens_at text at))) (line_bytes text at) address program program' r

-- no line is turned away
pub record Fine (text : List ℕ) (names : List Held) (program : List ℕ) : Type 0 where
  pub short : length text ≤ 65536
  pub room : length program ≡ 65536
  pub count : ℕ
  pub fine : reply_from 1 0 (verdicts (labels names) start (lines_from false text 0)) ≡ words count

-- what `pass` says where no line is turned away: the words stand in the program
abbrev pub WrittenBy : List ℕ → List Held → List ℕ → List ℕ → Type 0
WrittenBy text names program program' = program' ≡ stored (words_of (verdicts (labels names) start (lines_from false text 0))) program

-- ---- The call

-- the reply in numbers
abbrev pub shown_assembly : Result ℕ Rejected → Reply
shown_assembly (Ok n) = words n
shown_assembly (Err r) = text_refused r.line (refusal_number r.refusal)

-- what `assembled` says of the part of a text that is read
abbrev pub AssembledBy : Bool → List ℕ → List ℕ → List ℕ → Result ℕ Rejected → Type 0
AssembledBy long text program program' r =
    ◌≡◌ {A = AssembleLeft} (record { reply = shown_assembly r; program = program' })
    (assemble_left_by (reply_from 1 0 (verdicts (names_from start (lines_from long text 0)) start (lines_from long text 0)))
    (verdicts (names_from start (lines_from long text 0)) start (lines_from long text 0))
    program)
