-- The word of a statement (02, L2): what its value comes to in the instruction's field, and when it does not fit.
use Rattle.std.specs.Prelude.{ℕ, ◌+◌, ◌/◌, ◌%◌, Bool, false, eqb, ℤ, length, get_or}
use Rattle.word.specs.Word.{pick, subtract, signed}
use Rattle.kinds.specs.declared.Kind.TheVariants.{And}
use Rattle.kinds.specs.Kinds.{kinds}
use Rattle.isa.specs.Instructions.{WriteReply, word, write_refused, write_of}
use Rattle.token.specs.Tokens.{between}
use Rattle.expression.specs.declared.Value.{Value}
use Rattle.statement.specs.Syntax.{Field, number, eight_bits, target, row_at, Parts, Statement, no_statement, of_row}

-- how many words a statement gives
unfoldable pub words_in : {A : Type 0} → Statement A → ℕ
words_in no_statement = 0
words_in (of_row k p) = 1

-- A branch operand is its target address: the distance from the next instruction, modulo 65,536
unfoldable pub distance : ℕ → ℕ → ℕ
distance address v = subtract v ((address + 2) % 65536)

-- an odd distance doesn't fit
unfoldable pub odd : Field → ℕ → ℕ → Bool
odd number address v = false
odd eight_bits address v = false
odd target address v = eqb (distance address v % 2) 1

-- the number n for a value v: v read as signed; for MOVI 128 to 255 are the same eight bits; for a branch half the distance, read
-- as signed
unfoldable pub number_of : Field → ℕ → ℕ → ℤ
number_of number address v = signed 16 v
number_of eight_bits address v = pick (between 128 255 v) (signed 8 v) (signed 16 v)
number_of target address v = signed 15 (distance address v / 2)

-- what comes of a line: a number that it is turned away with; no word; or a word
pub data Judged : Type 0 where
  bad : ℕ → Judged
  nothing : Judged
  gives : ℕ → Judged

-- 12: a value its field can't hold
unfoldable pub written : WriteReply → Judged
written (word w) = gives w
written (write_refused r) = bad 12

-- the word of row k at an address: of `.word` the value itself, of an instruction what writing it gives
unfoldable pub encoded : ℕ → ℕ → Parts Value → Judged
encoded k address p =
    pick (eqb k (length kinds)) (gives p.n.word)
    (pick (odd (row_at k).field address p.n.word) (bad 12)
    (written (write_of (record { kind = get_or kinds k And; a = p.a; b = p.b; d = p.d; n = number_of (row_at k).field address p.n.word }))))

-- 11: a name unknown
unfoldable pub stated : ℕ → Statement Value → Judged
stated address no_statement = nothing
stated address (of_row k p) = pick p.n.known (encoded k address p) (bad 11)
