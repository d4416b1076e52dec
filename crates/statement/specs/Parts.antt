-- What the code's lines and operands stand for. Nothing here is promised to a caller.
use Rattle.std.specs.Prelude.{ℕ, true, List, [], ◌∷◌, eqb, Option, Some, None}
use denote.Ref.{Bor}
use Rattle.word.specs.Word.{pick}
use Rattle.isa.specs.Instructions.{Register, a_register, b_register, d_register}
use Rattle.token.specs.Ascii.{byte}
use Rattle.token.specs.Tokens.{Token}
use Rattle.token.specs.Scan.{tokens_at}
use Rattle.expression.specs.declared.Label.{Label as Given}
use Rattle.expression.specs.declared.Value.{Value}
use Rattle.expression.specs.Operands.{operand_value}
use Rattle.expression.specs.Grammar.{value_of}
use Rattle.expression.specs.Reading.{Out, refused, read, mapped, parse, labels}
use Rattle.statement.specs.declared.operands.Parts.{Parts as HeldParts}
use Rattle.statement.specs.declared.operands.Taken.{Taken}
use Rattle.statement.specs.declared.line.Content.{Content}
use Rattle.statement.specs.declared.line.Statement.{Statement as Held}
use Rattle.statement.specs.Syntax.{Parts, Statement, no_statement, of_row, line}
use Rattle.statement.specs.Table.{row_number}
use Rattle.statement.specs.Reading.{ReadLine, outside, reads}

abbrev pub shown_parts : HeldParts → Parts Value
shown_parts p = record { a = p.a; b = p.b; d = p.d; n = p.n }

abbrev pub blank_value : Parts Value
blank_value = record { a = 0; b = 0; d = 0; n = record { word = 0; known = true } }

-- what operands say, for a text
unfoldable pub told_parts : List ℕ → Option Taken → Out (Parts Value)
told_parts text None = refused
told_parts text (Some t) = read (shown_parts t.parts) (tokens_at text t.next)

-- the expression that tokens begin with, by the names
unfoldable pub expression_of : List Given → List Token → Out Value
expression_of names ts = mapped (value_of (operand_value (labels names))) (parse 16 5 ts)

-- the register that a letter of the table stands for
unfoldable pub register_at : ℕ → Register
register_at c = pick (eqb c (byte "a")) a_register (pick (eqb c (byte "b")) b_register d_register)

-- ---- Lines

-- the name that a line gives, if any
abbrev pub label_of : Option (Bor (List ℕ)) → List Token
label_of None = []
label_of (Some w) = w.now ∷ []

abbrev pub shown_statement : Option Held → Statement Value
shown_statement None = no_statement
shown_statement (Some s) = of_row (row_number s.operation) (shown_parts s.parts)

unfoldable pub shown_content : Content → ReadLine Value
shown_content c = reads (line (label_of c.label) (shown_statement c.statement))

unfoldable pub shown_line : Option Content → ReadLine Value
shown_line None = outside
shown_line (Some c) = shown_content c
