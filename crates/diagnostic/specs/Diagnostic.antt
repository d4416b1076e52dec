-- What the program `panelasm` writes for a text that is refused (02, L2). A text is the list of its bytes.
use Rattle.std.specs.Prelude.{ℕ, zero, suc, ◌&&◌, List, [], ◌++◌, map, eqb, leb, get_or, take}
use Rattle.word.specs.Word.{pick}
use Rattle.token.specs.Ascii.{ascii}
use Rattle.printing.specs.Text.{decimal}
use Rattle.assembler.specs.Text.{lines}

-- why the text is refused; the numbers of other calls have no reason here
unfoldable pub reason : ℕ → List ℕ
reason number =
    pick (eqb number 1) (ascii ", the program memory is not 65,536 bytes")
    (pick (eqb number 9) (ascii ", the destination is shorter than the file")
    (pick (eqb number 10) (ascii ", outside the grammar or past a stated size")
    (pick (eqb number 11) (ascii ", a name unknown or given before")
    (pick (eqb number 12) (ascii ", a value its field can't hold")
    []))))

-- a byte of the text: itself from space to `~`, else `?`, so that a tab or a carriage return is seen
abbrev pub shown_byte : ℕ → ℕ
shown_byte b = pick (leb 32 b && leb b 126) b 63

-- a line's first 200 bytes
abbrev pub shown_line : List ℕ → List ℕ
shown_line l = map shown_byte (take 200 l)

-- the line of that number, from 1, after four spaces; line 0 is the call itself
unfoldable pub source : List ℕ → ℕ → List ℕ
source text zero = []
source text (suc k) = ascii "    " ++ shown_line (get_or (lines text) k []) ++ ascii "\n"

-- the line's number and the refusal's, as `line 7: refused 11, a name unknown or given before`, and the line under it
unfoldable pub diagnostic_of : List ℕ → ℕ → ℕ → List ℕ
diagnostic_of text line number =
    ascii "line " ++ decimal line ++ ascii ": refused " ++ decimal number ++ reason number ++ ascii "\n" ++ source text line
