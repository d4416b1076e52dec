-- What the functions of this crate promise, of the state and the lent slices that they see of a machine. Nothing here is promised to a
-- caller.
use Rattle.std.specs.Prelude.{◌≡◌, List, [], ◌∷◌, ℕ, eqb, get_or}
use Rattle.word.specs.Fields.{a_of, e_of, f_of, N6, N8}
use Rattle.word.specs.Word.{pick, add, clear0, SE}
use Rattle.machine.specs.declared.State.{State}
use Rattle.machine.specs.Machine.{Machine, R, word_at}
use Rattle.machine.specs.Step.{d5_3, d11_9}
use Rattle.journal.specs.declared.What.{What}
use Rattle.journal.specs.declared.What.TheVariants.{Nothing, Register, DataWord, DataByte, Output, KeyRead, EnableFlag, LineTaken}
use Rattle.journal.specs.Journal.{Overwritten, register, data_word, data_byte, output_word, key_read, enable_flag, entry_with, overwritten, undo}

-- the numbers of what is overwritten, and back
abbrev pub what_number : What → ℕ
what_number Nothing = 0
what_number Register = 1
what_number DataWord = 2
what_number DataByte = 3
what_number Output = 4
what_number KeyRead = 5
what_number EnableFlag = 6
what_number LineTaken = 7

abbrev pub whats : List What
whats = Nothing ∷ Register ∷ DataWord ∷ DataByte ∷ Output ∷ KeyRead ∷ EnableFlag ∷ LineTaken ∷ []

-- what they see, and the rest
abbrev pub machine_with : State → List ℕ → List ℕ → List ℕ → List ℕ → List ℕ → Machine
machine_with s D I O P L = record { state = s; P = P; D = D; I = I; O = O; L = L }

-- x is the entry of the step of w
abbrev pub IsEntry : ℕ → State → List ℕ → List ℕ → List ℕ → ℕ → Type 0
IsEntry w s D I O x = (P L : List ℕ) → x ≡ entry_with s.pc (overwritten w (machine_with s D I O P L))

-- state, data, inputs and outputs become these where a step is taken back by x
abbrev pub IsUndone : ℕ → State → List ℕ → List ℕ → List ℕ → State → List ℕ → List ℕ → List ℕ → Type 0
IsUndone x s D I O s' D' I' O' = (P L : List ℕ) → undo x (machine_with s D I O P L) ≡ machine_with s' D' I' O' P L

-- ---- What a step of w overwrites, of the state s, the data D, the inputs I and the outputs O

abbrev pub register_before : ℕ → State → Overwritten
register_before d s = register d (R s d)

-- Ra+SE(N6)
abbrev pub address_of : ℕ → State → ℕ
address_of w s = add (R s (a_of w)) (SE 6 (N6 w))

-- ST
abbrev pub word_before : ℕ → State → List ℕ → Overwritten
word_before w s D = data_word (clear0 (address_of w s)) (word_at D (clear0 (address_of w s)))

-- STB
abbrev pub byte_before : ℕ → State → List ℕ → Overwritten
byte_before w s D = data_byte (address_of w s) (get_or D (address_of w s) 0)

-- IN
abbrev pub input_before : ℕ → State → List ℕ → Overwritten
input_before w s I = pick (eqb (N8 w) 1) (key_read (d11_9 w) (R s (d11_9 w)) (get_or I 0 0)) (register_before (d11_9 w) s)

-- IN and OUT
abbrev pub port_before : ℕ → State → List ℕ → List ℕ → Overwritten
port_before w s I O = pick (eqb (e_of w) 0) (input_before w s I) (output_word (N8 w) (get_or O (N8 w) 0))

-- EI, DI, RETI and GETIID
abbrev pub interrupt_before : ℕ → State → Overwritten
interrupt_before w s = pick (eqb (f_of w) 3) (register_before (d5_3 w) s) (enable_flag s.enabled)
