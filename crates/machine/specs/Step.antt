-- A step of the plain machine (01, "Step" and the table of opcodes), each rule with the sheet's own line.
use Rattle.std.specs.Prelude.{ℕ, ◌+◌, ◌*◌, ◌%◌, Bool, false, not, ◌&&◌, ◌||◌, List, [], ◌∷◌, eqb, get_or}
use Rattle.word.specs.Fields.{bits, field, opcode, a_of, b_of, e_of, f_of, N6, N8}
use Rattle.word.specs.Word.{pick, add, clear0, SE, operation, comparison}
use Rattle.muldiv.specs.Muldiv.{muldiv}
use Rattle.machine.specs.declared.State.{State}
use Rattle.machine.specs.Machine.{Machine, is_single, put_enabled, takes_line, line_taken_by, touches_locked, bytes_at, fetch_locked, R, put_r, put_pc, count, on_state, put_d, read_from, on_inputs, put_o, word_at, put_word, put_byte}

-- ---- What the rules are made of

abbrev pub PC : Machine → ℕ
PC m = m.state.pc

-- Ra, Rb
abbrev pub Ra : ℕ → Machine → ℕ
Ra w m = R m.state (a_of w)

abbrev pub Rb : ℕ → Machine → ℕ
Rb w m = R m.state (b_of w)

-- A is Ra+SE(N6); A' is A with bit 0 cleared
abbrev pub A : ℕ → Machine → ℕ
A w m = add (Ra w m) (SE 6 (N6 w))

abbrev pub A' : ℕ → Machine → ℕ
A' w m = clear0 (A w m)

-- the destination d is 5..3 for opcodes 0, 1, 11 and GETIID, 8..6 for 2, 3, 5, 7, and 11..9 for 9 and IN
abbrev pub d5_3 : ℕ → ℕ
d5_3 w = field (bits 5 3) w

abbrev pub d8_6 : ℕ → ℕ
d8_6 w = field (bits 8 6) w

abbrev pub d11_9 : ℕ → ℕ
d11_9 w = field (bits 11 9) w

-- Rd = v
abbrev pub write : ℕ → ℕ → Machine → Machine
write d v m = on_state (put_r d v) m

-- PC = v
abbrev pub jump : ℕ → Machine → Machine
jump v m = on_state (put_pc v) m

-- ---- The rules. A rule gets the machine with PC = PC+2 done, as the sheet has it (footnote 2; "PC=PC+2;" in JALR, BZ, BNZ).

abbrev pub Rule : Type 0
Rule = ℕ → Machine → Machine

-- AND, OR, XOR, NOT, ADD, SUB, SHA, SHL by f
unfoldable pub compute : Rule
compute w m = write (d5_3 w) (operation (f_of w) (Ra w m) (Rb w m)) m

-- CMPLT, CMPLE, CMPEQ, CMPLTU, CMPLEU by f
unfoldable pub compare : Rule
compare w m = write (d5_3 w) (comparison (f_of w) (Ra w m) (Rb w m)) m

-- ADDI Rd, Ra, N6     Rd=Ra+SE(N6)
unfoldable pub addi : Rule
addi w m = write (d8_6 w) (A w m) m

-- LD Rd, N6(Ra)       Rd=Mem_w[(Ra+SE(N6))&(~1)]
unfoldable pub ld : Rule
ld w m = write (d8_6 w) (word_at m.D (A' w m)) m

-- ST N6(Ra), Rb       Mem_w[(Ra+SE(N6))&(~1)]=Rb
unfoldable pub st : Rule
st w m = put_d (put_word (A' w m) (Rb w m) m.D) m

-- LDB Rd, N6(Ra)      Rd=SE(Mem_b[Ra+SE(N6)])
unfoldable pub ldb : Rule
ldb w m = write (d8_6 w) (SE 8 (get_or m.D (A w m) 0)) m

-- STB N6(Ra), Rb      Mem_b[Ra+SE(N6)]=Rb<7..0>
unfoldable pub stb : Rule
stb w m = put_d (put_byte (A w m) (Rb w m) m.D) m

-- JALR Rd, Ra         PC=PC+2; tmp=Ra&(~1); Rd=PC; PC=tmp
unfoldable pub jalr : Rule
jalr w m = let tmp = clear0 (Ra w m) in jump tmp (write (d8_6 w) (PC m) m)

-- BZ Ra, N8           PC=PC+2; if(Ra==0)PC=PC+SE(N8)*2
unfoldable pub bz : Rule
bz w m = pick (eqb (Ra w m) 0) (jump (add (PC m) (SE 8 (N8 w) * 2)) m) m

-- BNZ Ra, N8          PC=PC+2; if(Ra!=0)PC=PC+SE(N8)*2
unfoldable pub bnz : Rule
bnz w m = pick (eqb (Ra w m) 0) m (jump (add (PC m) (SE 8 (N8 w) * 2)) m)

-- MOVI Rd, N8         Rd=SE(N8)
unfoldable pub movi : Rule
movi w m = write (d11_9 w) (SE 8 (N8 w)) m

-- MOVHI Rd, N8        Rd<15..8>=N8
unfoldable pub movhi : Rule
movhi w m = write (d11_9 w) (R m.state (d11_9 w) % 256 + N8 w * 256) m

-- IN Rd, N8           Rd=Input[N8]; from port 1 then Input[0]=0
unfoldable pub input : Rule
input w m = on_inputs (read_from (N8 w)) (write (d11_9 w) (get_or m.I (N8 w) 0) m)

-- OUT N8, Ra          Output[N8]=Ra
unfoldable pub output : Rule
output w m = put_o (N8 w) (Ra w m) m

-- MUL, MULH, MULHU, DIV, DIVU by f
unfoldable pub multiply_divide : Rule
multiply_divide w m = write (d5_3 w) (muldiv (f_of w) (Ra w m) (Rb w m)) m

-- EI                  enable=1
abbrev pub ei : State → State
ei s = put_enabled 1 s

-- DI                  enable=0
abbrev pub di : State → State
di s = put_enabled 0 s

-- RETI                PC=return address; enable=1
abbrev pub reti : State → State
reti s = put_pc s.return_address (put_enabled 1 s)

-- EI, DI, RETI, GETIID by f, where `put` is GETIID's write: Rd=line number
abbrev pub interrupt_rules : (ℕ → State → State) → State → List State
interrupt_rules put s = ei s ∷ di s ∷ reti s ∷ put s.line s ∷ []

unfoldable pub interrupt : Rule
interrupt w m = on_state (λ s. get_or (interrupt_rules (put_r (d5_3 w)) s) (f_of w) s) m

-- ---- The bytes of data memory that a load or a store touches (02, L14)

abbrev pub Touched : Type 0
Touched = ℕ → Machine → List ℕ

-- LD and ST touch A' and A'+1,
abbrev pub word_at_a' : Touched
word_at_a' w m = bytes_at (A' w m)

-- LDB and STB touch A.
abbrev pub byte_at_a : Touched
byte_at_a w m = A w m ∷ []

-- ---- The table of opcodes: a rule for the words with one of these f; the same, where those with one of the second f divide by Rb;
-- one rule; one that touches these bytes; one by e; or none.

pub data RuleRow : Type 0 where
  by_f : List ℕ → Rule → RuleRow
  by_f_dividing : List ℕ → List ℕ → Rule → RuleRow
  one : Rule → RuleRow
  one_at : Touched → Rule → RuleRow
  by_e : Rule → Rule → RuleRow
  no_rule : RuleRow

abbrev pub rule_rows : List RuleRow
rule_rows =
    -- 0 to 3
    by_f (0 ∷ 1 ∷ 2 ∷ 3 ∷ 4 ∷ 5 ∷ 6 ∷ 7 ∷ []) compute
    ∷ by_f (0 ∷ 1 ∷ 3 ∷ 4 ∷ 5 ∷ []) compare
    ∷ one addi
    ∷ one_at word_at_a' ld
    -- 4 to 7
    ∷ one_at word_at_a' st
    ∷ one_at byte_at_a ldb
    ∷ one_at byte_at_a stb
    ∷ one jalr
    -- 8 to 10
    ∷ by_e bz bnz
    ∷ by_e movi movhi
    ∷ by_e input output
    -- 11
    ∷ by_f_dividing (0 ∷ 1 ∷ 2 ∷ 4 ∷ 5 ∷ []) (4 ∷ 5 ∷ []) multiply_divide
    -- 12
    ∷ by_f (0 ∷ 1 ∷ 2 ∷ 3 ∷ []) interrupt
    -- 13 to 15 unassigned
    ∷ no_rule
    ∷ no_rule
    ∷ no_rule
    ∷ []

-- the rule of a word; one that divides by Rb; one that touches these bytes; or that the word is unassigned
pub data Choice : Type 0 where
  rule : Rule → Choice
  division : Rule → Choice
  access : Touched → Rule → Choice
  unassigned : Choice

abbrev pub among : ℕ → List ℕ → Bool
among f [] = false
among f (g ∷ gs) = eqb f g || among f gs

abbrev pub rule_in_row : RuleRow → ℕ → ℕ → Choice
rule_in_row (by_f fs r) e f = pick (among f fs) (rule r) unassigned
rule_in_row (by_f_dividing fs gs r) e f = pick (among f fs) (pick (among f gs) (division r) (rule r)) unassigned
rule_in_row (one r) e f = rule r
rule_in_row (one_at touched r) e f = access touched r
rule_in_row (by_e r₀ r₁) e f = rule (pick (eqb e 0) r₀ r₁)
rule_in_row no_rule e f = unassigned

unfoldable pub choice : ℕ → Choice
choice w = rule_in_row (get_or rule_rows (opcode w) no_rule) (e_of w) (f_of w)

-- ---- Step

-- the memory that instructions are fetched from: P, and on the single-memory board D (02, L11)
abbrev pub fetch_memory : Machine → List ℕ
fetch_memory m = pick (is_single m.state) m.D m.P

-- w is M[PC] + 256 times M[PC+1], where M is that memory
unfoldable pub fetched : Machine → ℕ
fetched m = word_at (fetch_memory m) (PC m)

-- A machine can't step, with the stop reason of a run that ends there, or it steps to another.
pub data Next : Type 0 where
  cannot : ℕ → Next
  to : Machine → Next

-- The rule is done and n grows by 1. Where the rule doesn't name PC, PC becomes PC+2.
abbrev pub doing : Rule → ℕ → Machine → Next
doing r w m = to (on_state count (r w (jump (add (PC m) 2) m)))

-- If w is unassigned, no step is possible (stop 1), nor where the divisor is zero (stop 3), nor where a load or store touches a locked byte
-- (stop 4). Otherwise the rule is done.
abbrev pub step_by : Choice → ℕ → Machine → Next
step_by unassigned w m = cannot 1
step_by (division r) w m = pick (eqb (Rb w m) 0) (cannot 3) (doing r w m)
step_by (access touched r) w m = pick (touches_locked (touched w m) m.state) (cannot 4) (doing r w m)
step_by (rule r) w m = doing r w m

-- Taking a line counts as one step (02, L12).
abbrev pub taking : Machine → Next
taking m = to (on_state (λ s. count (line_taken_by s)) m)

-- A line that is to be taken is taken before the fetch; a fetch that touches a locked byte can't be made (stop 4); otherwise `does` is what the word
-- fetched does.
abbrev pub step_with : (ℕ → Machine → Next) → Machine → Next
step_with does m = pick (takes_line m.state) (taking m) (pick (fetch_locked m.state) (cannot 4) (does (fetched m) m))

-- a machine in this state fetches: it takes no line, and its fetch touches no locked byte
abbrev pub fetches : State → Bool
fetches s = not (takes_line s) && not (fetch_locked s)

-- by the rules
abbrev pub by_rule : ℕ → Machine → Next
by_rule w m = step_by (choice w) w m

unfoldable pub step : Machine → Next
step m = step_with by_rule m
