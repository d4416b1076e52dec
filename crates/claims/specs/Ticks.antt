-- How long on the slower board (02, L9): the multicycle board takes 3 ticks an instruction, and 4 for LD, ST, LDB and STB; taking a line (02,
-- L12) takes 3. A run's ticks are the sum of these over the steps that the plain machine took, and lie between 3 and 4 times the reported steps.
use Rattle.std.specs.Prelude.{◌≡◌, true, List, [], ◌∷◌, map, ℕ, ◌*◌, ◌≤◌}
use Rattle.word.specs.Fields.{opcode, e_of, f_of}
use Rattle.kinds.specs.declared.Kind.{Kind}
use Rattle.kinds.specs.declared.Kind.TheVariants.{And, Or, Xor, Not, Add, Sub, Sha, Shl, Cmplt, Cmple, Cmpeq, Cmpltu, Cmpleu, Addi, Ld, St, Ldb, Stb, Jalr, Bz, Bnz, Movi, Movhi, In, Out, Mul, Mulh, Mulhu, Div, Divu, Ei, Di, Reti, Getiid}
use Rattle.kinds.specs.Kinds.{kinds}
use Rattle.std.specs.declared.option.Option.TheVariants.{Some}
use Rattle.isa.specs.Sheet.{kind_at}
use Rattle.machine.specs.Machine.{Machine, takes_line}
use Rattle.machine.specs.Step.{fetched}
use Rattle.machine.specs.Run.{by_rules}
use Rattle.usage.specs.Usage.{ticks_at, ticks_of}
use Rattle.run.specs.Runs.{Given, stopped, run_refused, trace_on, CountedLeft, counted_left, CountedMeets}
use Rattle.claims_sheet.specs.Rules.{FetchesNow}
use Rattle.claims.specs.Session.{Engine, stepper_of}

-- ---- A step's ticks, by its kind

pub record Row : Type 0 where
  pub kind : Kind
  pub ticks : ℕ

abbrev row : Kind → ℕ → Row
row k t = record { kind = k; ticks = t }

abbrev pub tick_rows : List Row
tick_rows =
    row And 3
    ∷ row Or 3
    ∷ row Xor 3
    ∷ row Not 3
    ∷ row Add 3
    ∷ row Sub 3
    ∷ row Sha 3
    ∷ row Shl 3
    ∷ row Cmplt 3
    ∷ row Cmple 3
    ∷ row Cmpeq 3
    ∷ row Cmpltu 3
    ∷ row Cmpleu 3
    ∷ row Addi 3
    ∷ row Ld 4
    ∷ row St 4
    ∷ row Ldb 4
    ∷ row Stb 4
    ∷ row Jalr 3
    ∷ row Bz 3
    ∷ row Bnz 3
    ∷ row Movi 3
    ∷ row Movhi 3
    ∷ row In 3
    ∷ row Out 3
    ∷ row Mul 3
    ∷ row Mulh 3
    ∷ row Mulhu 3
    ∷ row Div 3
    ∷ row Divu 3
    ∷ row Ei 3
    ∷ row Di 3
    ∷ row Reti 3
    ∷ row Getiid 3
    ∷ []

-- every machine that fetches a word of the kind takes these ticks
abbrev pub Holds : Row → Type 0
Holds x = (m : Machine) → FetchesNow m → let w = fetched m in kind_at (opcode w) (e_of w) (f_of w) ≡ Some x.kind → ticks_at m ≡ x.ticks

abbrev pub Each : List Row → Type 0
Each [] = Unit
Each (x ∷ xs) = Holds x × Each xs

-- ---- A run's ticks

-- a run of g that left l and reported s steps
pub record Timed (g : Given) (s : ℕ) (l : CountedLeft) : Type 0 where
  -- Its ticks are the sum over the steps that the plain machine took,
  pub sum : l.ticks ≡ ticks_of (trace_on by_rules g)
  -- and lie between 3 and 4 times the reported steps.
  pub at_least : 3 * s ≤ l.ticks
  pub at_most : l.ticks ≤ 4 * s

-- a run of at least one step whose ticks are so many times its steps
pub record Takes (e : Engine) (times : ℕ) : Type 0 where
  pub of : Given
  pub reason : ℕ
  pub steps : ℕ
  pub entries : ℕ
  pub reported : (counted_left (stepper_of e) of).left.reply ≡ stopped reason steps entries
  pub some : 1 ≤ steps
  pub ticks : (counted_left (stepper_of e) of).ticks ≡ times * steps

pub record Ticks : Type 0 where
  -- each of the kinds has a row, in their order
  pub every_kind : map (λ (x : Row). x.kind) tick_rows ≡ kinds
  pub rows : Each tick_rows
  -- whatever word stands at PC, taking a line takes 3
  pub taking : (m : Machine) → takes_line m.state ≡ true → ticks_at m ≡ 3
  -- An accepted run, by either engine, of whatever it is given, a journal or none, known by its contract alone;
  pub of_accepted :
      (e : Engine) (g : Given) (l : CountedLeft) → CountedMeets (stepper_of e) g l
      → (q s k : ℕ) → l.left.reply ≡ stopped q s k → Timed g s l
  -- both ends are taken by a run of at least one step;
  pub least_taken : (e : Engine) → Takes e 3
  pub most_taken : (e : Engine) → Takes e 4
  -- and a refused run's ticks are 0.
  pub of_refused :
      (e : Engine) (g : Given) (l : CountedLeft) → CountedMeets (stepper_of e) g l
      → (k : ℕ) → l.left.reply ≡ run_refused k → l.ticks ≡ 0
