-- What each function of include/sisa.h replies and leaves, of what it is given. The crates that do the work decide it
-- (`load_left`, `save_left`, `assemble_left`, `set_left`, `raise_left`, `counted_left`, `page_left`, `back_left`, `decoding_of`, `write_of`, `window_of`); here their replies become the
-- numbers of the header's structs. A refusal of 0 is an accepted call; a field that a case does not speak of is 0.
use Rattle.std.specs.Prelude.{ℕ, ◌+◌, Bool, ◌&&◌, not, List, map, ◌≡◌, eqb, leb, ℤ, pos, length, get_or, take, drop}
use Rattle.std.specs.Borrow.{MutBor}
use denote.Triple.Both.{Both}
use Rattle.refusal.specs.Refusals.{Verdict, accepted, refused}
use Rattle.word.specs.Word.{pick}
use Rattle.kinds.specs.declared.Kind.TheVariants.{And}
use Rattle.kinds.specs.Kinds.{kinds, kind_number}
use Rattle.isa.specs.Instructions.{Read, instruction, unassigned, WriteReply, word, write_refused, write_of}
use Rattle.isa.specs.Masks.{Masks, Decoding}
use Rattle.machine.specs.declared.State.{State}
use Rattle.machine.specs.Machine.{board_of}
use Rattle.machine.specs.Run.{Stepper}
use Rattle.machine.specs.Slices.{MutSlice, Slice, before, after, read_before, read_after}
use Rattle.panel.specs.Calls.{SetGiven, SetLeft, set_left, raise_left, holds_locked, window_of}
use Rattle.image.specs.Image.{LoadGiven, LoadLeft, load_left, file_lent}
use Rattle.save.specs.Saved.{SaveReply, saved, save_refused, SaveGiven, SaveLeft, save_left, lent_to_save}
use Rattle.assembler.specs.Text.{Reply, words, text_refused, AssembleLeft, assemble_left}
use Rattle.control.specs.Control.{by_the_table}
use Rattle.usage.specs.declared.Usage.{Usage}
use Rattle.sheet.specs.declared.Sheet.{Sheet}
use Rattle.sheet.specs.Sheet.{FeedLeft, feed_by}
use Rattle.run.specs.Runs.{Journal, no_journal, lent_journal, Given, given, RunReply, stopped, run_refused, CountedLeft, counted_left, lent_to}
use Rattle.page.specs.declared.Trims.{Trims}
use Rattle.page.specs.declared.TrimAnswer.{TrimAnswer}
use Rattle.page.specs.Pages.{PageGiven, PageLeft, page_left, lent_page}
use Rattle.back.specs.Backs.{BackReply, gone_back, back_refused, BackGiven, BackLeft, back_left, lent_back}
use Rattle.replies.specs.declared.SisaLoad.{SisaLoad}
use Rattle.replies.specs.declared.SisaSaved.{SisaSaved}
use Rattle.replies.specs.declared.SisaAssembly.{SisaAssembly}
use Rattle.replies.specs.declared.SisaRun.{SisaRun}
use Rattle.replies.specs.declared.SisaAnswer.{SisaAnswer}
use Rattle.replies.specs.declared.SisaPage.{SisaPage}
use Rattle.replies.specs.declared.SisaBack.{SisaBack}
use Rattle.replies.specs.declared.SisaInstruction.{SisaInstruction}
use Rattle.replies.specs.declared.SisaWord.{SisaWord}
use Rattle.replies.specs.declared.SisaWindow.{SisaWindow}
use Rattle.replies.specs.declared.SisaFed.{SisaFed}
use Rattle.replies.specs.declared.SisaRaised.{SisaRaised}

-- 0, or the refusal's number
abbrev pub verdict_number : Verdict → ℕ
verdict_number accepted = 0
verdict_number (refused k) = k

-- ---- sisa_load

abbrev pub sisa_load : Verdict → State → SisaLoad
sisa_load reply s = record { state = s; refusal = verdict_number reply }

pub record SisaLoadLeft : Type 0 where
  pub reply : SisaLoad
  pub P : List ℕ
  pub D : List ℕ
  pub I : List ℕ
  pub O : List ℕ

abbrev pub load_in_numbers : LoadLeft → SisaLoadLeft
load_in_numbers l = record { reply = sisa_load l.reply l.state; P = l.P; D = l.D; I = l.I; O = l.O }

unfoldable pub sisa_load_left : LoadGiven → SisaLoadLeft
sisa_load_left g = load_in_numbers (load_left g)

-- the board is the one that the number names, the range is in numbers
abbrev pub SisaLoads : Slice → ℕ → ℕ → ℕ → ℕ → MutSlice → MutSlice → MutSlice → MutSlice → SisaLoad → Type 0
SisaLoads file board locked first last program memory inputs outputs r =
    ◌≡◌ {A = SisaLoadLeft} (record { reply = r; P = after program; D = after memory; I = after inputs; O = after outputs })
    (sisa_load_left (file_lent file (board_of board) (record { locked = locked; first = first; last = last }) program memory inputs outputs))

-- ---- sisa_save

abbrev pub sisa_saved : SaveReply → State → SisaSaved
sisa_saved (saved n) s = record { state = s; refusal = 0; length = n }
sisa_saved (save_refused k) s = record { state = s; refusal = k; length = 0 }

pub record SisaSaveLeft : Type 0 where
  pub reply : SisaSaved
  pub P : List ℕ
  pub D : List ℕ
  pub destination : List ℕ

abbrev pub save_in_numbers : SaveLeft → SisaSaveLeft
save_in_numbers l = record { reply = sisa_saved l.reply l.state; P = l.P; D = l.D; destination = l.destination }

unfoldable pub sisa_save_left : SaveGiven → SisaSaveLeft
sisa_save_left g = save_in_numbers (save_left g)

abbrev pub SisaSaves : State → Slice → Slice → MutSlice → SisaSaved → Type 0
SisaSaves state program memory destination r =
    ◌≡◌ {A = SisaSaveLeft} (record { reply = r; P = read_after program; D = read_after memory; destination = after destination })
    (sisa_save_left (lent_to_save state program memory destination))

-- ---- sisa_assemble

abbrev pub sisa_assembly : Reply → SisaAssembly
sisa_assembly (words n) = record { refusal = 0; line = 0; words = n }
sisa_assembly (text_refused k r) = record { refusal = r; line = k; words = 0 }

pub record SisaAssembleLeft : Type 0 where
  pub reply : SisaAssembly
  pub program : List ℕ

abbrev pub assembly_in_numbers : AssembleLeft → SisaAssembleLeft
assembly_in_numbers l = record { reply = sisa_assembly l.reply; program = l.program }

unfoldable pub sisa_assemble_left : List ℕ → List ℕ → SisaAssembleLeft
sisa_assemble_left text program = assembly_in_numbers (assemble_left text program)

abbrev pub SisaAssembles : Slice → MutSlice → SisaAssembly → Type 0
SisaAssembles text program r =
    ◌≡◌ {A = SisaAssembleLeft} (record { reply = r; program = after program }) (sisa_assemble_left (read_before text) (before program))

-- ---- sisa_set_input

pub record SisaSetLeft : Type 0 where
  pub refusal : ℕ
  pub I : List ℕ

abbrev pub set_in_numbers : SetLeft → SisaSetLeft
set_in_numbers l = record { refusal = verdict_number l.reply; I = l.I }

unfoldable pub sisa_set_left : SetGiven → SisaSetLeft
sisa_set_left g = set_in_numbers (set_left g)

abbrev pub SisaSets : MutSlice → ℕ → ℕ → ℕ → Type 0
SisaSets inputs port value r =
    ◌≡◌ {A = SisaSetLeft} (record { refusal = r; I = after inputs }) (sisa_set_left (record { I = before inputs; port = port; value = value }))

-- ---- sisa_raise

abbrev pub sisa_raised : Verdict → State → SisaRaised
sisa_raised reply s = record { state = s; refusal = verdict_number reply }

unfoldable pub sisa_raise : State → ℕ → SisaRaised
sisa_raise s line = let l = raise_left s line in sisa_raised l.reply l.state

-- ---- sisa_run_by_rules, sisa_run_by_table, both with a journal, and sisa_host_step

-- q is the stop reason, s the steps, e the entries, u the counts, t the ticks
abbrev pub sisa_run : RunReply → State → Usage → ℕ → SisaRun
sisa_run (stopped q s e) state u t = record { state = state; refusal = 0; stop = q; steps = s; entries = e; ticks = t; usage = u }
sisa_run (run_refused k) state u t = record { state = state; refusal = k; stop = 0; steps = 0; entries = 0; ticks = t; usage = u }

pub record SisaRunLeft : Type 0 where
  pub reply : SisaRun
  pub P : List ℕ
  pub D : List ℕ
  pub I : List ℕ
  pub O : List ℕ
  pub log : List ℕ
  pub journal : Journal

abbrev pub sisa_left : SisaRun → List ℕ → List ℕ → List ℕ → List ℕ → List ℕ → Journal → SisaRunLeft
sisa_left reply P D I O log journal = record { reply = reply; P = P; D = D; I = I; O = O; log = log; journal = journal }

abbrev pub run_in_numbers : CountedLeft → SisaRunLeft
run_in_numbers c =
    let l = c.left in
    sisa_left (sisa_run l.reply l.state c.usage c.ticks) l.P l.D l.I l.O l.log l.journal

unfoldable pub sisa_run_left : Stepper → Given → SisaRunLeft
sisa_run_left v g = run_in_numbers (counted_left v g)

-- the contract of the runs, where v is what the run goes by
abbrev pub SisaRunMeets : Stepper → Given → SisaRunLeft → Type 0
SisaRunMeets v g l = l ≡ sisa_run_left v g

abbrev pub SisaRuns : Stepper → State → Slice → MutSlice → MutSlice → MutSlice → ℕ → MutSlice → SisaRun → Type 0
SisaRuns v state program memory inputs outputs budget log r =
    SisaRunMeets v (lent_to state program memory inputs outputs budget log no_journal)
    (sisa_left r (read_after program) (after memory) (after inputs) (after outputs) (after log) no_journal)

abbrev pub SisaRunsJournaled : Stepper → State → Slice → MutSlice → MutSlice → MutSlice → ℕ → MutSlice → MutSlice → SisaRun → Type 0
SisaRunsJournaled v state program memory inputs outputs budget log journal r =
    SisaRunMeets v (lent_to state program memory inputs outputs budget log (lent_journal (before journal)))
    (sisa_left r (read_after program) (after memory) (after inputs) (after outputs) (after log) (lent_journal (after journal)))

-- what the host holds and lends to a host step, before or after it
pub record HostLent : Type 0 where
  pub state : State
  pub P : List ℕ
  pub D : List ℕ
  pub I : List ℕ
  pub O : List ℕ
  pub log : List ℕ

abbrev pub host_lent : State → List ℕ → List ℕ → List ℕ → List ℕ → List ℕ → HostLent
host_lent state P D I O log = record { state = state; P = P; D = D; I = I; O = O; log = log }

-- the state that the host holds afterwards and the answer make up a run's reply
abbrev pub with_state : State → SisaAnswer → SisaRun
with_state s a =
    record { state = s; refusal = a.refusal; stop = a.stop; steps = a.steps; entries = a.entries; ticks = a.ticks; usage = a.usage }

-- A host step is a run by the table with budget 1 and no journal over registers that the host holds: its contract.
abbrev pub HostStepMeets : HostLent → SisaAnswer → HostLent → Type 0
HostStepMeets h answer kept =
    SisaRunMeets by_the_table (given h.state h.P h.D h.I h.O 1 h.log no_journal)
    (sisa_left (with_state kept.state answer) kept.P kept.D kept.I kept.O kept.log no_journal)

-- the same of its parameters, the state by reference
abbrev pub HostSteps : Both (MutBor State) (MutBor State) → Slice → MutSlice → MutSlice → MutSlice → MutSlice → SisaAnswer → Type 0
HostSteps state program memory inputs outputs log r =
    HostStepMeets (host_lent state.entry.now (read_before program) (before memory) (before inputs) (before outputs) (before log)) r
    (host_lent state.exit.now (read_after program) (after memory) (after inputs) (after outputs) (after log))

-- ---- sisa_page_by_rules, sisa_page_by_table

-- a trim's answer, with the page's refusal
abbrev pub sisa_answer : ℕ → TrimAnswer → SisaAnswer
sisa_answer refusal a =
    record { refusal = refusal; stop = a.stop; steps = a.steps; entries = a.entries; ticks = a.ticks; usage = a.usage }

-- All eight answers have the page's refusal: those of a refused page are 0 else, as are in an accepted one those past its trims (`page_left`).
abbrev pub sisa_page : Verdict → Trims → List TrimAnswer → SisaPage
sisa_page reply trims answers =
    let k = verdict_number reply in record { trims = trims; refusal = k; answers = map (sisa_answer k) answers }

pub record SisaPageLeft : Type 0 where
  pub reply : SisaPage
  pub P : List ℕ
  pub D : List ℕ
  pub I : List ℕ
  pub O : List ℕ
  pub log : List ℕ

abbrev pub page_in_numbers : PageLeft → SisaPageLeft
page_in_numbers l =
    record { reply = sisa_page l.reply (record { states = l.states }) l.answers; P = l.P; D = l.D; I = l.I; O = l.O; log = l.log }

unfoldable pub sisa_page_left : Stepper → PageGiven → SisaPageLeft
sisa_page_left v g = page_in_numbers (page_left v g)

-- the contract of a page, where v is what its runs go by
abbrev pub SisaPageMeets : Stepper → PageGiven → SisaPageLeft → Type 0
SisaPageMeets v g l = l ≡ sisa_page_left v g

abbrev pub SisaPages : Stepper → Trims → ℕ → Slice → MutSlice → MutSlice → MutSlice → ℕ → MutSlice → SisaPage → Type 0
SisaPages v trims count programs memories inputs outputs budget log r =
    SisaPageMeets v (lent_page trims count programs memories inputs outputs budget log)
    (record { reply = r; P = read_after programs; D = after memories; I = after inputs; O = after outputs; log = after log })

-- ---- sisa_step_back

abbrev pub sisa_back : BackReply → State → SisaBack
sisa_back (gone_back e) state = record { state = state; refusal = 0; entries = e }
sisa_back (back_refused k) state = record { state = state; refusal = k; entries = 0 }

pub record SisaBackLeft : Type 0 where
  pub reply : SisaBack
  pub P : List ℕ
  pub D : List ℕ
  pub I : List ℕ
  pub O : List ℕ
  pub journal : List ℕ

abbrev pub back_in_numbers : BackLeft → SisaBackLeft
back_in_numbers l =
    record { reply = sisa_back l.reply l.state; P = l.P; D = l.D; I = l.I; O = l.O; journal = l.journal }

unfoldable pub sisa_back_left : BackGiven → SisaBackLeft
sisa_back_left g = back_in_numbers (back_left g)

abbrev pub SisaGoesBack : State → Slice → MutSlice → MutSlice → MutSlice → Slice → ℕ → SisaBack → Type 0
SisaGoesBack state program memory inputs outputs journal k r =
    ◌≡◌ {A = SisaBackLeft}
    (record { reply = r; P = read_after program; D = after memory; I = after inputs; O = after outputs; journal = read_after journal })
    (sisa_back_left (lent_back state program memory inputs outputs journal k))

-- ---- sisa_read

abbrev pub instruction_in_numbers : Read → Masks → SisaInstruction
instruction_in_numbers (instruction i) z =
    record { assigned = 1; kind = kind_number i.kind; a = i.a; b = i.b; d = i.d; n = i.n; reads = z.reads; writes = z.writes }
instruction_in_numbers unassigned z = record { assigned = 0; kind = 0; a = 0; b = 0; d = 0; n = pos 0; reads = z.reads; writes = z.writes }

abbrev pub sisa_instruction : Decoding → SisaInstruction
sisa_instruction z = instruction_in_numbers z.reading z.masks

-- ---- sisa_write

abbrev pub sisa_word : WriteReply → SisaWord
sisa_word (word w) = record { refusal = 0; word = w }
sisa_word (write_refused k) = record { refusal = k; word = 0 }

-- A kind over 33 is refused with 7; the others are the kinds, in their order.
unfoldable pub sisa_write : ℕ → ℕ → ℕ → ℕ → ℤ → SisaWord
sisa_write kind a b d n =
    sisa_word (pick (leb kind 33) (write_of (record { kind = get_or kinds kind And; a = a; b = b; d = d; n = n })) (write_refused 7))

-- ---- sisa_feed

abbrev pub sisa_fed : FeedLeft → SisaFed
sisa_fed l = record { sheet = l.sheet; refusal = verdict_number l.reply }

-- a run's refusal that is not 0: a refused run
unfoldable pub sisa_feed : Sheet → ℕ → Usage → SisaFed
sisa_feed s k u = sisa_fed (feed_by (eqb k 0) s u)

-- ---- sisa_window

-- the program for 0, the data memory for any other number
abbrev pub chosen : ℕ → List ℕ → List ℕ → List ℕ
chosen ofData P D = pick (eqb ofData 0) P D

-- a data span holds a locked byte (02, L14)
abbrev pub is_hidden : State → ℕ → ℕ → ℕ → Bool
is_hidden s ofData start count = not (eqb ofData 0) && holds_locked s start count

-- The bytes start .. start + count of the memory M. Both numbers are 0 for the empty part: hidden, of no bytes, or with an end beyond M.
unfoldable pub sisa_window : Bool → List ℕ → ℕ → ℕ → SisaWindow
sisa_window hidden M start count =
    pick (not hidden && (leb (start + count) (length M) && not (eqb count 0)))
    (record { start = start; count = count })
    (record { start = 0; count = 0 })

-- the bytes that a reply names; the contract says that they are those of `window_of`
abbrev pub bytes_of : SisaWindow → List ℕ → List ℕ
bytes_of w M = take w.count (drop w.start M)

abbrev pub SisaShows : State → Slice → Slice → ℕ → ℕ → ℕ → SisaWindow → Type 0
SisaShows s program memory ofData start count r =
    let M = chosen ofData (read_before program) (read_before memory) in
    (r ≡ sisa_window (is_hidden s ofData start count) M start count) × (bytes_of r M ≡ window_of s (read_before program) (read_before memory) (not (eqb ofData 0)) start count)
