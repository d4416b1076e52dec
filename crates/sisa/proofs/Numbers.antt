-- A call's contract, and its reply in numbers, make the contract of the function of sisa.h.
-- Assumes nothing.
use Prim.Native.Nat.{ℕ}
use mathlib.Core.List.{List}
use mathlib.Core.Path.{◌≡◌, ap, ◌∙◌}
use Rattle.refusal.specs.Refusals.{Verdict}
use Rattle.machine.specs.declared.State.{State}
use Rattle.machine.specs.declared.Board.{Board}
use Rattle.machine.specs.Run.{Stepper}
use Rattle.panel.specs.Calls.{SetGiven, SetLeft, set_left}
use Rattle.image.specs.declared.Range.{Range}
use Rattle.image.specs.Image.{LoadGiven, LoadLeft, load_left}
use Rattle.save.specs.Saved.{SaveReply, SaveGiven, SaveLeft, save_left}
use Rattle.assembler.specs.Text.{Reply, AssembleLeft, assemble_left}
use Rattle.usage.specs.declared.Usage.{Usage}
use Rattle.run.specs.Runs.{Journal, Given, left, RunReply, CountedMeets}
use Rattle.page.specs.declared.Trims.{Trims}
use Rattle.page.specs.declared.TrimAnswer.{TrimAnswer}
use Rattle.page.specs.Pages.{PageGiven, PageMeets}
use Rattle.back.specs.Backs.{BackReply, BackGiven, BackLeft, back_left}
use Rattle.replies.specs.declared.SisaLoad.{SisaLoad}
use Rattle.replies.specs.declared.SisaSaved.{SisaSaved}
use Rattle.replies.specs.declared.SisaAssembly.{SisaAssembly}
use Rattle.replies.specs.declared.SisaRun.{SisaRun}
use Rattle.replies.specs.declared.SisaPage.{SisaPage}
use Rattle.replies.specs.declared.SisaBack.{SisaBack}
use Rattle.replies.specs.Sisa.{sisa_load, SisaLoadLeft, load_in_numbers, sisa_load_left, sisa_saved, SisaSaveLeft, save_in_numbers, sisa_save_left, sisa_assembly, SisaAssembleLeft, assembly_in_numbers, sisa_assemble_left, verdict_number, SisaSetLeft, set_in_numbers, sisa_set_left, sisa_run, sisa_left, run_in_numbers, sisa_run_left, SisaRunMeets, sisa_page, page_in_numbers, sisa_page_left, SisaPageMeets, sisa_back, SisaBackLeft, back_in_numbers, sisa_back_left}

-- the board that a number names
pub board_load : (file P D I O : List ℕ) (range : Range) {b b' : Board} {l : LoadLeft} → b ≡ b'
    → l ≡ load_left (record { file = file; board = b; range = range; P = P; D = D; I = I; O = O })
    → l ≡ load_left (record { file = file; board = b'; range = range; P = P; D = D; I = I; O = O })
board_load file P D I O range e l = l ∙ ap (λ (b : Board). load_left (record { file = file; board = b; range = range; P = P; D = D; I = I; O = O })) e

pub load_meets : (g : LoadGiven) {reply : Verdict} {state : State} {P D I O : List ℕ} {r : SisaLoad}
    → ◌≡◌ {A = LoadLeft} (record { reply = reply; state = state; P = P; D = D; I = I; O = O }) (load_left g)
    → r ≡ sisa_load reply state
    → ◌≡◌ {A = SisaLoadLeft} (record { reply = r; P = P; D = D; I = I; O = O }) (sisa_load_left g)
unfolding sisa_load_left
load_meets g e h = rw h (ap load_in_numbers e)

pub save_meets : (g : SaveGiven) {reply : SaveReply} {state : State} {P D destination : List ℕ} {r : SisaSaved}
    → ◌≡◌ {A = SaveLeft} (record { reply = reply; state = state; P = P; D = D; destination = destination }) (save_left g)
    → r ≡ sisa_saved reply state
    → ◌≡◌ {A = SisaSaveLeft} (record { reply = r; P = P; D = D; destination = destination }) (sisa_save_left g)
unfolding sisa_save_left
save_meets g e h = rw h (ap save_in_numbers e)

pub assembly_meets : (text program : List ℕ) {reply : Reply} {program' : List ℕ} {r : SisaAssembly}
    → ◌≡◌ {A = AssembleLeft} (record { reply = reply; program = program' }) (assemble_left text program)
    → r ≡ sisa_assembly reply
    → ◌≡◌ {A = SisaAssembleLeft} (record { reply = r; program = program' }) (sisa_assemble_left text program)
unfolding sisa_assemble_left
assembly_meets text program e h = rw h (ap assembly_in_numbers e)

pub set_meets : (g : SetGiven) {reply : Verdict} {I : List ℕ} {r : ℕ}
    → ◌≡◌ {A = SetLeft} (record { reply = reply; I = I }) (set_left g)
    → r ≡ verdict_number reply
    → ◌≡◌ {A = SisaSetLeft} (record { refusal = r; I = I }) (sisa_set_left g)
unfolding sisa_set_left
set_meets g e h = rw h (ap set_in_numbers e)

pub run_meets : (v : Stepper) (g : Given) {reply : RunReply} {state : State} {P D I O log : List ℕ} {journal : Journal} {u : Usage} {t : ℕ} {r : SisaRun}
    → CountedMeets v g (record { left = left reply state P D I O log journal; usage = u; ticks = t })
    → r ≡ sisa_run reply state u t
    → SisaRunMeets v g (sisa_left r P D I O log journal)
unfolding sisa_run_left
run_meets v g e h = rw h (ap run_in_numbers e)

pub page_meets : (v : Stepper) (g : PageGiven) {reply : Verdict} {trims : Trims} {answers : List TrimAnswer} {P D I O log : List ℕ} {r : SisaPage}
    → PageMeets v g (record { reply = reply; states = trims.states; answers = answers; P = P; D = D; I = I; O = O; log = log })
    → r ≡ sisa_page reply trims answers
    → SisaPageMeets v g (record { reply = r; P = P; D = D; I = I; O = O; log = log })
unfolding sisa_page_left
page_meets v g e h = rw h (ap page_in_numbers e)

pub back_meets : (g : BackGiven) {reply : BackReply} {state : State} {P D I O journal : List ℕ} {r : SisaBack}
    → ◌≡◌ {A = BackLeft} (record { reply = reply; state = state; P = P; D = D; I = I; O = O; journal = journal }) (back_left g)
    → r ≡ sisa_back reply state
    → ◌≡◌ {A = SisaBackLeft} (record { reply = r; P = P; D = D; I = I; O = O; journal = journal }) (sisa_back_left g)
unfolding sisa_back_left
back_meets g e h = rw h (ap back_in_numbers e)
