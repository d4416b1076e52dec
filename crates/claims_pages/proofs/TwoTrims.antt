-- Pages of two trims whose programs are one word at every place: they are accepted, and who gets the rest is told by numbers.
-- Assumes nothing.
use mathlib.Core.Path.{◌≡◌, refl, sym, ap, subst, ◌∙◌}
use mathlib.Core.Logic.{⊎_elim}
use Prim.Native.Nat.{ℕ, zero, suc, ◌+◌, ◌*◌, ◌<◌, ◌≤◌}
use native.Mathlib.Omega.{arith}
use lib.ListN.{get_or, replicate, length-append, length-replicate}
use Rattle.machine.specs.declared.State.{State}
use Rattle.machine.specs.Machine.{reset, word_at}
use Rattle.run.specs.Runs.{machine_at}
use Rattle.page.specs.Pages.{PageGiven, part, places, trim}
use Rattle.claims.specs.Session.{Engine}
use Rattle.claims.specs.Refusals.{OddPlace}
use Rattle.claims_back.proofs.Onward.{told}
use Rattle.claims_pages.specs.Pages.{WrongLength, Passes, AcceptedPage, handed, Alone, Steps, two_trims, Rows}
use Rattle.claims_pages.proofs.Refusals.{exists}
use Rattle.claims_pages.proofs.Alone.{run_from}
use Rattle.claims_pages.proofs.Turns.{may_run}
use Rattle.claims_pages.proofs.Ends.{room, fit}
use Rattle.claims_pages.proofs.Rows.{odd_step, first_stopped}
use Rattle.claims_pages.proofs.OneWord.{Zeros, second_zeros, first_zeros, first_two, Quiet, goes, stops_at_once, no_step}

-- ---- They are accepted

all_reset : (n k : ℕ) → get_or (replicate n reset) k reset ≡ reset
all_reset zero k = refl
all_reset (suc n) zero = refl
all_reset (suc n) (suc k) = all_reset n k

module _ (byte : ℕ) where
  abbrev page : PageGiven
  page = two_trims byte 7

  passes : (k : ℕ) → Passes page k
  passes k =
      subst (λ (s : State). (OddPlace s → ⊥) × (4294967295 < s.n + 7 → ⊥)) (sym (all_reset 8 k))
      (⊎_elim (λ n. n refl) (λ n. n refl), λ h. omega arith)

  right : WrongLength page → ⊥
  right =
      ⊎_elim (λ n. n (length-append (replicate 65536 byte) (replicate 65536 0) ∙ (λ i. length-replicate 65536 byte i + length-replicate {A = ℕ} 65536 0 i)))
      (⊎_elim (λ n. n (length-replicate {A = ℕ} 131072 0)) (⊎_elim (λ n. n (length-replicate {A = ℕ} 512 0)) (λ n. n (length-replicate {A = ℕ} 512 0))))

  there_are : (e : Engine) → (p : AcceptedPage page) × (p.engine ≡ e)
  there_are = exists page (⊎_elim (λ n. omega arith) (λ n. omega arith)) right (λ k h. passes k)

  -- ---- Their trims alone

  quiet : (k : ℕ) → Quiet (machine_at (trim page 7 k))
  quiet k = record { board = ap (λ s. s.board) (all_reset 8 k); enabled = ap (λ s. s.enabled) (all_reset 8 k) }

  module _ (p : AcceptedPage page) where
    abbrev alone : (k : ℕ) → k < 2 → (budget : ℕ) → budget ≤ 7 → Alone page k budget
    alone k h budget l =
        run_from (handed page k) budget (part (places page) k page.log)
        (may_run (handed page k) (fit p k h) budget (part (places page) k page.log) (omega (arith, room p k h)))

    -- words 0 go on
    goes_on : (k : ℕ) (h : k < 2) → Zeros (part 65536 k page.P) → (alone k h 7 (omega arith)).stop ≡ 0
    goes_on k h z = (told (alone k h 7 (omega arith))).stop ∙ goes 7 _ (machine_at (trim page 7 k)) (quiet k) z

of_7 : (p : AcceptedPage (two_trims 0 7)) → Steps p.left 4 3
of_7 p =
    odd_step p refl refl (alone 0 p 0 (omega arith) 7 (omega arith)) (goes_on 0 p 0 (omega arith) (first_zeros 65536))
    (alone 0 p 1 (omega arith) 7 (omega arith)) (goes_on 0 p 1 (omega arith) (second_zeros 65536 0))

all_7 : (p : AcceptedPage (two_trims 255 7)) → Steps p.left 0 7
all_7 p =
    let first = alone 255 p 0 (omega arith) 3 (omega arith) in
    let m = machine_at (trim (two_trims 255 7) 3 0) in
    let bytes = first_two 65534 255 in
    let word : word_at m.P 0 ≡ 65535 = λ i. bytes.0 i + 256 * bytes.1 i in
    let stop = (told first).stop ∙ stops_at_once 2 _ m (quiet 255 0) word in
    let none = (told first).steps ∙ no_step 2 _ m (quiet 255 0) word in
    let z = first_stopped p refl first (λ e. omega (arith, stop, e)) (alone 255 p 1 (omega arith) 7 (omega arith)) (goes_on 255 p 1 (omega arith) (second_zeros 65536 255)) in
    (z.0 ∙ none, omega (arith, z.1, none))

pub rows : Rows
rows = record { odd_step = odd_step; first_stopped = first_stopped; of_7 = of_7; all_7 = all_7; there_are = there_are }
