-- What an engine holds between two steps, as a machine. It serves the contracts of the engines' step functions, not a caller.
use Rattle.std.specs.Prelude.{◌≡◌, Bool, false, ◌&&◌, List, ℕ, ◌≤◌, eqb, leb, length, take, drop, Result}
use Rattle.std.specs.declared.result.Result.TheVariants.{Ok, Err}
use Rattle.machine.specs.declared.State.{State}
use Rattle.machine.specs.declared.Stop.{Stop}
use Rattle.machine.specs.Stops.{stop_number}
use Rattle.machine.specs.Machine.{Machine}
use Rattle.machine.specs.Step.{fetched, Next, cannot, to}
use Rattle.machine.specs.Run.{Outcome, unless}

-- w is the word that a machine of this state, program and data memory fetches
abbrev pub Fetches : State → List ℕ → List ℕ → ℕ → Type 0
Fetches s P D w = (I O L : List ℕ) → w ≡ fetched (record { state = s; P = P; D = D; I = I; O = O; L = L })

-- registers, data memory, ports, and the lent log with the number of entries in it
pub record Held : Type 0 where
  pub state : State
  pub D : List ℕ
  pub I : List ℕ
  pub O : List ℕ
  pub log : List ℕ
  pub entries : ℕ

abbrev pub held : State → List ℕ → List ℕ → List ℕ → List ℕ → ℕ → Held
held state D I O log entries = record { state = state; D = D; I = I; O = O; log = log; entries = entries }

-- the machine, with program P: L is the part of the log that is filled
abbrev pub machine_of : List ℕ → Held → Machine
machine_of P h = record { state = h.state; P = P; D = h.D; I = h.I; O = h.O; L = take h.entries h.log }

-- the log has no free place
abbrev pub is_full : Held → Bool
is_full h = leb (length h.log) h.entries

-- what comes of m: reason 0 and what it steps to, or why it can't step, and m
abbrev pub outcome_of : Machine → Next → Outcome
outcome_of m (cannot q) = record { reason = q; after = m }
outcome_of m (to next) = record { reason = 0; after = next }

-- What a step function answers and leaves. `next` is what a machine steps to, `writes` whether that writes a port. With stop 0
-- it is what the machine steps to; with another it is the machine as it was. The log is as it was after its entries.
pub record StepMeets (next : Machine → Next) (writes : Bool) (h : Held) (stop : ℕ) (left : Held) : Type 0 where
  pub machine :
      (P : List ℕ) → outcome_of (machine_of P h) (unless (writes && is_full h) (next (machine_of P h))) ≡ record { reason = stop; after = machine_of P left }
  pub rest : drop left.entries left.log ≡ drop left.entries h.log
  pub filled : left.entries ≤ length left.log

-- m can't step for a locked byte (02, L14)
abbrev pub is_lock_stop : Next → Bool
is_lock_stop (cannot q) = eqb q 4
is_lock_stop (to next) = false

-- r is whether a machine of this state can't step so. A step function is called where it is false.
abbrev pub TestsLock : (Machine → Next) → State → Bool → Type 0
TestsLock next s r = (m : Machine) → m.state ≡ s → is_lock_stop (next m) ≡ r

-- ---- What a step function answers: the next state, or why there is none

abbrev pub reason_of : Result State Stop → ℕ
reason_of (Ok t) = 0
reason_of (Err q) = stop_number q

-- with a stop it is the one before
abbrev pub state_left : State → Result State Stop → State
state_left s (Ok t) = t
state_left s (Err q) = s
