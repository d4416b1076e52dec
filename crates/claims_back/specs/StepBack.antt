-- Stepping back (02, L7, and L8's key): what going back k steps restores, from any history; and that running forward again with the same
-- inputs does the same. Each call is known by its contract alone.
use Rattle.std.specs.Prelude.{◌≡◌, true, false, ◌⊎◌, ◌↔◌, List, [], ◌∷◌, ◌++◌, reverse, ℕ, zero, suc, ◌+◌, ◌-◌, ◌≤◌, length, get_or, set, take, drop}
use Rattle.std.specs.Int.Bits.{bit_or, bit_xor}
use Rattle.word.specs.Word.{flag}
use Rattle.machine.specs.Machine.{Machine}
use Rattle.machine.specs.Step.{Next, cannot, to, step}
use Rattle.machine.specs.Run.{is_out, fetches_a}
use Rattle.journal.specs.Journal.{reads_key, keys_back}
use Rattle.panel.specs.Calls.{SetLeft, set_left}
use Rattle.run.specs.Runs.{Journal, no_journal, lent_journal, stopped, CountedLeft, CountedMeets}
use Rattle.back.specs.Backs.{BackLeft, gone_back, back_left}
use Rattle.claims.specs.Session.{Engine, stepper_of, of_run, Host, given_to, after_one_run, after_set, machine_on, wrote}
use Rattle.claims_back.specs.History.{held_as, Past, given_back, after_back}

-- ---- Going back

-- the machine k steps earlier than m, where ms are the machines before its steps, the last first
unfoldable pub earlier : ℕ → Machine → List Machine → Machine
earlier zero m ms = m
earlier (suc k) m [] = m
earlier (suc k) m (last ∷ ms) = earlier k last ms

-- the OUTs among steps
unfoldable pub outs : List Machine → ℕ
outs [] = 0
outs (m ∷ ms) = flag (fetches_a is_out m) + outs ms

-- the lines that were raised after a step and are pending in m: those that the step did not lead to
abbrev pub raised_after : Next → Machine → ℕ
raised_after (cannot q) m = 0
raised_after (to led) m = bit_xor m.state.pending led.state.pending

-- and since the machine k steps earlier than m
unfoldable pub raised_since : ℕ → Machine → List Machine → ℕ
raised_since zero m ms = 0
raised_since (suc k) m [] = 0
raised_since (suc k) m (last ∷ ms) = bit_or (raised_since k last ms) (raised_after (step last) m)

-- the pending byte of the machine k steps earlier than m, with the lines raised since
abbrev pub pending_back : ℕ → Machine → List Machine → ℕ
pending_back k m ms = bit_or (earlier k m ms).state.pending (raised_since k m ms)

-- the entries that L gained in steps, the first first
abbrev pub gained_to : Machine → Next → List ℕ
gained_to m (cannot q) = []
gained_to m (to next) = drop (length m.L) next.L

unfoldable pub gained : List Machine → List ℕ
gained [] = []
gained (m ∷ ms) = gained_to m (step m) ++ gained ms

-- the last k steps, the first first
abbrev pub last_steps : ℕ → List Machine → List Machine
last_steps k ms = reverse (take k ms)

-- what going back k steps gives from the history ms
pub record WentBack (h : Host) (xs : List ℕ) (ms : List Machine) (k : ℕ) (l : BackLeft) : Type 0 where
  -- It is accepted exactly where the history has k steps.
  pub accepts : ((e : ℕ) × (l.reply ≡ gone_back e)) ↔ (k ≤ length ms)
  -- Registers, PC, n, enable, line number, return address, data and outputs are the plain machine's k steps earlier, and so is the pending
  -- byte with the lines raised since; the inputs stay as set but for input 0 where the key was read, and the count is less by k.
  pub restores :
      k ≤ length ms
      → let m = machine_on h [] in
      machine_on (after_back l) [] ≡ held_as (length ms - k) (pending_back k m ms) (keys_back (take k ms) h.I) [] (earlier k m ms)
  -- It says how many log entries fall away: the OUTs among those steps, which is also how many entries L gained in them.
  pub says : k ≤ length ms → l.reply ≡ gone_back (outs (take k ms))
  pub gains : k ≤ length ms → outs (take k ms) ≡ length (gained (last_steps k ms))
  -- the journal stays
  pub journal : l.journal ≡ xs

-- ---- Running forward again

-- what a host may change of a machine between its steps: the inputs, and the pending byte by raising lines
abbrev pub from_outside : Machine → List ℕ × ℕ
from_outside m = (m.I, m.state.pending)

-- No input was set and no line raised among these steps, the first first: each machine has the inputs and the pending byte that the step
-- before it led to.
pub data Unset : List Machine → Type 0 where
  none : Unset []
  one : {m : Machine} → Unset (m ∷ [])
  more :
      {m led next : Machine} {ms : List Machine} → step m ≡ to led → from_outside led ≡ from_outside next
      → Unset (next ∷ ms) → Unset (m ∷ next ∷ ms)

-- a run with as many steps as these, a log that has room for their entries, and the journal j
pub record RunsAgain (j : Journal) (b : Host) (steps : List Machine) (e : Engine) (log : List ℕ) (l : CountedLeft) : Type 0 where
  pub unset : Unset steps
  pub room : length (gained steps) ≤ length log
  pub meets : CountedMeets (stepper_of e) (given_to b (record { budget = length steps; log = log; journal = j })) l

-- Over the steps, the first first: stretches in which no input was set and no line raised, each run again, by either engine, where inputs and
-- pending byte are again those of its first machine; between them inputs are set. A run is lent the journal as the one before returned it (j, j' at the end). es
-- are the log entries that these runs write, one after the other.
pub data Again : Journal → Host → List Machine → List ℕ → Journal → Host → Type 0 where
  done : {j : Journal} {b : Host} → Again j b [] [] j b
  sets :
      {j j' : Journal} {b last : Host} {m : Machine} {ms : List Machine} {es : List ℕ} (port value : ℕ) (l : SetLeft)
      → l ≡ set_left (record { I = b.I; port = port; value = value }) → Again j (after_set b l) (m ∷ ms) es j' last
      → Again j b (m ∷ ms) es j' last
  runs :
      {j j' : Journal} {b last : Host} {m : Machine} {ms rest : List Machine} {es : List ℕ} (e : Engine) (log : List ℕ) (l : CountedLeft)
      → from_outside (machine_on b []) ≡ from_outside m → RunsAgain j b (m ∷ ms) e log l → Again l.left.journal (after_one_run l.left) rest es j' last
      → Again j b ((m ∷ ms) ++ rest) (wrote (of_run l.left.reply l.usage l.ticks l.left.log l.left.journal) ++ es) j' last

-- without a journal, or with the one that was kept
abbrev pub Keeps : Journal → List ℕ → Type 0
Keeps j xs = (j ≡ no_journal) ⊎ (j ≡ lent_journal xs)

-- the count that a run again leaves
abbrev pub count_in : Journal → ℕ → ℕ
count_in no_journal count = 0
count_in (lent_journal xs) count = count

-- h has the inputs and the pending byte that the last of the steps led to
abbrev pub AsLed : List Machine → Host → Type 0
AsLed ms h =
    (m led : Machine) (rest : List Machine) → ms ≡ m ∷ rest → step m ≡ to led → from_outside (machine_on h []) ≡ from_outside led

-- none of these steps reads the key
abbrev pub NoKeyRead : List Machine → Type 0
NoKeyRead ms = (j : ℕ) (m : Machine) (rest : List Machine) → drop j ms ≡ m ∷ rest → fetches_a reads_key m ≡ false

-- ---- The claim

pub record StepBack : Type 0 where
  pub goes_back :
      (h : Host) (xs : List ℕ) (ms : List Machine) → Past h xs ms → (k : ℕ) (l : BackLeft) → l ≡ back_left (given_back h xs k)
      → WentBack h xs ms k l
  -- Where no input was set and no line raised among those k steps, and inputs and pending byte are again those of the machine k steps
  -- earlier, a run with budget k is accepted, takes k steps, writes the same log entries, leaves the same state, memories and outputs, but
  -- for the inputs and the pending byte, which are as the steps led to, and the journal as it was.
  pub forward :
      (h b : Host) (xs : List ℕ) (ms : List Machine) → Past h xs ms
      → (k : ℕ) (l : BackLeft) → l ≡ back_left (given_back h xs k) → k ≤ length ms
      → let then = earlier k (machine_on h []) ms in
      machine_on b [] ≡ held_as (length ms - k) then.state.pending then.I [] (machine_on (after_back l) [])
      → (j : Journal) → Keeps j xs → (e : Engine) (log : List ℕ) (r : CountedLeft) → RunsAgain j b (last_steps k ms) e log r
      → let es = gained (last_steps k ms) in
      (r.left.reply ≡ stopped 0 k (length es))
      × (r.left.log ≡ es ++ drop (length es) log)
      × (machine_on (after_one_run r.left) [] ≡ held_as (count_in j (length ms)) r.left.state.pending r.left.I [] (machine_on h []))
      × AsLed (take k ms) (after_one_run r.left)
      × (r.left.journal ≡ j)
  -- Where inputs were set among the steps, the same sets given again after the same steps do it.
  pub again :
      (h last : Host) (xs : List ℕ) (ms : List Machine) → Past h xs ms
      → (k : ℕ) (l : BackLeft) → l ≡ back_left (given_back h xs k) → k ≤ length ms
      → (j j' : Journal) → Keeps j xs → (es : List ℕ) → Again j (after_back l) (last_steps k ms) es j' last
      → (es ≡ gained (last_steps k ms))
      × (machine_on last [] ≡ held_as last.state.journaled last.state.pending last.I [] (machine_on h []))
      × AsLed (take k ms) last
      × (j' ≡ j)
  -- Where no line was raised since the machine k steps earlier, the pending byte is its own again.
  pub unraised : (k : ℕ) (m : Machine) (ms : List Machine) → raised_since k m ms ≡ 0 → pending_back k m ms ≡ (earlier k m ms).state.pending
  -- After going back over these steps, the last first, input 0 is as it was set where none of them read the key,
  pub no_key_read : (ms : List Machine) (I : List ℕ) → NoKeyRead ms → keys_back ms I ≡ I
  -- and else what it held before the earliest read among them; no other input changes.
  pub earliest_key_read :
      (later before : List Machine) (m : Machine) (I : List ℕ) → fetches_a reads_key m ≡ true → NoKeyRead before
      → keys_back (later ++ m ∷ before) I ≡ set I 0 (get_or m.I 0 0)
