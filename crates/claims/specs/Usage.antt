-- A usage sheet for a show (02, L5): over any runs, fed in any order to an empty sheet, it is the sum of the counts worked out from the
-- plain machine's steps.
use Rattle.std.specs.Prelude.{◌↔◌, true, ◌≡◌, List, [], ◌∷◌, ℕ, ◌+◌, ◌*◌, ◌≤◌, get_or}
use Rattle.refusal.specs.Refusals.{Verdict, accepted, refused}
use Rattle.machine.specs.Run.{by_rules}
use Rattle.usage.specs.declared.Usage.{Usage}
use Rattle.usage.specs.Usage.{unused, usage_of, plus_usage}
use Rattle.run.specs.Runs.{Given, RunReply, stopped, run_refused, verdict_on, trace_on, CountedLeft, CountedMeets}
use Rattle.sheet.specs.declared.Sheet.{Sheet}
use Rattle.sheet.specs.Sheet.{empty, was_accepted, feed_left}
use Rattle.replies.specs.declared.SisaAnswer.{SisaAnswer}
use Rattle.replies.specs.Sisa.{HostLent, HostStepMeets}
use Rattle.claims.specs.Session.{Engine, through_table, stepper_of}
use Rattle.claims.specs.HostSteps.{step_given, reply_of}

-- ---- Runs, and what each returned

-- a run, by the rules or by the table, of whatever it is given, a journal or none
pub record Run : Type 0 where
  pub engine : Engine
  pub of : Given

-- a host step is a run by the table with budget 1 and no journal
abbrev pub step_run : HostLent → Run
step_run h = record { engine = through_table; of = step_given h }

-- what is fed: a run's reply and its counts
pub record Fed : Type 0 where
  pub reply : RunReply
  pub usage : Usage

-- what runs and host steps returned, each known by its contract alone
pub data Returned : List Run → List Fed → Type 0 where
  none : Returned [] []
  more :
      {rs : List Run} {fs : List Fed} (r : Run) (l : CountedLeft) → CountedMeets (stepper_of r.engine) r.of l → Returned rs fs
      → Returned (r ∷ rs) (record { reply = l.left.reply; usage = l.usage } ∷ fs)
  more_step :
      {rs : List Run} {fs : List Fed} (h after : HostLent) (a : SisaAnswer) → HostStepMeets h a after → Returned rs fs
      → Returned (step_run h ∷ rs) (record { reply = reply_of a; usage = a.usage } ∷ fs)

-- ---- The same, worked out from the plain machine's steps

-- an accepted run counts its steps, a refused one adds nothing
abbrev pub counts_by : Verdict → Given → Usage
counts_by accepted g = usage_of (trace_on by_rules g)
counts_by (refused k) g = unused

abbrev pub one_by : Verdict → ℕ
one_by accepted = 1
one_by (refused k) = 0

unfoldable pub counts_of : List Run → Usage
counts_of [] = unused
counts_of (r ∷ rs) = plus_usage (counts_by (verdict_on r.of) r.of) (counts_of rs)

-- the number of accepted ones
unfoldable pub accepted_of : List Run → ℕ
accepted_of [] = 0
accepted_of (r ∷ rs) = one_by (verdict_on r.of) + accepted_of rs

-- ---- Feeding

-- the lists have the same elements, in any order
pub data Reordered {A : Type 0} : List A → List A → Type 0 where
  nothing : Reordered [] []
  same : {xs ys : List A} (x : A) → Reordered xs ys → Reordered (x ∷ xs) (x ∷ ys)
  swapped : (x y : A) (xs : List A) → Reordered (x ∷ y ∷ xs) (y ∷ x ∷ xs)
  then : {xs ys zs : List A} → Reordered xs ys → Reordered ys zs → Reordered xs zs

-- a sheet fed one after the other, none refused
pub data Feeds : Sheet → List Fed → Sheet → Type 0 where
  done : {s : Sheet} → Feeds s [] s
  feed : {s next last : Sheet} {fs : List Fed} (f : Fed)
      → feed_left s f.reply f.usage ≡ record { reply = accepted; sheet = next } → Feeds next fs last → Feeds s (f ∷ fs) last

-- ---- The claim

unfoldable pub total : List ℕ → ℕ
total [] = 0
total (x ∷ xs) = x + total xs

-- the steps that the runs reported
abbrev pub steps_in : RunReply → ℕ
steps_in (stopped q steps entries) = steps
steps_in (run_refused k) = 0

unfoldable pub steps_of : List Fed → ℕ
steps_of [] = 0
steps_of (f ∷ fs) = steps_in f.reply + steps_of fs

-- the sheet that has these counts
abbrev pub sheet_of : Usage → ℕ → Sheet
sheet_of u n = record { kinds = u.kinds; taken = u.taken; reads = u.reads; writes = u.writes; runs = n }

pub record Sheets : Type 0 where
  -- such returns exist for every list of runs
  pub returns_exist : (rs : List Run) → (fs : List Fed) × Returned rs fs
  -- In whichever order what the runs returned is fed to an empty sheet, no feeding is refused, and the sheet is the one worked out
  -- from the plain machine's steps. (Its counts are sums of numbers and not of numbers modulo 2^64: an accepted run has at most
  -- 4,294,967,295 steps, and there are at most 65,535 of them.)
  pub any_order :
      (rs : List Run) (fs order : List Fed) → Returned rs fs → accepted_of rs ≤ 65535 → Reordered fs order
      → Feeds empty order (sheet_of (counts_of rs) (accepted_of rs))
  -- and no other sheet comes of it
  pub one_sheet : (s a b : Sheet) (fs : List Fed) → Feeds s fs a → Feeds s fs b → a ≡ b
  -- Whatever sheet comes of feeding them to an empty one, its kind counts and its lines taken (02, L12) sum to the steps that the runs fed to it
  -- reported,
  pub kinds_sum :
      (rs : List Run) (fs order : List Fed) (s : Sheet) → Returned rs fs → Reordered fs order → Feeds empty order s
      → total s.kinds + s.taken ≡ steps_of order
  -- and it counts a register at most once a step.
  pub reads_at_most :
      (rs : List Run) (fs order : List Fed) (s : Sheet) (j : ℕ) → Returned rs fs → Reordered fs order → Feeds empty order s
      → get_or s.reads j 0 ≤ steps_of order
  pub writes_at_most :
      (rs : List Run) (fs order : List Fed) (s : Sheet) (j : ℕ) → Returned rs fs → Reordered fs order → Feeds empty order s
      → get_or s.writes j 0 ≤ steps_of order
  -- why no count wraps
  pub few_steps : (rs : List Run) (fs : List Fed) → Returned rs fs → steps_of fs ≤ accepted_of rs * 4294967295
  -- 13 exactly where an accepted run is fed after 65,535 such
  pub refused_13 :
      (s : Sheet) (r : RunReply) (u : Usage)
      → ((feed_left s r u).reply ≡ refused 13) ↔ ((was_accepted r ≡ true) × (65535 ≤ s.runs))
  pub no_other : (s : Sheet) (r : RunReply) (u : Usage) (k : ℕ) → (feed_left s r u).reply ≡ refused k → k ≡ 13
  -- the sheet comes back as it was
  pub nothing_changes : (s : Sheet) (r : RunReply) (u : Usage) (k : ℕ) → (feed_left s r u).reply ≡ refused k → (feed_left s r u).sheet ≡ s
