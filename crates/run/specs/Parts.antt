-- What this crate's functions promise: of a run that keeps a journal or none, whichever journal it is, and of its ticks. Nothing here is promised to a caller.
use Rattle.std.specs.Prelude.{◌≡◌, Bool, List, ℕ}
use Rattle.machine.specs.declared.State.{State}
use Rattle.usage.specs.declared.Usage.{Usage}
use Rattle.usage.specs.Counting.{ticks_counted}
use Rattle.run.specs.declared.Tallied.{Tallied}
use Rattle.run.specs.declared.Counted.{Counted}
use Rattle.run.specs.Runs.{journal_if, start_in, counted_in, RunReply, stopped, run_refused, shown_answer}

-- r is the state that an accepted run starts from
abbrev pub StartsFrom : Bool → State → State → Type 0
StartsFrom keeps s r = (xs : List ℕ) → r ≡ start_in (journal_if keeps xs) s

-- and the one that it replies with, where so many steps led to s
abbrev pub EndsWith : Bool → ℕ → State → State → Type 0
EndsWith keeps steps s r = (xs : List ℕ) → r ≡ counted_in (journal_if keeps xs) steps s

-- the ticks of a run that replies so, from its steps and its counts by kind
abbrev pub ticks_by : RunReply → Usage → ℕ
ticks_by (stopped q steps entries) u = ticks_counted steps u.kinds
ticks_by (run_refused k) u = 0

abbrev pub timed : Tallied → Counted
timed t = record { state = t.state; answer = t.answer; usage = t.usage; ticks = ticks_by (shown_answer t.answer) t.usage }
