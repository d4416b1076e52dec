-- A usage sheet for a show (02, L5): feeding it what a run returned.
use Rattle.std.specs.Prelude.{ℕ, ◌+◌, ◌%◌, ◌^◌, Bool, true, false, List, [], ◌∷◌, replicate, nat_lt}
use Rattle.refusal.specs.Refusals.{Verdict, accepted, refused}
use Rattle.word.specs.Word.{pick}
use Rattle.kinds.specs.Kinds.{kind_count}
use Rattle.usage.specs.declared.Usage.{Usage}
use Rattle.run.specs.Runs.{RunReply, stopped, run_refused}
use Rattle.sheet.specs.declared.Sheet.{Sheet}

abbrev pub empty : Sheet
empty = record { kinds = replicate kind_count 0; taken = 0; reads = replicate 8 0; writes = replicate 8 0; runs = 0 }

-- counts added place by place, modulo 2^64
unfoldable pub sums : List ℕ → List ℕ → List ℕ
sums [] ys = []
sums (x ∷ xs) [] = x ∷ xs
sums (x ∷ xs) (y ∷ ys) = (x + y) % 2 ^ 64 ∷ sums xs ys

-- the sheet with the counts of an accepted run
abbrev pub with_run : Sheet → Usage → Sheet
with_run s u =
    record { kinds = sums s.kinds u.kinds; taken = (s.taken + u.taken) % 2 ^ 64; reads = sums s.reads u.reads; writes = sums s.writes u.writes; runs = s.runs + 1 }

-- what a feeding replies, and the sheet
pub record FeedLeft : Type 0 where
  pub reply : Verdict
  pub sheet : Sheet

-- 13: an accepted run fed after 65,535 such; the sheet comes back as it was.
abbrev pub taken_by : Sheet → Usage → FeedLeft
taken_by s u = pick (nat_lt s.runs 65535) (record { reply = accepted; sheet = with_run s u }) (record { reply = refused 13; sheet = s })

-- A refused run adds nothing, at any count.
abbrev pub feed_by : Bool → Sheet → Usage → FeedLeft
feed_by true s u = taken_by s u
feed_by false s u = record { reply = accepted; sheet = s }

abbrev pub was_accepted : RunReply → Bool
was_accepted (stopped q n e) = true
was_accepted (run_refused k) = false

unfoldable pub feed_left : Sheet → RunReply → Usage → FeedLeft
feed_left s r u = feed_by (was_accepted r) s u
