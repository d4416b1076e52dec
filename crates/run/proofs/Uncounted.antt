-- What a run that counts leaves besides its counts.
-- Assumes nothing.
use mathlib.Core.Path.{◌≡◌, refl, ap, ◌∙◌}
use Rattle.refusal.specs.Refusals.{Verdict, accepted, refused}
use Rattle.machine.specs.Run.{Stepper}
use Rattle.run.specs.Runs.{Given, verdict_on, run_left_by, run_left, RunMeets, CountedLeft, counted_by, counted_left, CountedMeets}

pub uncounted : (v : Stepper) (g : Given) {l : CountedLeft} → CountedMeets v g l → RunMeets v g l.left
unfolding counted_left run_left
uncounted v g h = ap (λ (x : CountedLeft). x.left) h ∙ go (verdict_on g)
  where
    go : (r : Verdict) → (counted_by v r g).left ≡ run_left_by v r g
    go accepted = refl
    go (refused k) = refl
