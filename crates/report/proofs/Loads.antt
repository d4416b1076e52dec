-- What a file prints: by its length, then by the load's reply.
-- Assumes nothing.
use Prim.Native.Nat.{ℕ, ◌≤◌, ◌<◌}
use mathlib.Core.Path.{◌≡◌, sym, ap, ◌∙◌}
use mathlib.Core.List.{List}
use lib.ListN.{length, replicate}
use borrow.Author.Tests.{le-leb, lt-leb}
use Rattle.refusal.specs.Refusals.{Verdict, accepted, refused}
use Rattle.machine.specs.declared.Board.TheVariants.{TwoMemories}
use Rattle.image.specs.Image.{LoadLeft, load_left}
use Rattle.control.specs.Control.{by_the_table}
use Rattle.run.specs.Runs.{no_journal, given, run_left}
use Rattle.report.specs.Printed.{refused_line, ran_lines, loaded_by, printed}

pub too_long : (file : List ℕ) {r : List ℕ} → 65536 < length file → r ≡ refused_line 8 → r ≡ printed file
unfolding printed
too_long file h e = rw (lt-leb (length file) 65536 h) e

module _ (file : List ℕ) {l : LoadLeft} (h : length file ≤ 65536)
    (e : l ≡ load_left (record { file = file; board = TwoMemories; range = record { locked = 0; first = 0; last = 0 }; P = replicate 65536 0; D = replicate 65536 0; I = replicate 256 0; O = replicate 256 0 })) where
  loaded : {reply : Verdict} {r : List ℕ} → l.reply ≡ reply → r ≡ loaded_by reply l → r ≡ printed file
  unfolding printed
  loaded k p =
      rw (le-leb (length file) 65536 h)
      (p ∙ ap (λ reply. loaded_by reply l) (sym k) ∙ ap (λ (x : LoadLeft). loaded_by x.reply x) e)

  pub accepted_lines : {r : List ℕ} → l.reply ≡ accepted
      → r ≡ ran_lines (run_left by_the_table (given l.state l.P l.D l.I l.O 1000 (replicate 64 0) no_journal))
      → r ≡ printed file
  accepted_lines k p = loaded k p

  pub refused_lines : {number : ℕ} {r : List ℕ} → l.reply ≡ refused number → r ≡ refused_line number → r ≡ printed file
  refused_lines k p = loaded k p
