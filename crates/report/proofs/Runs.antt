-- A run that stopped wrote no more entries than its log has places; and what a run prints, by its reply.
-- Assumes nothing.
use Prim.Native.Nat.{ℕ, ◌≤◌}
use mathlib.Core.Path.{◌≡◌, sym, ap, subst, ◌∙◌}
use mathlib.Core.List.{List}
use native.Mathlib.Omega.{arith}
use lib.ListN.{length, take, drop, length-append}
use lib.Seq.{length-take-le}
use Rattle.refusal.specs.Refusals.{Verdict, accepted, refused}
use Rattle.word.proofs.Tests.{clash}
use Rattle.machine.specs.Run.{Stepper}
use Rattle.run.specs.Runs.{Given, RunReply, stopped, run_refused, Left, outcome_on, verdict_on, run_left_by, run_left}
use Rattle.report.specs.Printed.{refused_line, stopped_lines, lines_by, ran_lines}

by_verdict : (v : Stepper) (g : Given) (x : Verdict) {stop steps entries : ℕ} → (run_left_by v x g).reply ≡ stopped stop steps entries → entries ≤ length (run_left_by v x g).log
by_verdict v g accepted {stop} {steps} {entries} e =
    let L = (outcome_on v g).after.L in
    let k : length L ≡ entries = cc in
    rw (length-append L (drop (length L) g.log)) (omega arith)
by_verdict v g (refused j) e = clash (cc)

pub entries_fit : (v : Stepper) (g : Given) {l : Left} {stop steps entries : ℕ} → l ≡ run_left v g → l.reply ≡ stopped stop steps entries → entries ≤ length l.log
unfolding run_left
entries_fit v g {l} {stop} {steps} {entries} e r =
    subst (λ (x : Left). entries ≤ length x.log) (sym e) (by_verdict v g (verdict_on g) (sym (ap (λ (x : Left). x.reply) e) ∙ r))

-- the entries, as a part of a log of 64 places
pub part_fits : (k : ℕ) (log : List ℕ) → k ≤ length log → length log ≡ 64 → length (take k log) ≤ 64
part_fits k log h e = rw (length-take-le k log h) (omega arith)

-- ---- What is printed, by the reply

module _ (v : Stepper) (g : Given) {l : Left} (e : l ≡ run_left v g) where
  ran : {reply : RunReply} {r : List ℕ} → l.reply ≡ reply → r ≡ lines_by reply l → r ≡ ran_lines (run_left v g)
  unfolding ran_lines
  ran k h = h ∙ ap (λ reply. lines_by reply l) (sym k) ∙ ap (λ (x : Left). lines_by x.reply x) e

  pub stopped_lines_lem : {stop steps entries : ℕ} {r : List ℕ} → l.reply ≡ stopped stop steps entries
      → r ≡ stopped_lines stop steps entries (take entries l.log) l.state → r ≡ ran_lines (run_left v g)
  stopped_lines_lem k h = ran k h

  pub refused_lines : {number : ℕ} {r : List ℕ} → l.reply ≡ run_refused number → r ≡ refused_line number → r ≡ ran_lines (run_left v g)
  refused_lines k h = ran k h
