-- `rules::touches_locked` meets its contract: the opcode says which bytes are touched.
use mathlib.Core.Path.{refl, sym, ap, ◌∙◌}
use native.Mathlib.Omega.{arith}
use mathlib.Core.Bool.{or-false}
use mathlib.Core.List.{[], ◌∷◌}
use Rattle.word.specs.Word.{clear0}
use Rattle.machine.specs.Machine.{is_locked, touches_locked, bytes_at}
use Rattle.rules.specs.Parts.{sum_of}
use Rattle.rules.proofs.Values.{sum_is}
use Rattle.rules.proofs.Locks.{tested, below_3, words, single_bytes, from_7}
use Rattle.rules.proofs.touches_locked.Goals as goal

pub returns-in-3 : goal.returns-in-3
returns-in-3 c =
    let w = c.args.w in
    let s = c.args.state in
    let at = c.clear_bit0.ensures ∙ ap clear0 (sum_is w s c.sum-a.ensures c.ra.ensures) in
    tested w s (bytes_at (clear0 (sum_of w s))) c.ranges.w.fits
    (λ m es. words w m _ (omega arith) (omega arith) ∙ ap (λ u. bytes_at (clear0 (sum_of w u))) es)
    (c.locks_word.ensures ∙ ap (λ a. touches_locked (bytes_at a) s) at)

pub returns-in-5 : goal.returns-in-5
returns-in-5 c =
    let w = c.args.w in
    let s = c.args.state in
    let at = sum_is w s c.sum-a.ensures c.ra.ensures in
    tested w s (sum_of w s ∷ []) c.ranges.w.fits
    (λ m es. single_bytes w m _ (omega arith) (omega arith) ∙ ap (λ u. sum_of w u ∷ []) es)
    (c.locks_byte.ensures ∙ ap (λ a. is_locked a s) at ∙ sym (or-false (is_locked (sum_of w s) s)))

pub returns-in_default : goal.returns-in_default
returns-in_default c = tested c.args.w c.args.state [] c.ranges.w.fits (λ m es. below_3 c.args.w m _ (omega arith)) refl

pub returns-in_default-2 : goal.returns-in_default-2
returns-in_default-2 c = tested c.args.w c.args.state [] c.ranges.w.fits (λ m es. from_7 c.args.w m _ (omega arith)) refl
