-- `rules::by_rule` meets its contract: an arm is the rule of its opcode, by the laws of what a rule changes.
use mathlib.Core.Path.{refl, ◌∙◌}
use native.Mathlib.Omega.{arith}
use Rattle.word.specs.Word.{clear0}
use Rattle.machine.specs.Machine.{put_word, put_byte}
use Rattle.machine.specs.Step.{d8_6, d11_9, word_at_a', byte_at_a, addi, ld, st, ldb, stb, jalr}
use Rattle.rules.specs.Parts.{rb_of, sum_of, word_of, byte_of, link_of, branch_of, move_of}
use Rattle.rules.proofs.Choices.{past_from, chosen, past_12}
use Rattle.rules.proofs.Effects.{wrote, loaded, stored, jumped, stopped, moves, branches}
use Rattle.rules.proofs.by_rule.Goals as goal

pub returns-in-2 : goal.returns-in-2
unfolding addi
returns-in-2 c =
    let w = c.args.w in
    wrote addi (chosen 2 w c.ranges.w.fits (c.requires.begun.opcode ∙ c.in-2.is)) c.requires.begun.advanced
    (d8_6 w) (λ s D. sum_of w s) (λ m. refl) c.summed.ensures refl

pub returns-in-3 : goal.returns-in-3
unfolding ld
returns-in-3 c =
    let w = c.args.w in
    loaded word_at_a' ld (chosen 3 w c.ranges.w.fits (c.requires.begun.opcode ∙ c.in-3.is)) c.requires.tests_lock c.requires.begun.advanced
    (d8_6 w) (word_of w) (λ m. refl) c.load_word.ensures refl

pub returns-in-4 : goal.returns-in-4
unfolding st
returns-in-4 c =
    let w = c.args.w in
    stored word_at_a' st (chosen 4 w c.ranges.w.fits (c.requires.begun.opcode ∙ c.in-4.is)) c.requires.tests_lock c.requires.begun.advanced
    (λ s D. put_word (clear0 (sum_of w s)) (rb_of w s) D) (λ m. refl) c.store_word.ensures refl

pub returns-in-5 : goal.returns-in-5
unfolding ldb
returns-in-5 c =
    let w = c.args.w in
    loaded byte_at_a ldb (chosen 5 w c.ranges.w.fits (c.requires.begun.opcode ∙ c.in-5.is)) c.requires.tests_lock c.requires.begun.advanced
    (d8_6 w) (byte_of w) (λ m. refl) c.load_byte.ensures refl

pub returns-in-6 : goal.returns-in-6
unfolding stb
returns-in-6 c =
    let w = c.args.w in
    stored byte_at_a stb (chosen 6 w c.ranges.w.fits (c.requires.begun.opcode ∙ c.in-6.is)) c.requires.tests_lock c.requires.begun.advanced
    (λ s D. put_byte (sum_of w s) (rb_of w s) D) (λ m. refl) c.store_byte.ensures refl

pub returns-in-7 : goal.returns-in-7
unfolding jalr
returns-in-7 c =
    let w = c.args.w in
    jumped jalr (chosen 7 w c.ranges.w.fits (c.requires.begun.opcode ∙ c.in-7.is)) c.requires.begun.advanced
    (link_of w) (λ m. refl) c.link.ensures refl

pub returns-in-8 : goal.returns-in-8
returns-in-8 c =
    let w = c.args.w in
    jumped _ (chosen 8 w c.ranges.w.fits (c.requires.begun.opcode ∙ c.in-8.is)) c.requires.begun.advanced
    (branch_of w) (branches w) c.branch-w.ensures refl

pub returns-in-9 : goal.returns-in-9
returns-in-9 c =
    let w = c.args.w in
    wrote _ (chosen 9 w c.ranges.w.fits (c.requires.begun.opcode ∙ c.in-9.is)) c.requires.begun.advanced
    (d11_9 w) (λ s D. move_of w s) (moves w) c.moved.ensures refl

pub returns-in-11 : goal.returns-in-11
returns-in-11 c = c.product.ensures _

pub returns-in-12 : goal.returns-in-12
returns-in-12 c = c.interrupt.ensures _

pub returns-in_default : goal.returns-in_default
returns-in_default c =
    let w = c.args.w in
    stopped (past_12 _ w c.ranges.w.fits c.requires.begun.opcode (omega (arith, past_from 2 8 c.args.op c.requires.le_op.0 c.in_default.in_default-own.rest.0.0, c.in_default.in_default-own.rest.0.1, c.in_default.in_default-own.rest.1, c.requires.le_op.1))) refl
