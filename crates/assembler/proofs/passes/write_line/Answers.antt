-- By what the line is, and by whether it gives a word.
use native.Mathlib.Omega.{arith}
use Rattle.std.proofs.Common.{rules}
use Rattle.assembler.proofs.Writing.{wrote_nothing, wrote_no_word, wrote_bad_word, wide, wrote_word}
use Rattle.assembler.proofs.passes.write_line.Goals as goal

pub returns-in_default : goal.returns-in_default
returns-in_default c = (λ text names at end q room. wrote_nothing text names at _ _ _ end q c.in_default.is, c.requires.0)

pub returns-in_default-word : goal.returns-in_default-word
returns-in_default-word c = (λ text names at end q room. wrote_no_word text names at _ _ _ end q _ c.in-Some.is _ c.stated.ensures (search rules), c.requires.0)

pub returns-in_default-word-2 : goal.returns-in_default-word-2
returns-in_default-word-2 c = (λ text names at end q room. wrote_bad_word text names at _ _ _ end q _ c.in-Some.is _ c.stated.ensures c.in_default-word.is, c.requires.0)

-- there is room, so that this does not come about
pub returns-then-program-next : goal.returns-then-program-next
returns-then-program-next c = (
  λ text names at end q room. let r = room.0 (wide text names at _ c.args.program.now _ end q _ c.in-Some.is _ c.stated.ensures {w = c.in-Ok-Some.word} (search rules)) in absurd (omega (arith, c.if-program-next.true)),
  c.requires.0,
)

pub returns : goal.returns
returns c = (
  λ text names at end q room. wrote_word text names at _ _ _ end q _ c.in-Some.is _ c.stated.ensures {w = c.in-Ok-Some.word} (search rules) _ c.put_word.ensures,
  omega (arith, c.if-program-next.false, c.requires.1),
)
