-- The fold writes a byte for each of the first 200.
use Rattle.std.proofs.Common.{rules, [], ◌∷◌}
use Rattle.std.proofs.lemmas.Iterator.{YieldsList-from_slice, YieldsList-from_take}
use Rattle.printing.proofs.Writing.{folded}
use Rattle.diagnostic.specs.Diagnostic.{shown_byte}
use Rattle.diagnostic.proofs.Lines.{line_is}
use Rattle.diagnostic.proofs.with_line.Goals as goal

pub returns : goal.returns
returns c =
    line_is c.args.line.now
    (folded _ (λ b. shown_byte b ∷ []) 1 (YieldsList-from_take 200 (YieldsList-from_slice c.args.line.now (cc)) c.take.ensures.count) (λ t x r f' k. search rules) c.fold.ensures.ran)
