-- A line is turned away with 10, 11 or 12.
-- Assumes nothing.
use Prim.Native.Nat.{ℕ, suc}
use mathlib.Core.Bool.{Bool, true, false}
use mathlib.Core.Path.{◌≡◌, refl, subst}
use mathlib.Core.Logic.{◌⊎◌, inl, inr}
use mathlib.Core.List.{List, [], ◌∷◌}
use lib.Dec.{eqb}
use lib.ListN.{length, get_or}
use Rattle.word.specs.Word.{pick}
use Rattle.word.proofs.Tests.{clash}
use Rattle.kinds.specs.declared.Kind.TheVariants.{And}
use Rattle.kinds.specs.Kinds.{kinds}
use Rattle.isa.specs.declared.Instruction.{Instruction}
use Rattle.isa.specs.Instructions.{WriteReply, word, write_refused, write_of}
use Rattle.expression.specs.declared.Value.{Value}
use Rattle.expression.specs.Operands.{Label, operand_value}
use Rattle.expression.specs.Grammar.{Tree, value_of}
use Rattle.statement.specs.Syntax.{row_at, Parts, Statement, no_statement, of_row}
use Rattle.statement.specs.Reading.{ReadLine, outside, reads, valued}
use Rattle.encoding.specs.Words.{odd, number_of, written, encoded, stated, Judged, bad, nothing, gives}
use Rattle.assembler.specs.Text.{Place, admitted, after, repeated, judged, verdicts, text_refused, reply_from}

abbrev pub Numbered : ℕ → Type 0
Numbered r = (r ≡ 10) ⊎ ((r ≡ 11) ⊎ (r ≡ 12))

abbrev NumberedBy : Judged → Type 0
NumberedBy (bad r) = Numbered r
NumberedBy nothing = Unit
NumberedBy (gives w) = Unit

one_of : (Q : Judged → Type 0) (t : Bool) {x y : Judged} → Q x → Q y → Q (pick t x y)
one_of Q true p q = p
one_of Q false p q = q

written_numbered : (w : WriteReply) → NumberedBy (written w)
unfolding written
written_numbered (word w) = tt
written_numbered (write_refused r) = inr (inr refl)

-- the instruction of row k
abbrev instruction_of : ℕ → ℕ → Parts Value → Instruction
instruction_of k address p =
    record { kind = get_or kinds k And; a = p.a; b = p.b; d = p.d; n = number_of (row_at k).field address p.n.word }

stated_numbered : (address : ℕ) (s : Statement Value) → NumberedBy (stated address s)
unfolding stated encoded
stated_numbered address no_statement = tt
stated_numbered address (of_row k p) =
    one_of NumberedBy p.n.known {x = encoded k address p} {y = bad 11}
    (one_of NumberedBy (eqb k (length kinds)) tt (one_of NumberedBy (odd (row_at k).field address p.n.word) (inr (inr refl)) (written_numbered (write_of (instruction_of k address p)))))
    (inr (inl refl))

judged_numbered : (p : Place) (l : ReadLine Value) → NumberedBy (judged p l)
unfolding judged
judged_numbered p outside = inl refl
judged_numbered p (reads l) = one_of NumberedBy (repeated p l.label) (inr (inl refl)) (stated_numbered p.address l.statement)

pub turned_away_numbered : (names : List Label) (ls : List (ReadLine Tree)) (p : Place) (k n line r : ℕ) → reply_from k n (verdicts names p ls) ≡ text_refused line r → Numbered r
unfolding verdicts reply_from
turned_away_numbered names [] p k n line r e = clash (cc)
turned_away_numbered names (l ∷ ls) p k n line r e =
    go (judged p L) (judged_numbered p L) e (λ k n q. turned_away_numbered names ls (after p (admitted p l)) k n line r q)
  where
    L : ReadLine Value
    L = valued (value_of (operand_value names)) (admitted p l)

    js : List Judged
    js = verdicts names (after p (admitted p l)) ls

    go : (j : Judged) → NumberedBy j → reply_from k n (j ∷ js) ≡ text_refused line r → ((k n : ℕ) → reply_from k n js ≡ text_refused line r → Numbered r) → Numbered r
    go (bad i) h q f = let z : i ≡ r = cc in subst Numbered z h
    go nothing h q f = f (suc k) n q
    go (gives w) h q f = f (suc k) (suc n) q
