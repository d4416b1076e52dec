-- The word of an instruction's row.
-- Assumes nothing.
use Prim.Native.Nat.{ℕ}
use mathlib.Core.Bool.{true, false}
use mathlib.Core.Path.{◌≡◌, sym, ap, ◌∙◌}
use native.Mathlib.Omega.{arith}
use borrow.Author.Tests.{ne_eqb}
use lib.IntN.{ℤ}
use lib.ListN.{length}
use Rattle.kinds.specs.declared.Kind.{Kind}
use Rattle.kinds.specs.Kinds.{kinds, kind_number}
use Rattle.isa.specs.Instructions.{WriteReply, write_of}
use Rattle.isa.proofs.Every.{listed}
use Rattle.expression.specs.declared.Value.{Value}
use Rattle.statement.specs.Syntax.{Field, Parts, row_at, of_row}
use Rattle.encoding.specs.Words.{odd, number_of, bad, written, encoded, stated}

module _ (kind : Kind) (a : ℕ) (p : Parts Value) {f : Field} (e : f ≡ (row_at (kind_number kind)).field) (t : p.n.known ≡ true) where
  no_word : kind_number kind ≡ length kinds → ⊥
  no_word e = omega (arith, (listed kind).0)

  pub odd_row : odd f a p.n.word ≡ true → bad 12 ≡ stated a (of_row (kind_number kind) p)
  unfolding stated encoded
  odd_row h = rw (t, ne_eqb (kind_number kind) (length kinds) no_word, ← e, h)

  pub written_row : {m : ℤ} {w : WriteReply} → odd f a p.n.word ≡ false → m ≡ number_of f a p.n.word
      → w ≡ write_of (record { kind = kind; a = p.a; b = p.b; d = p.d; n = m }) → written w ≡ stated a (of_row (kind_number kind) p)
  unfolding stated encoded
  written_row h q s =
      rw (t, ne_eqb (kind_number kind) (length kinds) no_word, ← e, h)
      (ap written (s ∙ λ j. write_of (record { kind = sym (listed kind).1 j; a = p.a; b = p.b; d = p.d; n = q j })))
