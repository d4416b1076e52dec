-- By the opcode.
use Prim.Native.Nat.{ℕ, zero, suc, ◌+◌, ◌-◌, ◌/◌, ◌%◌, ◌<◌}
use mathlib.Core.Path.{◌≡◌, refl, sym, ◌∙◌}
use native.Mathlib.Omega.{arith}
use Rattle.std.specs.declared.option.Option.TheVariants.{None}
use Rattle.word.specs.Fields.{opcode, e_of, f_of}
use Rattle.isa.specs.Sheet.{kind_at}
use Rattle.isa.proofs.Every.{kind_same}
use Rattle.isa.proofs.rows.kind_of.Goals as goal

by_opcode : (w op : ℕ) → w < 65536 → w / 4096 ≡ op → kind_at op (w / 256 % 2) (w % 8) ≡ kind_at (opcode w) (e_of w) (f_of w)
by_opcode w op h p = (λ j. kind_at (sym p j) (w / 256 % 2) (w % 8)) ∙ kind_same w h

by_opcode_e : (w op e : ℕ) → w < 65536 → w / 4096 ≡ op → w / 256 % 2 ≡ e → kind_at op e (w % 8) ≡ kind_at (opcode w) (e_of w) (f_of w)
by_opcode_e w op e h p q = (λ j. kind_at op (sym q j) (w % 8)) ∙ by_opcode w op h p

past : (k e f : ℕ) → k < 3 → None ≡ kind_at (13 + k) e f
unfolding kind_at
past zero e f h = refl
past (suc zero) e f h = refl
past (suc (suc zero)) e f h = refl
past (suc (suc (suc k))) e f h = absurd (omega (arith, h))

pub returns-in-0 : goal.returns-in-0
unfolding kind_at
returns-in-0 c = by_opcode c.args.w 0 (omega arith) c.in-0.is

pub returns-in-1 : goal.returns-in-1
unfolding kind_at
returns-in-1 c = by_opcode c.args.w 1 (omega arith) c.in-1.is

pub returns-in-2 : goal.returns-in-2
unfolding kind_at
returns-in-2 c = by_opcode c.args.w 2 (omega arith) c.in-2.is

pub returns-in-3 : goal.returns-in-3
unfolding kind_at
returns-in-3 c = by_opcode c.args.w 3 (omega arith) c.in-3.is

pub returns-in-4 : goal.returns-in-4
unfolding kind_at
returns-in-4 c = by_opcode c.args.w 4 (omega arith) c.in-4.is

pub returns-in-5 : goal.returns-in-5
unfolding kind_at
returns-in-5 c = by_opcode c.args.w 5 (omega arith) c.in-5.is

pub returns-in-6 : goal.returns-in-6
unfolding kind_at
returns-in-6 c = by_opcode c.args.w 6 (omega arith) c.in-6.is

pub returns-in-7 : goal.returns-in-7
unfolding kind_at
returns-in-7 c = by_opcode c.args.w 7 (omega arith) c.in-7.is

pub returns-in-11 : goal.returns-in-11
unfolding kind_at
returns-in-11 c = by_opcode c.args.w 11 (omega arith) c.in-11.is

pub returns-in-12 : goal.returns-in-12
unfolding kind_at
returns-in-12 c = by_opcode c.args.w 12 (omega arith) c.in-12.is

pub returns-then-e : goal.returns-then-e
unfolding kind_at
returns-then-e c = by_opcode_e c.args.w 8 1 (omega arith) c.in-8.is c.if-e.true

pub returns-else-e : goal.returns-else-e
unfolding kind_at
returns-else-e c = by_opcode_e c.args.w 8 0 (omega arith) c.in-8.is (omega arith)

pub returns-then-e-2 : goal.returns-then-e-2
unfolding kind_at
returns-then-e-2 c = by_opcode_e c.args.w 9 1 (omega arith) c.in-9.is c.if-e-2.true

pub returns-else-e-2 : goal.returns-else-e-2
unfolding kind_at
returns-else-e-2 c = by_opcode_e c.args.w 9 0 (omega arith) c.in-9.is (omega arith)

pub returns-then-e-3 : goal.returns-then-e-3
unfolding kind_at
returns-then-e-3 c = by_opcode_e c.args.w 10 1 (omega arith) c.in-10.is c.if-e-3.true

pub returns-else-e-3 : goal.returns-else-e-3
unfolding kind_at
returns-else-e-3 c = by_opcode_e c.args.w 10 0 (omega arith) c.in-10.is (omega arith)

pub returns-in_default : goal.returns-in_default
returns-in_default c = past (c.args.w / 4096 - 13) _ _ (omega arith) ∙ by_opcode c.args.w (13 + (c.args.w / 4096 - 13)) (omega arith) (omega arith)
