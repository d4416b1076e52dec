-- The three bits give the place of the list, and past the list stands 0. What is read of memory is a byte. Only place 4 reads a port.
use mathlib.Core.Path.{◌≡◌, refl, ap, ◌∙◌}
use Prim.Native.Nat.{◌/◌, ◌%◌, ◌≤◌}
use native.Mathlib.Nat.{div-one}
use native.Mathlib.Omega.{arith}
use borrow.Author.Tests.{ne_eqb}
use Rattle.word.specs.Word.{SE}
use Rattle.control.specs.Control.{results, result_of, inputs_after}
use Rattle.datapath.proofs.Choice.{two_bits, three_bits, past_end}
use Rattle.datapath.proofs.fields.chosen_result.Goals as goal

pub returns-then-control-eq0-3 : goal.returns-then-control-eq0-3
unfolding result_of inputs_after
returns-then-control-eq0-3 c =
    let a = c.args.control in
    let k : a / 4 % 8 ≡ 0 = omega (arith, two_bits a 4, three_bits a 4) in
    rw k record { value = refl; holds = record { memory = refl; inputs = refl; outputs = refl }; same = record { memory = refl; inputs = refl; outputs = refl } }

pub returns-else-control-eq0-3 : goal.returns-else-control-eq0-3
unfolding result_of inputs_after
returns-else-control-eq0-3 c =
    let a = c.args.control in
    let k : a / 4 % 8 ≡ 1 = omega (arith, two_bits a 4, three_bits a 4) in
    rw k record { value = c.load_word.ensures; holds = record { memory = refl; inputs = refl; outputs = refl }; same = record { memory = refl; inputs = refl; outputs = refl } }

pub returns-then-control-eq0-4 : goal.returns-then-control-eq0-4
unfolding result_of inputs_after
returns-then-control-eq0-4 c =
    let a = c.args.control in
    let k : a / 4 % 8 ≡ 2 = omega (arith, two_bits a 4, three_bits a 4) in
    rw k
    record {
      value = c.extend8.ensures ∙ ap (SE 8) (omega (arith, c.load_byte.ensures.value, c.load_byte.ensures.byte));
      holds = record { memory = refl; inputs = refl; outputs = refl };
      same = record { memory = refl; inputs = refl; outputs = refl };
    }

pub returns-else-control-eq0-4 : goal.returns-else-control-eq0-4
unfolding result_of inputs_after
returns-else-control-eq0-4 c =
    let a = c.args.control in
    let k : a / 4 % 8 ≡ 3 = omega (arith, two_bits a 4, three_bits a 4) in
    rw k record { value = c.sum.ensures; holds = record { memory = refl; inputs = refl; outputs = refl }; same = record { memory = refl; inputs = refl; outputs = refl } }

pub returns-then-control-eq0-5 : goal.returns-then-control-eq0-5
unfolding result_of inputs_after
returns-then-control-eq0-5 c =
    let a = c.args.control in
    let k : a / 4 % 8 ≡ 4 = omega (arith, two_bits a 4, three_bits a 4) in
    let r = c.read_input.ensures in
    rw (k, div-one) record { value = r.value; holds = r.holds; same = r.same }

pub returns-else-control-eq0-5 : goal.returns-else-control-eq0-5
unfolding result_of inputs_after
returns-else-control-eq0-5 c =
    let a = c.args in
    let k : 5 ≤ a.control / 4 % 8 = omega (arith, two_bits a.control 4, three_bits a.control 4) in
    record {
      value = past_end (results a.w a.u a.pc a.bus.now.memory.now a.bus.now.inputs.now) (a.control / 4 % 8) k;
      holds = record { memory = refl; inputs = rw (ne_eqb (a.control / 4 % 8) 4 (λ e. omega arith)) refl; outputs = refl };
      same = record { memory = refl; inputs = refl; outputs = refl };
    }
