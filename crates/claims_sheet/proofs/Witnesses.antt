-- No mask is larger than it need be: for each kind an instruction, and machines that differ in one register, by one test over the kinds.
-- Assumes nothing.
use mathlib.Core.Path.{◌≡◌, refl, ap, subst, ◌∙◌}
use mathlib.Core.Bool.{Bool, true, false, not}
use mathlib.Core.List.{List, [], ◌∷◌}
use Prim.Native.Nat.{ℕ, ◌+◌, ◌*◌, ◌/◌, ◌%◌}
use borrow.Author.Tests.{eq-eqb}
use lib.Dec.{T, T_not, eqb}
use lib.IntN.{pos, nat_abs}
use lib.ListN.{length, get_or, set, replicate, length-set, length-replicate}
use Rattle.word.specs.Fields.{Bits}
use Rattle.word.specs.Word.{pick, signed, low_bits, shifted}
use Rattle.word.proofs.Computed.{both, both_split, all}
use Rattle.kinds.specs.declared.Kind.{Kind}
use Rattle.kinds.specs.declared.Kind.TheVariants.{And}
use Rattle.kinds.specs.Kinds.{kinds}
use Rattle.isa.specs.declared.Instruction.{Instruction}
use Rattle.isa.specs.Sheet.{sheet_line, kind_at}
use Rattle.isa.specs.Instructions.{register_part, Register, a_register, b_register, d_register, word_of, word, write_of}
use Rattle.isa.specs.Masks.{in_mask, masks_of}
use Rattle.isa.proofs.Every.{every}
use Rattle.machine.specs.Machine.{Machine, R, reset, put_registers, word_at}
use Rattle.machine.specs.Step.{PC, write, Next, cannot, to, fetched}
use Rattle.claims_sheet.specs.Rules.{step_as}
use Rattle.usage.specs.Usage.{masks_at}
use Rattle.claims_sheet.specs.Masks.{Does, Uses, Writes, has, said_to_use}
use Rattle.claims_words.proofs.Computed.{is_word, word_is_lem}
use Rattle.claims_sheet.proofs.Rules.{rules}

-- ---- The instruction of a kind, and the machine that does it with these registers

-- a part that the format lacks is 0
abbrev part : Bits → ℕ → ℕ
part p x = pick (has p) x 0

-- a, b and d are R1, R2 and R3, and n is 1
example : Kind → Instruction
example k =
    let f = (sheet_line k).format in
    record { kind = k; a = part f.a 1; b = part f.b 2; d = part f.d 3; n = pos (part f.n 1) }

-- where no instruction of these looks: the test leaves it shut
zeros : ℕ → List ℕ
zeros n = replicate n 0

zeros_length : (n : ℕ) → length (zeros n) ≡ n
unfolding zeros
zeros_length n = length-replicate n 0

machine : Kind → List ℕ → Machine
machine k rs =
    let i = example k in
    let w = word_of (sheet_line k) i.a i.b i.d (nat_abs i.n) in
    record {
      state = put_registers rs reset;
      P = w % 256 ∷ w / 256 ∷ zeros 65534;
      D = 10 ∷ 20 ∷ 30 ∷ 40 ∷ zeros 65532;
      I = 0 ∷ 0 ∷ zeros 254;
      O = 0 ∷ 0 ∷ zeros 254;
      L = [];
    }

next_of : Kind → List ℕ → Next
next_of k rs = step_as (example k) (machine k rs)

-- it steps, and what it steps to
abbrev steps : Next → Bool
steps (to next) = true
steps (cannot q) = false

abbrev reached : Machine → Next → Machine
reached m (to next) = next
reached m (cannot q) = m

reached_is : (m : Machine) (x : Next) → T (steps x) → x ≡ to (reached m x)
reached_is m (to next) t = refl
reached_is m (cannot q) t = absurd t

after : Kind → List ℕ → Machine
after k rs = reached (machine k rs) (next_of k rs)

-- v in Rj, and o in the others
abbrev registers : ℕ → ℕ → ℕ → List ℕ
registers o j v = set (replicate 8 o) j v

registers_length : (o j v : ℕ) → length (registers o j v) ≡ 8
registers_length o j v = simp (length-set, length-replicate)

-- ---- The tests

-- PC, R3, a port and a word of memory, as one number
seen : Machine → ℕ
seen m = PC m + 65536 * (R m.state 3 + 65536 * (get_or m.O 1 0 + 65536 * word_at m.D 2))

-- what the register holds at first and then, and what the others hold; one of three trials shows that it is used
record Trial : Type 0 where
  others : ℕ
  first : ℕ
  then : ℕ

abbrev trial : ℕ → ℕ → ℕ → Trial
trial o v x = record { others = o; first = v; then = x }

module _ (k : Kind) (p : Register) where
  abbrev its_register : ℕ
  its_register = register_part (example k) p

  abbrev at_first : Trial → List ℕ
  at_first t = registers t.others its_register t.first

  abbrev and_then : Trial → List ℕ
  and_then t = set (at_first t) its_register t.then

  -- what the machine would step to then, if the register were not used
  abbrev unused : Trial → Machine
  unused t = pick (in_mask (masks_at (machine k (at_first t))).writes its_register) (after k (at_first t)) (write its_register t.then (after k (at_first t)))

  differs : Trial → Bool
  differs t = not (eqb (seen (after k (and_then t))) (seen (unused t)))

  shows : Trial → Bool
  shows t = both (steps (next_of k (at_first t))) (both (steps (next_of k (and_then t))) (differs t))

  trial_of : Trial
  trial_of = pick (shows (trial 1 0 1)) (trial 1 0 1) (pick (shows (trial 1 0 3)) (trial 1 0 3) (trial 0x4000 1 0x4000))

  needed : Bool
  needed = pick (said_to_use k p) (shows trial_of) true

-- a step changes the 7 in Rd
abbrev with_7 : Kind → List ℕ
with_7 k = registers 1 (example k).d 7

changes : Kind → Bool
changes k = both (steps (next_of k (with_7 k))) (not (eqb (R (after k (with_7 k)).state (example k).d) (R (machine k (with_7 k)).state (example k).d)))

uses_shown : (k : Kind) (p : Register) → T (needed k p)
unfolding all needed trial_of shows differs seen after next_of machine example fetched masks_of kind_at signed low_bits shifted
uses_shown k p = every (λ k. needed k p) (at_each p) k
  where
    at_each : (p : Register) → T (all (length kinds) (λ n. needed (get_or kinds n And) p))
    at_each a_register = tt
    at_each b_register = tt
    at_each d_register = tt

writes_shown : (k : Kind) → T (pick (has (sheet_line k).format.d) (changes k) true)
unfolding all changes after next_of machine example signed low_bits shifted
writes_shown = every (λ k. pick (has (sheet_line k).format.d) (changes k) true) tt

word_shown : (k : Kind) → T (is_word (write_of (example k)) (fetched (machine k [])))
unfolding all machine example is_word write_of fetched low_bits
word_shown = every (λ k. is_word (write_of (example k)) (fetched (machine k []))) tt

-- ---- The witnesses

apart : (a b : ℕ) → T (not (eqb a b)) → a ≡ b → ⊥
apart a b t e = T_not (eqb a b) t (rw (eq-eqb a b e) tt)

does : (k : Kind) (rs : List ℕ) → length rs ≡ 8 → T (steps (next_of k rs)) → Does (example k) (machine k rs) (after k rs)
unfolding machine next_of after fetched
does k rs l t =
    let e : write_of (example k) ≡ word (fetched (machine k rs)) = word_is_lem _ _ (word_shown k) in
    record {
      sized = record { registers = l; P = rw zeros_length; D = rw zeros_length; I = rw zeros_length; O = rw zeros_length };
      fetches = refl;
      its_word = e;
      steps = rules.written (example k) _ e (machine k rs) refl refl ∙ reached_is (machine k rs) _ t;
    }

pub reads_needed : (k : Kind) (p : Register) → said_to_use k p ≡ true → (i : Instruction) × (i.kind ≡ k) × Uses i (register_part i p)
unfolding machine after example differs shows needed
reads_needed k p e =
    let j = its_register k p in
    let t = trial_of k p in
    let l = registers_length t.others j t.first in
    let s = both_split (steps (next_of k (at_first k p t))) (both (steps (next_of k (and_then k p t))) (differs k p t)) (subst (λ b. T (pick b (shows k p t) true)) e (uses_shown k p)) in
    let u = both_split (steps (next_of k (and_then k p t))) (differs k p t) s.1 in (
      example k,
      refl,
      record {
        m = machine k (at_first k p t);
        x = t.then;
        next = after k (at_first k p t);
        other = after k (and_then k p t);
        does = does k (at_first k p t) l s.0;
        other_does = does k (and_then k p t) (length-set (at_first k p t) j t.then ∙ l) u.0;
        differ = λ z. apart _ _ u.1 (ap seen z);
      },
    )

pub writes_needed : (k : Kind) → has (sheet_line k).format.d ≡ true → (i : Instruction) × (i.kind ≡ k) × Writes i i.d
unfolding machine after example changes
writes_needed k e =
    let d = (example k).d in
    let s =
    both_split (steps (next_of k (with_7 k))) (not (eqb (R (after k (with_7 k)).state d) (R (machine k (with_7 k)).state d)))
    (subst (λ t. T (pick t (changes k) true)) e (writes_shown k)) in (
      example k,
      refl,
      record {
        m = machine k (with_7 k);
        next = after k (with_7 k);
        does = does k (with_7 k) (registers_length 1 (example k).d 7) s.0;
        differ = apart _ _ s.1;
      },
    )
