-- What an entry holds is read from it again.
-- Assumes nothing.
use mathlib.Core.Path.{◌≡◌, refl, ap, ◌∙◌}
use mathlib.Core.Bool.{Bool, true, false}
use Prim.Native.Nat.{ℕ, ◌+◌, ◌*◌, ◌/◌, ◌%◌, ◌<◌}
use native.Mathlib.Omega.{arith}
use lib.Dec.{eqb}
use lib.ListN.{get_or}
use Rattle.word.specs.Word.{clear0}
use Rattle.word.proofs.Tables.{looked_up}
use Rattle.journal.specs.Journal.{Overwritten, nothing, register, data_word, data_byte, output_word, key_read, enable_flag, line_taken, coded, pc_in, value_in, place_in, what_in, which_in, entry_with, readings, overwritten_in, is_output}
use Rattle.journal.proofs.Widths.{◌then◌, IsWord}

-- the places and numbers that an entry can hold
abbrev pub Fits : Overwritten → Type 0
Fits nothing = Unit {0}
Fits (register k v) = (k < 8) × IsWord v
Fits (data_word k v) = IsWord k × (k % 2 ≡ 0) × IsWord v
Fits (data_byte k v) = IsWord k × IsWord v
Fits (output_word k v) = (k < 256) × IsWord v
Fits (key_read k v s) = (k < 8) × IsWord v × IsWord s
Fits (enable_flag v) = v < 256
Fits (line_taken k e j v) = (k < 8) × (e < 256) × (j < 256) × IsWord v

-- an output is what was overwritten
abbrev pub is_port : Overwritten → Bool
is_port nothing = false
is_port (register k v) = false
is_port (data_word k v) = false
is_port (data_byte k v) = false
is_port (output_word k v) = true
is_port (key_read k v s) = false
is_port (enable_flag v) = false
is_port (line_taken k e j v) = false

-- ---- The fields of an entry

record Fields (pc v k what which x : ℕ) : Type 0 where
  pc_is : pc_in x ≡ pc
  value_is : value_in x ≡ v
  place_is : place_in x ≡ k
  what_is : what_in x ≡ what
  which_is : which_in x ≡ which
  small : x < 18446744073709551616

fields : (pc v k what which : ℕ) → IsWord pc → IsWord v → IsWord k → what < 256 → which < 256 → Fields pc v k what which (coded pc v k what which)
fields pc v k what which hp hv hk hw hr =
    record {
      pc_is = omega arith;
      value_is = omega arith;
      place_is = omega arith;
      what_is = omega arith;
      which_is = omega arith;
      small = omega arith;
    }

-- ---- What is read from an entry, and from any number

pub record Reads (pc : ℕ) (o : Overwritten) (x : ℕ) : Type 0 where
  pub pc_is : pc_in x ≡ pc
  pub read : overwritten_in x ≡ o
  pub port : is_output x ≡ is_port o
  pub small : x < 18446744073709551616

module _ {pc v k what which x : ℕ} (f : Fields pc v k what which x) where
  reads : (o : Overwritten) → get_or (readings x) what nothing ≡ o → eqb what 4 ≡ is_port o → Reads pc o x
  unfolding overwritten_in
  reads o e t =
      record {
        pc_is = f.pc_is;
        read = ap (λ j. get_or (readings x) j nothing) f.what_is ∙ e;
        port = ap (λ j. eqb j 4) f.what_is ∙ t;
        small = f.small;
      }

even : (k : ℕ) → k % 2 ≡ 0 → clear0 k ≡ k
even k h = omega arith

pub read_back : (pc : ℕ) (o : Overwritten) → IsWord pc → Fits o → Reads pc o (entry_with pc o)
read_back pc nothing hp h = reads (fields pc 0 0 0 0 hp (omega arith) (omega arith) (omega arith) (omega arith)) nothing refl refl
read_back pc (register k v) hp h =
    let f = fields pc v k 1 0 hp h.1 (omega arith) (omega arith) (omega arith) in
    let p : place_in (coded pc v k 1 0) % 8 ≡ k = omega (arith, f.place_is) in
    reads f (register k v) (λ i. register (p i) (f.value_is i)) refl
read_back pc (data_word k v) hp h =
    let f = fields pc v k 2 0 hp h.2 h.0 (omega arith) (omega arith) in
    let p : clear0 (place_in (coded pc v k 2 0)) ≡ k = ap clear0 f.place_is ∙ even k h.1 in
    reads f (data_word k v) (λ i. data_word (p i) (f.value_is i)) refl
read_back pc (data_byte k v) hp h =
    let f = fields pc v k 3 0 hp h.1 h.0 (omega arith) (omega arith) in
    reads f (data_byte k v) (λ i. data_byte (f.place_is i) (f.value_is i)) refl
read_back pc (output_word k v) hp h =
    let f = fields pc v k 4 0 hp h.1 (omega arith) (omega arith) (omega arith) in
    let p : place_in (coded pc v k 4 0) % 256 ≡ k = omega (arith, f.place_is) in
    reads f (output_word k v) (λ i. output_word (p i) (f.value_is i)) refl
read_back pc (key_read k v s) hp h =
    let f = fields pc v s 5 k hp h.1 h.2 (omega arith) (omega arith) in
    let p : which_in (coded pc v s 5 k) % 8 ≡ k = omega (arith, f.which_is) in
    reads f (key_read k v s) (λ i. key_read (p i) (f.value_is i) (f.place_is i)) refl
read_back pc (enable_flag v) hp h =
    let f = fields pc v 0 6 0 hp (omega arith) (omega arith) (omega arith) (omega arith) in
    let p : value_in (coded pc v 0 6 0) % 256 ≡ v = omega (arith, f.value_is) in
    reads f (enable_flag v) (λ i. enable_flag (p i)) refl
read_back pc (line_taken k e j v) hp h =
    let x = coded pc v (e + 256 * j) 7 k in
    let f = fields pc v (e + 256 * j) 7 k hp h.3 (omega arith) (omega arith) (omega arith) in
    let p : which_in x % 8 ≡ k = omega (arith, f.which_is) in
    let q : place_in x % 256 ≡ e = omega (arith, f.place_is) in
    let r : place_in x / 256 ≡ j = omega (arith, f.place_is) in
    reads f (line_taken k e j v) (λ i. line_taken (p i) (q i) (r i) (f.value_is i)) refl

pub reading_fits : (x : ℕ) → Fits (overwritten_in x)
unfolding overwritten_in
reading_fits x =
    looked_up Fits (readings x)
    (tt
    then (omega arith, omega arith)
    then (omega arith, omega arith, omega arith)
    then (omega arith, omega arith)
    then (omega arith, omega arith)
    then (omega arith, omega arith, omega arith)
    then omega arith
    then (omega arith, omega arith, omega arith, omega arith)
    then tt)
    tt (what_in x)
