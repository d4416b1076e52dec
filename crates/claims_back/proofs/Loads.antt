-- The machine that is loaded from a file of bytes has its numbers within their widths.
-- Assumes nothing.
use mathlib.Core.Path.{◌≡◌, sym, subst}
use mathlib.Core.List.{List, [], ◌∷◌, ◌++◌}
use Prim.Native.Nat.{ℕ, zero, suc, ◌+◌, ◌-◌, ◌*◌, ◌<◌}
use native.Mathlib.Omega.{arith}
use lib.ListN.{length, get_or, take, drop, replicate, length-replicate}
use lib.Seq.{get_or-drop}
use Rattle.refusal.specs.Refusals.{accepted}
use Rattle.machine.specs.declared.Board.{Board}
use Rattle.machine.specs.declared.Board.TheVariants.{TwoMemories, SingleMemory}
use Rattle.machine.specs.declared.State.{State}
use Rattle.machine.specs.Machine.{reset_on}
use Rattle.journal.specs.Ranges.{Numbers, InRange}
use Rattle.image.specs.Image.{W, C, program_offset, data_offset, part_of, memory_of, single_memory_of, loaded_p, loaded_d, loaded, LoadGiven, load_reply}
use Rattle.image.proofs.Fits.{fits}
use Rattle.claims.proofs.Session.{loaded_lengths, range_kept}

module _ (bound : ℕ) (some : 0 < bound) where
  abbrev Below : List ℕ → Type 0
  Below xs = (k : ℕ) → get_or xs k 0 < bound

  below_append : (xs ys : List ℕ) → Below xs → Below ys → Below (xs ++ ys)
  below_append [] ys p q k = q k
  below_append (x ∷ xs) ys p q zero = p 0
  below_append (x ∷ xs) ys p q (suc k) = below_append xs ys (λ i. p (suc i)) q k

  below_take : (n : ℕ) (xs : List ℕ) → Below xs → Below (take n xs)
  below_take zero xs p k = some
  below_take (suc n) [] p k = some
  below_take (suc n) (x ∷ xs) p zero = p 0
  below_take (suc n) (x ∷ xs) p (suc k) = below_take n xs (λ i. p (suc i)) k

  below_zeros : (n : ℕ) → Below (replicate n 0)
  below_zeros zero k = some
  below_zeros (suc n) zero = some
  below_zeros (suc n) (suc k) = below_zeros n k

  pub zeros : (n : ℕ) → Numbers n bound (replicate n 0)
  zeros n = record { many = length-replicate n 0; below = below_zeros n }

  part_below : (file : List ℕ) (offset count : ℕ) → Below file → Below (part_of file offset count)
  part_below file offset count p = below_take count (drop offset file) (λ k. rw (get_or-drop offset file k 0) (p (offset + k)))

  memory_below : (file : List ℕ) (offset count : ℕ) → Below file → Below (memory_of file offset count)
  memory_below file offset count p = below_append (part_of file offset count) (replicate (65536 - count) 0) (part_below file offset count p) (below_zeros (65536 - count))

  single_below : (file : List ℕ) → Below file → Below (single_memory_of file)
  single_below file p =
      let program = part_of file (program_offset file) (2 * W file) in
      let bytes = part_of file (data_offset file) (C file) in
      let count = 2 * W file + C file in
      below_append (program ++ bytes) (replicate (65536 - count) 0)
      (below_append program bytes (part_below file (program_offset file) (2 * W file) p) (part_below file (data_offset file) (C file) p)) (below_zeros (65536 - count))

  loaded_below : (file : List ℕ) (board : Board) → Below file → Below (loaded_p board file) × Below (loaded_d board file)
  loaded_below file TwoMemories p = (memory_below file (program_offset file) (2 * W file) p, memory_below file (data_offset file) (C file) p)
  loaded_below file SingleMemory p = (below_zeros 65536, single_below file p)

pub loaded_in_range : (g : LoadGiven) → load_reply g ≡ accepted → Numbers (length g.file) 256 g.file → InRange (loaded g.file g.board g.range)
unfolding loaded
loaded_in_range g e n =
    let fit = fits g (sym e) in
    let long = loaded_lengths g.file g.board fit.file fit.holds in
    let bytes = loaded_below 256 (omega arith) g.file g.board n.below in
    subst (λ (s : State). InRange (record { state = s; P = loaded_p g.board g.file; D = loaded_d g.board g.file; I = replicate 256 0; O = replicate 256 0; L = [] }))
    (sym (range_kept g.range (reset_on g.board)))
    (record {
      registers = zeros 65536 (omega arith) 8;
      pc = omega arith;
      enabled = omega arith;
      pending = omega arith;
      line = omega arith;
      address = omega arith;
      program = record { many = long.0; below = bytes.0 };
      memory = record { many = long.1; below = bytes.1 };
      inputs = zeros 65536 (omega arith) 256;
      outputs = zeros 65536 (omega arith) 256;
    })
