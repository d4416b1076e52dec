-- What an accepted load leaves: a law for a memory, one for an array of ports, and the whole.
-- Assumes nothing.
use Prim.Native.Nat.{ℕ, ◌+◌, ◌-◌, ◌*◌, ◌≤◌}
use mathlib.Core.Path.{◌≡◌, refl, ap, ◌∙◌}
use mathlib.Core.List.{List, [], ◌++◌, append_assoc, append-nil}
use native.Mathlib.Omega.{arith}
use lib.ListN.{length, take, drop, replicate, length-append, length-drop, length-replicate, drop_of_length-le}
use lib.Seq.{length-take-le, take_all, take_at, drop_at}
use Rattle.refusal.specs.Refusals.{Verdict, accepted, refused}
use Rattle.machine.specs.declared.State.{State}
use Rattle.machine.specs.declared.Board.{Board}
use Rattle.machine.specs.Machine.{reset, reset_on}
use Rattle.image.specs.Image.{W, C, part_of, single_memory_of, loaded_p, loaded_d, with_range, loaded, LoadLeft, LoadGiven, load_reply, load_left_by, load_left}
use Rattle.image.specs.declared.Part.{Part}
use Rattle.image.specs.declared.Range.{Range}
use Rattle.image.specs.Parts.{program_part, data_part, ReadAs, Placeable}

-- bytes b placed over the zeros that follow the bytes a
module _ (A : List ℕ) {a n : ℕ} {M : List ℕ} (l : length A ≡ a) (within : a ≤ n) (first : M ≡ A ++ replicate (n - a) 0) where
  front : take a M ≡ A
  front = rw first (take_at A _ _ l)

  rest : drop a M ≡ replicate (n - a) 0
  rest = rw first (drop_at A _ _ l)

  size : length M ≡ n
  size = rw (first, length-append, l, length-replicate) (omega arith)

  tail : take (length M - a) (drop a M) ≡ replicate (n - a) 0
  tail = let all : length (replicate {A = ℕ} (n - a) 0) ≤ n - a = omega (arith, length-replicate {A = ℕ} (n - a) 0) in rw (rest, size) (take_all _ _ all)

  pub room : length (take (length M - a) (drop a M)) ≡ n - a
  room = rw (tail, length-replicate)

  pub followed : (B : List ℕ) (b : ℕ) {N : List ℕ} → N ≡ B ++ replicate (length (take (length M - a) (drop a M)) - b) 0
      → take a M ++ (N ++ drop (length M - a) (drop a M)) ≡ A ++ B ++ replicate (n - (a + b)) 0
  followed B b e =
      let none : drop {A = ℕ} (n - a) (replicate (n - a) 0) ≡ [] = drop_of_length-le _ {i = n - a} (omega (arith, length-replicate {A = ℕ} (n - a) 0)) in
      let left : n - a - b ≡ n - (a + b) = omega arith in
      rw (front, e, room, rest, size, none, append-nil, left, append_assoc)

-- the data part follows the program part
module _ {file : List ℕ} {p d : Part} {n : ℕ} {M : List ℕ} (f : Placeable file) (l : n ≡ 65536) (h : 2 * W file + C file ≤ 65536) (pr : ReadAs (program_part file) p)
    (dr : ReadAs (data_part file) d) (first : M ≡ part_of file p.offset p.count ++ replicate (n - p.count) 0) where
  part_length : length (part_of file p.offset p.count) ≡ p.count
  part_length = length-take-le _ _ (rw length-drop (omega (arith, f.program.inside_file, pr.offset, pr.count)))

  within : p.count ≤ n
  within = omega (arith, pr.count)

  pub both_left : {N : List ℕ} → N ≡ part_of file d.offset d.count ++ replicate (length (take (length M - p.count) (drop p.count M)) - d.count) 0
      → take p.count M ++ (N ++ drop (length M - p.count) (drop p.count M)) ≡ single_memory_of file
  both_left e = followed (part_of file p.offset p.count) part_length within first (part_of file d.offset d.count) d.count e ∙ rw (pr.offset, pr.count, dr.offset, dr.count, l)

pub ports_left : {n : ℕ} {M : List ℕ} → n ≡ 256 → M ≡ replicate n 0 → M ≡ replicate 256 0
ports_left l e = e ∙ rw l

joined : (reply : Verdict) {state state' : State} {P P' D D' I I' O O' : List ℕ} → state ≡ state' → P ≡ P' → D ≡ D' → I ≡ I' → O ≡ O'
    → ◌≡◌ {A = LoadLeft} (record { reply = reply; state = state; P = P; D = D; I = I; O = O })
    (record { reply = reply; state = state'; P = P'; D = D'; I = I'; O = O' })
joined reply s p d i o = cc

pub accepted_left_lem : (file : List ℕ) (board : Board) (range : Range) {state : State} {P D I O : List ℕ} → state ≡ with_range range (reset_on board)
    → P ≡ loaded_p board file
    → D ≡ loaded_d board file
    → I ≡ replicate 256 0
    → O ≡ replicate 256 0
    → ◌≡◌ {A = LoadLeft} (record { reply = accepted; state = state; P = P; D = D; I = I; O = O })
    (let m = loaded file board range in record { reply = accepted; state = m.state; P = m.P; D = m.D; I = m.I; O = m.O })
unfolding loaded
accepted_left_lem file board range s p d i o = joined accepted s p d i o

module _ (g : LoadGiven) where
  pub left_by : {reply : Verdict} {left : LoadLeft} → reply ≡ load_reply g → left ≡ load_left_by reply g → left ≡ load_left g
  unfolding load_left
  left_by e h = h ∙ ap (λ reply. load_left_by reply g) e

  pub refused_left : {k : ℕ} {state : State} → refused k ≡ load_reply g → state ≡ reset
      → ◌≡◌ {A = LoadLeft} (record { reply = refused k; state = state; P = g.P; D = g.D; I = g.I; O = g.O }) (load_left g)
  refused_left e s = left_by e (joined _ s refl refl refl refl)
