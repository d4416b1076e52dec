-- A test of the refusal table, from the answer of the function that makes it; and what an accepted load is known to fit.
-- Assumes nothing.
use Prim.Native.Nat.{◌+◌, ◌*◌, ◌≤◌, ℕ}
use mathlib.Core.Path.{◌≡◌, refl, sym}
use mathlib.Core.Bool.{true, and-eq-true_iff}
use mathlib.Core.List.{List}
use native.Mathlib.Nat.{mul-le-mul_left}
use lib.Dec.{leb, eqb}
use lib.ListN.{length}
use borrow.Author.Tests.{eqb-true, leb-true, le-leb}
use Rattle.refusal.specs.Refusals.{Verdict, accepted, refused}
use Rattle.word.proofs.Tests.{clash, passed}
use Rattle.machine.specs.declared.Board.{Board}
use Rattle.machine.specs.Lengths.{lengths_fit}
use Rattle.image.specs.declared.Part.{Part}
use Rattle.image.specs.declared.Range.{Range}
use Rattle.image.specs.Parts.{PartInside, Placeable}
use Rattle.image.specs.Image.{W, program_offset, C, data_offset, parts_fit, inside, parts_inside, board_holds, range_fits, then_range, LoadGiven, file_reply, load_reply}

part_inside : (file : List ℕ) (part : Part) → part.count ≤ 65536 → inside file part.offset part.count ≡ true → PartInside file part
part_inside file part k h =
    record { inside_file = leb-true _ _ ((and-eq-true_iff (leb 16 part.offset) _).0 h).1; inside_memory = k }

pub file_fits : (file : List ℕ) (board : Board) → accepted ≡ file_reply file board → Placeable file × (board_holds board file ≡ true)
unfolding file_reply
file_fits file board e =
    let long = passed (leb 16 (length file)) (λ x. clash (cc)) (sym e) in
    let sizes = passed (parts_fit file) (λ x. clash (cc)) long.1 in
    let places = passed (parts_inside file) (λ x. clash (cc)) sizes.1 in
    let held = passed (board_holds board file) (λ x. clash (cc)) places.1 in
    let counts = (and-eq-true_iff (leb (W file) 32768) _).0 sizes.0 in
    let parts = (and-eq-true_iff (inside file (program_offset file) (2 * W file)) _).0 places.0 in (
      record {
        header = leb-true _ _ long.0;
        program = part_inside _ _ (mul-le-mul_left 2 (leb-true _ _ counts.0)) parts.0;
        bytes = part_inside _ _ (leb-true _ _ counts.1) parts.1;
      },
      held.0,
    )

-- a verdict on the file that the range leaves is the file's own
then_accepted : (range : Range) (v : Verdict) → accepted ≡ then_range range v → (accepted ≡ v) × (range_fits range ≡ true)
then_accepted range accepted e = (refl, (passed (range_fits range) (λ x. clash (cc)) (sym e)).0)
then_accepted range (refused k) e = clash (cc)

-- the file, the range, and what is lent
pub record Fits (g : LoadGiven) : Type 0 where
  pub file : Placeable g.file
  pub range : range_fits g.range ≡ true
  pub holds : board_holds g.board g.file ≡ true
  pub program : length g.P ≡ 65536
  pub memory : length g.D ≡ 65536
  pub inputs : length g.I ≡ 256
  pub outputs : length g.O ≡ 256

pub fits : (g : LoadGiven) → accepted ≡ load_reply g → Fits g
unfolding load_reply
fits g e =
    let lent = passed (lengths_fit g.P g.D g.I g.O) (λ x. clash (cc)) (sym e) in
    let to-outputs = (and-eq-true_iff _ (eqb (length g.O) 256)).0 lent.0 in
    let to-inputs = (and-eq-true_iff _ (eqb (length g.I) 256)).0 to-outputs.0 in
    let memories = (and-eq-true_iff (eqb (length g.P) 65536) _).0 to-inputs.0 in
    let ranged = then_accepted g.range (file_reply g.file g.board) (sym lent.1) in
    let parts = file_fits g.file g.board ranged.0 in
    record {
      file = parts.0;
      range = ranged.1;
      holds = parts.1;
      program = eqb-true _ _ memories.0;
      memory = eqb-true _ _ memories.1;
      inputs = eqb-true _ _ to-inputs.1;
      outputs = eqb-true _ _ to-outputs.1;
    }

-- where each test passes, the load is accepted
pub no_refusal : (g : LoadGiven) → lengths_fit g.P g.D g.I g.O ≡ true → 16 ≤ length g.file → W g.file ≤ 32768 → C g.file ≤ 65536
    → 16 ≤ program_offset g.file → program_offset g.file + 2 * W g.file ≤ length g.file
    → 16 ≤ data_offset g.file → data_offset g.file + C g.file ≤ length g.file → board_holds g.board g.file ≡ true → range_fits g.range ≡ true → accepted ≡ load_reply g
unfolding load_reply file_reply
no_refusal g l h w c p q d e b r = rw (l, le-leb _ _ h, le-leb _ _ w, le-leb _ _ c, le-leb _ _ p, le-leb _ _ q, le-leb _ _ d, le-leb _ _ e, b, r)
