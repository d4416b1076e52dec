-- By call: the host and the machine stay together (Together), the contracts decide the replies (Decided), the lengths stay (Lengths).
-- Assumes nothing.
use mathlib.Core.Path.{◌≡◌, refl, sym, ap, subst, ◌∙◌}
use mathlib.Core.Bool.{Bool, true, false, ◌||◌, or-true}
use mathlib.Core.List.{List, []}
use mathlib.Core.Logic.{◌⊎◌, inl, inr}
use Prim.Native.Nat.{ℕ, ◌+◌, ◌*◌, ◌≤◌}
use native.Mathlib.Omega.{arith}
use borrow.Author.Tests.{leb-true, eq-eqb, le-leb}
use lib.Dec.{eqb}
use lib.ListN.{length, replicate, length-append, length-take, length-drop, length-replicate}
use Rattle.refusal.specs.Refusals.{Verdict, accepted, refused}
use Rattle.word.proofs.Tests.{clash}
use Rattle.word.specs.Word.{pick}
use Rattle.machine.specs.declared.State.{State}
use Rattle.machine.specs.declared.Board.{Board}
use Rattle.machine.specs.declared.Board.TheVariants.{TwoMemories, SingleMemory}
use Rattle.machine.specs.Machine.{put_locked, reset_on}
use Rattle.machine.proofs.Runs.{Even}
use Rattle.image.specs.declared.Range.{Range}
use Rattle.image.specs.Image.{W, C, program_offset, data_offset, memory_of, loaded_p, loaded_d, board_holds, with_range, range_fits, loaded, LoadGiven, LoadLeft, file_reply, load_reply, load_left_by, load_left}
use Rattle.image.specs.Parts.{Placeable}
use Rattle.image.proofs.Fits.{fits}
use Rattle.report.specs.Example.{example_file}
use Rattle.claims.specs.Session.{Calls, host_of, machine_on, machine_calls, machine_replies, Session}
use Rattle.claims.proofs.Together.{calls_together}
use Rattle.claims.proofs.Decided.{same, calls_exist}
use Rattle.claims.proofs.Lengths.{Fit, calls_fit}

-- ---- An accepted load

pub memory_length : (file : List ℕ) (offset count : ℕ) → count ≤ 65536 → offset + count ≤ length file → length (memory_of file offset count) ≡ 65536
memory_length file offset count small inside = simp (length-append, length-take, length-drop, length-replicate) (omega arith)

-- the memories that a load for a board leaves have their lengths
pub loaded_lengths : (file : List ℕ) (board : Board) → Placeable file → board_holds board file ≡ true
    → (length (loaded_p board file) ≡ 65536) × (length (loaded_d board file) ≡ 65536)
loaded_lengths file TwoMemories f h = (
  memory_length file (program_offset file) (2 * W file) f.program.inside_memory f.program.inside_file,
  memory_length file (data_offset file) (C file) f.bytes.inside_memory f.bytes.inside_file,
)
loaded_lengths file SingleMemory f h =
    let both : 2 * W file + C file ≤ 65536 = leb-true _ _ h in (
      length-replicate {A = ℕ} 65536 0,
      simp (length-append, length-take, length-drop, length-replicate) (omega (arith, both, f.program.inside_file, f.bytes.inside_file)),
    )

-- naming a range, or none, sets the range alone
pub range_kept : (range : Range) (s : State) → let t = with_range range s in t ≡ put_locked t.locked t.first_locked t.last_locked s
range_kept range s = go (eqb range.locked 0)
  where
    go : (b : Bool) → let t = pick b (put_locked 0 0 0 s) (put_locked 1 range.first range.last s) in t ≡ put_locked t.locked t.first_locked t.last_locked s
    go true = refl
    go false = refl

pub loaded_fits : (g : LoadGiven) → load_reply g ≡ accepted → Fit (loaded g.file g.board g.range)
unfolding loaded
loaded_fits g e =
    let fit = fits g (sym e) in
    let l = loaded_lengths g.file g.board fit.file fit.holds in
    (λ i. (l.0 i, l.1 i, 256, 256), subst Even (sym (range_kept g.range (reset_on g.board))) (refl, refl))

-- it left the machine that 01 loads from the file, of that board and with that range
pub accepted_load : (g : LoadGiven) (l : LoadLeft) → l ≡ load_left g → l.reply ≡ accepted → (load_reply g ≡ accepted) × (machine_on (host_of l) [] ≡ loaded g.file g.board g.range)
unfolding load_left loaded
accepted_load g l e ok = go (load_reply g) e
  where
    go : (r : Verdict) → l ≡ load_left_by r g → (r ≡ accepted) × (machine_on (host_of l) [] ≡ loaded g.file g.board g.range)
    go accepted e = (refl, ap (λ x. machine_on (host_of x) []) e)
    go (refused k) e = let z : refused k ≡ accepted = sym (ap (λ x. x.reply) e) ∙ ok in clash (cc)

-- ---- The example

-- none, or one that begins no later than it ends
range_fits_lem : (range : Range) → (range.locked ≡ 0) ⊎ (range.first ≤ range.last) → range_fits range ≡ true
range_fits_lem range (inl e) = rw (eq-eqb _ _ e)
range_fits_lem range (inr h) = ap (λ t. eqb range.locked 0 || t) (le-leb _ _ h) ∙ or-true (eqb range.locked 0)

example_accepted :
    (board : Board) (range : Range) → range_fits range ≡ true → (P D I O : List ℕ) → length P ≡ 65536 → length D ≡ 65536 → length I ≡ 256 → length O ≡ 256
    → (load_left (record { file = example_file; board = board; range = range; P = P; D = D; I = I; O = O })).reply ≡ accepted
unfolding load_left load_reply file_reply
example_accepted TwoMemories range f P D I O p d i o = rw (p, d, i, o, f)
example_accepted SingleMemory range f P D I O p d i o = rw (p, d, i, o, f)

zeros : (n : ℕ) → ◌≡◌ {A = ℕ} (length (replicate {A = ℕ} n 0)) n
zeros n = length-replicate n 0

-- ---- DEMAND 3

pub session : Session
session =
    record {
      demand_3 = λ g l₁ l₂ e₁ ok₁ e₂ ok₂ cs₁ cs₂ alike rs₁ rs₂ h₁ h₂ ds₁ ds₂.
          let m = (accepted_load g l₁ e₁ ok₁).1 in
          let t = calls_together ds₁ [] in
          let s = same ds₁ (subst (λ l. Calls (host_of l) cs₂ rs₂ h₂) (e₂ ∙ sym e₁) ds₂) alike in
          record {
            machine = t.0 ∙ ap (λ x. machine_calls x cs₁) m;
            replies = t.1 ∙ ap (λ x. machine_replies x cs₁) m;
            same_replies = s.0;
            same_host = s.1;
          };
      replies_exist = calls_exist;
      load_exists = λ board range h. example_accepted board range (range_fits_lem range h) (replicate 65536 0) (replicate 65536 0) (replicate 256 0) (replicate 256 0)
          (zeros 65536) (zeros 65536) (zeros 256) (zeros 256);
      only_6 = λ g l e ok cs rs h ds. let r = accepted_load g l e ok in calls_fit ds (subst Fit (sym r.1) (loaded_fits g r.0));
    }
