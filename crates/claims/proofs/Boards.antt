-- A load's bytes: by where they stand in three lists in a row. P is never read: a run and going back go alike with another P
-- (OtherProgram.antt), and a save keeps no word of it; said of the call's own P, that is that P stays. The board stays, as each step leaves it.
-- Assumes nothing.
use mathlib.Core.Path.{◌≡◌, refl, sym, ap, subst, ◌∙◌}
use mathlib.Core.Bool.{true}
use mathlib.Core.List.{List, [], ◌++◌}
use Prim.Native.Nat.{ℕ, zero, suc, ◌+◌, ◌-◌, ◌*◌, ◌<◌, ◌≤◌}
use native.Mathlib.Omega.{arith}
use lib.ListN.{length, get_or, replicate, length-append, length-drop, length-map, get_or-append}
use lib.Seq.{length-take-le, get_or-append-add, get_or-take, get_or-drop}
use Rattle.refusal.specs.Refusals.{Verdict, accepted, refused}
use Rattle.machine.specs.declared.State.{State}
use Rattle.machine.specs.declared.Board.TheVariants.{SingleMemory}
use Rattle.machine.specs.Machine.{Machine, is_single}
use Rattle.machine.specs.Run.{Stepper, by_rules}
use Rattle.machine.proofs.Runs.{Lawful}
use Rattle.image.specs.declared.Range.{Range}
use Rattle.image.specs.Image.{W, program_offset, C, data_offset, part_of, single_memory_of, loaded, board_holds, LoadGiven, LoadLeft, load_left}
use Rattle.image.specs.Parts.{Placeable}
use Rattle.image.proofs.Fits.{fits}
use Rattle.save.specs.Saved.{saved_file, SaveReply, saved, save_refused, SaveGiven, save_reply, save_left_by, save_left}
use Rattle.control.specs.Control.{by_control}
use Rattle.control.proofs.Laws.{lawful_control, lawful_rules}
use Rattle.run.specs.Runs.{Given, verdict, verdict_on, allowed, machine_at, trace_on, counted_by, counted_left}
use Rattle.back.specs.Backs.{BackGiven, BackLeft, back_verdict, machine_given, back_left_by, back_left}
use Rattle.claims.specs.Session.{host_of, machine_on}
use Rattle.claims.specs.Boards.{SingleLoad, run_given_p, run_left_p, back_given_p, back_left_p, save_given_p, save_left_p, RunNeverReads, Boards}
use Rattle.claims.proofs.Alike.{Maps, alike, usage_alike, ticks_alike, kept_alike, steps_keep}
use Rattle.claims.proofs.Journaled.{start_is, counted_is}
use Rattle.claims.proofs.OtherProgram.{put_p, Single, by_any_table, by_the_rules, back_board, back_other}
use Rattle.claims.proofs.Session.{loaded_lengths, accepted_load}

-- ---- A load

-- zeros, and past them the default
zero_at : (n k : ℕ) → ◌≡◌ {A = ℕ} (get_or (replicate n 0) k 0) 0
zero_at zero k = refl
zero_at (suc n) zero = refl
zero_at (suc n) (suc k) = zero_at n k

-- past the first n numbers
past : (xs ys : List ℕ) (n k : ℕ) → length xs ≡ n → n ≤ k → get_or (xs ++ ys) k 0 ≡ get_or ys (k - n) 0
past xs ys n k l h = let e : k ≡ length xs + (k - n) = omega arith in ap (λ i. get_or (xs ++ ys) i 0) e ∙ get_or-append-add xs ys (k - n) 0

-- a part of the file, of its length and byte by byte
module _ (file : List ℕ) (offset count : ℕ) where
  part_length : offset + count ≤ length file → length (part_of file offset count) ≡ count
  part_length h = length-take-le _ _ (simp length-drop (omega arith))

  part_at : (k : ℕ) → k < count → get_or (part_of file offset count) k 0 ≡ get_or file (offset + k) 0
  part_at k h = rw (get_or-take, get_or-drop)

-- a bytes of the file from p on, then b bytes of it from d on, then zeros
record Row (file M : List ℕ) (p a d b : ℕ) : Type 0 where
  first : (k : ℕ) → k < a → get_or M k 0 ≡ get_or file (p + k) 0
  second : (k : ℕ) → a ≤ k → k < a + b → get_or M k 0 ≡ get_or file (d + (k - a)) 0
  rest : (k : ℕ) → a + b ≤ k → get_or M k 0 ≡ 0

in_a_row :
    (file : List ℕ) (p a d b n : ℕ) → p + a ≤ length file → d + b ≤ length file
    → Row file (part_of file p a ++ part_of file d b ++ replicate n 0) p a d b
in_a_row file p a d b n h i =
    let xs = part_of file p a in
    let ys = part_of file d b in
    let zs : List ℕ = replicate n 0 in
    let l = part_length file p a h in
    let both : length (xs ++ ys) ≡ a + b = rw (length-append, l, part_length file d b i) in
    record {
      first = λ k u. get_or-append (xs ++ ys) zs 0 k (omega arith) ∙ get_or-append xs ys 0 k (omega arith) ∙ part_at file p a k u;
      second = λ k u v. get_or-append (xs ++ ys) zs 0 k (omega arith) ∙ past xs ys a k l u ∙ part_at file d b (k - a) (omega arith);
      rest = λ k u. past (xs ++ ys) zs (a + b) k both u ∙ zero_at n (k - (a + b));
    }

-- the machine that is loaded for that board
single_load :
    (file : List ℕ) (range : Range) → Placeable file → board_holds SingleMemory file ≡ true
    → (l : LoadLeft) → machine_on (host_of l) [] ≡ loaded file SingleMemory range → SingleLoad file range l
unfolding loaded
single_load file range f h l e =
    let D : l.D ≡ single_memory_of file = ap (λ (m : Machine). m.D) e in
    let row = in_a_row file (program_offset file) (2 * W file) (data_offset file) (C file) (65536 - (2 * W file + C file))
    f.program.inside_file f.bytes.inside_file in
    record {
      long = ap length D ∙ (loaded_lengths file SingleMemory f h).1;
      the_program_part = λ k u. ap (λ M. get_or M k 0) D ∙ row.first k u;
      the_data_part = λ k u v. ap (λ M. get_or M k 0) D ∙ row.second k u v;
      zero_after = λ k u. ap (λ M. get_or M k 0) D ∙ row.rest k u;
      program = ap (λ (m : Machine). m.P) e;
      inputs = ap (λ (m : Machine). m.I) e;
      outputs = ap (λ (m : Machine). m.O) e;
      state = ap (λ (m : Machine). m.state) e;
    }

-- and what an accepted load left is that machine
load : (g : LoadGiven) (l : LoadLeft) → l ≡ load_left g → l.reply ≡ accepted → g.board ≡ SingleMemory → SingleLoad g.file g.range l
load g l e ok b =
    let r = accepted_load g l e ok in
    let fit = fits g (sym r.0) in
    single_load g.file g.range fit.file (subst (λ x. board_holds x g.file ≡ true) b fit.holds) l (r.1 ∙ ap (λ x. loaded g.file x g.range) b)

-- ---- Runs

-- of P the tests look at the length alone
same_verdict : (g : Given) (P : List ℕ) → length P ≡ length g.P → verdict_on (run_given_p P g) ≡ verdict_on g
unfolding verdict
same_verdict g P l = rw l

module _ (v : Stepper) (maps : (P : List ℕ) → Maps v (put_p P) (λ full. full) Single) (g : Given) (single : is_single g.state ≡ true) where
  -- the start of the run leaves the board
  starts : Single (machine_at g)
  starts = ap is_single (start_is g.journal g.state) ∙ single

  -- the run goes alike, so that what is told of its trace and its end is the same
  same : (P : List ℕ) → length P ≡ length g.P → counted_left v (run_given_p P g) ≡ run_left_p P (counted_left v g)
  unfolding counted_left
  same P l = ap (λ x. counted_by v x (run_given_p P g)) (same_verdict g P l) ∙ go (verdict_on g)
    where
      go : (x : Verdict) → counted_by v x (run_given_p P g) ≡ run_left_p P (counted_by v x g)
      go accepted =
          let ms = trace_on v g in
          let t = alike (maps P) (allowed g) (0 + length g.log) (machine_at g) starts in
          rw (
            t.ends,
            t.traces,
            length-map ms (put_p P),
            usage_alike (put_p P) ms t.seen,
            ticks_alike (put_p P) ms t.seen,
            kept_alike (put_p P) g.journal g.state.journaled ms t.seen,
          )
      go (refused k) = refl

  never_reads : RunNeverReads v g
  never_reads = record { stays = ap (λ c. c.left.P) (same g.P refl); same = same }

-- the board, whatever the run goes by
run_board : (v : Stepper) → Lawful v → (g : Given) → (counted_left v g).left.state.board ≡ g.state.board
unfolding counted_left
run_board v lawful g = go (verdict_on g)
  where
    go : (x : Verdict) → (counted_by v x g).left.state.board ≡ g.state.board
    go accepted =
        ap (λ (s : State). s.board) (counted_is g.journal _ _)
        ∙ steps_keep v (λ m. m.state.board ≡ g.state.board) (λ m next e h. ap (λ u. u.1) (lawful.leaves m next e) ∙ h)
        (allowed g) (0 + length g.log) (machine_at g) (ap (λ (s : State). s.board) (start_is g.journal g.state))
    go (refused k) = refl

-- ---- Going back

module _ (g : BackGiven) where
  -- the machine gone back to is the same but for P
  back : (P : List ℕ) → length P ≡ length g.P → back_left (back_given_p P g) ≡ back_left_p P (back_left g)
  unfolding back_left back_verdict
  back P l = rw l (go (back_verdict g))
    where
      go : (x : Verdict) → back_left_by x (back_given_p P g) ≡ back_left_p P (back_left_by x g)
      go accepted = rw (back_other g.k g.state.journaled g.journal (machine_given g) P)
      go (refused k) = refl

  -- and has the same board
  board_back : (back_left g).state.board ≡ g.state.board
  unfolding back_left
  board_back = go (back_verdict g)
    where
      go : (x : Verdict) → (back_left_by x g).state.board ≡ g.state.board
      go accepted = back_board g.k g.state.journaled g.journal (machine_given g)
      go (refused k) = refl

-- ---- A save

-- with W zero the file has no byte of P
same_file : (s : State) → is_single s ≡ true → (P Q D : List ℕ) → saved_file s P D ≡ saved_file s Q D
unfolding saved_file
same_file s h P Q D = rw h

module _ (g : SaveGiven) where
  save : is_single g.state ≡ true → (P : List ℕ) → length P ≡ length g.P → save_left (save_given_p P g) ≡ save_left_p P (save_left g)
  unfolding save_left save_reply
  save h P l = rw (l, same_file g.state h P g.P g.D) (go (save_reply g))
    where
      go : (x : SaveReply) → save_left_by x (save_given_p P g) ≡ save_left_p P (save_left_by x g)
      go (saved n) = rw (same_file g.state h P g.P g.D)
      go (save_refused k) = refl

  save_stays : (save_left g).P ≡ g.P
  unfolding save_left
  save_stays = go (save_reply g)
    where
      go : (x : SaveReply) → (save_left_by x g).P ≡ g.P
      go (saved n) = refl
      go (save_refused k) = refl

-- ---- L11

pub boards : Boards
boards =
    record {
      load = load;
      through_rules = never_reads by_rules by_the_rules;
      through_control = λ words. never_reads (by_control words) (λ P. by_any_table P words);
      back = back;
      back_stays = λ g. ap (λ (l : BackLeft). l.P) (back g g.P refl);
      save = save;
      save_stays = save_stays;
      run_board = λ words. run_board (by_control words) (lawful_control words);
      rules_board = run_board by_rules lawful_rules;
      back_board = board_back;
    }
