-- The saved file: its length, that loading it gives back both memories, that it holds no trailing zeros; and what `save` replies.
-- Assumes nothing.
use Prim.Native.Nat.{ℕ, suc, ◌+◌, ◌-◌, ◌*◌, ◌/◌, ◌%◌, ◌≤◌, ◌<◌}
use mathlib.Core.Path.{◌≡◌, refl, sym, ap, ◌∙◌}
use mathlib.Core.Bool.{true, false, and-false}
use mathlib.Core.List.{List, ◌++◌}
use mathlib.Core.Logic.{◌⊎◌, inl, inr, ⊎_elim, ◌↔◌}
use native.Mathlib.Decide.{ℕ_discrete, dec_le}
use native.Mathlib.Nat.{le_refl, zero-add, div-add-mod', div-div-eq-div-mul, mod-eq_of_lt}
use native.Mathlib.Omega.{arith}
use lib.ListN.{length, get_or, take, drop, replicate, length-append, length-drop, length-replicate, get_or-replicate, take-append-drop}
use lib.Seq.{ext_get_or, get_or-drop, take_at, drop_at, drop-drop, take-take, length-take-le}
use borrow.Author.Tests.{eq-eqb, ne_eqb, le-leb, lt-leb}
use Rattle.refusal.specs.Refusals.{accepted}
use Rattle.word.proofs.Tests.{either}
use Rattle.machine.specs.declared.State.{State}
use Rattle.machine.specs.declared.Board.{Board}
use Rattle.machine.specs.declared.Board.TheVariants.{TwoMemories, SingleMemory}
use Rattle.machine.specs.Machine.{reset, reset_on, is_single, word_at}
use Rattle.image.specs.declared.Range.{Range}
use Rattle.image.specs.Image.{W, program_offset, C, data_offset, part_of, memory_of, single_memory_of, loaded_p, loaded_d, board_holds, with_range, range_fits, load_reply, load_left}
use Rattle.save.specs.Saved.{words_kept, words_saved, bytes_kept, file_of, unlocked, saved_file, SaveReply, saved, save_refused, SaveGiven, save_reply, save_left_by, save_left}
use Rattle.image.proofs.Fits.{no_refusal}
use Rattle.image.proofs.Left.{left_by, accepted_left_lem}
use Rattle.save.proofs.Unlocked.{unlocked_length}
use Rattle.save.proofs.Kept.{Cut, cut, least, words_kept_lem}

-- ---- Its length

words_within : (P : List ℕ) → 2 * words_kept P ≤ length P
words_within P = omega (arith, (cut (λ k. word_at P (2 * k)) (length P / 2)).within)

pub bytes_within : (D : List ℕ) → bytes_kept D ≤ length D
bytes_within D = (cut (λ k. get_or D k 0) (length D)).within

-- the words saved, by the board
saved_within : (s : State) (P : List ℕ) → 2 * words_saved s P ≤ length P
saved_within s P = either (λ w. 2 * w ≤ length P) (is_single s) (omega arith) (words_within P)

pub file_length : (s : State) (P D : List ℕ) → length (saved_file s P D) ≡ 16 + 2 * words_saved s P + bytes_kept (unlocked s D)
unfolding saved_file
file_length s P D =
    let p = length-take-le (2 * words_saved s P) P (saved_within s P) in
    let d = length-take-le (bytes_kept (unlocked s D)) (unlocked s D) (bytes_within (unlocked s D)) in
    simp (length-append, p, d) (omega arith)

pub file_at_most : (s : State) (P D : List ℕ) → length P ≡ 65536 → length D ≡ 65536 → length (saved_file s P D) ≤ 131088
file_at_most s P D p d = omega (arith, file_length s P D, saved_within s P, bytes_within (unlocked s D), unlocked_length s D)

-- ---- Loading it gives back both memories, on the single-memory board data memory alone

-- a number of the header, from its bytes
digits : (v a b c r s t : ℕ) → a * 256 + r ≡ v → b * 256 + s ≡ a → c * 256 + t ≡ b → r + 256 * s + 65536 * t + 16777216 * c ≡ v
digits v a b c r s t p q u = omega arith

number_back : (v : ℕ) → v < 4294967296 → v % 256 + 256 * (v / 256 % 256) + 65536 * (v / 65536 % 256) + 16777216 * (v / 16777216 % 256) ≡ v
number_back v h =
    let top : v / 16777216 < 256 = omega arith in
    let second : v / 65536 * 256 + v / 256 % 256 ≡ v / 256 = rw (← div-div-eq-div-mul v 256 256) (div-add-mod' (v / 256) 256) in
    let third : v / 16777216 * 256 + v / 65536 % 256 ≡ v / 65536 = rw (← div-div-eq-div-mul v 65536 256) (div-add-mod' (v / 65536) 256) in
    rw (mod-eq_of_lt top) (digits v (v / 256) (v / 65536) (v / 16777216) (v % 256) (v / 256 % 256) (v / 65536 % 256) (div-add-mod' v 256) second third)

-- what is dropped is zeros
module _ (l : List ℕ) (n size : ℕ) (e : length l ≡ size) (h : bytes_kept l ≤ n) (k : n ≤ length l) where
  zero_at : (i : ℕ) → i < length (drop n l) → get_or (drop n l) i 0 ≡ get_or (replicate (size - n) 0) i 0
  zero_at i u =
      let v : i < size - n = rw (length-drop, e) at u in
      rw (get_or-drop, get_or-replicate) ((cut (λ k. get_or l k 0) (length l)).zeros (n + i) (omega arith) (omega arith))

  rest_zero : take n l ++ replicate (size - n) 0 ≡ l
  rest_zero =
      let zeros : drop n l ≡ replicate (size - n) 0 = ext_get_or 0 _ _ (simp (length-drop, length-replicate, e)) zero_at in
      rw (← zeros) (take-append-drop n l)

-- the file of the first w words of P
abbrev file : ℕ → List ℕ → List ℕ → List ℕ
file w P D = file_of w (bytes_kept D) P D

module _ (w : ℕ) (P D : List ℕ) (within : 2 * w ≤ length P) (p : length P ≡ 65536) (d : length D ≡ 65536) where
  words_small : w ≤ 32768
  words_small = omega arith

  bytes_small : bytes_kept D ≤ 65536
  bytes_small = omega (arith, bytes_within D)

  words : W (file w P D) ≡ w
  words = number_back _ (omega (arith, words_small))

  bytes : C (file w P D) ≡ bytes_kept D
  bytes = number_back _ (omega (arith, bytes_small))

  bytes_offset : data_offset (file w P D) ≡ 16 + 2 * w
  bytes_offset = number_back _ (omega (arith, words_small))

  part : length (take (2 * w) P) ≡ 2 * w
  part = length-take-le _ _ within

  the_program_part : part_of (file w P D) (program_offset (file w P D)) (2 * W (file w P D)) ≡ take (2 * w) P
  the_program_part = rw words (take_at (take (2 * w) P) _ _ part)

  the_data_part : part_of (file w P D) (data_offset (file w P D)) (C (file w P D)) ≡ take (bytes_kept D) D
  the_data_part = rw (bytes, bytes_offset, ← drop-drop) (rw (drop_at (take (2 * w) P) _ _ part) (take-take (bytes_kept D) (bytes_kept D) D (le_refl _)))

  -- whatever the memories and ports that it is loaded to held
  module _ (board : Board) (range : Range) (named : range_fits range ≡ true) (held : board_holds board (file w P D) ≡ true) (P' D' I' O' : List ℕ) (p' : length P' ≡ 65536) (d' : length D' ≡ 65536) (i' : length I' ≡ 256) (o' : length O' ≡ 256) where
    accepts : accepted ≡ load_reply (record { file = file w P D; board = board; range = range; P = P'; D = D'; I = I'; O = O' })
    accepts =
        let size : length (file w P D) ≡ 16 + 2 * w + bytes_kept D = simp (length-append, part, length-take-le (bytes_kept D) D (bytes_within D)) (omega arith) in
        no_refusal (record { file = file w P D; board = board; range = range; P = P'; D = D'; I = I'; O = O' })
        (simp (eq-eqb _ _ p', eq-eqb _ _ d', eq-eqb _ _ i', eq-eqb _ _ o'))
        (omega (arith, size))
        (rw words words_small)
        (rw bytes bytes_small)
        (le_refl _)
        (rw words (omega (arith, size)))
        (rw bytes_offset (omega arith))
        (rw (bytes_offset, bytes) (omega (arith, size)))
        held
        named

    loads : load_left (record { file = file w P D; board = board; range = range; P = P'; D = D'; I = I'; O = O' })
        ≡ record { reply = accepted; state = with_range range (reset_on board); P = loaded_p board (file w P D); D = loaded_d board (file w P D); I = replicate 256 0; O = replicate 256 0 }
    loads = sym (left_by _ accepts (accepted_left_lem (file w P D) board range refl refl refl refl refl))

module _ (s : State) (range : Range) (named : range_fits range ≡ true) (P D : List ℕ) (p : length P ≡ 65536) (d : length D ≡ 65536) where
  -- the data memory with its locked bytes zero
  E : List ℕ
  E = unlocked s D

  e_length : length E ≡ 65536
  unfolding E
  e_length = unlocked_length s D ∙ d

  data_back : take (bytes_kept E) E ++ replicate (65536 - bytes_kept E) 0 ≡ E
  data_back = rest_zero E _ 65536 e_length (le_refl _) (bytes_within E)

  module _ (P' D' I' O' : List ℕ) (p' : length P' ≡ 65536) (d' : length D' ≡ 65536) (i' : length I' ≡ 256) (o' : length O' ≡ 256) where
    pub loads_back :
        is_single s ≡ false
        → load_left (record { file = saved_file s P D; board = TwoMemories; range = range; P = P'; D = D'; I = I'; O = O' })
        ≡ record { reply = accepted; state = with_range range reset; P = P; D = unlocked s D; I = replicate 256 0; O = replicate 256 0 }
    unfolding saved_file E
    loads_back e =
        let w = words_kept P in
        let program : memory_of (file w P E) (program_offset (file w P E)) (2 * W (file w P E)) ≡ P =
        rw (the_program_part w P E (words_within P) p e_length, words w P E (words_within P) p e_length) (rest_zero P _ 65536 p (omega (arith, words_kept_lem P p refl)) (words_within P)) in
        let contents : memory_of (file w P E) (data_offset (file w P E)) (C (file w P E)) ≡ E =
        rw (the_data_part w P E (words_within P) p e_length, bytes w P E (words_within P) p e_length) data_back in
        rw e (loads w P E (words_within P) p e_length TwoMemories range named refl P' D' I' O' p' d' i' o')
        ∙ (λ i. record { reply = accepted; state = with_range range reset; P = program i; D = contents i; I = replicate 256 0; O = replicate 256 0 })

    pub loads_back_single :
        is_single s ≡ true
        → load_left (record { file = saved_file s P D; board = SingleMemory; range = range; P = P'; D = D'; I = I'; O = O' })
        ≡ record { reply = accepted; state = with_range range (reset_on SingleMemory); P = replicate 65536 0; D = unlocked s D; I = replicate 256 0; O = replicate 256 0 }
    unfolding saved_file E
    loads_back_single e =
        let within : 2 * 0 ≤ length P = omega arith in
        let held : board_holds SingleMemory (file 0 P E) ≡ true =
        rw (words 0 P E within p e_length, bytes 0 P E within p e_length) (le-leb (0 + bytes_kept E) 65536 (omega (arith, bytes_within E, e_length))) in
        let contents : single_memory_of (file 0 P E) ≡ E =
        (λ i. the_program_part 0 P E within p e_length i ++ the_data_part 0 P E within p e_length i ++ replicate (65536 - (2 * words 0 P E within p e_length i + bytes 0 P E within p e_length i)) 0) ∙ rw zero-add data_back in
        rw e (loads 0 P E within p e_length SingleMemory range named held P' D' I' O' p' d' i' o')
        ∙ ap (λ (M : List ℕ). record { reply = accepted; state = with_range range (reset_on SingleMemory); P = replicate 65536 0; D = M; I = replicate 256 0; O = replicate 256 0 }) contents

-- ---- What is kept ends with no zero, and is the least that leaves only zeros after it

module _ (P : List ℕ) where
  words_cut : Cut (λ k. word_at P (2 * k)) (length P / 2) (words_kept P)
  words_cut = cut (λ k. word_at P (2 * k)) (length P / 2)

  pub last_word : (k : ℕ) → suc k ≡ words_kept P → word_at P (2 * k) ≡ 0 → ⊥
  last_word = words_cut.last

  pub least_words : (w : ℕ) → ((k : ℕ) → w ≤ k → k < length P / 2 → word_at P (2 * k) ≡ 0) → words_kept P ≤ w
  least_words w z = least _ words_cut w z

module _ (D : List ℕ) where
  bytes_cut : Cut (λ k. get_or D k 0) (length D) (bytes_kept D)
  bytes_cut = cut (λ k. get_or D k 0) (length D)

  pub last_byte : (k : ℕ) → suc k ≡ bytes_kept D → get_or D k 0 ≡ 0 → ⊥
  last_byte = bytes_cut.last

  pub least_bytes : (c : ℕ) → ((k : ℕ) → c ≤ k → k < length D → get_or D k 0 ≡ 0) → bytes_kept D ≤ c
  least_bytes c z = least _ bytes_cut c z

-- ---- The replies

abbrev pub WrongLength : SaveGiven → Type 0
WrongLength g = (length g.P ≡ 65536 → ⊥) ⊎ (length g.D ≡ 65536 → ⊥)

abbrev pub RightLengths : SaveGiven → Type 0
RightLengths g = (length g.P ≡ 65536) × (length g.D ≡ 65536)

abbrev size : SaveGiven → ℕ
size g = length (saved_file g.state g.P g.D)

-- what the tests find, and the reply to it
pub data Found (g : SaveGiven) : SaveReply → Type 0 where
  lengths : WrongLength g → Found g (save_refused 1)
  short : RightLengths g → length g.destination < size g → Found g (save_refused 9)
  room : RightLengths g → size g ≤ length g.destination → Found g (saved (size g))

module _ (g : SaveGiven) where
  pub decided : {r : SaveReply} → Found g r → r ≡ save_reply g
  unfolding save_reply
  decided (lengths (inl n)) = rw (ne_eqb _ _ n)
  decided (lengths (inr n)) = rw (ne_eqb _ _ n, and-false)
  decided (short l h) = rw (eq-eqb _ _ l.0, eq-eqb _ _ l.1, lt-leb _ _ h)
  decided (room l h) = rw (eq-eqb _ _ l.0, eq-eqb _ _ l.1, le-leb _ _ h)

  some : (r : SaveReply) × Found g r
  some =
      elim (ℕ_discrete (length g.P) 65536) [
        | no n ↦ (_, lengths (inl n))
        | yes p ↦
            elim (ℕ_discrete (length g.D) 65536) [
              | no n ↦ (_, lengths (inr n))
              | yes d ↦
                  elim (dec_le (size g) (length g.destination)) [
                    | yes h ↦ (_, room (p, d) h)
                    | no h ↦ (_, short (p, d) (omega arith))
                  ]
            ]
      ]

  -- the reply that stands in what is left
  reply_of_lem : (r : SaveReply) → (save_left_by r g).reply ≡ r
  reply_of_lem (saved n) = refl
  reply_of_lem (save_refused k) = refl

  pub replies : {r : SaveReply} → Found g r → (save_left g).reply ≡ r
  unfolding save_left
  replies f = reply_of_lem (save_reply g) ∙ sym (decided f)

  Why : SaveReply → Type 0
  Why (saved n) = (n ≡ size g) × RightLengths g × (size g ≤ length g.destination)
  Why (save_refused k) = ((k ≡ 1) × WrongLength g) ⊎ ((k ≡ 9) × RightLengths g × (length g.destination < size g))

  why_found : {r : SaveReply} → Found g r → Why r
  unfolding Why
  why_found (lengths h) = inl (refl, h)
  why_found (short l h) = inr (refl, l, h)
  why_found (room l h) = (refl, l, h)

  why : {r : SaveReply} → (save_left g).reply ≡ r → Why r
  why e = rw (sym (replies some.1) ∙ e) at (why_found some.1)

  pub number_1 : ((save_left g).reply ≡ save_refused 1) ↔ WrongLength g
  unfolding Why
  number_1 = (λ e. ⊎_elim (λ w. w.1) (λ w. absurd (omega (arith, w.0))) (why e), λ h. replies (lengths h))

  pub number_9 : ((save_left g).reply ≡ save_refused 9) ↔ (RightLengths g × (length g.destination < size g))
  unfolding Why
  number_9 = (λ e. ⊎_elim (λ w. absurd (omega (arith, w.0))) (λ w. (w.1, w.2)) (why e), λ h. replies (short h.0 h.1))

  pub saves : (n : ℕ) → ((save_left g).reply ≡ saved n) ↔ ((n ≡ size g) × RightLengths g × (size g ≤ length g.destination))
  unfolding Why
  saves n = (λ e. why e, λ h. replies (room h.1 h.2) ∙ ap saved (sym h.0))

  pub no_other : (k : ℕ) → (save_left g).reply ≡ save_refused k → (k ≡ 1) ⊎ (k ≡ 9)
  unfolding Why
  no_other k e = ⊎_elim (λ w. inl w.0) (λ w. inr w.0) (why e)

  -- where refused, nothing lent has changed
  pub nothing_changes : (k : ℕ) → (save_left g).reply ≡ save_refused k → save_left g ≡ record { reply = save_refused k; state = g.state; P = g.P; D = g.D; destination = g.destination }
  unfolding save_left
  nothing_changes k e = ap (λ r. save_left_by r g) (sym (reply_of_lem (save_reply g)) ∙ e)
