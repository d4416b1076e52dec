-- A part of a joined list: what is cut out of it, and what is put back.
-- Assumes nothing.
use mathlib.Core.Path.{◌≡◌, refl, sym, ap, ◌∙◌}
use mathlib.Core.List.{List, [], ◌∷◌, ◌++◌, append_assoc}
use Prim.Native.Nat.{ℕ, ◌+◌, ◌-◌, ◌*◌, ◌≤◌}
use native.Mathlib.Nat.{suc-mul}
use native.Mathlib.Omega.{arith}
use lib.ListN.{length, take, drop, length-append, length-take, length-drop}
use lib.Seq.{take_at, drop_at, take-append-add, drop-append-add, take-append-le, drop-append-le}
use Rattle.run.specs.Runs.{CountedLeft}
use Rattle.page.specs.Pages.{rejoined}
use Rattle.page.specs.Parts.{Joins}

-- ---- A part from k places after its start on

module _ (pre l post : List ℕ) {xs : List ℕ} (is : xs ≡ pre ++ (l ++ post)) (from to k : ℕ) (begins : from ≡ length pre + k) (ends : to ≡ length pre + length l) (within : k ≤ length l) where
  size : to - from ≡ length (drop k l)
  size = omega (arith, length-drop k l)

  rest_from : drop from xs ≡ drop k l ++ post
  rest_from =
      ap (drop from) is
      ∙ ap (λ n. drop n (pre ++ (l ++ post))) begins
      ∙ drop-append-add pre (l ++ post) k
      ∙ drop-append-le k l post within

  pub cut : take (to - from) (drop from xs) ≡ drop k l
  cut = ap (take (to - from)) rest_from ∙ take_at (drop k l) post (to - from) (sym size)

  pub put : (ys : List ℕ) → take from xs ++ (ys ++ drop (to - from) (drop from xs)) ≡ pre ++ ((take k l ++ ys) ++ post)
  put ys =
      let front : take from xs ≡ pre ++ take k l =
      ap (take from) is
      ∙ ap (λ n. take n (pre ++ (l ++ post))) begins
      ∙ take-append-add pre (l ++ post) k
      ∙ ap (λ x. pre ++ x) (take-append-le k l post within) in
      let after : drop (to - from) (drop from xs) ≡ post = ap (drop (to - from)) rest_from ∙ drop_at (drop k l) post (to - from) (sym size) in
      (λ i. front i ++ (ys ++ after i)) ∙ append_assoc pre (take k l) (ys ++ post) ∙ ap (λ x. pre ++ x) (sym (append_assoc (take k l) ys post))

-- ---- The part of one of the trims

-- xs, with the list of c between those before and after it
pub record Around (n : ℕ) (f : CountedLeft → List ℕ) (past : List ℕ) (done : List CountedLeft) (c : CountedLeft) (todo : List CountedLeft) (xs : List ℕ) : Type 0 where
  pub pre : List ℕ
  pub post : List ℕ
  pub is : xs ≡ pre ++ (f c ++ post)
  pub start : length pre ≡ length done * n
  pub long : length (f c) ≡ n
  pub again : (d : CountedLeft) → length (f d) ≡ n → Joins n f past (done ++ d ∷ todo) (pre ++ (f d ++ post))

pub around : {n : ℕ} {f : CountedLeft → List ℕ} {past : List ℕ} (done : List CountedLeft) {c : CountedLeft} {todo : List CountedLeft} {xs : List ℕ}
    → Joins n f past (done ++ c ∷ todo) xs → Around n f past done c todo xs
unfolding rejoined
around {n} {f} {past} [] {c} {todo} j =
    record {
      pre = [];
      post = rejoined f todo ++ past;
      is = j.is ∙ append_assoc (f c) (rejoined f todo) past;
      start = omega arith;
      long = j.sized.0;
      again = λ d e. record { sized = (e, j.sized.1); is = sym (append_assoc (f d) (rejoined f todo) past) };
    }
around {n} {f} {past} (b ∷ done) {c} {todo} j =
    let r = around {n = n} {f = f} {past = past} done (record { sized = j.sized.1; is = refl }) in
    record {
      pre = f b ++ r.pre;
      post = r.post;
      is = j.is ∙ append_assoc (f b) _ past ∙ ap (λ x. f b ++ x) r.is ∙ sym (append_assoc (f b) r.pre _);
      start = length-append (f b) r.pre ∙ omega (arith, r.start, j.sized.0, suc-mul (length done) n);
      long = r.long;
      again = λ d e.
          record {
            sized = (j.sized.0, (r.again d e).sized);
            is = append_assoc (f b) r.pre _ ∙ ap (λ x. f b ++ x) (r.again d e).is ∙ sym (append_assoc (f b) _ past);
          };
    }

-- ---- By its place

module _ {n : ℕ} {f : CountedLeft → List ℕ} {past : List ℕ} (done : List CountedLeft) (c : CountedLeft) (todo : List CountedLeft) {xs : List ℕ}
    (j : Joins n f past (done ++ c ∷ todo) xs) where
  abbrev here : Around n f past done c todo xs
  here = around done j

  pub long : length (f c) ≡ n
  long = here.long

  pub room : length done * n + n ≤ length xs
  room = let h = here in omega (arith, ap length h.is, length-append h.pre (f c ++ h.post), length-append (f c) h.post, h.start, h.long)

  pub unchanged : (d : CountedLeft) → f d ≡ f c → Joins n f past (done ++ d ∷ todo) xs
  unchanged d e =
      let h = here in
      let z = h.again d (ap length e ∙ h.long) in
      record { sized = z.sized; is = h.is ∙ ap (λ l. h.pre ++ (l ++ h.post)) (sym e) ∙ z.is }

  module _ (from to k : ℕ) (begins : from ≡ length done * n + k) (ends : to ≡ length done * n + n) (within : k ≤ n) where
    abbrev starts : from ≡ length here.pre + k
    starts = begins ∙ ap (λ m. m + k) (sym here.start)

    abbrev stops : to ≡ length here.pre + length (f c)
    stops = ends ∙ (λ i. sym here.start i + sym here.long i)

    abbrev inside : k ≤ length (f c)
    inside = omega (arith, here.long)

    pub cut_out : take (to - from) (drop from xs) ≡ drop k (f c)
    cut_out = cut here.pre (f c) here.post here.is from to k starts stops inside

    pub put_back_lem : (d : CountedLeft) (ys : List ℕ) → f d ≡ take k (f c) ++ ys → length ys ≡ length (take (to - from) (drop from xs))
        → Joins n f past (done ++ d ∷ todo) (take from xs ++ (ys ++ drop (to - from) (drop from xs)))
    put_back_lem d ys e l =
        let h = here in
        let long : length (f d) ≡ n =
        omega (arith, ap length e, length-append (take k (f c)) ys, length-take k (f c), l, ap length cut_out, length-drop k (f c), h.long) in
        let z = h.again d long in
        record { sized = z.sized; is = put h.pre (f c) h.post h.is from to k starts stops inside ys ∙ ap (λ l. h.pre ++ (l ++ h.post)) (sym e) ∙ z.is }
