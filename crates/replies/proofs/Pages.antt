-- The answers of a page's eight trims, one after the other.
-- Assumes nothing.
use Prim.Native.Nat.{ℕ, suc, ◌<◌}
use mathlib.Core.List.{List, [], ◌∷◌, map}
use mathlib.Core.Path.{◌≡◌, sym, ap, ◌∙◌}
use native.Mathlib.Omega.{arith}
use lib.ListN.{length, get_or, drop, drop_of_length-le}
use lib.Seq.{drop-cons}
use Rattle.refusal.specs.Refusals.{Verdict}
use Rattle.page.specs.declared.Trims.{Trims}
use Rattle.page.specs.declared.TrimAnswer.{TrimAnswer}
use Rattle.replies.specs.declared.SisaAnswer.{SisaAnswer}
use Rattle.replies.specs.declared.SisaPage.{SisaPage}
use Rattle.replies.specs.Sisa.{verdict_number, sisa_answer, sisa_page}

module _ {A B : Type 0} (f : A → B) (xs : List A) where
  -- those from k on
  from : (d : A) (k : ℕ) → k < length xs → {y : B} {ys : List B} → y ≡ f (get_or xs k d) → ys ≡ map f (drop (suc k) xs) → y ∷ ys ≡ map f (drop k xs)
  from d k h e es = (λ i. e i ∷ es i) ∙ sym (ap (map f) (drop-cons xs k d h))

  all_eight : length xs ≡ 8 → (d : A) {a b c e g h i j : B}
      → a ≡ f (get_or xs 0 d) → b ≡ f (get_or xs 1 d) → c ≡ f (get_or xs 2 d) → e ≡ f (get_or xs 3 d)
      → g ≡ f (get_or xs 4 d) → h ≡ f (get_or xs 5 d) → i ≡ f (get_or xs 6 d) → j ≡ f (get_or xs 7 d)
      → a ∷ b ∷ c ∷ e ∷ g ∷ h ∷ i ∷ j ∷ [] ≡ map f xs
  all_eight l d p0 p1 p2 p3 p4 p5 p6 p7 =
      from d 0 (omega arith) p0
      (from d 1 (omega arith) p1
      (from d 2 (omega arith) p2
      (from d 3 (omega arith) p3
      (from d 4 (omega arith) p4
      (from d 5 (omega arith) p5
      (from d 6 (omega arith) p6
      (from d 7 (omega arith) p7 (ap (map f) (sym (drop_of_length-le xs {i = 8} (omega arith)))))))))))

-- the page's reply, of its refusal and answers
pub page_in_numbers_lem : (trims : Trims) (reply : Verdict) (xs : List TrimAnswer) → length xs ≡ 8 → (d : TrimAnswer) {k : ℕ} {a b c e g h i j : SisaAnswer} → k ≡ verdict_number reply
    → a ≡ sisa_answer k (get_or xs 0 d) → b ≡ sisa_answer k (get_or xs 1 d) → c ≡ sisa_answer k (get_or xs 2 d) → e ≡ sisa_answer k (get_or xs 3 d)
    → g ≡ sisa_answer k (get_or xs 4 d) → h ≡ sisa_answer k (get_or xs 5 d) → i ≡ sisa_answer k (get_or xs 6 d) → j ≡ sisa_answer k (get_or xs 7 d)
    → ◌≡◌ {A = SisaPage} (record { trims = trims; refusal = k; answers = a ∷ b ∷ c ∷ e ∷ g ∷ h ∷ i ∷ j ∷ [] }) (sisa_page reply trims xs)
page_in_numbers_lem trims reply xs l d {k} n p0 p1 p2 p3 p4 p5 p6 p7 =
    (λ t. record { trims = trims; refusal = k; answers = all_eight (sisa_answer k) xs l d p0 p1 p2 p3 p4 p5 p6 p7 t })
    ∙ ap (λ (m : ℕ). record { trims = trims; refusal = m; answers = map (sisa_answer m) xs }) n
