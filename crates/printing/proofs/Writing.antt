-- Writings one after another, a text for each element of a list, and the whole text where there is room for it.
-- Assumes nothing.
use Prim.Native.Nat.{ℕ, zero, suc, ◌+◌, ◌-◌, ◌*◌, ◌≤◌}
use mathlib.Core.Path.{◌≡◌, refl, sym, ap, ◌∙◌}
use mathlib.Core.List.{List, [], ◌∷◌, ◌++◌, append_assoc, append-nil}
use native.Mathlib.Omega.{arith}
use lib.ListN.{length, take, length-append}
use lib.Seq.{take_all}
use denote.Param.Members.{Mut}
use Rattle.std.specs.Prelude.{min}
use Rattle.std.specs.Fn.{Called}
use Rattle.std.specs.List.{FoldsTo}
use Rattle.std.specs.Iterator.{Drains}
use Rattle.std.specs.declared.option.Option.{Option}
use Rattle.std.proofs.lemmas.Fn.{fold_over}
use Rattle.std.proofs.lemmas.Iterator.{YieldsList}
use Rattle.printing.specs.Text.{each}
use Rattle.printing.specs.Writing.{Wrote}

-- ---- Writings one after another

pub wrote_nothing : {most : ℕ} {t : List ℕ} → Wrote most [] t t
wrote_nothing {most} {t} =
    let e : take {A = ℕ} (4096 - length t) [] ≡ [] = take_all (4096 - length t) [] (omega arith) in
    record { written = rw e (sym (append-nil t)); short = omega arith }

take_within : (k : ℕ) (word : List ℕ) → take (min k (length word)) word ≡ take k word
take_within zero word = let e : min 0 (length word) ≡ 0 = omega arith in rw e
take_within (suc k) [] = take_all (min (suc k) 0) [] (omega arith)
take_within (suc k) (b ∷ word) =
    let e : min (suc k) (suc (length word)) ≡ suc (min k (length word)) = omega arith in
    rw e (ap (λ l. b ∷ l) (take_within k word))

pub wrote_word : {t word r : List ℕ} → r ≡ t ++ take (min (4096 - length t) (length word)) word → Wrote (length word) word t r
wrote_word {t} {word} e = record { written = e ∙ ap (λ l. t ++ l) (take_within (4096 - length t) word); short = omega arith }

take_append : (k : ℕ) (xs ys : List ℕ) → take k xs ++ take (k - length (take k xs)) ys ≡ take k (xs ++ ys)
take_append zero xs ys = refl
take_append (suc k) [] ys = let e : suc k - 0 ≡ suc k = omega arith in rw e
take_append (suc k) (x ∷ xs) ys =
    let e : suc k - suc (length (take k xs)) ≡ k - length (take k xs) = omega arith in
    rw e (ap (λ l. x ∷ l) (take_append k xs ys))

infixl 65 ◌then◌
pub ◌then◌ : {a b : ℕ} {xs ys t u r : List ℕ} → Wrote a xs t u → Wrote b ys u r → Wrote (a + b) (xs ++ ys) t r
◌then◌ {a} {b} {xs} {ys} {t} {u} {r} v w =
    let k = 4096 - length t in
    let room : 4096 - length (t ++ take k xs) ≡ k - length (take k xs) = rw length-append (omega arith) in
    record {
      written =
          w.written
          ∙ ap (λ s. s ++ take (4096 - length s) ys) v.written
          ∙ ap (λ n. (t ++ take k xs) ++ take n ys) room
          ∙ append_assoc t (take k xs) (take (k - length (take k xs)) ys)
          ∙ ap (λ l. t ++ l) (take_append k xs ys);
      short = rw (length-append xs ys) (omega (arith, v.short, w.short));
    }

pub at_most : {a b : ℕ} {text t r : List ℕ} → a ≤ b → Wrote a text t r → Wrote b text t r
at_most h w = record { written = w.written; short = omega (arith, w.short) }

-- the whole text is there where there is room for it
pub wrote_held : {most : ℕ} {text t r : List ℕ} → t ≡ [] → Wrote most text t r → most ≤ 4096 → r ≡ text
wrote_held {most} {text} {t} {r} e w h = w.written ∙ ap (λ s. s ++ take (4096 - length s) text) e ∙ take_all 4096 text (omega (arith, w.short))

-- ---- A text for each element

each_append : (f : ℕ → List ℕ) (xs ys : List ℕ) → each f (xs ++ ys) ≡ each f xs ++ each f ys
unfolding each
each_append f [] ys = refl
each_append f (x ∷ xs) ys = ap (λ l. f x ++ l) (each_append f xs ys) ∙ sym (append_assoc (f x) (each f xs) (each f ys))

each_one : (f : ℕ → List ℕ) (x : ℕ) → each f (x ∷ []) ≡ f x
unfolding each
each_one f x = append-nil (f x)

-- a text has been written for each element of xs
record WroteEach (f : ℕ → List ℕ) (most : ℕ) (t xs r : List ℕ) : Type 0 where
  wrote : Wrote (most * length xs) (each f xs) t r

none : (f : ℕ → List ℕ) (most : ℕ) (t : List ℕ) → WroteEach f most t [] t
unfolding each
none f most t = record { wrote = wrote_nothing }

one_more : {f : ℕ → List ℕ} {most : ℕ} {t xs u r : List ℕ} {x : ℕ} → WroteEach f most t xs u → Wrote most (f x) u r
    → WroteEach f most t (xs ++ (x ∷ [])) r
one_more {f} {most} {xs = xs} {x = x} v w =
    let z = v.wrote then w in
    let e : each f (xs ++ (x ∷ [])) ≡ each f xs ++ f x = each_append f xs (x ∷ []) ∙ ap (λ l. each f xs ++ l) (each_one f x) in
    record { wrote = record { written = rw e z.written; short = rw (e, length-append xs (x ∷ [])) (omega (arith, z.short)) } }

-- what a fold writes, where each call writes the text of its element
module _ {S A F : Type 0} {steps : S → Option A → S → Type 0} {v : A → ℕ} (g : Mut F (List ℕ × (A × Unit {0})) (List ℕ)) {f : F}
    (text : ℕ → List ℕ) (most : ℕ) where
  pub folded : {s : S} {l t r : List ℕ} → YieldsList steps v s l
      → ((t : List ℕ) (x : A) (r : List ℕ) (f' : F) → Called g f (t, (x, tt)) r f' → Wrote most (text (v x)) t r × (f' ≡ f))
      → (xs : List A) × (f' : F) × Drains steps s xs × FoldsTo {P = F × List ℕ} (λ p x q. Called g p.0 (p.1, (x, tt)) q.1 q.0) (f, t) xs (f', r)
      → Wrote (most * length l) (each text l) t r
  folded {s} {l} {t} {r} from step ran =
      (fold_over steps v g (WroteEach text most t) f (λ xs t x r f' w k. let one = step t x r f' k in (one_more w one.0, one.1)) s l t r from.runs (none text most t) ran).wrote
