-- The refusals of a page: the loop that looks at trim after trim, and the verdict from the tests on the way.
-- Assumes nothing.
use mathlib.Core.Path.{◌≡◌, refl, sym, ap, ◌∙◌}
use mathlib.Core.Bool.{true, ◌&&◌, and-eq-true_iff}
use mathlib.Core.List.{List, [], ◌∷◌, map}
use Prim.Native.Nat.{ℕ, zero, suc, ◌+◌, ◌-◌, ◌*◌, ◌<◌, ◌≤◌}
use native.Mathlib.Nat.{le_of_suc-le-suc, not-suc-le-zero}
use native.Mathlib.Omega.{arith}
use borrow.Author.Tests.{le-leb, lt-leb, leb-true, eq-eqb, ne_eqb, eqb-true}
use lib.Dec.{eqb, leb}
use lib.ListN.{length, get_or, take, drop, length-map}
use Rattle.refusal.specs.Refusals.{Verdict, accepted, refused}
use Rattle.word.specs.Word.{pick}
use Rattle.word.proofs.Tests.{clash, passed}
use Rattle.machine.specs.declared.State.{State}
use Rattle.machine.specs.Machine.{reset, even_places}
use Rattle.machine.specs.Lengths.{lengths_fit}
use Rattle.run.specs.Runs.{verdict, verdict_on}
use Rattle.page.specs.Pages.{PageGiven, up_from, trim, joined_fit, first_refusal, page_verdict}
use Rattle.page.specs.Parts.{Each, in_order, Whole}

-- what stands past a list does not matter within it
pub get_or_within : {A : Type 0} (xs : List A) (i : ℕ) (d e : A) → i < length xs → get_or xs i d ≡ get_or xs i e
get_or_within [] i d e h = absurd (not-suc-le-zero h)
get_or_within (x ∷ xs) zero d e h = refl
get_or_within (x ∷ xs) (suc i) d e h = get_or_within xs i d e (le_of_suc-le-suc h)

-- an array's length, where its elements are told by parts
pub mapped_long : (A B : Type 0) (f : A → B) (xs : List A) (n : ℕ) → length (map f xs) ≡ n → length xs ≡ n
mapped_long A B f xs n e = sym (length-map xs f) ∙ e

-- ---- Trim after trim

module _ (g : PageGiven) where
  -- of trim k
  abbrev verdict_at : ℕ → Verdict
  verdict_at k = verdict_on (trim g g.budget k)

  -- of the parts that are lent for trim i, where d stands past the states
  abbrev verdict_lent : ℕ → State → Verdict
  verdict_lent i d =
      let s = get_or g.states i d in
      let m = i * 65536 + 65536 - i * 65536 in
      let p = i * 256 + 256 - i * 256 in
      verdict s (take m (drop (i * 65536) g.P)) (take m (drop (i * 65536) g.D)) (take p (drop (i * 256) g.I)) (take p (drop (i * 256) g.O)) g.budget

  verdict_is : (i : ℕ) (d : State) → i < length g.states → verdict_lent i d ≡ verdict_at i
  verdict_is i d h =
      let s = get_or_within g.states i d reset h in
      let m : i * 65536 + 65536 - i * 65536 ≡ 65536 = omega arith in
      let p : i * 256 + 256 - i * 256 ≡ 256 = omega arith in
      λ j.
      verdict (s j) (take (m j) (drop (i * 65536) g.P)) (take (m j) (drop (i * 65536) g.D)) (take (p j) (drop (i * 256) g.I)) (take (p j) (drop (i * 256) g.O))
      g.budget

  -- the trims before i are accepted
  pub record Checking (i : ℕ) : Type 0 where
    pub place : i ≤ g.count
    pub others : first_refusal (map verdict_at (up_from i (g.count - i))) ≡ in_order g

  module _ {i : ℕ} (c : Checking i) where
    module _ (h : i < g.count) where
      next_is : up_from i (g.count - i) ≡ i ∷ up_from (i + 1) (g.count - (i + 1))
      unfolding up_from
      next_is =
          let n : g.count - i ≡ suc (g.count - (i + 1)) = omega arith in
          let m : suc i ≡ i + 1 = omega arith in
          ap (up_from i) n ∙ ap (λ k. i ∷ up_from k (g.count - (i + 1))) m

      pub check_next : i < length g.states → (d : State) → accepted ≡ verdict_lent i d → Checking (i + 1)
      unfolding first_refusal
      check_next w d e =
          let rest = map verdict_at (up_from (i + 1) (g.count - (i + 1))) in
          record {
            place = omega arith;
            others =
                ap (λ v. first_refusal (v ∷ rest)) (e ∙ verdict_is i d w) ∙ ap (λ ks. first_refusal (map verdict_at ks)) (sym next_is) ∙ c.others;
          }

      pub check_refuses : i < length g.states → (d : State) {k : ℕ} → refused k ≡ verdict_lent i d → refused k ≡ in_order g
      unfolding first_refusal
      check_refuses w d e =
          let rest = map verdict_at (up_from (i + 1) (g.count - (i + 1))) in
          ap (λ v. first_refusal (v ∷ rest)) (e ∙ verdict_is i d w) ∙ ap (λ ks. first_refusal (map verdict_at ks)) (sym next_is) ∙ c.others

    pub check_ends : g.count ≤ i → accepted ≡ in_order g
    unfolding first_refusal up_from
    check_ends h = let n : 0 ≡ g.count - i = omega arith in ap (λ k. first_refusal (map verdict_at (up_from i k))) n ∙ c.others

-- ---- The verdict from the tests on the way

module _ (g : PageGiven) where
  pub refuses_none : g.count ≡ 0 → refused 17 ≡ page_verdict g
  unfolding page_verdict
  refuses_none e = rw e

  pub refuses_many : 8 < g.count → refused 17 ≡ page_verdict g
  unfolding page_verdict
  refuses_many h = let e : leb 1 g.count ≡ true = le-leb 1 g.count (omega arith) in rw (e, lt-leb _ _ h)

  module _ (some : g.count ≡ 0 → ⊥) (few : g.count ≤ 8) where
    -- by the test of the lengths
    pub by_lengths : pick (joined_fit g) (in_order g) (refused 1) ≡ page_verdict g
    unfolding page_verdict
    by_lengths = let e : leb 1 g.count ≡ true = le-leb 1 g.count (omega arith) in rw (e, le-leb _ _ few)

    pub refuses-P : (length g.P ≡ g.count * 65536 → ⊥) → refused 1 ≡ page_verdict g
    refuses-P n = rw (ne_eqb _ _ n) at by_lengths

    module _ (p : length g.P ≡ g.count * 65536) where
      pub refuses-D : (length g.D ≡ g.count * 65536 → ⊥) → refused 1 ≡ page_verdict g
      refuses-D n = rw (eq-eqb _ _ p, ne_eqb _ _ n) at by_lengths

      module _ (d : length g.D ≡ g.count * 65536) where
        pub refuses-I : (length g.I ≡ g.count * 256 → ⊥) → refused 1 ≡ page_verdict g
        refuses-I n = rw (eq-eqb _ _ p, eq-eqb _ _ d, ne_eqb _ _ n) at by_lengths

        module _ (i : length g.I ≡ g.count * 256) where
          pub refuses-O : (length g.O ≡ g.count * 256 → ⊥) → refused 1 ≡ page_verdict g
          refuses-O n = rw (eq-eqb _ _ p, eq-eqb _ _ d, eq-eqb _ _ i, ne_eqb _ _ n) at by_lengths

          pub by_trims : length g.O ≡ g.count * 256 → {v : Verdict} → v ≡ in_order g → v ≡ page_verdict g
          by_trims o e = e ∙ (rw (eq-eqb _ _ p, eq-eqb _ _ d, eq-eqb _ _ i, eq-eqb _ _ o) at by_lengths)

-- ---- What an accepted page leaves known

-- the first trim's counts: where none is refused, each is accepted
each_accepted : (test : ℕ → Verdict) (k m : ℕ) → first_refusal (map test (up_from k m)) ≡ accepted → Each (λ j. test j ≡ accepted) (up_from k m)
unfolding first_refusal up_from
each_accepted test k zero e = tt
each_accepted test k (suc m) e = by_verdict (each_accepted test (suc k) m) (test k) refl e
  where
    by_verdict : (first_refusal (map test (up_from (suc k) m)) ≡ accepted → Each (λ j. test j ≡ accepted) (up_from (suc k) m)) → (v : Verdict) → test k ≡ v
        → first_refusal (v ∷ map test (up_from (suc k) m)) ≡ accepted → Each (λ j. test j ≡ accepted) (k ∷ up_from (suc k) m)
    by_verdict others accepted z f = (z, others f)
    by_verdict others (refused n) z f = clash (cc)

pub record Accepts (g : PageGiven) : Type 0 where
  pub some : 1 ≤ g.count
  pub whole : Whole g.count g.P g.D g.I g.O
  pub trims : Each (λ k. verdict_on (trim g g.budget k) ≡ accepted) (up_from 0 g.count)

pub accepts : (g : PageGiven) → accepted ≡ page_verdict g → Accepts g
unfolding page_verdict
accepts g e =
    let number = passed (leb 1 g.count && leb g.count 8) (λ x. clash (cc)) (sym e) in
    let lengths = passed (joined_fit g) (λ x. clash (cc)) number.1 in
    let n = (and-eq-true_iff (leb 1 g.count) (leb g.count 8)).0 number.0 in
    let to-O = (and-eq-true_iff _ (eqb (length g.O) (g.count * 256))).0 lengths.0 in
    let to-I = (and-eq-true_iff _ (eqb (length g.I) (g.count * 256))).0 to-O.0 in
    let to-D = (and-eq-true_iff (eqb (length g.P) (g.count * 65536)) _).0 to-I.0 in
    record {
      some = leb-true _ _ n.0;
      whole =
          record {
            few = leb-true _ _ n.1;
            programs = eqb-true _ _ to-D.0;
            memories = eqb-true _ _ to-D.1;
            inputs = eqb-true _ _ to-I.1;
            outputs = eqb-true _ _ to-O.1;
          };
      trims = each_accepted (λ k. verdict_on (trim g g.budget k)) 0 g.count lengths.1;
    }

-- a run that is accepted is accepted with less
pub accepted_less : (s : State) (P D I O : List ℕ) {b c : ℕ} → c ≤ b → verdict s P D I O b ≡ accepted → verdict s P D I O c ≡ accepted
unfolding verdict
accepted_less s P D I O {b} {c} h e =
    let lent = passed (lengths_fit P D I O) (λ x. clash (cc)) e in
    let even = passed (even_places s) (λ x. clash (cc)) lent.1 in
    let few = passed (leb (s.n + b) 4294967295) (λ x. clash (cc)) even.1 in
    let below : s.n + b ≤ 4294967295 = leb-true _ _ few.0 in
    rw (lent.0, even.0, le-leb (s.n + c) 4294967295 (omega arith))
