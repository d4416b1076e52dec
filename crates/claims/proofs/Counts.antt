-- The counts of an accepted run are those of the steps that it reports: induction on the budget.
-- Assumes nothing.
use mathlib.Core.Path.{◌≡◌, refl, sym, ◌∙◌, ap, subst}
use mathlib.Core.Bool.{Bool, true, false, not, ◌&&◌}
use mathlib.Core.List.{List, [], ◌∷◌}
use Prim.Native.Nat.{ℕ, zero, suc, ◌+◌, ◌≤◌, ◌<◌}
use native.Mathlib.Omega.{arith}
use borrow.Author.Tests.{eqb-true, eqb-false, ne_eqb}
use lib.Dec.{eqb}
use lib.ListN.{length, get_or, replicate, length-replicate}
use Rattle.word.specs.Fields.{opcode, e_of, f_of}
use Rattle.word.specs.Word.{pick, flag}
use Rattle.word.proofs.Tests.{clash}
use Rattle.kinds.specs.declared.Kind.{Kind}
use Rattle.kinds.specs.Kinds.{kind_number, kind_count}
use Rattle.std.specs.Prelude.{Option}
use Rattle.std.specs.declared.option.Option.TheVariants.{Some, None}
use Rattle.isa.specs.Sheet.{kind_at}
use Rattle.isa.specs.Instructions.{read_as, read_of}
use Rattle.isa.specs.Masks.{Masks, in_mask, masks_of}
use Rattle.isa.proofs.Every.{listed}
use Rattle.machine.specs.Machine.{Machine, takes_line, fetch_locked}
use Rattle.machine.specs.Step.{Next, cannot, to, fetched, step}
use Rattle.machine.specs.Run.{by_rules, Outcome, no_place_at, unless, run_from, trace_from}
use Rattle.control.proofs.Laws.{lawful_rules}
use Rattle.usage.specs.declared.Usage.{Usage}
use Rattle.usage.specs.Usage.{is_kind, word_is, added_from, counted, took_lines, step_counted, unused, usage_of, plus_counts, plus_usage}
use Rattle.claims.specs.Usage.{total}
use Rattle.claims_sheet.specs.Rules.{FetchesNow}
use Rattle.claims_sheet.proofs.Rules.{rules}

-- ---- Lists of counts

-- n places, none over k
pub record Within (xs : List ℕ) (n k : ℕ) : Type 0 where
  pub long : length xs ≡ n
  pub at : (j : ℕ) → get_or xs j 0 ≤ k

pub at_total : (xs : List ℕ) (j : ℕ) → get_or xs j 0 ≤ total xs
unfolding total
at_total [] j = omega arith
at_total (x ∷ xs) zero = omega arith
at_total (x ∷ xs) (suc j) = omega (arith, at_total xs j)

plus_long : (xs ys : List ℕ) → length xs ≡ length ys → length (plus_counts xs ys) ≡ length ys
unfolding plus_counts
plus_long [] ys e = e
plus_long (x ∷ xs) [] e = refl
plus_long (x ∷ xs) (y ∷ ys) e = ap suc (plus_long xs ys (omega arith))

pub plus_at : (xs ys : List ℕ) → length xs ≡ length ys → (j : ℕ) → get_or (plus_counts xs ys) j 0 ≡ get_or xs j 0 + get_or ys j 0
unfolding plus_counts
plus_at [] [] e j = refl
plus_at [] (y ∷ ys) e j = absurd (omega arith)
plus_at (x ∷ xs) [] e j = absurd (omega arith)
plus_at (x ∷ xs) (y ∷ ys) e zero = refl
plus_at (x ∷ xs) (y ∷ ys) e (suc j) = plus_at xs ys (omega arith) j

plus_total : (xs ys : List ℕ) → length xs ≡ length ys → total (plus_counts xs ys) ≡ total xs + total ys
unfolding plus_counts total
plus_total [] [] e = refl
plus_total [] (y ∷ ys) e = absurd (omega arith)
plus_total (x ∷ xs) [] e = absurd (omega arith)
plus_total (x ∷ xs) (y ∷ ys) e = omega (arith, plus_total xs ys (omega arith))

added_long : (k : ℕ) (test : ℕ → Bool) (xs : List ℕ) → length (added_from k test xs) ≡ length xs
unfolding added_from
added_long k test [] = refl
added_long k test (x ∷ xs) = ap suc (added_long (suc k) test xs)

at_most_1 : (t : Bool) → flag t ≤ 1
at_most_1 true = omega arith
at_most_1 false = omega arith

added_at : (k : ℕ) (test : ℕ → Bool) (xs : List ℕ) (j : ℕ) → get_or (added_from k test xs) j 0 ≤ get_or xs j 0 + 1
unfolding added_from
added_at k test [] j = omega arith
added_at k test (x ∷ xs) zero = omega (arith, at_most_1 (test k))
added_at k test (x ∷ xs) (suc j) = added_at (suc k) test xs j

-- where the test holds of none, it adds nothing
added_none : (k : ℕ) (xs : List ℕ) → total (added_from k (λ j. false) xs) ≡ total xs
unfolding added_from total
added_none k [] = refl
added_none k (x ∷ xs) = omega (arith, added_none (suc k) xs)

-- where the test is that of one number, it adds 1 if that is the number of a place
added_past : (c k : ℕ) (xs : List ℕ) → c < k → total (added_from k (eqb c) xs) ≡ total xs
unfolding added_from total
added_past c k [] h = refl
added_past c k (x ∷ xs) h = rw (ne_eqb c k (λ e. omega arith)) (omega (arith, added_past c (suc k) xs (omega arith)))

added_one : (c k : ℕ) (xs : List ℕ) → k ≤ c → c < k + length xs → total (added_from k (eqb c) xs) ≡ total xs + 1
unfolding added_from total
added_one c k [] h l = absurd (omega arith)
added_one c k (x ∷ xs) h l = go (eqb c k) refl (λ h. added_one c (suc k) xs h (omega arith))
  where
    go : (t : Bool) → eqb c k ≡ t → (suc k ≤ c → total (added_from (suc k) (eqb c) xs) ≡ total xs + 1) → (x + flag t) + total (added_from (suc k) (eqb c) xs) ≡ (x + total xs) + 1
    go true e r = omega (arith, added_past c (suc k) xs (omega (arith, eqb-true c k e)))
    go false e r = omega (arith, r (omega (arith, eqb-false c k e)))

-- ---- Usages

-- the counts of n steps
pub record Counts (u : Usage) (n : ℕ) : Type 0 where
  pub kinds : length u.kinds ≡ kind_count
  pub sum : total u.kinds + u.taken ≡ n
  pub reads : Within u.reads 8 n
  pub writes : Within u.writes 8 n

zeros : (n : ℕ) → Within (replicate n 0) n 0
zeros n = record { long = length-replicate n 0; at = at n }
  where
    at : (n j : ℕ) → get_or (replicate n 0) j 0 ≤ 0
    at zero j = omega arith
    at (suc n) zero = omega arith
    at (suc n) (suc j) = at n j

pub counts_none : Counts unused 0
unfolding total
counts_none = record { kinds = refl; sum = refl; reads = zeros 8; writes = zeros 8 }

plus_within : (xs ys : List ℕ) (n k l : ℕ) → Within xs n k → Within ys n l → Within (plus_counts xs ys) n (k + l)
plus_within xs ys n k l a b =
    let e = a.long ∙ sym b.long in
    record { long = plus_long xs ys e ∙ b.long; at = λ j. omega (arith, plus_at xs ys e j, a.at j, b.at j) }

pub counts_plus : (u v : Usage) (k l : ℕ) → Counts u k → Counts v l → Counts (plus_usage u v) (k + l)
counts_plus u v k l a b =
    let e = a.kinds ∙ sym b.kinds in
    record {
      kinds = plus_long u.kinds v.kinds e ∙ b.kinds;
      sum = omega (arith, plus_total u.kinds v.kinds e, a.sum, b.sum);
      reads = plus_within u.reads v.reads 8 k l a.reads b.reads;
      writes = plus_within u.writes v.writes 8 k l a.writes b.writes;
    }

added_within : (test : ℕ → Bool) (xs : List ℕ) (n k : ℕ) → Within xs n k → Within (added_from 0 test xs) n (k + 1)
added_within test xs n k w = record { long = added_long 0 test xs ∙ w.long; at = λ j. omega (arith, added_at 0 test xs j, w.at j) }

-- an instruction of a kind done,
counts_step : (k : Kind) (masks : Masks) (u : Usage) (n : ℕ) → Counts u n → Counts (took_lines 0 (counted (is_kind (Some k)) masks u)) (n + 1)
counts_step k masks u n c =
    record {
      kinds = added_long 0 (eqb (kind_number k)) u.kinds ∙ c.kinds;
      sum = omega (arith, added_one (kind_number k) 0 u.kinds (omega arith) (omega (arith, (listed k).0, c.kinds)), c.sum);
      reads = added_within (in_mask masks.reads) u.reads 8 n c.reads;
      writes = added_within (in_mask masks.writes) u.writes 8 n c.writes;
    }

-- or a line taken
counts_taking : (masks : Masks) (u : Usage) (n : ℕ) → Counts u n → Counts (took_lines 1 (counted (λ j. false) masks u)) (n + 1)
counts_taking masks u n c =
    record {
      kinds = added_long 0 (λ j. false) u.kinds ∙ c.kinds;
      sum = omega (arith, added_none 0 u.kinds, c.sum);
      reads = added_within (in_mask masks.reads) u.reads 8 n c.reads;
      writes = added_within (in_mask masks.writes) u.writes 8 n c.writes;
    }

-- ---- The trace

-- where the machine fetches and steps, its word has a kind
assigned : (m next : Machine) → FetchesNow m → step m ≡ to next → (k : Kind) × (kind_at (opcode (fetched m)) (e_of (fetched m)) (f_of (fetched m)) ≡ Some k)
unfolding read_of
assigned m next fetches s = go (kind_at (opcode (fetched m)) (e_of (fetched m)) (f_of (fetched m))) refl
  where
    go : (x : Option Kind) → kind_at (opcode (fetched m)) (e_of (fetched m)) (f_of (fetched m)) ≡ x → (k : Kind) × (kind_at (opcode (fetched m)) (e_of (fetched m)) (f_of (fetched m)) ≡ Some k)
    go (Some k) e = (k, e)
    go None e =
        let stops = rules.unassigned_stops (fetched m) (ap (λ x. read_as x (fetched m)) e) m fetches refl in
        clash (cc)

-- where it takes no line and steps, it fetches
fetches_too : (m next : Machine) → takes_line m.state ≡ false → step m ≡ to next → FetchesNow m
fetches_too m next t s = go (fetch_locked m.state) refl
  where
    go : (l : Bool) → fetch_locked m.state ≡ l → FetchesNow m
    go true e = let stops = rules.locked_fetch m t e in clash (cc)
    go false e = λ i. not (t i) && not (e i)

-- from m, a run that ends with z and has the counts u
pub record Traced (budget : ℕ) (m : Machine) (z : Outcome) (u : Usage) : Type 0 where
  pub steps : ℕ
  pub few : steps ≤ budget
  pub grew : z.after.state.n ≡ m.state.n + steps
  pub counts : Counts u steps

goes : (full : Bool) (x : Next) {next : Machine} → unless full x ≡ to next → x ≡ to next
goes full (cannot q) e = e
goes true (to next) e = clash (cc)
goes false (to next) e = e

later : (budget : ℕ) (m next : Machine) (z : Outcome) (u : Usage) → step m ≡ to next → Traced budget next z u → Traced (suc budget) m z (step_counted m u)
later budget m next z u s t =
    record {
      steps = t.steps + 1;
      few = omega (arith, t.few);
      grew = omega (arith, t.grew, lawful_rules.counts m next s);
      counts = by_line (takes_line m.state) refl;
    }
  where
    by_line : (b : Bool) → takes_line m.state ≡ b
        → Counts
        (took_lines (flag b) (counted (λ j. not b && word_is (fetched m) j) (pick b (record { reads = 0; writes = 0 }) (masks_of (fetched m))) u))
        (t.steps + 1)
    by_line true e = counts_taking (record { reads = 0; writes = 0 }) u t.steps t.counts
    by_line false e =
        let masks = masks_of (fetched m) in
        let k = assigned m next (fetches_too m next e s) s in
        subst (λ (x : Option Kind). Counts (took_lines 0 (counted (is_kind x) masks u)) (t.steps + 1)) (sym k.1) (counts_step k.0 masks u t.steps t.counts)

pub traced : (budget full : ℕ) (m : Machine) → Traced budget m (run_from by_rules budget full m) (usage_of (trace_from by_rules budget full m))
unfolding run_from trace_from usage_of
traced zero full m = record { steps = 0; few = omega arith; grew = omega arith; counts = counts_none }
traced (suc budget) full m = go (traced budget full) (unless (no_place_at by_rules full m) (step m)) refl
  where
    go : ((next : Machine) → Traced budget next (run_from by_rules budget full next) (usage_of (trace_from by_rules budget full next)))
        → (x : Next) → unless (no_place_at by_rules full m) (step m) ≡ x
        → Traced (suc budget) m (elim x [ cannot q ↦ record { reason = q; after = m } | to next ↦ run_from by_rules budget full next ])
        (usage_of (elim x [ cannot q ↦ [] | to next ↦ m ∷ trace_from by_rules budget full next ]))
    go r (cannot q) e = record { steps = 0; few = omega arith; grew = omega arith; counts = counts_none }
    go r (to next) e = later budget m next _ _ (goes (no_place_at by_rules full m) (step m) e) (r next)
