-- What the loop keeps of the journal, where it keeps one: the journal here, with the entries of the steps that follow, is the one that the run leaves.
-- Assumes nothing.
use mathlib.Core.Path.{◌≡◌, refl, sym, ap, ◌∙◌}
use mathlib.Core.Bool.{Bool, true, false}
use mathlib.Core.Logic.{◌⊎◌, inl, inr}
use mathlib.Core.List.{List, [], ◌∷◌, ◌++◌, append-nil}
use Prim.Native.Nat.{ℕ, suc, ◌+◌, ◌-◌, ◌<◌, ◌≤◌}
use native.Mathlib.Omega.{arith}
use native.Mathlib.Nat.{add-zero}
use lib.ListN.{length, take, drop, set, length-set, take-append-drop}
use lib.Seq.{take-suc-set, drop-set-lt, append_snoc}
use Rattle.word.proofs.Tests.{never}
use Rattle.machine.specs.declared.State.{State}
use Rattle.machine.specs.Machine.{Machine}
use Rattle.machine.specs.Run.{Stepper}
use Rattle.journal.specs.Journal.{entry_of}
use Rattle.run.specs.Runs.{Journal, no_journal, lent_journal, Given, journal_if, allowed, counted_in, placed, kept_in, trace_on}
use Rattle.run.specs.Parts.{EndsWith}

-- ---- Entries at the places from k on

placed_more : (k e : ℕ) (es xs : List ℕ) → k < length xs → placed (k + 1) es (set xs k e) ≡ placed k (e ∷ es) xs
placed_more k e es xs l =
    let a : k + 1 ≡ suc k = omega arith in
    let b : k + 1 + length es ≡ k + suc (length es) = omega arith in
    let front : take (k + 1) (set xs k e) ≡ take k xs ++ (e ∷ []) = ap (λ n. take n (set xs k e)) a ∙ take-suc-set xs k e l in
    let rest : drop (k + 1 + length es) (set xs k e) ≡ drop (k + suc (length es)) xs = drop-set-lt (k + 1 + length es) xs k e (omega arith) ∙ ap (λ n. drop n xs) b in
    (λ i. front i ++ es ++ rest i) ∙ ap (λ ys. ys ++ drop (k + suc (length es)) xs) (append_snoc (take k xs) e es)

-- ---- The journal kept, or none

kept_none : (j : Journal) (k : ℕ) → kept_in j k [] ≡ j
kept_none no_journal k = refl
kept_none (lent_journal xs) k = rw (add-zero k, append-nil (take k xs)) (ap lent_journal (take-append-drop k xs))

-- what a step does to the journal: its entry x goes to place k
abbrev pub Written : Bool → ℕ → ℕ → List ℕ → List ℕ → Type 0
Written keeps k x xs ys = ((keeps ≡ true) × (ys ≡ set xs k x)) ⊎ ((keeps ≡ false) × (ys ≡ xs))

kept_more : (keeps : Bool) {k x : ℕ} {xs ys : List ℕ} (m : Machine) (ms : List Machine) → (keeps ≡ true → k < length xs) → (keeps ≡ true → x ≡ entry_of m)
    → Written keeps k x xs ys → kept_in (journal_if keeps ys) (k + 1) ms ≡ kept_in (journal_if keeps xs) k (m ∷ ms)
kept_more true m ms l e (inl w) = rw (w.1, e refl) (ap lent_journal (placed_more _ (entry_of m) _ _ (l refl)))
kept_more true m ms l e (inr w) = never (sym w.0)
kept_more false m ms l e w = refl

written_length : {keeps : Bool} (k x : ℕ) {xs ys : List ℕ} → Written keeps k x xs ys → length ys ≡ length xs
written_length k x {xs} (inl w) = ap length w.1 ∙ length-set xs k x
written_length k x (inr w) = ap length w.1

-- ---- What the loop keeps, where the machines of the steps that follow are ms

pub record Keeping (v : Stepper) (g : Given) (keeps : Bool) (lent xs : List ℕ) (steps : ℕ) (ms : List Machine) : Type 0 where
  pub lends : g.journal ≡ journal_if keeps lent
  pub same_length : length xs ≡ length lent
  pub room : keeps ≡ true → g.budget ≤ length lent - g.state.journaled
  pub kept : kept_in (journal_if keeps xs) (g.state.journaled + steps) ms ≡ kept_in g.journal g.state.journaled (trace_on v g)
  pub many : steps + length ms ≡ length (trace_on v g)

module _ (v : Stepper) (g : Given) (keeps : Bool) (lent : List ℕ) where
  pub keeping_starts : {ms : List Machine} → g.journal ≡ journal_if keeps lent → allowed g ≡ g.budget → ms ≡ trace_on v g → Keeping v g keeps lent lent 0 ms
  keeping_starts e a t =
      record {
        lends = e;
        same_length = refl;
        room = λ k. lends_room (e ∙ ap (λ keeps. journal_if keeps lent) k) a;
        kept = λ i. kept_in (sym e i) (add-zero g.state.journaled i) (t i);
        many = rw t (omega arith);
      }
    where
      lends_room : g.journal ≡ lent_journal lent → allowed g ≡ g.budget → g.budget ≤ length lent - g.state.journaled
      lends_room e a = let b = rw e at a in omega (arith, b)

  module _ {xs : List ℕ} {steps : ℕ} where
    -- a step more, of the machine m
    pub keeping_turns : {x : ℕ} {ys : List ℕ} (m : Machine) (ms : List Machine) {all : List Machine} → Keeping v g keeps lent xs steps all → all ≡ m ∷ ms → steps < g.budget
        → (keeps ≡ true → x ≡ entry_of m) → Written keeps (g.state.journaled + steps) x xs ys → Keeping v g keeps lent ys (steps + 1) ms
    keeping_turns {x} m ms k t b e w =
        let after : g.state.journaled + (steps + 1) ≡ g.state.journaled + steps + 1 = omega arith in
        record {
          lends = k.lends;
          same_length = written_length _ x w ∙ k.same_length;
          room = k.room;
          kept = rw after (kept_more keeps m ms (λ h. omega (arith, k.room h, k.same_length)) e w ∙ ap (kept_in (journal_if keeps xs) _) (sym t) ∙ k.kept);
          many = omega (arith, ap length t, k.many);
        }

    -- no step more
    pub keeping_ends : Keeping v g keeps lent xs steps [] → (s : State) {r : State} → EndsWith keeps steps s r
        → (r ≡ counted_in g.journal (length (trace_on v g)) s) × (journal_if keeps xs ≡ kept_in g.journal g.state.journaled (trace_on v g))
    keeping_ends k s e =
        let many : steps ≡ length (trace_on v g) = omega (arith, k.many) in
        (e lent ∙ (λ i. counted_in (sym k.lends i) (many i) s), sym (kept_none (journal_if keeps xs) _) ∙ k.kept)
