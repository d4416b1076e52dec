-- Pages of two trims with the range 0 to 0, whose first data byte is 0 and 1.
-- Assumes nothing.
use mathlib.Core.Path.{◌≡◌, refl, sym, ap}
use mathlib.Core.Bool.{false}
use mathlib.Core.Logic.{⊎_elim}
use mathlib.Core.List.{List, [], ◌∷◌}
use Prim.Native.Nat.{ℕ, zero, suc, ◌<◌}
use native.Mathlib.Omega.{arith}
use lib.ListN.{length, get_or, take, drop, replicate, length-replicate}
use Rattle.word.proofs.Tests.{clash, never}
use Rattle.machine.specs.declared.State.{State}
use Rattle.machine.specs.Machine.{reset, is_locked}
use Rattle.image.specs.Image.{with_range}
use Rattle.page.specs.Pages.{PageGiven, page_of, part}
use Rattle.claims.specs.Session.{through_rules}
use Rattle.claims_pages.specs.Pages.{Passes, AcceptedPage}
use Rattle.claims_pages.proofs.Refusals.{exists}
use Rattle.claims_isolation.specs.Locked.{Differ}
use Rattle.claims_isolation.specs.LockedPages.{DifferEach, TwoPages}

abbrev state : State
state = with_range (record { locked = 1; first = 0; last = 0 }) reset

-- the memories of the first trims, and of the second
first : (n : ℕ) (xs : List ℕ) → Differ state (take (suc n) (0 ∷ xs)) (take (suc n) (1 ∷ xs))
first n xs = record { long = refl; same = at }
  where
    at : (k : ℕ) → is_locked k state ≡ false → get_or (take (suc n) (0 ∷ xs)) k 0 ≡ get_or (take (suc n) (1 ∷ xs)) k 0
    at zero e = never (sym e)
    at (suc k) e = refl

second : (n j : ℕ) (xs : List ℕ) → Differ state (take n (drop (suc j) (0 ∷ xs))) (take n (drop (suc j) (1 ∷ xs)))
second n j xs = record { long = refl; same = λ k e. refl }

module _ (P others I O : List ℕ) (p : length P ≡ 131072) (d : length others ≡ 131071) (i : length I ≡ 512) (o : length O ≡ 512) where
  abbrev page : ℕ → PageGiven
  page x = page_of (state ∷ state ∷ replicate 6 reset) 2 P (x ∷ others) I O 7 []

  passes : (x k : ℕ) → k < 2 → Passes (page x) k
  passes x zero h = (⊎_elim (λ n. n refl) (λ n. n refl), λ m. omega arith)
  passes x (suc zero) h = passes x zero (omega arith)
  passes x (suc (suc k)) h = absurd (omega arith)

  accepts : (x : ℕ) → AcceptedPage (page x)
  accepts x =
      (exists (page x) (⊎_elim (λ n. omega arith) (λ n. omega arith))
      (⊎_elim (λ n. n p) (⊎_elim (λ n. n (ap suc d)) (⊎_elim (λ n. n i) (λ n. n o)))) (passes x) through_rules
      ).0

  differs : DifferEach 2 (page 0).states (0 ∷ others) (1 ∷ others)
  differs = record { long = refl; each = each }
    where
      each : (k : ℕ) → k < 2 → Differ (get_or (page 0).states k reset) (part 65536 k (0 ∷ others)) (part 65536 k (1 ∷ others))
      each zero h = first 65535 others
      each (suc zero) h = second 65536 65535 others
      each (suc (suc k)) h = absurd (omega arith)

  two : TwoPages
  two =
      record {
        one = page 0;
        two = page 1;
        apart = record { states = refl; count = refl; programs = refl; memories = differs; inputs = refl; outputs = refl; budget = refl; log = refl };
        accepts = accepts 0;
        accepts_two = accepts 1;
        differ = λ e. let z : ◌≡◌ {A = ℕ} 0 1 = ap (λ M. get_or M 0 0) e in clash z;
      }

pub two_pages : TwoPages
two_pages =
    two (replicate 131072 0) (replicate 131071 0) (replicate 512 0) (replicate 512 0)
    (length-replicate {A = ℕ} 131072 0) (length-replicate {A = ℕ} 131071 0) (length-replicate {A = ℕ} 512 0) (length-replicate {A = ℕ} 512 0)
