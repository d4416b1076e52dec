-- A list that is given place by place.
-- Assumes nothing.
use Rattle.std.proofs.Common.{◌≡◌, ℕ, zero, suc, ◌+◌, ◌<◌, List, length, get_or, subst, ◌∙◌, arith}
use Rattle.std.proofs.lemmas.List.FromFn.{fill_by_all}
use Rattle.std.specs.Array.{IsFromFnResult, IsFromFnResultFrom}
use Rattle.std.specs.Fn.{Called}
use denote.Param.Members.{Mut}
use lib.ListN.{replicate, length-replicate, get_or-replicate}
use Rattle.player.specs.Lists.{places}

pub given : (n : ℕ) (f : ℕ → ℕ) {xs : List ℕ} → length xs ≡ n → ((i : ℕ) → i < n → get_or xs i 0 ≡ f i) → xs ≡ places n f
unfolding places
given n f {xs} l e = fill_by_all f xs n 0 l e

pub zeros : (n : ℕ) → replicate n 0 ≡ places n (λ _. 0)
zeros n = given n (λ _. 0) (length-replicate n 0) (λ i l. get_or-replicate n i 0 0 l)

module _ {F : Type 0} {g : Mut F (ℕ × Unit {0}) ℕ} (f : ℕ → ℕ) {p : F}
    (call : (i r : ℕ) (q : F) → Called g p (i, tt) r q → (r ≡ f i) × (q ≡ p)) where
  each : (xs : List ℕ) (i n k : ℕ) → IsFromFnResultFrom g p xs i n → k < n → get_or xs (i + k) 0 ≡ f (i + k)
  each xs i zero k e l = absurd (omega arith)
  each xs i (suc n) zero (q, y, at, c, rest) l = let z : i + 0 ≡ i = omega arith in rw z (at.1 0 ∙ (call i y q c).0)
  each xs i (suc n) (suc k) (q, y, at, c, rest) l =
      let s : (i + 1) + k ≡ i + suc k = omega arith in
      rw s at (each xs (i + 1) n k (subst (λ q. IsFromFnResultFrom g q xs (i + 1) n) (call i y q c).1 rest) (omega arith))

  -- by a closure that answers f of each index
  pub made : {xs : List ℕ} {n : ℕ} → IsFromFnResult g p xs n → xs ≡ places n f
  made {xs} {n} r = given n f r.long (λ i l. let z : 0 + i ≡ i = omega arith in rw z at (each xs 0 n i r.each l))
