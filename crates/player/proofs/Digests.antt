-- Digests of lists that are joined.
-- Assumes nothing.
use Rattle.std.proofs.Common.{◌≡◌, ℕ, List, [], ◌∷◌, ◌++◌, refl}
use Rattle.player.specs.Digest.{taken_in, digest_from}

pub digest_append : (h : ℕ) (xs ys : List ℕ) → digest_from h (xs ++ ys) ≡ digest_from (digest_from h xs) ys
digest_append h [] ys = refl
digest_append h (x ∷ xs) ys = digest_append (taken_in h x) xs ys
