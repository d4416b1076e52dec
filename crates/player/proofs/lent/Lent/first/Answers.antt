-- Each place is what its closure answers.
use Rattle.std.proofs.Common.{◌≡◌, ◌+◌, ◌*◌, ◌%◌, rules, List, ℕ, refl}
use Rattle.player.specs.Lists.{places}
use Rattle.player.specs.Lent.{first_lent}
use Rattle.player.proofs.Places.{made, zeros}
use Rattle.player.proofs.lent.Lent.first.Goals as goal

whole : {p d i o l : List ℕ} → p ≡ places 65536 (λ i. i % 251) → d ≡ places 65536 (λ _. 0) → i ≡ places 256 (λ i. 7 * i) → o ≡ places 256 (λ _. 0)
    → l ≡ places 64 (λ i. 1000 + i) → record { program = p; memory = d; inputs = i; outputs = o; log = l } ≡ first_lent
unfolding first_lent
whole a b c d e = rw (a, b, c, d, e) refl

pub returns : goal.returns
returns c =
    whole
    (made _ (λ i r q k. search rules) c.from_fn.ensures.items) (zeros 65536)
    (made _ (λ i r q k. search rules) c.from_fn-2.ensures.items) (zeros 256)
    (made _ (λ i r q k. search rules) c.from_fn-3.ensures.items)
