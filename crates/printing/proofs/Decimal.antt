-- A number in decimal is std's, and that of a 64-bit number has at most 20 digits.
-- Assumes nothing.
use Prim.Native.Nat.{ℕ, suc, ◌+◌, ◌/◌, ◌%◌, ◌≤◌, ◌<◌}
use mathlib.Core.Path.{◌≡◌, ap}
use mathlib.Core.List.{[], ◌∷◌, ◌++◌}
use native.Mathlib.Omega.{arith}
use lib.ListN.{length}
use borrow.Author.Tests.{lt-ltb, le-ltb}
use Rattle.std.specs.Fmt.{decimal as plain}
use Rattle.std.proofs.lemmas.Fmt.{decimal_from_appends, length-decimal-le, length-decimal-le_succ}
use Rattle.printing.specs.Text.{digit, digits, decimal}

digit_small : (n : ℕ) → n < 10 → digit n ≡ 48 + n
unfolding digit
digit_small n h = rw (lt-ltb n 10 h)

one : (most n : ℕ) → n < 10 → digits (suc most) n ≡ (48 + n) ∷ []
unfolding digits
one most n h = rw (lt-ltb n 10 h, digits) (ap (λ d. d ∷ []) (digit_small n h))

more : (most n : ℕ) → 10 ≤ n → digits (suc most) n ≡ digits most (n / 10) ++ ((48 + n % 10) ∷ [])
unfolding digits
more most n h = rw (le-ltb n 10 h, digits) (ap (λ d. digits most (n / 10) ++ (d ∷ [])) (digit_small (n % 10) (omega arith)))

pub decimal_is : (n : ℕ) → n < 18446744073709551616 → decimal n ≡ plain n
unfolding decimal
decimal_is n h = decimal_from_appends digits (record { one = one; more = more }) (n + 1) n h (length-decimal-le_succ n h)

pub decimal_short : (n : ℕ) → n < 18446744073709551616 → length (decimal n) ≤ 20
decimal_short n h = rw (decimal_is n h) (length-decimal-le 20 n (omega arith) (omega arith) h)
