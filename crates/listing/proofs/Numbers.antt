-- A signed number as text, and as the 16 bits that it stands for.
-- Assumes nothing.
use Prim.Native.Nat.{suc, ◌≤◌}
use mathlib.Core.Path.{◌≡◌, ap}
use mathlib.Core.List.{◌∷◌}
use native.Mathlib.Omega.{arith}
use lib.IntN.{ℤ, pos, negsuc}
use lib.ListN.{length}
use mir.Syntax.{w16}
use mir.Val.{SFits, of_z}
use Rattle.std.specs.Fmt.{signed_decimal}
use Rattle.std.proofs.lemmas.Fmt.{length_signed_le}
use Rattle.word.specs.Word.{low_bits}
use Rattle.printing.proofs.Decimal.{decimal_is}
use Rattle.listing.specs.Listing.{number_text}

pub text_is : (n : ℤ) → SFits w16 n → number_text n ≡ signed_decimal n
text_is (pos x) f = decimal_is x (omega (arith, f.sfits))
text_is (negsuc y) f = ap (λ l. 45 ∷ l) (decimal_is (suc y) (omega (arith, f.sfits)))

pub text_short : (n : ℤ) → SFits w16 n → length (signed_decimal n) ≤ 6
text_short (pos x) f = length_signed_le 5 (pos x) (omega (arith, f.sfits)) (omega (arith, f.sfits))
text_short (negsuc y) f = length_signed_le 5 (negsuc y) (omega (arith, f.sfits)) (omega (arith, f.sfits))

pub bits_are : (n : ℤ) → SFits w16 n → of_z w16 n ≡ low_bits 16 n
unfolding low_bits
bits_are (pos x) f = omega (arith, f.sfits)
bits_are (negsuc y) f = omega (arith, f.sfits)
