-- Division (02, L6; 000, "Extensión aritmética"): the quotients of DIV and DIVU, known by their remainders.
use Rattle.std.specs.Prelude.{◌≡◌, ◌⊎◌, ℕ, ◌+◌, ◌*◌, ◌<◌, ℤ, pos, nat_abs, ◌+ℤ◌, ◌*ℤ◌}
use Rattle.std.specs.Int.Signed.{non_neg}
use Rattle.word.specs.Word.{signed, low_bits}
use Rattle.muldiv.specs.Muldiv.{div, divu}

-- x is q times y and a remainder, which is smaller than y and has the sign of x
pub record TowardZero (x y q : ℤ) : Type 0 where
  pub remainder : ℤ
  pub makes : x ≡ q *ℤ y +ℤ remainder
  pub small : nat_abs remainder < nat_abs y
  pub sign : (remainder ≡ pos 0) ⊎ (non_neg remainder ≡ non_neg x)

pub record Quotients : Type 0 where
  -- DIV gives the low 16 bits of the quotient rounded toward zero, of the words read as signed.
  pub signed_quotient :
      (x y : ℕ) → y < 65536 → (y ≡ 0 → ⊥) → (q : ℤ) × (div x y ≡ low_bits 16 q) × TowardZero (signed 16 x) (signed 16 y) q
  -- DIVU gives the quotient rounded down.
  pub unsigned_quotient : (x y : ℕ) → (y ≡ 0 → ⊥) → (remainder : ℕ) × (x ≡ divu x y * y + remainder) × (remainder < y)
