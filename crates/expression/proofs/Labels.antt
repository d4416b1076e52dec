-- The value of a name.
-- Assumes nothing.
use Rattle.std.proofs.Common.{◌≡◌, ◌%◌, Bool, true, false, List, [], ◌∷◌, cond, Option, Some, None, refl}
use Rattle.std.specs.List.{find}
use Rattle.word.specs.Word.{pick}
use Rattle.token.specs.Tokens.{Token}
use Rattle.token.specs.Scan.{alike}
use Rattle.expression.specs.declared.Label.{Label as Held}
use Rattle.expression.specs.declared.Value.{Value}
use Rattle.expression.specs.Operands.{name_value}
use Rattle.expression.specs.Reading.{labels}

-- the value of the label that was found
abbrev pub found_value : Option Held → Value
found_value None = record { word = 0; known = false }
found_value (Some l) = record { word = l.address % 65536; known = true }

pub value_found : (w : Token) (names : List Held) → name_value (labels names) w ≡ found_value (find (λ l. alike w l.name.now) names)
unfolding labels name_value
value_found w [] = refl
value_found w (l ∷ ls) = go (alike w l.name.now) (value_found w ls)
  where
    go : (b : Bool) → name_value (labels ls) w ≡ found_value (find (λ l. alike w l.name.now) ls)
        → pick b (record { word = l.address % 65536; known = true }) (name_value (labels ls) w)
        ≡ found_value (cond b (Some l) (find (λ l. alike w l.name.now) ls))
    go true e = refl
    go false e = e
