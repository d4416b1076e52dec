-- A list that is given place by place.
use Rattle.std.specs.Prelude.{ℕ, List, map}
use Rattle.std.specs.List.{range_with_len}

-- the n places of which place i is f i
unfoldable pub places : ℕ → (ℕ → ℕ) → List ℕ
places n f = map f (range_with_len 0 n)
