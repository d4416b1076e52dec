-- What the contracts of counting in place cite. Nothing here is promised to a caller.
use Rattle.std.specs.Prelude.{Bool, true, false, List, [], ◌∷◌, ℕ, suc, ◌+◌, ◌*◌, ◌<◌, ◌≤◌, eqb, get_or}
use Rattle.word.specs.Word.{pick}
use Rattle.isa.specs.Masks.{in_mask, masks_of}
use Rattle.usage.specs.declared.Usage.{Usage}
use Rattle.usage.specs.Usage.{word_is}

-- what the count of lines taken and the three lists of counters hold
abbrev pub usage_with : ℕ → List ℕ → List ℕ → List ℕ → Usage
usage_with taken kinds reads writes = record { kinds = kinds; taken = taken; reads = reads; writes = writes }

-- one step more fits each counter
abbrev pub Below : List ℕ → Type 0
Below xs = (k : ℕ) → get_or xs k 0 < 18446744073709551615

pub record Countable (u : Usage) : Type 0 where
  pub kinds : Below u.kinds
  pub reads : Below u.reads
  pub writes : Below u.writes

-- each count has 32 bits
abbrev pub Few : List ℕ → Type 0
Few xs = (k : ℕ) → get_or xs k 0 ≤ 4294967295

-- the ticks of so many steps, of which `kinds` counts the kinds
abbrev pub ticks_counted : ℕ → List ℕ → ℕ
ticks_counted steps kinds = 3 * steps + get_or kinds 14 0 + get_or kinds 15 0 + get_or kinds 16 0 + get_or kinds 17 0

-- j is a or b
abbrev pub either_of : ℕ → ℕ → ℕ → Bool
either_of a b j = pick (eqb b j) true (eqb a j)

-- n more at each place, from number k on, of which the test holds
unfoldable pub raised_from : ℕ → ℕ → (ℕ → Bool) → List ℕ → List ℕ
raised_from n k test [] = []
raised_from n k test (x ∷ xs) = (x + pick (test k) n 0) ∷ raised_from n (suc k) test xs

abbrev pub raised : ℕ → (ℕ → Bool) → List ℕ → List ℕ
raised n test xs = raised_from n 0 test xs

-- at no place
abbrev pub nowhere : ℕ → Bool
nowhere j = false

-- n more at the places that each list's test tells
abbrev pub raised_by : ℕ → (ℕ → Bool) → (ℕ → Bool) → (ℕ → Bool) → Usage → Usage
raised_by n kind reads writes u = usage_with u.taken (raised n kind u.kinds) (raised n reads u.reads) (raised n writes u.writes)

-- n steps more of the word w: `counted`, n times
abbrev pub counted_steps : ℕ → ℕ → Usage → Usage
counted_steps n w u = raised_by n (word_is w) (in_mask (masks_of w).reads) (in_mask (masks_of w).writes) u

-- n more fits each counter
abbrev pub Fits : ℕ → List ℕ → Type 0
Fits n xs = (k : ℕ) → get_or xs k 0 + n < 18446744073709551616

pub record Room (n : ℕ) (u : Usage) : Type 0 where
  pub kinds : Fits n u.kinds
  pub reads : Fits n u.reads
  pub writes : Fits n u.writes
