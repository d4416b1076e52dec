-- Counting by place: what the contracts of a run's inner functions cite. Nothing here is promised to a caller.
use Rattle.std.specs.Prelude.{◌≡◌, List, [], ◌∷◌, ℕ, suc, ◌+◌, ◌-◌, ◌*◌, ◌/◌, ◌<◌, ltb, length, get_or}
use Rattle.word.specs.Word.{pick}
use Rattle.usage.specs.declared.Usage.{Usage}
use Rattle.usage.specs.Usage.{unused}
use Rattle.usage.specs.Counting.{usage_with, counted_steps}

-- ---- Places

-- A word of an opcode whose kinds f tells apart (0, 1, 11 and 12) has a place of its own; the others go by their upper ten bits.
unfoldable pub place_of : ℕ → ℕ
place_of w =
    let op = w / 4096 in
    pick (ltb op 2) (w + 1024) (pick (ltb op 11) (w / 64) (pick (ltb op 13) (w - 35840) (w / 64)))

-- a word that counts as those of the place do
unfoldable pub word_of : ℕ → ℕ
word_of p = pick (ltb p 1024) (p * 64) (pick (ltb p 9216) (p - 1024) (p + 35840))

-- no step is counted at the k places from p on
abbrev pub NoneFrom : ℕ → ℕ → List ℕ → Type 0
NoneFrom k p counts = (j : ℕ) → j < k → get_or counts (p + j) 0 ≡ 0

-- as many steps of each place's word, from place p on, as are counted there
unfoldable pub folded_from : ℕ → List ℕ → Usage → Usage
folded_from p [] u = u
folded_from p (n ∷ ns) u = folded_from (suc p) ns (counted_steps n (word_of p) u)

abbrev pub folded : List ℕ → Usage
folded counts = folded_from 0 counts unused

-- so many lines taken, and these counts
abbrev pub with_taken : ℕ → Usage → Usage
with_taken taken u = usage_with taken u.kinds u.reads u.writes

-- ---- A run's counts: u, or where it has all places, what is counted there; lines taken are counted in u

abbrev pub tallied : List ℕ → Usage → Usage
tallied counts u = pick (ltb (length counts) 17408) u (with_taken u.taken (folded counts))

-- nothing is counted yet
abbrev pub Cleared : List ℕ → Type 0
Cleared counts = (k : ℕ) → get_or counts k 0 ≡ 0
