-- The entries of steps at their places in a journal: how they come there, and that a history goes on by them.
-- Assumes nothing.
use mathlib.Core.Path.{◌≡◌, refl, sym, ap, subst, ◌∙◌}
use mathlib.Core.Bool.{Bool, true, false}
use mathlib.Core.Logic.{inl}
use mathlib.Core.List.{List, [], ◌∷◌, ◌++◌, map, reverse_aux, append_assoc}
use Prim.Native.Nat.{ℕ, zero, suc, ◌+◌, ◌-◌, ◌<◌, ◌≤◌}
use native.Mathlib.Nat.{add-zero, sub-zero, zero-sub}
use native.Mathlib.Omega.{arith}
use borrow.Author.Tests.{leb-true, leb-false}
use lib.Dec.{leb}
use lib.ListN.{length, get_or, take, drop, length-map, take-append-drop, drop_of_length-le}
use lib.Seq.{drop-cons, take-add, take_at, drop_at, length-take-le}
use Rattle.word.proofs.Tests.{clash}
use Rattle.machine.specs.Machine.{Machine}
use Rattle.journal.specs.Journal.{entry_of}
use Rattle.run.specs.Runs.{placed}
use Rattle.claims_back.specs.History.{History, steps}
use Rattle.claims.proofs.Journaled.{length_placed, placed_other}
use Rattle.claims_back.proofs.Pasts.{last, alike}
use Rattle.claims_back.proofs.Walks.{Walk, there, then}

-- the entries stand where they were placed
pub placed_there : (p : ℕ) (es xs : List ℕ) → p + length es ≤ length xs → take (length es) (drop p (placed p es xs)) ≡ es
placed_there p es xs h =
    ap (λ ys. take (length es) (drop p ys)) (append_assoc (take p xs) es _)
    ∙ ap (take (length es)) (drop_at (take p xs) (es ++ drop (p + length es) xs) p (length-take-le p xs (omega arith)))
    ∙ take_at es _ (length es) refl

-- ---- The entries of steps

-- the journal has the entries of these steps from place p on
abbrev pub Kept : List ℕ → ℕ → List Machine → Type 0
Kept xs p ms = map entry_of ms ≡ take (length ms) (drop p xs)

pub kept_placed : (p : ℕ) (ms : List Machine) (xs : List ℕ) → p + length ms ≤ length xs → Kept (placed p (map entry_of ms) xs) p ms
kept_placed p ms xs h =
    let es = map entry_of ms in
    let e : length es ≡ length ms = length-map ms entry_of in
    sym (placed_there p es xs (rw e h)) ∙ ap (λ k. take k (drop p (placed p es xs))) e

-- placed again they change nothing
pub placed_kept : (p : ℕ) (ms : List Machine) (xs : List ℕ) → Kept xs p ms → placed p (map entry_of ms) xs ≡ xs
placed_kept p ms xs k =
    ap (λ n. take p xs ++ map entry_of ms ++ drop (p + n) xs) (length-map ms entry_of)
    ∙ ap (λ es. take p xs ++ es ++ drop (p + length ms) xs) k
    ∙ ap (λ ys. ys ++ drop (p + length ms) xs) (sym (take-add p (length ms) xs))
    ∙ take-append-drop (p + length ms) xs

pub record First (xs : List ℕ) (p : ℕ) (m : Machine) (ms : List Machine) : Type 0 where
  pub place : p < length xs
  pub entry : get_or xs p 0 ≡ entry_of m
  pub rest : Kept xs (suc p) ms

pub kept_first : (xs : List ℕ) (p : ℕ) (m : Machine) (ms : List Machine) → Kept xs p (m ∷ ms) → First xs p m ms
kept_first xs p m ms k = by_place (leb (suc p) (length xs)) refl
  where
    by_place : (t : Bool) → leb (suc p) (length xs) ≡ t → First xs p m ms
    by_place true e =
        let l = leb-true _ _ e in
        let z : entry_of m ∷ map entry_of ms ≡ get_or xs p 0 ∷ take (length ms) (drop (suc p) xs) = k ∙ ap (take (suc (length ms))) (drop-cons xs p 0 l) in
        record { place = l; entry = cc; rest = cc }
    by_place false e =
        let z : entry_of m ∷ map entry_of ms ≡ [] = k ∙ ap (take (suc (length ms))) (drop_of_length-le xs {i = p} (omega (arith, leb-false (suc p) (length xs) e))) in
        clash (cc)

pub kept_more : (xs : List ℕ) (p : ℕ) (m : Machine) (ms : List Machine) → First xs p m ms → Kept xs p (m ∷ ms)
kept_more xs p m ms f =
    (λ i. sym f.entry i ∷ f.rest i) ∙ ap (take (suc (length ms))) (sym (drop-cons xs p 0 f.place))

-- in two parts
pub kept_parts : (xs : List ℕ) (p : ℕ) (ms ns : List Machine) → Kept xs p (ms ++ ns) → Kept xs p ms × Kept xs (p + length ms) ns
kept_parts xs p [] ns k = (refl, subst (λ i. Kept xs i ns) (sym (add-zero p)) k)
kept_parts xs p (m ∷ ms) ns k =
    let f = kept_first xs p m (ms ++ ns) k in
    let r = kept_parts xs (suc p) ms ns f.rest in
    let next : suc p + length ms ≡ p + suc (length ms) = omega arith in
    (kept_more xs p m ms (record { place = f.place; entry = f.entry; rest = r.0 }), subst (λ i. Kept xs i ns) next r.1)

-- ---- A history goes on by a walk whose entries are kept

pub walk_history : {xs : List ℕ} {m after : Machine} {ts : List Machine} (ms : List Machine) → Walk m ts after → Kept xs (length ms) ts
    → History xs m ms → History xs after (reverse_aux ts ms)
walk_history ms there k z = z
walk_history {xs} ms (then {m} {ms = ts} e w) k z =
    let f = kept_first xs (length ms) m ts k in
    walk_history (m ∷ ms) w f.rest (steps z e f.place f.entry)

-- or placed from its count on
pub placed_history : {m after : Machine} {ts : List Machine} (xs : List ℕ) (ms : List Machine) (count : ℕ) → count ≡ length ms
    → count + length ts ≤ length xs → Walk m ts after → History xs m ms → History (placed count (map entry_of ts) xs) after (reverse_aux ts ms)
placed_history {ts} xs ms count e room w z =
    let es = map entry_of ts in
    let ys = placed count es xs in
    let short : length es ≤ length xs - count = omega (arith, room, length-map ts entry_of) in
    let below : (i : ℕ) → i < length ms → get_or ys i 0 ≡ get_or xs i 0 = λ i l. placed_other es count xs short i (inl (omega (arith, l, e))) in
    let start = alike ys z (omega (arith, e, room, length_placed count es xs short)) below in
    walk_history ms w (subst (λ i. Kept ys i ts) e (kept_placed count ts xs room)) start

-- A history has the entries of its last k steps, before those that follow.
pub last_kept : {xs : List ℕ} {m : Machine} (k : ℕ) (ms ts : List Machine) → History xs m ms → Kept xs (length ms) ts
    → Kept xs (length ms - k) (reverse_aux (take k ms) ts)
last_kept {xs} zero ms ts z x = subst (λ i. Kept xs i ts) (sym (sub-zero (length ms))) x
last_kept {xs} (suc k) [] ts z x = subst (λ i. Kept xs i ts) (sym (zero-sub (suc k))) x
last_kept {xs} (suc k) (p ∷ ms) ts z x =
    let l = last z in
    let f = kept_more xs (length ms) p ts (record { place = l.place; entry = l.entry; rest = x }) in
    subst (λ i. Kept xs i (reverse_aux (take k ms) (p ∷ ts))) (less (length ms) k) (last_kept k ms (p ∷ ts) l.before f)
  where
    less : (n k : ℕ) → n - k ≡ suc n - suc k
    less n k = omega arith
