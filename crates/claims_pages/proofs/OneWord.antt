-- Machines whose program is one word at every place: of words 0 a run goes on as long as its budget, of words 0xFFFF it stops at once.
-- Assumes nothing.
use mathlib.Core.Path.{◌≡◌, refl, sym, ap, subst, ◌∙◌}
use mathlib.Core.Bool.{false, not, ◌&&◌}
use mathlib.Core.List.{List, [], ◌∷◌, ◌++◌}
use Prim.Native.Nat.{ℕ, zero, suc, ◌+◌, ◌*◌}
use native.Mathlib.Nat.{zero-mul, one-mul}
use lib.Dec.{leb}
use lib.ListN.{length, get_or, take, drop, replicate, length-replicate}
use lib.Seq.{drop_at}
use Rattle.word.specs.Word.{pick, add}
use Rattle.machine.specs.Machine.{Machine, takes_line, fetch_locked, on_state, count, word_at}
use Rattle.machine.specs.Step.{PC, compute, choice, fetched, cannot, to, jump, step_by, step, taking}
use Rattle.machine.specs.Run.{by_rules, is_out, no_place_at, run_from, trace_from}
use Rattle.machine.proofs.Runs.{run_none, run_cannot, run_on, trace_cannot}
use Rattle.page.specs.Pages.{part}

-- ---- Lists of zeros

abbrev pub Zeros : List ℕ → Type 0
Zeros xs = (k : ℕ) → get_or xs k 0 ≡ 0

zeros_take : (n : ℕ) (xs : List ℕ) → Zeros xs → Zeros (take n xs)
zeros_take zero xs z k = refl
zeros_take (suc n) [] z k = refl
zeros_take (suc n) (x ∷ xs) z zero = z 0
zeros_take (suc n) (x ∷ xs) z (suc k) = zeros_take n xs (λ j. z (suc j)) k

zeros_before : (n : ℕ) (xs : List ℕ) → Zeros xs → Zeros (replicate n 0 ++ xs)
zeros_before zero xs z k = z k
zeros_before (suc n) xs z zero = refl
zeros_before (suc n) xs z (suc k) = zeros_before n xs z k

replicated : (n : ℕ) → Zeros (replicate n 0)
replicated zero k = refl
replicated (suc n) zero = refl
replicated (suc n) (suc k) = replicated n k

-- two parts, the second of zeros
module _ (n byte : ℕ) where
  abbrev two : List ℕ
  two = replicate n byte ++ replicate n 0

  pub second_zeros : Zeros (part n 1 two)
  second_zeros =
      let e : drop (1 * n) two ≡ replicate n 0 =
      ap (λ k. drop k two) (one-mul n) ∙ drop_at (replicate n byte) (replicate n 0) n (length-replicate n byte) in
      zeros_take n (drop (1 * n) two) (subst Zeros (sym e) (replicated n))

pub first_zeros : (n : ℕ) → Zeros (part n 0 (two n 0))
first_zeros n =
    let e : drop (0 * n) (two n 0) ≡ two n 0 = ap (λ k. drop k (two n 0)) (zero-mul n) in
    zeros_take n (drop (0 * n) (two n 0)) (subst Zeros (sym e) (zeros_before n (replicate n 0) (replicated n)))

pub first_two : (n byte : ℕ) → (let xs = part (suc (suc n)) 0 (two (suc (suc n)) byte) in (get_or xs 0 0 ≡ byte) × (get_or xs 1 0 ≡ byte))
first_two n byte =
    let m = suc (suc n) in
    let e : drop (0 * m) (two m byte) ≡ two m byte = ap (λ k. drop k (two m byte)) (zero-mul m) in
    (ap (λ (xs : List ℕ). get_or (take m xs) 0 0) e, ap (λ (xs : List ℕ). get_or (take m xs) 1 0) e)

-- ---- A machine of two memories that takes no line

pub record Quiet (m : Machine) : Type 0 where
  pub board : m.state.board ≡ 0
  pub enabled : m.state.enabled ≡ 0

module _ (m : Machine) (q : Quiet m) where
  no_line : takes_line m.state ≡ false
  no_line = rw q.enabled

  no_locked_fetch : fetch_locked m.state ≡ false
  no_locked_fetch = rw q.board

  fetches : fetched m ≡ word_at m.P (PC m)
  unfolding fetched
  fetches = rw q.board

  -- it does what the word does
  does : {w : ℕ} → fetched m ≡ w → step m ≡ step_by (choice w) w m
  unfolding step
  does e = (λ i. pick (no_line i) (taking m) (pick (no_locked_fetch i) (cannot 4) (step_by (choice (e i)) (e i) m)))

  stops : word_at m.P (PC m) ≡ 65535 → step m ≡ cannot 1
  unfolding choice
  stops e = does (fetches ∙ e)

  module _ (zeros : Zeros m.P) where
    word_0 : fetched m ≡ 0
    word_0 = fetches ∙ (λ i. zeros (PC m) i + 256 * zeros (add (PC m) 1) i)

    abbrev next : Machine
    next = on_state count (compute 0 (jump (add (PC m) 2) m))

    ands : step m ≡ to next
    unfolding choice
    ands = does word_0

    has_place : (full : ℕ) → no_place_at by_rules full m ≡ false
    unfolding no_place_at
    has_place full = λ i. not (no_line i) && is_out (word_0 i) && leb full (length m.L)

    next_quiet : Quiet next
    unfolding compute
    next_quiet = record { board = q.board; enabled = q.enabled }

    next_zeros : Zeros next.P
    unfolding compute
    next_zeros = zeros

-- ---- Runs

pub goes : (b full : ℕ) (m : Machine) → Quiet m → Zeros m.P → (run_from by_rules b full m).reason ≡ 0
goes zero full m q z = ap (λ x. x.reason) (run_none by_rules full m)
goes (suc b) full m q z =
    ap (λ x. x.reason) (run_on by_rules b full m (next m q z) (ands m q z) (has_place m q z full))
    ∙ goes b full (next m q z) (next_quiet m q z) (next_zeros m q z)

module _ (b full : ℕ) (m : Machine) (q : Quiet m) (e : word_at m.P (PC m) ≡ 65535) where
  pub stops_at_once : (run_from by_rules (suc b) full m).reason ≡ 1
  stops_at_once = ap (λ x. x.reason) (run_cannot by_rules b full m 1 (stops m q e))

  pub no_step : length (trace_from by_rules (suc b) full m) ≡ 0
  no_step = ap length (trace_cannot by_rules b full m 1 (stops m q e))
