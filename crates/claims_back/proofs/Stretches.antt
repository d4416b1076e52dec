-- The last steps of a history, the first first: what they gain, how they come apart, and that they are walked again from their first
-- machine, whatever the count and the log, where no input was set among them.
-- Assumes nothing.
use mathlib.Core.Path.{◌≡◌, refl, sym, ap, subst, ◌∙◌}
use mathlib.Core.List.{List, [], ◌∷◌, ◌++◌, map, reverse, reverse_aux, append-nil, append_assoc, reverse-cons}
use Prim.Native.Nat.{ℕ, zero, suc, ◌+◌}
use native.Mathlib.Omega.{arith}
use lib.ListN.{length, take, drop, length-append, length-drop}
use Rattle.word.specs.Word.{flag}
use Rattle.machine.specs.Machine.{Machine}
use Rattle.machine.specs.Step.{Next, cannot, to, step}
use Rattle.machine.specs.Run.{is_out, fetches_a}
use Rattle.journal.specs.Journal.{entry_of}
use Rattle.journal.proofs.Undone.{step_grows}
use Rattle.control.proofs.Laws.{lawful_rules}
use Rattle.claims.specs.Session.{Host, machine_on}
use Rattle.claims_back.specs.History.{held_as, History}
use Rattle.claims_back.specs.StepBack.{earlier, outs, gained_to, gained, from_outside, Unset, none, one, more, AsLed}
use Rattle.claims_back.proofs.Unlooked.{step_held, entry_held}
use Rattle.claims_back.proofs.Pasts.{Sound, known, last}
use Rattle.claims_back.proofs.Walks.{Walk, there, then}

-- ---- What steps gain

pub gained_append : (ms ns : List Machine) → gained (ms ++ ns) ≡ gained ms ++ gained ns
unfolding gained
gained_append [] ns = refl
gained_append (m ∷ ms) ns =
    ap (λ es. gained_to m (step m) ++ es) (gained_append ms ns) ∙ sym (append_assoc (gained_to m (step m)) (gained ms) (gained ns))

-- an entry for an OUT, none otherwise
gained_one : (m next : Machine) → step m ≡ to next → length (gained_to m (step m)) ≡ flag (fetches_a is_out m)
gained_one m next e =
    ap (λ x. length (gained_to m x)) e ∙ length-drop (length m.L) next.L ∙ omega (arith, step_grows m next e)

pub gained_outs : {xs : List ℕ} {m : Machine} (k : ℕ) (ms ns : List Machine) → History xs m ms
    → length (gained (reverse_aux (take k ms) ns)) ≡ outs (take k ms) + length (gained ns)
unfolding gained outs
gained_outs zero ms ns z = omega arith
gained_outs (suc k) [] ns z = omega arith
gained_outs (suc k) (p ∷ ms) ns z =
    let l = last z in
    let here = length-append (gained_to p (step p)) (gained ns) in
    omega (arith, gained_outs k ms (p ∷ ns) l.before, here, gained_one p l.next l.stepped)

-- ---- The inputs and the pending byte that steps lead to

abbrev pub Outside : Type 0
Outside = List ℕ × ℕ

-- those that a machine led to
abbrev outside_of : Next → Outside
outside_of (cannot q) = ([], 0)
outside_of (to led) = from_outside led

-- from these
unfoldable pub outside_after : Outside → List Machine → Outside
outside_after x [] = x
outside_after x (m ∷ ms) = outside_after (outside_of (step m)) ms

-- m as a host holds it with these
abbrev pub held_with : ℕ → Outside → List ℕ → Machine → Machine
held_with count x L m = held_as count x.1 x.0 L m

pub outside_append : (x : Outside) (ms ns : List Machine) → outside_after x (ms ++ ns) ≡ outside_after (outside_after x ms) ns
unfolding outside_after
outside_append x [] ns = refl
outside_append x (m ∷ ms) ns = outside_append (outside_of (step m)) ms ns

pub as_led : (ms : List Machine) (x : Outside) (h : Host) → from_outside (machine_on h []) ≡ outside_after x (reverse ms) → AsLed ms h
unfolding outside_after
as_led ms x h i m led rest e s =
    i
    ∙ ap (λ ms. outside_after x (reverse ms)) e
    ∙ ap (outside_after x) (reverse-cons m rest)
    ∙ outside_append x (reverse rest) (m ∷ [])
    ∙ ap outside_of s

-- ---- Steps that lead from a machine to z, each from where the one before led, but for count, pending byte, inputs and log

pub data Chain (z : Machine) : Machine → List Machine → Type 0 where
  at_end : Chain z z []
  link :
      {m led next : Machine} {ms : List Machine} → Sound m → step m ≡ to led
      → next ≡ held_as next.state.journaled next.state.pending next.I next.L led → Chain z next ms → Chain z m (m ∷ ms)

-- the last k of a history
pub last_chain : {xs : List ℕ} {m z : Machine} (k : ℕ) (ms ns : List Machine) → History xs m ms → Chain z m ns
    → Chain z (earlier k m ms) (reverse_aux (take k ms) ns)
unfolding earlier
last_chain zero ms ns h c = c
last_chain (suc k) [] ns h c = c
last_chain (suc k) (p ∷ ms) ns h c =
    let l = last h in
    last_chain k ms (p ∷ ns) l.before (link (known l.before).sound l.stepped l.led c)

-- it begins with the first of them, or is at its end
pub chain_first : {z m p : Machine} {ms : List Machine} → Chain z m (p ∷ ms) → (m ≡ p) × Sound m
chain_first (link s e h c) = (refl, s)

pub chain_none : {z m : Machine} → Chain z m [] → m ≡ z
chain_none at_end = refl

pub chain_n : {z m : Machine} {ms : List Machine} → Chain z m ms → z.state.n ≡ m.state.n + length ms
chain_n at_end = omega arith
chain_n (link {m} {led} s e h c) =
    let n = ap (λ x. x.state.n) h in
    omega (arith, lawful_rules.counts m led e, chain_n c, n)

-- in two parts
pub record Parts (z m : Machine) (ms ns : List Machine) : Type 0 where
  pub mid : Machine
  pub first : Chain mid m ms
  pub second : Chain z mid ns

pub chain_parts : {z m : Machine} (ms ns : List Machine) → Chain z m (ms ++ ns) → Parts z m ms ns
chain_parts {m} [] ns c = record { mid = m; first = at_end; second = c }
chain_parts (m ∷ ms) ns (link s e h c) =
    let r = chain_parts ms ns c in
    record { mid = r.mid; first = link s e h r.first; second = r.second }

-- the inputs and the pending byte that the first of them has
abbrev pub Starts : Outside → List Machine → Type 0
Starts x [] = Unit {0}
Starts x (m ∷ ms) = x ≡ from_outside m

pub chain_starts : {z m : Machine} {ms : List Machine} {x : Outside} → x ≡ from_outside m → Chain z m ms → Starts x ms
chain_starts i at_end = tt
chain_starts i (link s e h c) = i

-- ---- Walked again

unset_rest : {m : Machine} {ms : List Machine} → Unset (m ∷ ms) → Unset ms
unset_rest one = none
unset_rest (more e i u) = u

unset_starts : {m led : Machine} {ms : List Machine} → Unset (m ∷ ms) → step m ≡ to led → Starts (from_outside led) ms
unset_starts one e = tt
unset_starts {led} (more {led = x} f i u) e = let same : x ≡ led = cc in ap from_outside (sym same) ∙ i

pub record Repeated (c : ℕ) (x : Outside) (L : List ℕ) (m z : Machine) (ms : List Machine) : Type 0 where
  pub ts : List Machine
  pub walk : Walk (held_with c x L m) ts (held_with c (outside_after x ms) (L ++ gained ms) z)
  pub entries : map entry_of ts ≡ map entry_of ms

pub repeated : {z m : Machine} {ms : List Machine} → Chain z m ms → Unset ms → (c : ℕ) (x : Outside) (L : List ℕ) → Starts x ms → Repeated c x L m z ms
unfolding outside_after gained
repeated {z} at_end u c x L i =
    record { ts = []; walk = subst (λ l. Walk (held_with c x L z) [] (held_with c x l z)) (sym (append-nil L)) there; entries = refl }
repeated {z} (link {m} {led} {next} {ms} s e h ch) u c x L i =
    let L' = L ++ drop (length m.L) led.L in
    let stepped : step (held_with c x L m) ≡ to (held_with c (from_outside led) L' next) =
    ap (λ x. step (held_with c x L m)) i ∙ step_held c L m e ∙ ap (λ y. to (held_with c (from_outside led) L' y)) (sym h) in
    let entry = ap (λ x. entry_of (held_with c x L m)) i ∙ entry_held c L m in
    let r = repeated ch (unset_rest u) c (from_outside led) L' (unset_starts u e) in
    let gains : L' ++ gained ms ≡ L ++ gained (m ∷ ms) =
    append_assoc L _ (gained ms) ∙ ap (λ x. L ++ (gained_to m x ++ gained ms)) (sym e) in
    let outside : outside_after (from_outside led) ms ≡ outside_after x (m ∷ ms) = ap (λ y. outside_after (outside_of y) ms) (sym e) in
    record {
      ts = held_with c x L m ∷ r.ts;
      walk = then stepped (subst (Walk (held_with c (from_outside led) L' next) r.ts) (λ k. held_with c (outside k) (gains k) z) r.walk);
      entries = λ k. entry k ∷ r.entries k;
    }
