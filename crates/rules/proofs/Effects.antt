-- From what a rule does to registers and data memory to the answer of the step: a law for each kind of effect.
-- Assumes nothing.
use mathlib.Core.Path.{◌≡◌, refl, sym, ap, ap₂, ◌∙◌}
use mathlib.Core.Bool.{Bool, true, false, ◌&&◌}
use mathlib.Core.List.{List}
use Prim.Native.Nat.{ℕ, ◌+◌, ◌*◌, ◌%◌}
use lib.Dec.{eqb}
use lib.ListN.{get_or-map}
use Rattle.word.specs.Fields.{e_of, f_of, N8}
use Rattle.word.specs.Word.{pick, add, SE}
use Rattle.word.proofs.Tests.{never}
use Rattle.machine.specs.declared.State.{State}
use Rattle.std.specs.Prelude.{Result}
use Rattle.std.specs.declared.result.Result.TheVariants.{Ok, Err}
use Rattle.machine.specs.declared.Stop.{Stop}
use Rattle.machine.specs.declared.Stop.TheVariants.{Unassigned, ZeroDivisor}
use Rattle.machine.specs.Machine.{Machine, touches_locked, put_r, put_pc, count, on_state, put_d}
use Rattle.machine.specs.Step.{PC, d5_3, d11_9, write, jump, Rule, Touched, Choice, rule, division, access, unassigned, choice, cannot, doing, step_by, bz, bnz, movi, movhi, interrupt_rules, interrupt}
use Rattle.machine.specs.Run.{Outcome}
use Rattle.machine.specs.Held.{outcome_of, is_lock_stop, TestsLock, reason_of, state_left}
use Rattle.rules.specs.Parts.{advanced_of, RuleMeets, ra_of, rb_of, target_of, branch_of, move_of, interrupt_of}

-- PC = PC+2 is done
abbrev on : Machine → Machine
on m = jump (add (PC m) 2) m

-- what comes of m
abbrev comes : ℕ → State → List ℕ → Machine → Outcome
comes stop t D m = record { reason = stop; after = on_state (λ u. t) (put_d D m) }

-- in the state s the choice y does the rule x
abbrev Does : ℕ → State → Choice → Rule → Type 0
Does w s y x = (m : Machine) → m.state ≡ s → step_by y w m ≡ doing x w m

-- a rule that divides by Rb where t says so
dividing : (w : ℕ) (s : State) (x : Rule) (t : Bool) {z : Bool} → (t && eqb (rb_of w s) 0) ≡ z
    → (m : Machine) → m.state ≡ s → step_by (pick t (division x) (rule x)) w m ≡ pick z (cannot 3) (doing x w m)
dividing w s x t zero m es = by_test t ∙ ap (λ b. pick b (cannot 3) (doing x w m)) (ap (λ u. t && eqb (rb_of w u) 0) es ∙ zero)
  where
    by_test : (t : Bool) → step_by (pick t (division x) (rule x)) w m ≡ pick (t && eqb (rb_of w m.state) 0) (cannot 3) (doing x w m)
    by_test true = refl
    by_test false = refl

-- a rule that touches no locked byte
accessing : (w : ℕ) (s : State) (t : Touched) (x : Rule) → choice w ≡ access t x → TestsLock (step_by (choice w) w) s false → Does w s (access t x) x
accessing w s t x q free m es = by_test (touches_locked (t w m) m.state) (ap (λ y. is_lock_stop (step_by y w m)) (sym q) ∙ free m es)
  where
    by_test : (b : Bool) → is_lock_stop (pick b (cannot 4) (doing x w m)) ≡ false → pick b (cannot 4) (doing x w m) ≡ doing x w m
    by_test true e = never (sym e)
    by_test false e = refl

module _ {w : ℕ} {s : State} {D : List ℕ} {r : Result State Stop} where
  meets : {z : Result State Stop} {D' : List ℕ}
      → ((m : Machine) → m.state ≡ s → m.D ≡ D → outcome_of m (step_by (choice w) w m) ≡ comes (reason_of z) (state_left s z) D' m)
      → r ≡ z
      → RuleMeets w s D r D'
  meets {z} {D'} p er = record { machine = λ m es eD. p m es eD ∙ ap (λ x. comes (reason_of x) (state_left s x) D' m) (sym er) }

  -- the word is unassigned
  pub stopped : choice w ≡ unassigned → r ≡ Err Unassigned → RuleMeets w s D r D
  stopped q er = meets (λ m es eD. ap (λ x. outcome_of m (step_by x w m)) q ∙ ap₂ (λ u E. comes 1 u E m) es eD) er

  -- the divisor is zero
  pub divided_by_zero : (x : Rule) (t : Bool) → choice w ≡ pick t (division x) (rule x) → (t && eqb (rb_of w s) 0) ≡ true → r ≡ Err ZeroDivisor → RuleMeets w s D r D
  divided_by_zero x t q z er =
      meets
      (λ m es eD. ap (λ y. outcome_of m (step_by y w m)) q ∙ ap (outcome_of m) (dividing w s x t z m es) ∙ ap₂ (λ u E. comes 3 u E m) es eD)
      er

  module _ {next : State} (x : Rule) {y : Choice} (q : choice w ≡ y) (does : Does w s y x) (advanced : next ≡ advanced_of s) where
    leaves : (F : State → State → List ℕ → State) (G : State → List ℕ → List ℕ) {t : State} {D' : List ℕ}
        → ((m : Machine) → on_state count (x w (on m)) ≡ on_state (λ u. F u (advanced_of u) m.D) (put_d (G m.state m.D) m))
        → t ≡ F s next D
        → D' ≡ G s D
        → r ≡ Ok t
        → RuleMeets w s D r D'
    leaves F G p et eD' er =
        meets
        (λ m es eD.
        ap (λ y. outcome_of m (step_by y w m)) q
        ∙ ap (outcome_of m) (does m es)
        ∙ ap (λ after. record { reason = 0; after = after }) (p m)
        ∙ ap₂ (λ t' D''. comes 0 t' D'' m)
        (ap₂ (λ u E. F u (advanced_of u) E) es eD ∙ ap (λ n. F s n D) (sym advanced) ∙ sym et)
        (ap₂ G es eD ∙ sym eD'))
        er

    -- the rule writes a register
    wrote_by : (d : ℕ) (value : State → List ℕ → ℕ) {t : State}
        → ((m : Machine) → x w (on m) ≡ write d (value m.state m.D) (on m))
        → t ≡ put_r d (value s D) next
        → r ≡ Ok t
        → RuleMeets w s D r D
    wrote_by d value p et = leaves (λ u n E. put_r d (value u E) n) (λ u E. E) (λ m. ap (on_state count) (p m)) et refl

  module _ {next : State} (x : Rule) (q : choice w ≡ rule x) (advanced : next ≡ advanced_of s) where
    pub wrote : (d : ℕ) (value : State → List ℕ → ℕ) {t : State}
        → ((m : Machine) → x w (on m) ≡ write d (value m.state m.D) (on m))
        → t ≡ put_r d (value s D) next
        → r ≡ Ok t
        → RuleMeets w s D r D
    wrote = wrote_by x q (λ m es. refl) advanced

    -- the rule names PC
    pub jumped : (F : State → State → State) {t : State}
        → ((m : Machine) → on_state count (x w (on m)) ≡ on_state (λ u. F u (advanced_of u)) m)
        → t ≡ F s next
        → r ≡ Ok t
        → RuleMeets w s D r D
    jumped F p et = leaves x q (λ m es. refl) advanced (λ u n E. F u n) (λ u E. E) p et refl

  module _ {next : State} (touched : Touched) (x : Rule) (q : choice w ≡ access touched x) (free : TestsLock (step_by (choice w) w) s false) (advanced : next ≡ advanced_of s) where
    -- the same of a register, by a load
    pub loaded : (d : ℕ) (value : State → List ℕ → ℕ) {t : State}
        → ((m : Machine) → x w (on m) ≡ write d (value m.state m.D) (on m))
        → t ≡ put_r d (value s D) next
        → r ≡ Ok t
        → RuleMeets w s D r D
    loaded = wrote_by x q (accessing w s touched x q free) advanced

    -- a store writes the data
    pub stored : (put : State → List ℕ → List ℕ) {D' : List ℕ}
        → ((m : Machine) → x w (on m) ≡ put_d (put m.state m.D) (on m))
        → D' ≡ put s D
        → r ≡ Ok next
        → RuleMeets w s D r D'
    stored put p eD' = leaves x q (accessing w s touched x q free) advanced (λ u n E. n) put (λ m. ap (on_state count) (p m)) refl eD'

  -- the same of a register, by a rule that may divide, where the divisor is not zero
  pub divided : {next : State} (x : Rule) (t : Bool) → choice w ≡ pick t (division x) (rule x) → (t && eqb (rb_of w s) 0) ≡ false → next ≡ advanced_of s
      → (d : ℕ) (value : State → List ℕ → ℕ) {u : State}
      → ((m : Machine) → x w (on m) ≡ write d (value m.state m.D) (on m))
      → u ≡ put_r d (value s D) next
      → r ≡ Ok u
      → RuleMeets w s D r D
  divided x t q z = wrote_by x q (dividing w s x t z)

-- ---- The rules by e

pub moves : (w : ℕ) (m : Machine) → pick (eqb (e_of w) 0) movi movhi w (on m) ≡ write (d11_9 w) (move_of w m.state) (on m)
unfolding movi movhi
moves w m = go (eqb (e_of w) 0)
  where
    go : (t : Bool) → pick t movi movhi w (on m) ≡ write (d11_9 w) (pick t (SE 8 (N8 w)) (ra_of w m.state % 256 + N8 w * 256)) (on m)
    go true = refl
    go false = refl

pub branches : (w : ℕ) (m : Machine) → on_state count (pick (eqb (e_of w) 0) bz bnz w (on m)) ≡ on_state (λ u. branch_of w u (advanced_of u)) m
unfolding bz bnz
branches w m = ap (on_state count) (by_e (eqb (e_of w) 0)) ∙ go (eqb (e_of w) 0) (eqb (ra_of w m.state) 0) (target_of w (PC m))
  where
    by_e : (t : Bool) → pick t bz bnz w (on m) ≡ pick t (bz w (on m)) (bnz w (on m))
    by_e true = refl
    by_e false = refl

    go : (t z : Bool) (a : ℕ)
        → on_state count (pick t (pick z (jump a (on m)) (on m)) (pick z (on m) (jump a (on m))))
        ≡ on_state (λ u. pick z (pick t (put_pc a (advanced_of u)) (advanced_of u)) (pick t (advanced_of u) (put_pc a (advanced_of u)))) m
    go true true a = refl
    go true false a = refl
    go false true a = refl
    go false false a = refl

-- ---- The rule by f of opcode 12: the count may come before it

pub interrupts : (w : ℕ) (m : Machine) → on_state count (interrupt w (on m)) ≡ on_state (λ u. interrupt_of w (advanced_of u)) m
unfolding interrupt
interrupts w m =
    let s = (on m).state in
    ap (λ t. on_state (λ u. t) m) (sym (get_or-map count (interrupt_rules (put_r (d5_3 w)) s) (f_of w) s))
