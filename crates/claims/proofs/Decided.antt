-- The contracts decide what a list of calls replies and leaves, whichever engine does each run: no call leaves anything open.
-- Assumes nothing.
use mathlib.Core.Path.{◌≡◌, refl, sym, ap, ◌∙◌}
use mathlib.Core.List.{List, [], ◌∷◌, map}
use Prim.Native.Nat.{ℕ}
use Rattle.machine.specs.Run.{by_rules}
use Rattle.panel.specs.Calls.{SetLeft, set_left, RaiseLeft, raise_left}
use Rattle.run.specs.Runs.{CountedLeft, counted_left}
use Rattle.claims.specs.Session.{through_rules, through_table, Lent, Call, runs, sets, raises, Reply, of_set, of_raise, plain, Alike, Host, given_to, after_one_run, after_set, after_raise, CallMeets, a_run, a_setting, a_raise, Calls, none, more}
use Rattle.claims_sheet.proofs.Agreement.{same_run}
use Rattle.claims.proofs.Together.{both, told}

abbrev pub ran_on : Host → Lent → CountedLeft
ran_on h lent = counted_left by_rules (given_to h lent)

abbrev pub set_on : Host → ℕ → ℕ → SetLeft
set_on h port value = set_left (record { I = h.I; port = port; value = value })

abbrev pub raise_on : Host → ℕ → RaiseLeft
raise_on h line = raise_left h.state line

-- what a call replies and leaves
abbrev pub reply_to : Host → Call → Reply
reply_to h (runs e lent) = told (ran_on h lent)
reply_to h (sets port value) = of_set (set_on h port value).reply
reply_to h (raises line) = of_raise (raise_on h line).reply

abbrev pub call_on : Host → Call → Host
call_on h (runs e lent) = after_one_run (ran_on h lent).left
call_on h (sets port value) = after_set h (set_on h port value)
call_on h (raises line) = after_raise h (raise_on h line)

replies_to : Host → List Call → List Reply
replies_to h [] = []
replies_to h (c ∷ cs) = reply_to h c ∷ replies_to (call_on h c) cs

calls_on : Host → List Call → Host
calls_on h [] = h
calls_on h (c ∷ cs) = calls_on (call_on h c) cs

pub does_decided : {h h' : Host} {c : Call} {r : Reply} → CallMeets h c r h' → (r ≡ reply_to h (plain c)) × (h' ≡ call_on h (plain c))
does_decided (a_run h e lent x promise) =
    let p : x ≡ ran_on h lent = both e (given_to h lent) x promise in
    (ap told p, ap (λ (y : CountedLeft). after_one_run y.left) p)
does_decided (a_setting h port value x promise) = (ap (λ (y : SetLeft). of_set y.reply) promise, ap (after_set h) promise)
does_decided (a_raise h line x promise) = (ap (λ (y : RaiseLeft). of_raise y.reply) promise, ap (after_raise h) promise)

calls_decided :
    {h h' : Host} {cs : List Call} {rs : List Reply} → Calls h cs rs h' → (rs ≡ replies_to h (map plain cs)) × (h' ≡ calls_on h (map plain cs))
unfolding replies_to calls_on
calls_decided none = (refl, refl)
calls_decided (more {cs = cs} d ds) =
    let t = does_decided d in
    let u = calls_decided ds in
    (rw (← t.0, ← t.1, ← u.0), u.1 ∙ ap (λ (x : Host). calls_on x (map plain cs)) t.1)

-- lists that are alike, from the same host
pub same :
    {h h₁ h₂ : Host} {cs₁ cs₂ : List Call} {rs₁ rs₂ : List Reply} → Calls h cs₁ rs₁ h₁ → Calls h cs₂ rs₂ h₂ → Alike cs₁ cs₂ → (rs₁ ≡ rs₂) × (h₁ ≡ h₂)
same ds₁ ds₂ e =
    let t = calls_decided ds₁ in
    let u = calls_decided ds₂ in
    (cc, cc)

pub does_exists : (h : Host) (c : Call) → CallMeets h c (reply_to h c) (call_on h c)
does_exists h (runs through_rules lent) = a_run h through_rules lent (ran_on h lent) refl
does_exists h (runs through_table lent) = a_run h through_table lent (ran_on h lent) (sym (same_run (given_to h lent)))
does_exists h (sets port value) = a_setting h port value (set_on h port value) refl
does_exists h (raises line) = a_raise h line (raise_on h line) refl

pub calls_exist : (h : Host) (cs : List Call) → (rs : List Reply) × (after : Host) × Calls h cs rs after
calls_exist h [] = ([], h, none)
calls_exist h (c ∷ cs) = let x = calls_exist (call_on h c) cs in (reply_to h c ∷ x.0, x.1, more (does_exists h c) x.2)
