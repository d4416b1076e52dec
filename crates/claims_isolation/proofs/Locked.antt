-- Each call decides what it replies and leaves; from two hosts that differ only in locked bytes it replies the same, and leaves such hosts again.
-- Assumes nothing.
use mathlib.Core.Path.{◌≡◌, refl, sym, ap, subst, ◌∙◌}
use mathlib.Core.List.{List, [], ◌∷◌, map}
use Prim.Native.Nat.{ℕ, ◌-◌}
use lib.ListN.{get_or}
use Rattle.refusal.specs.Refusals.{Verdict, accepted, refused}
use Rattle.machine.specs.Machine.{Machine, put_journaled, reset_on}
use Rattle.panel.specs.Calls.{window_of}
use Rattle.image.specs.Image.{with_range, loaded, LoadGiven, LoadLeft, load_left}
use Rattle.save.specs.Saved.{SaveLeft, save_left}
use Rattle.assembler.specs.Text.{AssembleLeft, assemble_left}
use Rattle.run.specs.Runs.{CountedLeft, counted_left}
use Rattle.back.specs.Backs.{BackGiven, BackLeft, back_verdict, machine_given, back_left_by, back_left}
use Rattle.claims.specs.Session.{stepper_of, through_rules, Lent, runs, sets, raises, Reply, Host, host_of, given_to, after_one_run}
use Rattle.claims.specs.HostSteps.{HostCall, call, host_step, budget1, HostCallMeets, a_call, a_step, HostCalls, more as more-host}
use Rattle.claims.specs.Usage.{Reordered}
use Rattle.claims.specs.Saved.{range_of}
use Rattle.claims.proofs.Together.{both, told}
use Rattle.claims.proofs.Decided.{ran_on, reply_to, call_on, does_decided}
use Rattle.claims.proofs.HostSteps.{does_run, host_steps}
use Rattle.claims.proofs.Session.{accepted_load}
use Rattle.claims_back.specs.History.{given_back, after_back}
use Rattle.claims_isolation.specs.Locked.{Differ, Apart, AnyCall, does, goes_back, assembles, looks, saves, AnyReply, did, went_back, assembled, saw, wrote_file, plain_of, Alike, after_assembly, after_save, AnyMeets, a_host_call, a_back, an_assembly, a_window, a_save, AnyCalls, none, more, fed_of, Indistinguishable, Isolated}
use Rattle.claims_isolation.proofs.Over.{same_range}
use Rattle.claims_isolation.proofs.Runs.{run_apart, run_locked, run_range}
use Rattle.claims_isolation.proofs.Backs.{goes_back as undone-alike, undone_range, back_range}
use Rattle.claims_isolation.proofs.Two.{two_loads}
use Rattle.claims_isolation.proofs.Sheets.{same_sheets}
use Rattle.claims_isolation.proofs.Panel.{same_window, same_save, save_stays, raise_range}

-- ---- What a call replies and leaves

abbrev back_on : Host → List ℕ → ℕ → BackLeft
back_on h journal k = back_left (given_back h journal k)

abbrev save_on : Host → List ℕ → SaveLeft
save_on h destination = save_left (record { state = h.state; P = h.P; D = h.D; destination = destination })

abbrev reply_on : Host → AnyCall → AnyReply
reply_on h (does (call c)) = did (reply_to h c)
reply_on h (does (host_step log)) = did (reply_to h (runs through_rules (budget1 log)))
reply_on h (goes_back journal k) = went_back (back_on h journal k).reply (back_on h journal k).journal
reply_on h (assembles text) = assembled (assemble_left text h.P).reply
reply_on h (looks ofData start count) = saw (window_of h.state h.P h.D ofData start count)
reply_on h (saves destination) = wrote_file (save_on h destination).reply (save_on h destination).destination

abbrev host_on : Host → AnyCall → Host
host_on h (does (call c)) = call_on h c
host_on h (does (host_step log)) = call_on h (runs through_rules (budget1 log))
host_on h (goes_back journal k) = after_back (back_on h journal k)
host_on h (assembles text) = after_assembly h (assemble_left text h.P)
host_on h (looks ofData start count) = h
host_on h (saves destination) = after_save h (save_on h destination)

decided : {h after : Host} {c : AnyCall} {r : AnyReply} → AnyMeets h c r after → (r ≡ reply_on h (plain_of c)) × (after ≡ host_on h (plain_of c))
decided (a_host_call (a_call d)) = let z = does_decided d in (ap did z.0, z.1)
decided (a_host_call (a_step h log answer state P D I O returned e)) =
    let z = does_decided (does_run (a_step h log answer state P D I O returned e)) in (ap did z.0, z.1)
decided (a_back h journal k l e) = (ap (λ (x : BackLeft). went_back x.reply x.journal) e, ap after_back e)
decided (an_assembly h text l e) = (ap (λ (x : AssembleLeft). assembled x.reply) e, ap (after_assembly h) e)
decided (a_window h ofData start count part e) = (ap saw e, refl)
decided (a_save h destination l e) = (ap (λ (x : SaveLeft). wrote_file x.reply x.destination) e, ap (after_save h) e)

-- ---- From two hosts

-- the host with another data memory
abbrev other : Host → List ℕ → Host
other h E = record { state = h.state; P = h.P; D = E; I = h.I; O = h.O }

-- a call from h, and the same from h with a data memory that differs only in locked bytes
abbrev OneCall : Host → List ℕ → AnyCall → Type 0
OneCall h E c = (reply_on h c ≡ reply_on (other h E) c) × Apart (host_on h c) (host_on (other h E) c)

module _ (h : Host) (E : List ℕ) (d : Differ h.state h.D E) where
  a_run : (lent : Lent) → (did (told (ran_on h lent)) ≡ did (told (ran_on (other h E) lent))) × Apart (after_one_run (ran_on h lent).left) (after_one_run (ran_on (other h E) lent).left)
  a_run lent =
      let z = run_apart (given_to h lent) E d in (
        ap (λ (y : CountedLeft). did (told y)) z.same,
        record {
          state = ap (λ (y : CountedLeft). y.left.state) z.same;
          program = ap (λ (y : CountedLeft). y.left.P) z.same;
          memory = z.memory;
          inputs = ap (λ (y : CountedLeft). y.left.I) z.same;
          outputs = ap (λ (y : CountedLeft). y.left.O) z.same;
        },
      )

  module _ (journal : List ℕ) (k : ℕ) where
    abbrev g : BackGiven
    g = given_back h journal k

    abbrev g' : BackGiven
    g' = given_back (other h E) journal k

    back_by : (x : Verdict)
        → (went_back (back_left_by x g).reply (back_left_by x g).journal ≡ went_back (back_left_by x g').reply (back_left_by x g').journal)
        × Apart (after_back (back_left_by x g)) (after_back (back_left_by x g'))
    back_by accepted =
        let count = h.state.journaled in
        let m = machine_given g in
        let z = undone-alike h.state k count journal m E d in
        let led : after_back (back_left_by accepted g') ≡ other (after_back (back_left_by accepted g)) z.other =
        ap (λ (y : Machine). record { state = put_journaled (count - k) y.state; P = y.P; D = y.D; I = y.I; O = y.O }) z.is in (
          refl,
          subst (Apart (after_back (back_left_by accepted g))) (sym led)
              (record { state = refl; program = refl; memory = same_range (undone_range k count journal m) z.differs; inputs = refl; outputs = refl }),
        )
    back_by (refused j) = (refl, record { state = refl; program = refl; memory = d; inputs = refl; outputs = refl })

    -- of the data memory the tests look at the length alone
    same_verdict : back_verdict g' ≡ back_verdict g
    unfolding back_verdict
    same_verdict = rw d.long

    a_back_too : OneCall h E (goes_back journal k)
    unfolding back_left
    a_back_too =
        subst (λ (v : Verdict). (went_back (back_left_by (back_verdict g) g).reply (back_left_by (back_verdict g) g).journal ≡ went_back (back_left_by v g').reply (back_left_by v g').journal)
        × Apart (after_back (back_left_by (back_verdict g) g)) (after_back (back_left_by v g')))
        (sym same_verdict) (back_by (back_verdict g))

  one : (c : AnyCall) → OneCall h E c
  one (does (call (runs e lent))) = a_run lent
  one (does (call (sets port value))) = (refl, record { state = refl; program = refl; memory = d; inputs = refl; outputs = refl })
  one (does (call (raises line))) = (refl, record { state = refl; program = refl; memory = same_range (raise_range h.state line) d; inputs = refl; outputs = refl })
  one (does (host_step log)) = a_run (budget1 log)
  one (goes_back journal k) = a_back_too journal k
  one (assembles text) = (refl, record { state = refl; program = refl; memory = d; inputs = refl; outputs = refl })
  one (looks ofData start count) =
      (ap saw (same_window h.state h.P d ofData start count), record { state = refl; program = refl; memory = d; inputs = refl; outputs = refl })
  one (saves destination) =
      let l = save_on h destination in
      let z : save_on (other h E) destination ≡ record { reply = l.reply; state = h.state; P = h.P; D = E; destination = l.destination } = same_save h.state h.P d destination in
      let k = save_stays h.state h.P d destination in (
        ap (λ (x : SaveLeft). wrote_file x.reply x.destination) (sym z),
        subst (λ (x : SaveLeft). Apart (after_save h l) (after_save h x)) (sym z)
            (record { state = k.0; program = k.1; memory = subst (λ M. Differ l.state M E) (sym k.2) (same_range (ap range_of k.0) d); inputs = refl; outputs = refl }),
      )

-- ---- Lists

apart_is : {h g : Host} → Apart h g → g ≡ other h g.D
apart_is {h} {g} a = λ i. record { state = sym a.state i; P = sym a.program i; D = g.D; I = sym a.inputs i; O = sym a.outputs i }

one_call : {h g : Host} → Apart h g → (c : AnyCall) → (reply_on h c ≡ reply_on g c) × Apart (host_on h c) (host_on g c)
one_call {h} {g} a c = subst (λ (x : Host). (reply_on h c ≡ reply_on x c) × Apart (host_on h c) (host_on x c)) (sym (apart_is a)) (one h g.D a.memory c)

replies_on : Host → List AnyCall → List AnyReply
replies_on h [] = []
replies_on h (c ∷ cs) = reply_on h c ∷ replies_on (host_on h c) cs

hosts_on : Host → List AnyCall → Host
hosts_on h [] = h
hosts_on h (c ∷ cs) = hosts_on (host_on h c) cs

all_decided : {h after : Host} {cs : List AnyCall} {rs : List AnyReply} → AnyCalls h cs rs after → (rs ≡ replies_on h (map plain_of cs)) × (after ≡ hosts_on h (map plain_of cs))
unfolding replies_on hosts_on
all_decided none = (refl, refl)
all_decided (more {cs = cs} d ds) =
    let t = decided d in
    let u = all_decided ds in
    (rw (← t.0, ← t.1, ← u.0), u.1 ∙ ap (λ (x : Host). hosts_on x (map plain_of cs)) t.1)

all_apart : (cs : List AnyCall) {h g : Host} → Apart h g → (replies_on h cs ≡ replies_on g cs) × Apart (hosts_on h cs) (hosts_on g cs)
unfolding replies_on hosts_on
all_apart [] a = (refl, a)
all_apart (c ∷ cs) a =
    let t = one_call a c in
    let u = all_apart cs t.1 in
    (λ i. t.0 i ∷ u.0 i, u.1)

apart : (h g : Host) → Apart h g → (cs₁ cs₂ : List AnyCall) → Alike cs₁ cs₂
    → (rs₁ rs₂ : List AnyReply) (h₁ h₂ : Host) → AnyCalls h cs₁ rs₁ h₁ → AnyCalls g cs₂ rs₂ h₂ → (rs₁ ≡ rs₂) × Apart h₁ h₂
apart h g a cs₁ cs₂ alike rs₁ rs₂ h₁ h₂ ds₁ ds₂ =
    let t = all_decided ds₁ in
    let u = all_decided ds₂ in
    let z = all_apart (map plain_of cs₁) a in (
      t.0 ∙ z.0 ∙ ap (replies_on g) alike ∙ sym u.0,
      subst (Apart h₁) (ap (hosts_on g) alike ∙ sym u.1) (subst (λ (x : Host). Apart x (hosts_on g (map plain_of cs₁))) (sym t.1) z.1),
    )

indistinguishable : (h g : Host) → Apart h g → (cs₁ cs₂ : List AnyCall) → Alike cs₁ cs₂
    → (rs₁ rs₂ : List AnyReply) (h₁ h₂ : Host) → AnyCalls h cs₁ rs₁ h₁ → AnyCalls g cs₂ rs₂ h₂ → Indistinguishable rs₁ rs₂ h₁ h₂
indistinguishable h g a cs₁ cs₂ alike rs₁ rs₂ h₁ h₂ ds₁ ds₂ =
    let z = apart h g a cs₁ cs₂ alike rs₁ rs₂ h₁ h₂ ds₁ ds₂ in
    record {
      replies = z.0;
      sheets = λ s after order₁ order₂ few p q. same_sheets (fed_of rs₁) order₁ order₂ p (subst (λ (rs : List AnyReply). Reordered (fed_of rs) order₂) (sym z.0) q) s after few;
      hosts = z.1;
    }

-- ---- Replies exist

host_call_exists : (h : Host) (c : HostCall) → (r : Reply) × (after : Host) × HostCallMeets h c r after
host_call_exists h c = first (host_steps.replies_exist h (c ∷ [])).2
  where
    first : {rs : List Reply} {last : Host} → HostCalls h (c ∷ []) rs last → (r : Reply) × (after : Host) × HostCallMeets h c r after
    first (more-host d ds) = (_, _, d)

call_exists : (h : Host) (c : AnyCall) → (r : AnyReply) × (after : Host) × AnyMeets h c r after
call_exists h (does c) = let z = host_call_exists h c in (did z.0, z.1, a_host_call z.2)
call_exists h (goes_back journal k) = (_, _, a_back h journal k _ refl)
call_exists h (assembles text) = (_, _, an_assembly h text _ refl)
call_exists h (looks ofData start count) = (_, _, a_window h ofData start count _ refl)
call_exists h (saves destination) = (_, _, a_save h destination _ refl)

replies_exist : (h : Host) (cs : List AnyCall) → (rs : List AnyReply) × (last : Host) × AnyCalls h cs rs last
replies_exist h [] = ([], h, none)
replies_exist h (c ∷ cs) =
    let z = call_exists h c in
    let u = replies_exist z.1 cs in
    (z.0 ∷ u.0, u.1, more z.2 u.2)

-- ---- Loads

load_state : (g : LoadGiven) (l : LoadLeft) → l ≡ load_left g → l.reply ≡ accepted → l.state ≡ with_range g.range (reset_on g.board)
unfolding loaded
load_state g l e ok = ap (λ (m : Machine). m.state) (accepted_load g l e ok).1

load_ports : (g₁ g₂ : LoadGiven) (l₁ l₂ : LoadLeft) → l₁ ≡ load_left g₁ → l₁.reply ≡ accepted → l₂ ≡ load_left g₂ → l₂.reply ≡ accepted
    → (l₁.I ≡ l₂.I) × (l₁.O ≡ l₂.O)
unfolding loaded
load_ports g₁ g₂ l₁ l₂ e₁ ok₁ e₂ ok₂ =
    let a = (accepted_load g₁ l₁ e₁ ok₁).1 in
    let b = (accepted_load g₂ l₂ e₂ ok₂).1 in
    (ap (λ (m : Machine). m.I) a ∙ sym (ap (λ (m : Machine). m.I) b), ap (λ (m : Machine). m.O) a ∙ sym (ap (λ (m : Machine). m.O) b))

pub isolated : Isolated
isolated =
    record {
      isolation = λ g₁ g₂ board range l₁ l₂ e₁ ok₁ e₂ ok₂ program memory.
          let ports = load_ports g₁ g₂ l₁ l₂ e₁ ok₁ e₂ ok₂ in
          indistinguishable (host_of l₁) (host_of l₂)
          (record {
            state = load_state g₁ l₁ e₁ ok₁ ∙ (λ i. with_range (range i) (reset_on (board i))) ∙ sym (load_state g₂ l₂ e₂ ok₂);
            program = program;
            memory = memory;
            inputs = ports.0;
            outputs = ports.1;
          });
      apart = indistinguishable;
      replies_exist = replies_exist;
      run_range = λ e g. ap (λ (x : CountedLeft). range_of x.left.state) (both e g (counted_left (stepper_of e) g) refl) ∙ run_range g;
      run_locked = λ e g k h. ap (λ (x : CountedLeft). get_or x.left.D k 0) (both e g (counted_left (stepper_of e) g) refl) ∙ run_locked g k h;
      two_loads = two_loads;
      back_range = back_range;
      raise_range = raise_range;
    }
