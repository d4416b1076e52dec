-- A locked byte stays over a list of calls in which one journal is lent throughout: each call keeps what Stands.antt says, going back since it undoes
-- counted entries alone.
-- Assumes nothing.
use mathlib.Core.Path.{◌≡◌, refl, sym, subst, ◌∙◌}
use mathlib.Core.Bool.{Bool, true, false}
use mathlib.Core.List.{List, [], ◌∷◌}
use Prim.Native.Nat.{ℕ, ◌-◌, ◌<◌, ◌≤◌, ◌^◌}
use native.Mathlib.Omega.{arith}
use borrow.Author.Tests.{ltb-true}
use lib.Bits.{or_lt}
use lib.Dec.{eqb, ltb}
use lib.ListN.{length, get_or}
use lib.Pow.{pow-lt}
use Rattle.refusal.specs.Refusals.{Verdict, accepted, refused}
use Rattle.word.specs.Word.{pick}
use Rattle.word.proofs.Tests.{either}
use Rattle.machine.specs.declared.State.{State}
use Rattle.machine.specs.Machine.{is_locked, with_line, put_pending}
use Rattle.machine.specs.Run.{by_rules}
use Rattle.journal.specs.Ranges.{Numbers, InRange}
use Rattle.journal.proofs.Undone.{but_for_in_range}
use Rattle.journal.proofs.Written.{numbers_set, with_state_lem}
use Rattle.usage.specs.declared.Usage.{Usage}
use Rattle.panel.specs.Calls.{SetLeft, set_left, RaiseLeft, raise_left}
use Rattle.save.specs.Saved.{SaveLeft, save_left}
use Rattle.assembler.specs.Text.{AssembleLeft, assemble_left}
use Rattle.run.specs.Runs.{Journal, lent_journal, Given, RunReply, verdict_on, counted_by, counted_left}
use Rattle.back.specs.Backs.{BackReply, BackLeft, back_verdict, back_left_by, back_left}
use Rattle.back.proofs.Held.{held_counted}
use Rattle.back.proofs.Left.{passes}
use Rattle.back.proofs.Undone.{undone_in_range}
use Rattle.claims.specs.Session.{Engine, Lent, Call, runs, Reply, of_run, Host, host_of, given_to, after_set, after_raise, CallMeets, a_run, a_setting, a_raise, machine_on}
use Rattle.claims.specs.HostSteps.{call, a_call, a_step}
use Rattle.claims.proofs.Decided.{call_on, ran_on, does_exists}
use Rattle.claims.proofs.HostSteps.{does_run}
use Rattle.claims_back.specs.History.{given_back, after_back}
use Rattle.claims_back.proofs.History.{histories}
use Rattle.claims_isolation.specs.Locked.{AnyCall, does, goes_back, AnyReply, did, went_back, after_assembly, after_save, AnyMeets, a_host_call, a_back, an_assembly, a_window, a_save, AnyCalls, none, more}
use Rattle.claims_isolation.specs.Kept.{NamesNone, LentNone, OneJournal, none as no_call, with_run, with_back, with_other, Kept}
use Rattle.claims_isolation.proofs.Assembled.{assembled_bytes}
use Rattle.claims_isolation.proofs.Backs.{undone_range}
use Rattle.claims_isolation.proofs.Panel.{save_stays}
use Rattle.claims_isolation.proofs.Names.{names_none, undone_keeps}
use Rattle.claims_isolation.proofs.Stands.{counted_in_range, Stands, run_with, run_without}

-- under the range of s, with the locked bytes of Z
module _ (s : State) (Z : List ℕ) where
  module _ {h : Host} {xs : List ℕ} (p : Stands s Z h xs) where
    -- ---- Going back

    back_stands : (k : ℕ) (l : BackLeft) → l ≡ back_left (given_back h xs k) → (l.journal ≡ xs) × Stands s Z (after_back l) xs
    unfolding back_left
    back_stands k l e = subst (λ (l : BackLeft). (l.journal ≡ xs) × Stands s Z (after_back l) xs) (sym e) (go (back_verdict (given_back h xs k)) refl)
      where
        go : (v : Verdict) → back_verdict (given_back h xs k) ≡ v
            → ((back_left_by v (given_back h xs k)).journal ≡ xs) × Stands s Z (after_back (back_left_by v (given_back h xs k))) xs
        go accepted e =
            let c = h.state.journaled in
            let m = machine_on h [] in
            let few : k ≤ c = held_counted h.state xs (passes (given_back h xs k) (sym e)).held in (
              refl,
              record {
                stays_in_range = counted_in_range (c - k) refl (undone_in_range xs k c m p.stays_in_range);
                range = undone_range k c xs m ∙ p.range;
                bytes = λ a f. undone_keeps s xs k c m few p.free p.stays_in_range a f ∙ p.bytes a f;
                free = λ i l. p.free i (omega (arith, l));
              },
            )
        go (refused n) e = (refl, p)

    -- ---- A set, a raise, a text, a save

    set_stands : (port value : ℕ) → value < 65536 → (l : SetLeft) → l ≡ set_left (record { I = h.I; port = port; value = value })
        → Stands s Z (after_set h l) xs
    unfolding set_left
    set_stands port value v l e =
        subst (λ (l : SetLeft). Stands s Z (after_set h l) xs) (sym e)
        (either (λ (l : SetLeft). Stands s Z (after_set h l) xs) (eqb (length h.I) 256)
        (record {
          stays_in_range = but_for_in_range [] (numbers_set h.I port value p.stays_in_range.inputs v) p.stays_in_range;
          range = p.range;
          bytes = p.bytes;
          free = p.free;
        })
        p)

    raise_stands : (line : ℕ) (l : RaiseLeft) → l ≡ raise_left h.state line → Stands s Z (after_raise h l) xs
    unfolding raise_left
    raise_stands line l e = subst (λ (l : RaiseLeft). Stands s Z (after_raise h l) xs) (sym e) (go (ltb line 8) refl)
      where
        go : (t : Bool) → ltb line 8 ≡ t
            → Stands s Z
            (after_raise h
            (pick t (record { reply = accepted; state = put_pending (with_line line h.state.pending) h.state }) (record { reply = refused 16; state = h.state })))
            xs
        go true t =
            let r = p.stays_in_range in
            let few = or_lt 8 h.state.pending (2 ^ line) r.pending (pow-lt (ltb-true line 8 t)) in
            record {
              stays_in_range = with_state_lem r (put_pending (with_line line h.state.pending) h.state) r.registers r.pc r.enabled few r.line r.address;
              range = p.range;
              bytes = p.bytes;
              free = p.free;
            }
        go false t = p

    text_stands : (text : List ℕ) (l : AssembleLeft) → l ≡ assemble_left text h.P → Stands s Z (after_assembly h l) xs
    text_stands text l e =
        let r = p.stays_in_range in
        record {
          stays_in_range =
              record {
                registers = r.registers;
                pc = r.pc;
                enabled = r.enabled;
                pending = r.pending;
                line = r.line;
                address = r.address;
                program = subst (λ (x : AssembleLeft). Numbers 65536 256 x.program) (sym e) (assembled_bytes text h.P r.program);
                memory = r.memory;
                inputs = r.inputs;
                outputs = r.outputs;
              };
          range = p.range;
          bytes = p.bytes;
          free = p.free;
        }

    save_stands : (destination : List ℕ) (l : SaveLeft) → l ≡ save_left (record { state = h.state; P = h.P; D = h.D; destination = destination })
        → Stands s Z (after_save h l) xs
    save_stands destination l e =
        let k = save_stays h.state h.P {D = h.D} {E = h.D} (record { long = refl; same = λ k e. refl }) destination in
        subst (λ (x : SaveLeft). Stands s Z (after_save h x) xs) (sym e)
        (subst (λ (x : Host). Stands s Z x xs) (λ i. record { state = sym k.0 i; P = sym k.1 i; D = sym k.2 i; I = h.I; O = h.O }) p)

  -- ---- Lists

  host_call : {h after : Host} {c : Call} {r : Reply} {xs : List ℕ} → CallMeets h c r after → LentNone (does (call c)) → Stands s Z h xs
      → Stands s Z after xs
  host_call (a_run h e lent l meets) w p = run_without s Z p e lent w l meets
  host_call (a_setting h port value l e) w p = set_stands p port value w l e
  host_call (a_raise h line l e) w p = raise_stands p line l e

  other_call : {h after : Host} {c : AnyCall} {r : AnyReply} {xs : List ℕ} → AnyMeets h c r after → LentNone c → Stands s Z h xs → Stands s Z after xs
  other_call (a_host_call (a_call d)) w p = host_call d w p
  other_call (a_host_call (a_step h log answer state P D I O returned e)) w p =
      host_call (does_run (a_step h log answer state P D I O returned e)) refl p
  other_call (a_back h journal k l e) w p = absurd w
  other_call (an_assembly h text l e) w p = text_stands p text l e
  other_call (a_window h ofData start count part e) w p = p
  other_call (a_save h destination l e) w p = save_stands p destination l e

  run_call : {h after : Host} {e : Engine} {lent : Lent} {reply : RunReply} {u : Usage} {t : ℕ} {log xs ys : List ℕ} {j : Journal}
      → AnyMeets h (does (call (runs e lent))) (did (of_run reply u t log j)) after → lent.journal ≡ lent_journal xs → j ≡ lent_journal ys
      → Stands s Z h xs → Stands s Z after ys
  run_call {ys} (a_host_call (a_call (a_run h e lent l meets))) i j p = run_with s Z p e lent i l meets ys j

  back_call : {h after : Host} {xs ys : List ℕ} {k : ℕ} {reply : BackReply} → AnyMeets h (goes_back xs k) (went_back reply ys) after → Stands s Z h xs
      → Stands s Z after ys
  back_call (a_back h xs k l e) p = let z = back_stands p k l e in subst (Stands s Z (after_back l)) (sym z.0) z.1

  all_stand : {h last : Host} {cs : List AnyCall} {rs : List AnyReply} {xs : List ℕ} → AnyCalls h cs rs last → OneJournal xs cs rs → Stands s Z h xs
      → (ys : List ℕ) × Stands s Z last ys
  all_stand {xs} none no_call p = (xs, p)
  all_stand (more d ds) (with_run o) p = all_stand ds o (run_call d refl refl p)
  all_stand (more d ds) (with_back o) p = all_stand ds o (back_call d p)
  all_stand (more d ds) (with_other w o) p = all_stand ds o (other_call d w p)

stays_from : (h : Host) (xs : List ℕ) → InRange (machine_on h []) → ((i : ℕ) → i < h.state.journaled → NamesNone h.state (get_or xs i 0))
    → (cs : List AnyCall) (rs : List AnyReply) (last : Host) → AnyCalls h cs rs last → OneJournal xs cs rs
    → (a : ℕ) → is_locked a h.state ≡ true → get_or last.D a 0 ≡ get_or h.D a 0
stays_from h xs r f cs rs last ds o =
    (all_stand h.state h.D ds o (record { stays_in_range = r; range = refl; bytes = λ a e. refl; free = f })).1.bytes

-- ---- A list with a run and a going back

journal_left : (h : Host) (xs log : List ℕ) (budget : ℕ)
    → (ys : List ℕ) × ((ran_on h (record { budget = budget; log = log; journal = lent_journal xs })).left.journal ≡ lent_journal ys)
unfolding counted_left
journal_left h xs log budget = go (verdict_on g)
  where
    g : Given
    g = given_to h (record { budget = budget; log = log; journal = lent_journal xs })

    go : (v : Verdict) → (ys : List ℕ) × ((counted_by by_rules v g).left.journal ≡ lent_journal ys)
    go accepted = (_, refl)
    go (refused k) = (xs, refl)

exists : (h : Host) (xs log : List ℕ) (e : Engine) (budget k : ℕ)
    → (ys : List ℕ) × (rs : List AnyReply) × (last : Host)
    × (let cs = does (call (runs e (record { budget = budget; log = log; journal = lent_journal xs }))) ∷ goes_back ys k ∷ [] in
    AnyCalls h cs rs last × OneJournal xs cs rs)
exists h xs log e budget k =
    let c : Call = runs e (record { budget = budget; log = log; journal = lent_journal xs }) in
    let x = ran_on h (record { budget = budget; log = log; journal = lent_journal xs }) in
    let (ys, is) = journal_left h xs log budget in
    let after = call_on h c in
    let reply : Journal → AnyReply = λ j. did (of_run x.left.reply x.usage x.ticks x.left.log j) in
    let l = back_left (given_back after ys k) in (
      ys,
      reply (lent_journal ys) ∷ went_back l.reply l.journal ∷ [],
      after_back l,
      (
        more (subst (λ j. AnyMeets h (does (call c)) (reply j) after) is (a_host_call (a_call (does_exists h c)))) (more (a_back after ys k l refl) none),
        with_run (with_back no_call),
      ),
    )

pub kept : Kept
kept =
    record {
      names_none = names_none;
      stays = λ g l e ok bytes xs cs rs last ds o.
          let past = histories.after_load g l e ok bytes xs in
          stays_from (host_of l) xs (histories.stays_in_range (host_of l) xs [] past) (λ i few. absurd (omega (arith, few, past.counted))) cs rs last ds o;
      stays_from = stays_from;
      exists = exists;
    }
