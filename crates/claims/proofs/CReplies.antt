-- By the cases of each reply: no call refuses with 0, so the numbers give back the reply.
-- Assumes nothing.
use mathlib.Core.Path.{◌≡◌, refl, sym, ◌∙◌, ap, subst}
use mathlib.Core.Bool.{Bool, true, false}
use mathlib.Core.Logic.{◌↔◌, ⊎_elim}
use mathlib.Core.List.{List, [], ◌∷◌, map}
use Prim.Native.Nat.{ℕ, zero, suc, ◌-◌, ◌<◌, ◌≤◌}
use native.Mathlib.Omega.{arith}
use borrow.Author.Tests.{ne_eqb, le-leb, lt-leb}
use lib.Dec.{eqb}
use lib.IntN.{ℤ}
use lib.ListN.{length, get_or, drop, replicate, get_or-replicate}
use Rattle.refusal.specs.Refusals.{Verdict, accepted, refused}
use Rattle.word.specs.Word.{pick}
use Rattle.word.proofs.Tests.{clash}
use Rattle.kinds.specs.declared.Kind.{Kind}
use Rattle.kinds.specs.declared.Kind.TheVariants.{And}
use Rattle.kinds.specs.Kinds.{kinds, kind_number}
use Rattle.isa.specs.declared.Instruction.{Instruction}
use Rattle.isa.specs.Instructions.{Read, instruction, unassigned, read_of, WriteReply, word, write_refused, write_of}
use Rattle.isa.specs.Masks.{Masks, Decoding, masks_of}
use Rattle.isa.proofs.Every.{listed}
use Rattle.machine.specs.Run.{Stepper}
use Rattle.panel.specs.Calls.{SetGiven, set_left, raise_left}
use Rattle.machine.specs.declared.State.{State}
use Rattle.image.specs.Image.{LoadGiven, load_left}
use Rattle.save.specs.Saved.{SaveReply, saved, save_refused, SaveGiven, save_left}
use Rattle.assembler.specs.Text.{Reply, words, text_refused, assemble_left}
use Rattle.control.specs.Control.{by_the_table}
use Rattle.usage.specs.Usage.{unused}
use Rattle.run.specs.Runs.{Given, stopped, run_refused, verdict_on, run_left_by, run_left, CountedLeft, counted_by, counted_left}
use Rattle.page.specs.declared.TrimAnswer.{TrimAnswer}
use Rattle.page.specs.Pages.{PageGiven, PageLeft, no_answer, page_left}
use Rattle.back.specs.Backs.{gone_back, BackGiven, back_verdict, back_left_by, back_left}
use Rattle.sheet.specs.declared.Sheet.{Sheet}
use Rattle.sheet.specs.Sheet.{feed_by, was_accepted, feed_left}
use Rattle.replies.specs.declared.SisaAnswer.{SisaAnswer}
use Rattle.replies.specs.declared.SisaPage.{SisaPage}
use Rattle.replies.specs.declared.SisaWord.{SisaWord}
use Rattle.replies.specs.Sisa.{verdict_number, sisa_load_left, sisa_saved, sisa_save_left, sisa_assembly, sisa_assemble_left, sisa_set_left, sisa_raise, SisaRunLeft, run_in_numbers, sisa_run_left, HostLent, HostStepMeets, sisa_answer, page_in_numbers, sisa_page_left, back_in_numbers, sisa_back_left, instruction_in_numbers, sisa_word, sisa_write, sisa_feed}
use Rattle.claims.specs.Session.{Engine, stepper_of}
use Rattle.claims.specs.HostSteps.{step_given, reply_of}
use Rattle.claims_words.specs.Instructions.{cleared}
use Rattle.claims.specs.CReplies.{verdict_of, LoadReplies, saved_of, SaveReplies, assembly_of, AssembleReplies, SetReplies, RaiseReplies, answer_of, run_of, RunReplies, step_left, trim_of, refusal_alone, PageReplies, back_of, BackReplies, FeedReplies, sisa_read, instruction_of, reading_of, ReadReplies, sisa_write_of, written_of, WriteReplies, CReplies}
use Rattle.claims_texts.proofs.Assembly.{refused_not_0}
use Rattle.claims.proofs.Feeding.{turned}
use Rattle.claims_words.proofs.Instructions.{instructions}
use Rattle.claims_sheet.proofs.Masks.{mask_laws}
use Rattle.claims.proofs.PageReplies.{run_not_0, Replied, replied}
use Rattle.claims.proofs.Refusals.{refusals}
use Rattle.claims.proofs.Saved.{saving}

-- ---- Calls that are accepted or refused

-- no refusal with 0
abbrev Not0 : {X : Type 0} → (ℕ → X) → X → Type 0
Not0 refuse x = (k : ℕ) → x ≡ refuse k → k ≡ 0 → ⊥

verdict_back : (x : Verdict) → Not0 refused x → (verdict_of (verdict_number x) ≡ x) × ((verdict_number x ≡ 0) ↔ (x ≡ accepted))
verdict_back accepted h = (refl, (λ e. refl, λ e. refl))
verdict_back (refused k) h = (rw (ne_eqb k 0 (h k refl)), (λ e. absurd (h k refl e), λ e. clash (cc)))

load : (g : LoadGiven) → LoadReplies g
unfolding sisa_load_left
load g =
    let l = load_left g in
    let b = verdict_back l.reply (λ k e z. ⊎_elim (λ h. omega arith) (⊎_elim (λ h. omega arith) (⊎_elim (λ h. omega arith) (⊎_elim (λ h. omega arith) (⊎_elim (λ h. omega arith) (λ h. omega arith))))) ((refusals.load g).no_other k e)) in
    record {
      gives_back = ap (λ (x : Verdict). record { reply = x; state = l.state; P = l.P; D = l.D; I = l.I; O = l.O }) b.0;
      refusal_0 = b.1;
    }

setting : (g : SetGiven) → SetReplies g
unfolding sisa_set_left
setting g =
    let l = set_left g in
    let b = verdict_back l.reply (λ k e z. omega (arith, (refusals.setting g).no_other k e)) in
    record { gives_back = ap (λ (x : Verdict). record { reply = x; I = l.I }) b.0; refusal_0 = b.1 }

raise : (s : State) (line : ℕ) → RaiseReplies s line
unfolding sisa_raise
raise s line =
    let l = raise_left s line in
    let b = verdict_back l.reply (λ k e z. omega (arith, (refusals.raise s line).no_other k e)) in
    record { gives_back = ap (λ (x : Verdict). record { reply = x; state = l.state }) b.0; refusal_0 = b.1 }

-- ---- Saving

save_back : (x : SaveReply) (s : State) → Not0 save_refused x
    → (saved_of (sisa_saved x s) ≡ x)
    × (((sisa_saved x s).refusal ≡ 0) ↔ ((n : ℕ) × (x ≡ saved n)))
    × (((sisa_saved x s).refusal ≡ 0 → ⊥) → (sisa_saved x s).length ≡ 0)
    × ((sisa_saved x s).state ≡ s)
save_back (saved n) s h = (refl, (λ e. (n, refl), λ e. refl), λ n. absurd (n refl), refl)
save_back (save_refused k) s h = (rw (ne_eqb k 0 (h k refl)), (λ e. absurd (h k refl e), λ e. let z = e.1 in clash (cc)), λ n. refl, refl)

save : (g : SaveGiven) → SaveReplies g
unfolding sisa_save_left
save g =
    let l = save_left g in
    let b = save_back l.reply l.state (λ k e z. ⊎_elim (λ h. omega arith) (λ h. omega arith) ((saving.refusals g).no_other k e)) in
    record {
      gives_back = λ i. record { reply = b.0 i; state = b.3 i; P = l.P; D = l.D; destination = l.destination };
      refusal_0 = b.1;
      others_0 = b.2;
    }

-- ---- Assembling

assembly_back : (x : Reply) → ((k r : ℕ) → x ≡ text_refused k r → r ≡ 0 → ⊥)
    → (assembly_of (sisa_assembly x) ≡ x) × (((sisa_assembly x).refusal ≡ 0) ↔ ((n : ℕ) × (x ≡ words n))) × (((sisa_assembly x).refusal ≡ 0 → ⊥) → (sisa_assembly x).words ≡ 0) × ((sisa_assembly x).refusal ≡ 0 → (sisa_assembly x).line ≡ 0)
assembly_back (words n) h = (refl, (λ e. (n, refl), λ e. refl), λ n. absurd (n refl), λ e. refl)
assembly_back (text_refused k r) h =
    (rw (ne_eqb r 0 (h k r refl)), (λ e. absurd (h k r refl e), λ e. let z = e.1 in clash (cc)), λ n. refl, λ e. absurd (h k r refl e))

assemble : (text program : List ℕ) → AssembleReplies text program
unfolding sisa_assemble_left
assemble text program =
    let l = assemble_left text program in
    let b = assembly_back l.reply (refused_not_0 text program) in
    record {
      gives_back = ap (λ (x : Reply). record { reply = x; program = l.program }) b.0;
      refusal_0 = b.1;
      others_0 = b.2;
      line_0 = b.3;
    }

-- ---- Runs

module _ (v : Stepper) (g : Given) where
  -- by the verdict
  run_back : (x : Verdict) → Not0 refused x
      → (run_of (run_in_numbers (counted_by v x g)) ≡ counted_by v x g)
      × (((run_in_numbers (counted_by v x g)).reply.refusal ≡ 0) ↔ ((q : ℕ) × (s : ℕ) × (k : ℕ) × ((run_left_by v x g).reply ≡ stopped q s k)))
      × (((run_in_numbers (counted_by v x g)).reply.refusal ≡ 0 → ⊥)
      → (run_in_numbers (counted_by v x g)).reply
      ≡ record { state = g.state; refusal = (run_in_numbers (counted_by v x g)).reply.refusal; stop = 0; steps = 0; entries = 0; ticks = 0; usage = unused })
  run_back accepted h = (refl, (λ e. (_, _, _, refl), λ e. refl), λ n. absurd (n refl))
  run_back (refused k) h = (rw (ne_eqb k 0 (h k refl)), (λ e. absurd (h k refl e), λ e. let z = e.3 in clash (cc)), λ n. refl)

  pub run : RunReplies v g (sisa_run_left v g)
  unfolding sisa_run_left counted_left run_left
  run =
      let b = run_back (verdict_on g) (run_not_0 g) in
      record { gives_back = b.0; refusal_0 = b.1; others_0 = b.2 }

pub host_step : (h after : HostLent) (a : SisaAnswer) → HostStepMeets h a after → RunReplies by_the_table (step_given h) (step_left a after)
host_step h after a e = subst (RunReplies by_the_table (step_given h)) (sym e) (run by_the_table (step_given h))

-- ---- Pages

trims_back : (k : ℕ) (xs : List TrimAnswer) → map trim_of (map (sisa_answer k) xs) ≡ xs
trims_back k [] = refl
trims_back k (x ∷ xs) = ap (λ ys. x ∷ ys) (trims_back k xs)

same_refusal : (k n : ℕ) (xs : List TrimAnswer) → length xs ≡ n → map (λ a. a.refusal) (map (sisa_answer k) xs) ≡ replicate n k
same_refusal k zero [] e = refl
same_refusal k zero (x ∷ xs) e = absurd (omega arith)
same_refusal k (suc n) [] e = absurd (omega arith)
same_refusal k (suc n) (x ∷ xs) e = ap (λ ys. k ∷ ys) (same_refusal k n xs (omega arith))

alone : (k n : ℕ) → map (sisa_answer k) (replicate n no_answer) ≡ replicate n (refusal_alone k)
alone k zero = refl
alone k (suc n) = ap (λ ys. refusal_alone k ∷ ys) (alone k n)

past_answers : (k n : ℕ) (xs : List TrimAnswer) → drop n (map (sisa_answer k) xs) ≡ map (sisa_answer k) (drop n xs)
past_answers k zero xs = refl
past_answers k (suc n) [] = refl
past_answers k (suc n) (x ∷ xs) = past_answers k n xs

fed_refused : (s : Sheet) (k : ℕ) → (k ≡ 0 → ⊥) → sisa_feed s k unused ≡ record { sheet = s; refusal = 0 }
unfolding sisa_feed
fed_refused s k n = rw (ne_eqb k 0 n)

module _ (v : Stepper) (g : PageGiven) (l : PageLeft) (is : l ≡ page_left v g) (known : Replied g l) where
  abbrev n : ℕ
  n = verdict_number l.reply

  back_is : (verdict_of n ≡ l.reply) × ((n ≡ 0) ↔ (l.reply ≡ accepted))
  back_is = verdict_back l.reply known.not_0

  refused_is : (n ≡ 0 → ⊥) → (page_in_numbers l).reply ≡ record { trims = record { states = g.states }; refusal = n; answers = replicate 8 (refusal_alone n) }
  refused_is h = by_reply l.reply refl
    where
      by_reply : (x : Verdict) → l.reply ≡ x → (page_in_numbers l).reply ≡ record { trims = record { states = g.states }; refusal = n; answers = replicate 8 (refusal_alone n) }
      by_reply accepted e = absurd (h (back_is.1.1 e))
      by_reply (refused k) e =
          let (s, a) = known.handed k e in
          λ i. record { trims = record { states = s i }; refusal = n; answers = (ap (map (sisa_answer n)) a ∙ alone n 8) i }

  page_numbers : PageReplies v g (page_in_numbers l)
  page_numbers =
      record {
        gives_back =
            (λ i.
            record {
              reply = back_is.0 i;
              states = l.states;
              answers = trims_back n l.answers i;
              P = l.P;
              D = l.D;
              I = l.I;
              O = l.O;
              log = l.log;
            })
            ∙ is;
        refusal_0 = subst (λ (x : PageLeft). (n ≡ 0) ↔ (x.reply ≡ accepted)) is back_is.1;
        refusals = same_refusal n 8 l.answers known.eight;
        others_0 = refused_is;
        adds_nothing = λ h s k few.
            let a : get_or (page_in_numbers l).reply.answers k (refusal_alone 0) ≡ refusal_alone n =
            ap (λ (x : SisaPage). get_or x.answers k (refusal_alone 0)) (refused_is h) ∙ get_or-replicate 8 k (refusal_alone n) (refusal_alone 0) few in
            ap (λ (x : SisaAnswer). sisa_feed s x.refusal x.usage) a ∙ fed_refused s n h;
        past_0 = λ z.
            past_answers n g.count l.answers
            ∙ ap (map (sisa_answer n)) (known.past (back_is.1.0 z))
            ∙ alone n (8 - g.count)
            ∙ ap (λ k. replicate (8 - g.count) (refusal_alone k)) z;
        journaled_0 = λ z. known.journaled (back_is.1.0 z);
      }

page : (e : Engine) (g : PageGiven) → PageReplies (stepper_of e) g (sisa_page_left (stepper_of e) g)
unfolding sisa_page_left
page e g = page_numbers (stepper_of e) g (page_left (stepper_of e) g) refl (replied e g)

-- ---- Going back

module _ (g : BackGiven) where
  -- by the verdict
  went_back : (x : Verdict) → Not0 refused x
      → (back_of (back_in_numbers (back_left_by x g)) ≡ back_left_by x g)
      × (((back_in_numbers (back_left_by x g)).reply.refusal ≡ 0) ↔ ((e : ℕ) × ((back_left_by x g).reply ≡ gone_back e)))
      × (((back_in_numbers (back_left_by x g)).reply.refusal ≡ 0 → ⊥)
      → (back_in_numbers (back_left_by x g)).reply ≡ record { state = g.state; refusal = (back_in_numbers (back_left_by x g)).reply.refusal; entries = 0 })
  went_back accepted h = (refl, (λ e. (_, refl), λ e. refl), λ n. absurd (n refl))
  went_back (refused k) h = (rw (ne_eqb k 0 (h k refl)), (λ e. absurd (h k refl e), λ e. let z = e.1 in clash (cc)), λ n. refl)

  back : BackReplies g
  unfolding sisa_back_left back_left
  back =
      let b = went_back (back_verdict g) (λ k e z. ⊎_elim (λ h. omega arith) (⊎_elim (λ h. omega arith) (λ h. omega arith)) ((refusals.back g).no_other k (ap (λ (x : Verdict). (back_left_by x g).reply) e))) in
      record { gives_back = b.0; refusal_0 = b.1; others_0 = b.2 }

-- ---- Feeding

accepted_is : (t : Bool) (q s e k : ℕ) → was_accepted (pick t (stopped q s e) (run_refused k)) ≡ t
accepted_is true q s e k = refl
accepted_is false q s e k = refl

feed : (s : Sheet) (a : SisaAnswer) → FeedReplies s a (reply_of a) a.usage
unfolding sisa_feed feed_left
feed s a =
    let t = eqb a.refusal 0 in
    let f = feed_by t s a.usage in
    let same = accepted_is t a.stop a.steps a.entries a.refusal in
    let b = verdict_back f.reply (λ k e z. omega (arith, (turned t s a.usage k e).number)) in
    record {
      gives_back = ap (λ (x : Verdict). record { reply = x; sheet = f.sheet }) b.0 ∙ ap (λ (x : Bool). feed_by x s a.usage) (sym same);
      refusal_0 = subst (λ (x : Bool). (verdict_number f.reply ≡ 0) ↔ ((feed_by x s a.usage).reply ≡ accepted)) (sym same) b.1;
    }

fed_run : (v : Stepper) (g : Given) (s : Sheet) (l : SisaRunLeft) → RunReplies v g l → FeedReplies s (answer_of l.reply) (counted_left v g).left.reply (counted_left v g).usage
fed_run v g s l b = subst (λ (c : CountedLeft). FeedReplies s (answer_of l.reply) c.left.reply c.usage) b.gives_back (feed s (answer_of l.reply))

-- ---- Reading and writing

read_back : (x : Read) (m : Masks) → reading_of (instruction_in_numbers x m) ≡ record { reading = x; masks = m }
read_back (instruction i) m =
    ap (λ (k : Kind). record { reading = instruction (record { kind = k; a = i.a; b = i.b; d = i.d; n = i.n }); masks = m }) (listed i.kind).1
read_back unassigned m = refl

read_1 : (x : Read) (m : Masks) → ((instruction_in_numbers x m).assigned ≡ 1) ↔ ((i : Instruction) × (x ≡ instruction i))
read_1 (instruction i) m = (λ e. (i, refl), λ e. refl)
read_1 unassigned m = (λ e. absurd (omega arith), λ e. let z = e.1 in clash (cc))

read_0 : (x : Read) (m : Masks) → ((instruction_in_numbers x m).assigned ≡ 0) ↔ (x ≡ unassigned)
read_0 (instruction i) m = (λ e. absurd (omega arith), λ e. clash (cc))
read_0 unassigned m = (λ e. refl, λ e. refl)

read : (w : ℕ) → ReadReplies w
read w =
    record {
      gives_back = read_back (read_of w) (masks_of w);
      assigned_1 = read_1 (read_of w) (masks_of w);
      assigned_0 = read_0 (read_of w) (masks_of w);
      others_0 = λ e.
          let u = (read_0 (read_of w) (masks_of w)).0 e in
          rw (u, mask_laws.unassigned_none w u);
    }

write_is : (i : Instruction) → sisa_write_of i ≡ sisa_word (write_of i)
unfolding sisa_write
write_is i =
    let few : kind_number i.kind ≤ 33 = omega (arith, (listed i.kind).0) in
    rw (le-leb (kind_number i.kind) 33 few)
    (ap (λ (k : Kind). sisa_word (write_of (record { kind = k; a = i.a; b = i.b; d = i.d; n = i.n }))) (listed i.kind).1)

word_back : (x : WriteReply) → Not0 write_refused x
    → (written_of (sisa_word x) ≡ x) × (((sisa_word x).refusal ≡ 0) ↔ ((w : ℕ) × (x ≡ word w))) × (((sisa_word x).refusal ≡ 0 → ⊥) → (sisa_word x).word ≡ 0)
word_back (word w) h = (refl, (λ e. (w, refl), λ e. refl), λ n. absurd (n refl))
word_back (write_refused k) h = (rw (ne_eqb k 0 (h k refl)), (λ e. absurd (h k refl e), λ e. let z = e.1 in clash (cc)), λ n. refl)

write : (i : Instruction) → WriteReplies i
write i =
    let b = word_back (write_of i) (λ k e z. omega (arith, instructions.no_other i k e)) in
    record { gives_back = rw (write_is i) b.0; refusal_0 = rw (write_is i) b.1; others_0 = rw (write_is i) b.2 }

no_kind : (kind a b d : ℕ) (n : ℤ) → length kinds ≤ kind → sisa_write kind a b d n ≡ record { refusal = 7; word = 0 }
unfolding sisa_write
no_kind kind a b d n h = rw (lt-leb kind 33 (omega arith))

read_then_written : (w : ℕ) → w < 65536 → (sisa_read w).assigned ≡ 1
    → sisa_write (sisa_read w).kind (sisa_read w).a (sisa_read w).b (sisa_read w).d (sisa_read w).n ≡ record { refusal = 0; word = cleared (get_or kinds (sisa_read w).kind And) w }
read_then_written w h e =
    let (i, q) = (read w).assigned_1.0 e in
    rw q
    (write_is i ∙ ap sisa_word (instructions.read_then_written w h i q) ∙ ap (λ (k : Kind). record { refusal = 0; word = cleared k w }) (sym (listed i.kind).1))

written_then_read : (i : Instruction) → (sisa_write_of i).refusal ≡ 0 → instruction_of (sisa_read (sisa_write_of i).word) ≡ instruction i
written_then_read i e =
    let (w, q) = (write i).refusal_0.0 e in
    let is : (sisa_write_of i).word ≡ w = ap (λ (x : SisaWord). x.word) (write_is i ∙ ap sisa_word q) in
    rw is
    (ap (λ (z : Decoding). z.reading) (read w).gives_back ∙ (instructions.written_then_read i w q).1)

pub c_replies : CReplies
c_replies =
    record {
      load = load;
      save = save;
      assemble = assemble;
      setting = setting;
      raise = raise;
      run = run;
      host_step = host_step;
      page = page;
      back = back;
      feed = feed;
      feed_run = λ v g s. fed_run v g s (sisa_run_left v g) (run v g);
      feed_host_step = λ h after a s e. fed_run by_the_table (step_given h) s (step_left a after) (host_step h after a e);
      read = read;
      write = write;
      write_no_kind = no_kind;
      read_then_written = read_then_written;
      written_then_read = written_then_read;
    }
