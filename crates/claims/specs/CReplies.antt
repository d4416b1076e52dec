-- What a host in C may take from the numbers of include/sisa.h. For each call: they give back what its definition says (`gives_back`), a
-- refusal is 0 exactly where the call was accepted (`refusal_0`), and fields that a case does not speak of are 0 (`others_0`). Of a
-- window's reply its contract says which bytes it names (specs/Exports.antt).
use Rattle.std.specs.Prelude.{◌≡◌, ◌↔◌, List, map, ℕ, ◌-◌, ◌<◌, ◌≤◌, eqb, ℤ, pos, length, get_or, drop, replicate}
use Rattle.refusal.specs.Refusals.{Verdict, accepted, refused}
use Rattle.word.specs.Word.{pick}
use Rattle.kinds.specs.declared.Kind.TheVariants.{And}
use Rattle.kinds.specs.Kinds.{kinds, kind_number}
use Rattle.isa.specs.declared.Instruction.{Instruction}
use Rattle.isa.specs.Instructions.{Read, instruction, unassigned, read_of, WriteReply, word, write_refused, write_of}
use Rattle.isa.specs.Masks.{Decoding, decoding_of}
use Rattle.machine.specs.declared.State.{State}
use Rattle.machine.specs.Machine.{reset}
use Rattle.machine.specs.Run.{Stepper}
use Rattle.panel.specs.Calls.{SetGiven, SetLeft, set_left, RaiseLeft, raise_left}
use Rattle.image.specs.Image.{LoadGiven, LoadLeft, load_left}
use Rattle.save.specs.Saved.{SaveReply, saved, save_refused, SaveGiven, SaveLeft, save_left}
use Rattle.assembler.specs.Text.{Reply, words, text_refused, AssembleLeft, assemble_left}
use Rattle.control.specs.Control.{by_the_table}
use Rattle.usage.specs.declared.Usage.{Usage}
use Rattle.usage.specs.Usage.{unused}
use Rattle.run.specs.Runs.{no_journal, Given, left, RunReply, CountedLeft, counted_left}
use Rattle.page.specs.declared.TrimAnswer.{TrimAnswer}
use Rattle.page.specs.Pages.{PageGiven, PageLeft, page_left}
use Rattle.back.specs.Backs.{BackReply, gone_back, back_refused, BackGiven, BackLeft, back_left}
use Rattle.sheet.specs.declared.Sheet.{Sheet}
use Rattle.sheet.specs.Sheet.{FeedLeft, feed_left}
use Rattle.replies.specs.declared.SisaSaved.{SisaSaved}
use Rattle.replies.specs.declared.SisaAssembly.{SisaAssembly}
use Rattle.replies.specs.declared.SisaRun.{SisaRun}
use Rattle.replies.specs.declared.SisaAnswer.{SisaAnswer}
use Rattle.replies.specs.declared.SisaBack.{SisaBack}
use Rattle.replies.specs.declared.SisaInstruction.{SisaInstruction}
use Rattle.replies.specs.declared.SisaWord.{SisaWord}
use Rattle.replies.specs.declared.SisaFed.{SisaFed}
use Rattle.replies.specs.declared.SisaRaised.{SisaRaised}
use Rattle.replies.specs.Sisa.{SisaLoadLeft, sisa_load_left, SisaSaveLeft, sisa_save_left, SisaAssembleLeft, sisa_assemble_left, SisaSetLeft, sisa_set_left, sisa_raise, SisaRunLeft, sisa_left, sisa_run_left, HostLent, with_state, HostStepMeets, SisaPageLeft, sisa_page_left, SisaBackLeft, sisa_back_left, sisa_instruction, sisa_write, sisa_feed}
use Rattle.claims.specs.Session.{Engine, stepper_of}
use Rattle.claims.specs.HostSteps.{step_given, reply_of}
use Rattle.claims_words.specs.Instructions.{cleared}
use Rattle.claims.specs.Refusals.{Accepts, AcceptsBack}

-- refusal 0 is an accepted call
abbrev pub verdict_of : ℕ → Verdict
verdict_of k = pick (eqb k 0) accepted (refused k)

-- ---- sisa_load

abbrev pub load_of : SisaLoadLeft → LoadLeft
load_of l = record { reply = verdict_of l.reply.refusal; state = l.reply.state; P = l.P; D = l.D; I = l.I; O = l.O }

pub record LoadReplies (g : LoadGiven) : Type 0 where
  pub gives_back : load_of (sisa_load_left g) ≡ load_left g
  pub refusal_0 : ((sisa_load_left g).reply.refusal ≡ 0) ↔ ((load_left g).reply ≡ accepted)

-- ---- sisa_save

abbrev pub saved_of : SisaSaved → SaveReply
saved_of r = pick (eqb r.refusal 0) (saved r.length) (save_refused r.refusal)

abbrev pub save_of : SisaSaveLeft → SaveLeft
save_of l = record { reply = saved_of l.reply; state = l.reply.state; P = l.P; D = l.D; destination = l.destination }

pub record SaveReplies (g : SaveGiven) : Type 0 where
  pub gives_back : save_of (sisa_save_left g) ≡ save_left g
  pub refusal_0 : ((sisa_save_left g).reply.refusal ≡ 0) ↔ ((n : ℕ) × ((save_left g).reply ≡ saved n))
  pub others_0 : ((sisa_save_left g).reply.refusal ≡ 0 → ⊥) → (sisa_save_left g).reply.length ≡ 0

-- ---- sisa_assemble

abbrev pub assembly_of : SisaAssembly → Reply
assembly_of r = pick (eqb r.refusal 0) (words r.words) (text_refused r.line r.refusal)

abbrev pub assemble_of : SisaAssembleLeft → AssembleLeft
assemble_of l = record { reply = assembly_of l.reply; program = l.program }

pub record AssembleReplies (text program : List ℕ) : Type 0 where
  pub gives_back : assemble_of (sisa_assemble_left text program) ≡ assemble_left text program
  pub refusal_0 : ((sisa_assemble_left text program).reply.refusal ≡ 0) ↔ ((n : ℕ) × ((assemble_left text program).reply ≡ words n))
  pub others_0 : ((sisa_assemble_left text program).reply.refusal ≡ 0 → ⊥) → (sisa_assemble_left text program).reply.words ≡ 0
  pub line_0 : (sisa_assemble_left text program).reply.refusal ≡ 0 → (sisa_assemble_left text program).reply.line ≡ 0

-- ---- sisa_set_input

abbrev pub set_of : SisaSetLeft → SetLeft
set_of l = record { reply = verdict_of l.refusal; I = l.I }

pub record SetReplies (g : SetGiven) : Type 0 where
  pub gives_back : set_of (sisa_set_left g) ≡ set_left g
  pub refusal_0 : ((sisa_set_left g).refusal ≡ 0) ↔ ((set_left g).reply ≡ accepted)

-- ---- sisa_raise

abbrev pub raise_of : SisaRaised → RaiseLeft
raise_of r = record { reply = verdict_of r.refusal; state = r.state }

pub record RaiseReplies (s : State) (line : ℕ) : Type 0 where
  pub gives_back : raise_of (sisa_raise s line) ≡ raise_left s line
  pub refusal_0 : ((sisa_raise s line).refusal ≡ 0) ↔ ((raise_left s line).reply ≡ accepted)

-- ---- sisa_run_by_rules, sisa_run_by_table, both with a journal, and sisa_host_step

-- a run's reply without its state is a host step's
abbrev pub answer_of : SisaRun → SisaAnswer
answer_of r = record { refusal = r.refusal; stop = r.stop; steps = r.steps; entries = r.entries; ticks = r.ticks; usage = r.usage }

abbrev pub run_of : SisaRunLeft → CountedLeft
run_of l =
    record {
      left = left (reply_of (answer_of l.reply)) l.reply.state l.P l.D l.I l.O l.log l.journal;
      usage = l.reply.usage;
      ticks = l.reply.ticks;
    }

-- what a run of g that goes by v replied and left
pub record RunReplies (v : Stepper) (g : Given) (l : SisaRunLeft) : Type 0 where
  pub gives_back : run_of l ≡ counted_left v g
  pub refusal_0 : (l.reply.refusal ≡ 0) ↔ Accepts v g
  pub others_0 :
      (l.reply.refusal ≡ 0 → ⊥)
      → l.reply ≡ record { state = g.state; refusal = l.reply.refusal; stop = 0; steps = 0; entries = 0; ticks = 0; usage = unused }

-- a host step's answer, and what it left in the host's registers and in what was lent
abbrev pub step_left : SisaAnswer → HostLent → SisaRunLeft
step_left a after = sisa_left (with_state after.state a) after.P after.D after.I after.O after.log no_journal

-- ---- sisa_page_by_rules, sisa_page_by_table

-- a trim's answer, without the page's refusal
abbrev pub trim_of : SisaAnswer → TrimAnswer
trim_of a = record { stop = a.stop; steps = a.steps; entries = a.entries; ticks = a.ticks; usage = a.usage }

abbrev pub paged_of : SisaPageLeft → PageLeft
paged_of l =
    record {
      reply = verdict_of l.reply.refusal;
      states = l.reply.trims.states;
      answers = map trim_of l.reply.answers;
      P = l.P;
      D = l.D;
      I = l.I;
      O = l.O;
      log = l.log;
    }

-- an answer that is 0 but for its refusal
abbrev pub refusal_alone : ℕ → SisaAnswer
refusal_alone k = record { refusal = k; stop = 0; steps = 0; entries = 0; ticks = 0; usage = unused }

-- what a page of g that goes by v replied and left
pub record PageReplies (v : Stepper) (g : PageGiven) (l : SisaPageLeft) : Type 0 where
  pub gives_back : paged_of l ≡ page_left v g
  pub refusal_0 : (l.reply.refusal ≡ 0) ↔ ((page_left v g).reply ≡ accepted)
  -- All eight answers have the page's refusal.
  pub refusals : map (λ a. a.refusal) l.reply.answers ≡ replicate 8 l.reply.refusal
  -- In a refused page they are 0 else, and every state is as handed;
  pub others_0 :
      (l.reply.refusal ≡ 0 → ⊥)
      → l.reply
      ≡ record {
        trims = record { states = g.states };
        refusal = l.reply.refusal;
        answers = replicate 8 (refusal_alone l.reply.refusal);
      }
  -- what is fed of them adds nothing.
  pub adds_nothing :
      (l.reply.refusal ≡ 0 → ⊥) → (s : Sheet) (k : ℕ) → k < 8
      → (let a = get_or l.reply.answers k (refusal_alone 0) in sisa_feed s a.refusal a.usage ≡ record { sheet = s; refusal = 0 })
  -- In an accepted one the answers of trims past the count are 0,
  pub past_0 : l.reply.refusal ≡ 0 → drop g.count l.reply.answers ≡ replicate (8 - g.count) (refusal_alone 0)
  -- and in the states of the others `journaled` is.
  pub journaled_0 : l.reply.refusal ≡ 0 → (k : ℕ) → k < g.count → (get_or l.reply.trims.states k reset).journaled ≡ 0

-- ---- sisa_step_back

abbrev pub went_back : SisaBack → BackReply
went_back r = pick (eqb r.refusal 0) (gone_back r.entries) (back_refused r.refusal)

abbrev pub back_of : SisaBackLeft → BackLeft
back_of l =
    record { reply = went_back l.reply; state = l.reply.state; P = l.P; D = l.D; I = l.I; O = l.O; journal = l.journal }

pub record BackReplies (g : BackGiven) : Type 0 where
  pub gives_back : back_of (sisa_back_left g) ≡ back_left g
  pub refusal_0 : ((sisa_back_left g).reply.refusal ≡ 0) ↔ AcceptsBack g
  pub others_0 :
      ((sisa_back_left g).reply.refusal ≡ 0 → ⊥)
      → (sisa_back_left g).reply ≡ record { state = g.state; refusal = (sisa_back_left g).reply.refusal; entries = 0 }

-- ---- sisa_feed

abbrev pub feed_of : SisaFed → FeedLeft
feed_of r = record { reply = verdict_of r.refusal; sheet = r.sheet }

-- a sheet fed a's refusal and counts, where a stands for that reply and those counts of a run
pub record FeedReplies (s : Sheet) (a : SisaAnswer) (reply : RunReply) (u : Usage) : Type 0 where
  pub gives_back : feed_of (sisa_feed s a.refusal a.usage) ≡ feed_left s reply u
  pub refusal_0 : ((sisa_feed s a.refusal a.usage).refusal ≡ 0) ↔ ((feed_left s reply u).reply ≡ accepted)

-- ---- sisa_read

abbrev pub sisa_read : ℕ → SisaInstruction
sisa_read w = sisa_instruction (decoding_of w)

abbrev pub instruction_of : SisaInstruction → Read
instruction_of r =
    pick (eqb r.assigned 1) (instruction (record { kind = get_or kinds r.kind And; a = r.a; b = r.b; d = r.d; n = r.n })) unassigned

abbrev pub reading_of : SisaInstruction → Decoding
reading_of r = record { reading = instruction_of r; masks = record { reads = r.reads; writes = r.writes } }

pub record ReadReplies (w : ℕ) : Type 0 where
  pub gives_back : reading_of (sisa_read w) ≡ decoding_of w
  pub assigned_1 : ((sisa_read w).assigned ≡ 1) ↔ ((i : Instruction) × (read_of w ≡ instruction i))
  pub assigned_0 : ((sisa_read w).assigned ≡ 0) ↔ (read_of w ≡ unassigned)
  pub others_0 :
      (sisa_read w).assigned ≡ 0
      → sisa_read w ≡ record { assigned = 0; kind = 0; a = 0; b = 0; d = 0; n = pos 0; reads = 0; writes = 0 }

-- ---- sisa_write

-- of the numbers of an instruction
abbrev pub sisa_write_of : Instruction → SisaWord
sisa_write_of i = sisa_write (kind_number i.kind) i.a i.b i.d i.n

abbrev pub written_of : SisaWord → WriteReply
written_of r = pick (eqb r.refusal 0) (word r.word) (write_refused r.refusal)

pub record WriteReplies (i : Instruction) : Type 0 where
  pub gives_back : written_of (sisa_write_of i) ≡ write_of i
  pub refusal_0 : ((sisa_write_of i).refusal ≡ 0) ↔ ((w : ℕ) × (write_of i ≡ word w))
  pub others_0 : ((sisa_write_of i).refusal ≡ 0 → ⊥) → (sisa_write_of i).word ≡ 0

-- ---- The claim

pub record CReplies : Type 0 where
  pub load : (g : LoadGiven) → LoadReplies g
  pub save : (g : SaveGiven) → SaveReplies g
  pub assemble : (text program : List ℕ) → AssembleReplies text program
  pub setting : (g : SetGiven) → SetReplies g
  pub raise : (s : State) (line : ℕ) → RaiseReplies s line
  pub run : (v : Stepper) (g : Given) → RunReplies v g (sisa_run_left v g)
  -- a host step, known by its contract
  pub host_step :
      (h after : HostLent) (a : SisaAnswer) → HostStepMeets h a after → RunReplies by_the_table (step_given h) (step_left a after)
  pub page : (e : Engine) (g : PageGiven) → PageReplies (stepper_of e) g (sisa_page_left (stepper_of e) g)
  pub back : (g : BackGiven) → BackReplies g
  -- Feeding any numbers is feeding the reply that they stand for;
  pub feed : (s : Sheet) (a : SisaAnswer) → FeedReplies s a (reply_of a) a.usage
  -- so feeding what a run or a host step replied in C is feeding that run.
  pub feed_run :
      (v : Stepper) (g : Given) (s : Sheet)
      → FeedReplies s (answer_of (sisa_run_left v g).reply) (counted_left v g).left.reply (counted_left v g).usage
  pub feed_host_step :
      (h after : HostLent) (a : SisaAnswer) (s : Sheet) → HostStepMeets h a after
      → FeedReplies s a (counted_left by_the_table (step_given h)).left.reply (counted_left by_the_table (step_given h)).usage
  pub read : (w : ℕ) → ReadReplies w
  pub write : (i : Instruction) → WriteReplies i
  -- a number that is no kind's
  pub write_no_kind : (kind a b d : ℕ) (n : ℤ) → length kinds ≤ kind → sisa_write kind a b d n ≡ record { refusal = 7; word = 0 }
  -- What was read, written again, is the word with its ignored bits cleared;
  pub read_then_written :
      (w : ℕ) → w < 65536 → (sisa_read w).assigned ≡ 1
      → sisa_write (sisa_read w).kind (sisa_read w).a (sisa_read w).b (sisa_read w).d (sisa_read w).n
      ≡ record { refusal = 0; word = cleared (get_or kinds (sisa_read w).kind And) w }
  -- and a word that was written reads back as that instruction.
  pub written_then_read : (i : Instruction) → (sisa_write_of i).refusal ≡ 0 → instruction_of (sisa_read (sisa_write_of i).word) ≡ instruction i
