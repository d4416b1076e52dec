-- What the check itself reads in each entry point's contract: that the caller is asked nothing (Asked), and what the caller
-- learns (Learnt). κs are the lifetimes, a the arguments in their order, r the result, s the arguments at exit.
use contract.Lifetimes.{Lfts}
use Rattle.std.specs.Borrow.{Bor, MutBor}
use Rattle.std.specs.Prelude.{◌↔◌, ◌≡◌, List, ℕ, Result}
use Rattle.refusal.specs.declared.Refusal.{Refusal}
use Rattle.refusal.specs.Refusals.{refusal_number, shown_check}
use Rattle.machine.specs.declared.State.{State}
use Rattle.machine.specs.Machine.{reset}
use Rattle.machine.specs.Run.{Stepper, by_rules}
use Rattle.panel.specs.Calls.{SetLeft, set_left, RaiseLeft, raise_left, window_of}
use Rattle.isa.specs.Instructions.{shown_writing, write_of}
use Rattle.isa.specs.Masks.{shown_decoded, decoding_of}
use Rattle.image.specs.Image.{LoadLeft, load_left}
use Rattle.save.specs.Saved.{SaveLeft, shown_saving, save_left}
use Rattle.assembler.specs.Text.{AssembleLeft, assemble_left}
use Rattle.assembler.specs.Passes.{shown_assembly}
use Rattle.control.specs.Control.{by_control, by_the_table}
use Rattle.run.specs.declared.Report.{Report}
use Rattle.run.specs.declared.Counted.{Counted}
use Rattle.run.specs.Runs.{Journal, no_journal, lent_journal, Given, given, Left, left, shown_answer, RunMeets, CountedMeets}
use Rattle.page.specs.declared.Trims.{Trims}
use Rattle.page.specs.declared.Paged.{Paged}
use Rattle.page.specs.Pages.{PageGiven, page_of, PageMeets}
use Rattle.back.specs.Backs.{BackGiven, BackLeft, shown_going, back_left}
use Rattle.sheet.specs.Sheet.{empty, FeedLeft, feed_left}
use Rattle.report.specs.Printed.{printed}
use Rattle.diagnostic.specs.Diagnostic.{diagnostic_of}
use Rattle.trimfile.specs.TrimFile.{FileLeft, file_left}
use Rattle.listing.specs.File.{listing, listed_line}
use Rattle.machine.proofs.State.reset.Reads as state_reset
use Rattle.isa.proofs.read.Reads as read
use Rattle.isa.proofs.write.Reads as write
use Rattle.panel.proofs.set_input.Reads as set_input
use Rattle.panel.proofs.raise.Reads as raise
use Rattle.panel.proofs.window.Reads as window
use Rattle.image.proofs.load.Reads as load
use Rattle.save.proofs.save.Reads as save
use Rattle.assembler.proofs.assemble.Reads as assemble
use Rattle.engine.proofs.run_by_rules.Reads as run_by_rules
use Rattle.engine.proofs.run_by_table.Reads as run_by_table
use Rattle.engine.proofs.run_by_rules_with_journal.Reads as run_by_rules_with_journal
use Rattle.engine.proofs.run_by_table_with_journal.Reads as run_by_table_with_journal
use Rattle.engine.proofs.run_by_control.Reads as run_by_control
use Rattle.page.proofs.page_by_rules.Reads as page_by_rules
use Rattle.page.proofs.page_by_table.Reads as page_by_table
use Rattle.back.proofs.step_back.Reads as step_back
use Rattle.sheet.proofs.Sheet.empty.Reads as sheet_empty
use Rattle.sheet.proofs.feed.Reads as feed
use Rattle.report.proofs.report.Reads as report
use Rattle.listing.proofs.line_at.Reads as line_at
use Rattle.diagnostic.proofs.diagnostic.Reads as diagnostic
use Rattle.trimfile.proofs.from_text.Reads as from_text

-- a slice that is lent by &, and one that is lent by &mut
abbrev pub LentSlice : Type 0
LentSlice = Bor (List ℕ)

abbrev pub LentMutSlice : Type 0
LentMutSlice = MutBor (List ℕ)

-- a run's arguments: state, program, memory, inputs, outputs, budget, log, and what follows the log
abbrev pub RunArguments : Type 0 → Type 0
RunArguments X = State × (LentSlice × (LentMutSlice × (LentMutSlice × (LentMutSlice × (ℕ × (LentMutSlice × X))))))

-- the journal that follows it: none, or one
abbrev pub no_journal_of : Unit {0} → Journal
no_journal_of x = no_journal

abbrev pub with_journal : LentMutSlice × Unit {0} → Journal
with_journal x = lent_journal x.0.now

-- what it is given
abbrev pub given_by : {X : Type 0} → (X → Journal) → RunArguments X → Given
given_by journal a =
    given a.0 a.1.0.now a.1.1.0.now a.1.1.1.0.now a.1.1.1.1.0.now a.1.1.1.1.1.0
    a.1.1.1.1.1.1.0.now (journal a.1.1.1.1.1.1.1)

-- what it leaves, with its answer and state
abbrev pub left_after : {X : Type 0} → (X → Journal) → Result Report Refusal → State → RunArguments X → Left
left_after journal r state s =
    left (shown_answer r) state s.1.0.now s.1.1.0.now s.1.1.1.0.now s.1.1.1.1.0.now
    s.1.1.1.1.1.1.0.now (journal s.1.1.1.1.1.1.1)

-- what a run that goes by v says, with its counts and ticks
abbrev pub RunSays : {X : Type 0} → (X → Journal) → Stepper → RunArguments X → Counted → RunArguments X → Type 0
RunSays journal v a r s =
    CountedMeets v (given_by journal a) (record { left = left_after journal r.answer r.state s; usage = r.usage; ticks = r.ticks })

-- a page's arguments: trims, count, programs, memories, inputs, outputs, budget, log
abbrev pub PageArguments : Type 0
PageArguments = Trims × (ℕ × (LentSlice × (LentMutSlice × (LentMutSlice × (LentMutSlice × (ℕ × (LentMutSlice × Unit {0})))))))

abbrev pub page_given_by : PageArguments → PageGiven
page_given_by a =
    page_of a.0.states a.1.0 a.1.1.0.now a.1.1.1.0.now a.1.1.1.1.0.now a.1.1.1.1.1.0.now
    a.1.1.1.1.1.1.0 a.1.1.1.1.1.1.1.0.now

-- what a page that goes by v says
abbrev pub PageSays : Stepper → PageArguments → Paged → PageArguments → Type 0
PageSays v a r s =
    PageMeets v (page_given_by a)
    (record {
      reply = shown_check r.check;
      states = r.trims.states;
      answers = r.answers;
      P = s.1.1.0.now;
      D = s.1.1.1.0.now;
      I = s.1.1.1.1.0.now;
      O = s.1.1.1.1.1.0.now;
      log = s.1.1.1.1.1.1.1.0.now;
    })

-- the arguments of going back: state, program, memory, inputs, outputs, journal, k
abbrev pub BackArguments : Type 0
BackArguments = State × (LentSlice × (LentMutSlice × (LentMutSlice × (LentMutSlice × (LentSlice × (ℕ × Unit {0}))))))

abbrev pub back_given_by : BackArguments → BackGiven
back_given_by a =
    record {
      state = a.0;
      P = a.1.0.now;
      D = a.1.1.0.now;
      I = a.1.1.1.0.now;
      O = a.1.1.1.1.0.now;
      journal = a.1.1.1.1.1.0.now;
      k = a.1.1.1.1.1.1.0;
    }

pub record Contracts : Type 1 where
  -- State::reset()
  pub state_reset_asks : (κs : Lfts 0) (a : _) → state_reset.Asked κs a
  pub state_reset : (κs : Lfts 0) (a : _) (r : _) (s : _) → state_reset.Learnt κs a r s ↔ (r ≡ reset)
  -- read(w)
  pub read_asks : (κs : Lfts 0) (a : _) → read.Asked κs a
  pub read : (κs : Lfts 0) (a : _) (r : _) (s : _) → read.Learnt κs a r s ↔ (shown_decoded r ≡ decoding_of a.0)
  -- write(i)
  pub write_asks : (κs : Lfts 0) (a : _) → write.Asked κs a
  pub write : (κs : Lfts 0) (a : _) (r : _) (s : _) → write.Learnt κs a r s ↔ (shown_writing r ≡ write_of a.0)
  -- load(file, board, range, program, memory, inputs, outputs)
  pub load_asks : (κs : Lfts 5) (a : _) → load.Asked κs a
  pub load :
      (κs : Lfts 5) (a : _) (r : _) (s : _)
      → load.Learnt κs a r s
      ↔ (◌≡◌ {A = LoadLeft}
      (record {
        reply = shown_check r.reply;
        state = r.state;
        P = s.1.1.1.0.now;
        D = s.1.1.1.1.0.now;
        I = s.1.1.1.1.1.0.now;
        O = s.1.1.1.1.1.1.0.now;
      })
      (load_left
      (record {
        file = a.0.now;
        board = a.1.0;
        range = a.1.1.0;
        P = a.1.1.1.0.now;
        D = a.1.1.1.1.0.now;
        I = a.1.1.1.1.1.0.now;
        O = a.1.1.1.1.1.1.0.now;
      })))
  -- save(state, program, memory, destination)
  pub save_asks : (κs : Lfts 3) (a : _) → save.Asked κs a
  pub save :
      (κs : Lfts 3) (a : _) (r : _) (s : _)
      → save.Learnt κs a r s
      ↔ (◌≡◌ {A = SaveLeft}
      (record {
        reply = shown_saving r.reply;
        state = r.state;
        P = s.1.0.now;
        D = s.1.1.0.now;
        destination = s.1.1.1.0.now;
      })
      (save_left (record { state = a.0; P = a.1.0.now; D = a.1.1.0.now; destination = a.1.1.1.0.now })))
  -- assemble(text, program)
  pub assemble_asks : (κs : Lfts 2) (a : _) → assemble.Asked κs a
  pub assemble :
      (κs : Lfts 2) (a : _) (r : _) (s : _)
      → assemble.Learnt κs a r s
      ↔ (◌≡◌ {A = AssembleLeft} (record { reply = shown_assembly r; program = s.1.0.now }) (assemble_left a.0.now a.1.0.now))
  -- set_input(inputs, port, value)
  pub set_input_asks : (κs : Lfts 1) (a : _) → set_input.Asked κs a
  pub set_input :
      (κs : Lfts 1) (a : _) (r : _) (s : _)
      → set_input.Learnt κs a r s
      ↔ (◌≡◌ {A = SetLeft}
      (record { reply = shown_check r; I = s.0.now })
      (set_left (record { I = a.0.now; port = a.1.0.0; value = a.1.1.0 })))
  -- raise(state, line)
  pub raise_asks : (κs : Lfts 0) (a : _) → raise.Asked κs a
  pub raise :
      (κs : Lfts 0) (a : _) (r : _) (s : _)
      → raise.Learnt κs a r s
      ↔ (◌≡◌ {A = RaiseLeft} (record { reply = shown_check r.reply; state = r.state }) (raise_left a.0 a.1.0))
  -- window(state, program, memory, of_data, start, count)
  pub window_asks : (κs : Lfts 1) (a : _) → window.Asked κs a
  pub window :
      (κs : Lfts 1) (a : _) (r : _) (s : _)
      → window.Learnt κs a r s
      ↔ (r.now ≡ window_of a.0 a.1.0.now a.1.1.0.now a.1.1.1.0 a.1.1.1.1.0 a.1.1.1.1.1.0)
  -- run_by_rules(state, program, memory, inputs, outputs, budget, log)
  pub run_by_rules_asks : (κs : Lfts 5) (a : _) → run_by_rules.Asked κs a
  pub run_by_rules : (κs : Lfts 5) (a : _) (r : _) (s : _) → run_by_rules.Learnt κs a r s ↔ RunSays no_journal_of by_rules a r s
  -- run_by_table, the same
  pub run_by_table_asks : (κs : Lfts 5) (a : _) → run_by_table.Asked κs a
  pub run_by_table : (κs : Lfts 5) (a : _) (r : _) (s : _) → run_by_table.Learnt κs a r s ↔ RunSays no_journal_of by_the_table a r s
  -- run_by_rules_with_journal, with a journal after these
  pub run_by_rules_with_journal_asks : (κs : Lfts 6) (a : _) → run_by_rules_with_journal.Asked κs a
  pub run_by_rules_with_journal :
      (κs : Lfts 6) (a : _) (r : _) (s : _) → run_by_rules_with_journal.Learnt κs a r s ↔ RunSays with_journal by_rules a r s
  -- run_by_table_with_journal, the same
  pub run_by_table_with_journal_asks : (κs : Lfts 6) (a : _) → run_by_table_with_journal.Asked κs a
  pub run_by_table_with_journal :
      (κs : Lfts 6) (a : _) (r : _) (s : _) → run_by_table_with_journal.Learnt κs a r s ↔ RunSays with_journal by_the_table a r s
  -- run_by_control, with its words before those of run_by_table; it reports no counts
  pub run_by_control_asks : (κs : Lfts 6) (a : _) → run_by_control.Asked κs a
  pub run_by_control : (κs : Lfts 6) (a : _) (r : _) (s : _) → run_by_control.Learnt κs a r s ↔ RunMeets (by_control a.0.now) (given_by no_journal_of a.1) (left_after no_journal_of r.answer r.state s.1)
  -- page_by_rules(trims, count, programs, memories, inputs, outputs, budget, log)
  pub page_by_rules_asks : (κs : Lfts 5) (a : _) → page_by_rules.Asked κs a
  pub page_by_rules : (κs : Lfts 5) (a : _) (r : _) (s : _) → page_by_rules.Learnt κs a r s ↔ PageSays by_rules a r s
  -- page_by_table, the same
  pub page_by_table_asks : (κs : Lfts 5) (a : _) → page_by_table.Asked κs a
  pub page_by_table : (κs : Lfts 5) (a : _) (r : _) (s : _) → page_by_table.Learnt κs a r s ↔ PageSays by_the_table a r s
  -- step_back(state, program, memory, inputs, outputs, journal, k)
  pub step_back_asks : (κs : Lfts 5) (a : _) → step_back.Asked κs a
  pub step_back :
      (κs : Lfts 5) (a : _) (r : _) (s : _)
      → step_back.Learnt κs a r s
      ↔ (◌≡◌ {A = BackLeft}
      (record {
        reply = shown_going r.reply;
        state = r.state;
        P = s.1.0.now;
        D = s.1.1.0.now;
        I = s.1.1.1.0.now;
        O = s.1.1.1.1.0.now;
        journal = s.1.1.1.1.1.0.now;
      })
      (back_left (back_given_by a)))
  -- Sheet::empty()
  pub sheet_empty_asks : (κs : Lfts 0) (a : _) → sheet_empty.Asked κs a
  pub sheet_empty : (κs : Lfts 0) (a : _) (r : _) (s : _) → sheet_empty.Learnt κs a r s ↔ (r ≡ empty)
  -- feed(sheet, answer, usage)
  pub feed_asks : (κs : Lfts 0) (a : _) → feed.Asked κs a
  pub feed :
      (κs : Lfts 0) (a : _) (r : _) (s : _)
      → feed.Learnt κs a r s
      ↔ (◌≡◌ {A = FeedLeft} (record { reply = shown_check r.reply; sheet = r.sheet }) (feed_left a.0 (shown_answer a.1.0) a.1.1.0))
  -- report(file)
  pub report_asks : (κs : Lfts 1) (a : _) → report.Asked κs a
  pub report : (κs : Lfts 1) (a : _) (r : _) (s : _) → report.Learnt κs a r s ↔ (r ≡ printed a.0.now)
  -- line_at(file, k)
  pub line_at_asks : (κs : Lfts 1) (a : _) → line_at.Asked κs a
  pub line_at : (κs : Lfts 1) (a : _) (r : _) (s : _) → line_at.Learnt κs a r s ↔ (r ≡ listed_line (listing a.0.now) a.1.0)
  -- diagnostic(text, line, refusal)
  pub diagnostic_asks : (κs : Lfts 1) (a : _) → diagnostic.Asked κs a
  pub diagnostic : (κs : Lfts 1) (a : _) (r : _) (s : _) → diagnostic.Learnt κs a r s ↔ (r ≡ diagnostic_of a.0.now a.1.0 (refusal_number a.1.1.0))
  -- from_text(text, destination)
  pub from_text_asks : (κs : Lfts 2) (a : _) → from_text.Asked κs a
  pub from_text :
      (κs : Lfts 2) (a : _) (r : _) (s : _)
      → from_text.Learnt κs a r s
      ↔ (◌≡◌ {A = FileLeft} (record { trim = r; destination = s.1.0.now }) (file_left a.0.now a.1.0.now))
