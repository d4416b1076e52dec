-- What the check itself reads in the contracts of crate sisa's functions, which sisa_c exports to C under the same names, parameters and
-- clauses, as specs/EntryContracts.antt has it for the functions below them.
-- sisa_host_step takes the state by reference: what stands behind the reference is its first argument.
use contract.Lifetimes.{Lfts}
use Rattle.std.specs.Prelude.{not, ◌↔◌, ◌≡◌, eqb}
use Rattle.machine.specs.Machine.{board_of}
use Rattle.machine.specs.Run.{Stepper, by_rules}
use Rattle.panel.specs.Calls.{window_of}
use Rattle.isa.specs.Masks.{decoding_of}
use Rattle.control.specs.Control.{by_the_table}
use Rattle.run.specs.Runs.{Journal}
use Rattle.replies.specs.declared.SisaRun.{SisaRun}
use Rattle.replies.specs.declared.SisaPage.{SisaPage}
use Rattle.replies.specs.Sisa.{SisaLoadLeft, sisa_load_left, SisaSaveLeft, sisa_save_left, SisaAssembleLeft, sisa_assemble_left, SisaSetLeft, sisa_set_left, sisa_raise, sisa_left, SisaRunMeets, SisaPageMeets, SisaBackLeft, sisa_back_left, HostStepMeets, host_lent, sisa_instruction, sisa_write, sisa_feed, is_hidden, sisa_window, chosen, bytes_of}
use Rattle.sisa.proofs.sisa_load.Reads as load
use Rattle.sisa.proofs.sisa_save.Reads as save
use Rattle.sisa.proofs.sisa_assemble.Reads as assemble
use Rattle.sisa.proofs.sisa_set_input.Reads as set_input
use Rattle.sisa.proofs.sisa_raise.Reads as raise
use Rattle.sisa.proofs.sisa_run_by_rules.Reads as run_by_rules
use Rattle.sisa.proofs.sisa_run_by_table.Reads as run_by_table
use Rattle.sisa.proofs.sisa_run_by_rules_with_journal.Reads as run_by_rules_with_journal
use Rattle.sisa.proofs.sisa_run_by_table_with_journal.Reads as run_by_table_with_journal
use Rattle.sisa.proofs.sisa_page_by_rules.Reads as page_by_rules
use Rattle.sisa.proofs.sisa_page_by_table.Reads as page_by_table
use Rattle.sisa.proofs.sisa_step_back.Reads as step_back
use Rattle.sisa.proofs.sisa_feed.Reads as feed
use Rattle.sisa.proofs.host.sisa_host_step.Reads as host_step
use Rattle.sisa.proofs.sisa_read.Reads as read
use Rattle.sisa.proofs.sisa_write.Reads as write
use Rattle.sisa.proofs.sisa_window.Reads as window
use Rattle.claims.specs.EntryContracts.{RunArguments, no_journal_of, with_journal, given_by, PageArguments, page_given_by, back_given_by}

-- what a run that goes by v says
abbrev pub RunSays : {X : Type 0} → (X → Journal) → Stepper → RunArguments X → SisaRun → RunArguments X → Type 0
RunSays journal v a r s =
    SisaRunMeets v (given_by journal a)
    (sisa_left r s.1.0.now s.1.1.0.now s.1.1.1.0.now s.1.1.1.1.0.now s.1.1.1.1.1.1.0.now
    (journal s.1.1.1.1.1.1.1))

-- what a page that goes by v says
abbrev pub PageSays : Stepper → PageArguments → SisaPage → PageArguments → Type 0
PageSays v a r s =
    SisaPageMeets v (page_given_by a)
    (record {
      reply = r;
      P = s.1.1.0.now;
      D = s.1.1.1.0.now;
      I = s.1.1.1.1.0.now;
      O = s.1.1.1.1.1.0.now;
      log = s.1.1.1.1.1.1.1.0.now;
    })

pub record Exports : Type 1 where
  -- sisa_load(file, board, locked, first, last, program, memory, inputs, outputs)
  pub load_asks : (κs : Lfts 5) (a : _) → load.Asked κs a
  pub load :
      (κs : Lfts 5) (a : _) (r : _) (s : _)
      → load.Learnt κs a r s
      ↔ (◌≡◌ {A = SisaLoadLeft}
      (record {
        reply = r;
        P = s.1.1.1.1.1.0.now;
        D = s.1.1.1.1.1.1.0.now;
        I = s.1.1.1.1.1.1.1.0.now;
        O = s.1.1.1.1.1.1.1.1.0.now;
      })
      (sisa_load_left
      (record {
        file = a.0.now;
        board = board_of a.1.0;
        range = record { locked = a.1.1.0; first = a.1.1.1.0; last = a.1.1.1.1.0 };
        P = a.1.1.1.1.1.0.now;
        D = a.1.1.1.1.1.1.0.now;
        I = a.1.1.1.1.1.1.1.0.now;
        O = a.1.1.1.1.1.1.1.1.0.now;
      })))
  -- sisa_save(state, program, memory, destination)
  pub save_asks : (κs : Lfts 3) (a : _) → save.Asked κs a
  pub save :
      (κs : Lfts 3) (a : _) (r : _) (s : _)
      → save.Learnt κs a r s
      ↔ (◌≡◌ {A = SisaSaveLeft}
      (record { reply = r; P = s.1.0.now; D = s.1.1.0.now; destination = s.1.1.1.0.now })
      (sisa_save_left (record { state = a.0; P = a.1.0.now; D = a.1.1.0.now; destination = a.1.1.1.0.now })))
  -- sisa_assemble(text, program)
  pub assemble_asks : (κs : Lfts 2) (a : _) → assemble.Asked κs a
  pub assemble :
      (κs : Lfts 2) (a : _) (r : _) (s : _)
      → assemble.Learnt κs a r s
      ↔ (◌≡◌ {A = SisaAssembleLeft} (record { reply = r; program = s.1.0.now }) (sisa_assemble_left a.0.now a.1.0.now))
  -- sisa_set_input(inputs, port, value)
  pub set_input_asks : (κs : Lfts 1) (a : _) → set_input.Asked κs a
  pub set_input :
      (κs : Lfts 1) (a : _) (r : _) (s : _)
      → set_input.Learnt κs a r s
      ↔ (◌≡◌ {A = SisaSetLeft} (record { refusal = r; I = s.0.now }) (sisa_set_left (record { I = a.0.now; port = a.1.0; value = a.1.1.0 })))
  -- sisa_raise(state, line)
  pub raise_asks : (κs : Lfts 0) (a : _) → raise.Asked κs a
  pub raise : (κs : Lfts 0) (a : _) (r : _) (s : _) → raise.Learnt κs a r s ↔ (r ≡ sisa_raise a.0 a.1.0)
  -- sisa_run_by_rules(state, program, memory, inputs, outputs, budget, log)
  pub run_by_rules_asks : (κs : Lfts 5) (a : _) → run_by_rules.Asked κs a
  pub run_by_rules : (κs : Lfts 5) (a : _) (r : _) (s : _) → run_by_rules.Learnt κs a r s ↔ RunSays no_journal_of by_rules a r s
  -- sisa_run_by_table, the same
  pub run_by_table_asks : (κs : Lfts 5) (a : _) → run_by_table.Asked κs a
  pub run_by_table : (κs : Lfts 5) (a : _) (r : _) (s : _) → run_by_table.Learnt κs a r s ↔ RunSays no_journal_of by_the_table a r s
  -- sisa_run_by_rules_with_journal, with a journal after these
  pub run_by_rules_with_journal_asks : (κs : Lfts 6) (a : _) → run_by_rules_with_journal.Asked κs a
  pub run_by_rules_with_journal :
      (κs : Lfts 6) (a : _) (r : _) (s : _) → run_by_rules_with_journal.Learnt κs a r s ↔ RunSays with_journal by_rules a r s
  -- sisa_run_by_table_with_journal, the same
  pub run_by_table_with_journal_asks : (κs : Lfts 6) (a : _) → run_by_table_with_journal.Asked κs a
  pub run_by_table_with_journal :
      (κs : Lfts 6) (a : _) (r : _) (s : _) → run_by_table_with_journal.Learnt κs a r s ↔ RunSays with_journal by_the_table a r s
  -- sisa_host_step(state, program, memory, inputs, outputs, log)
  pub host_step_asks : (κs : Lfts 6) (a : _) → host_step.Asked κs a
  pub host_step :
      (κs : Lfts 6) (a : _) (r : _) (s : _)
      → host_step.Learnt κs a r s
      ↔ HostStepMeets (host_lent a.0.now a.1.0.now a.1.1.0.now a.1.1.1.0.now a.1.1.1.1.0.now a.1.1.1.1.1.0.now) r
      (host_lent s.0.now s.1.0.now s.1.1.0.now s.1.1.1.0.now s.1.1.1.1.0.now s.1.1.1.1.1.0.now)
  -- sisa_page_by_rules(trims, count, programs, memories, inputs, outputs, budget, log)
  pub page_by_rules_asks : (κs : Lfts 5) (a : _) → page_by_rules.Asked κs a
  pub page_by_rules : (κs : Lfts 5) (a : _) (r : _) (s : _) → page_by_rules.Learnt κs a r s ↔ PageSays by_rules a r s
  -- sisa_page_by_table, the same
  pub page_by_table_asks : (κs : Lfts 5) (a : _) → page_by_table.Asked κs a
  pub page_by_table : (κs : Lfts 5) (a : _) (r : _) (s : _) → page_by_table.Learnt κs a r s ↔ PageSays by_the_table a r s
  -- sisa_step_back(state, program, memory, inputs, outputs, journal, k)
  pub step_back_asks : (κs : Lfts 5) (a : _) → step_back.Asked κs a
  pub step_back :
      (κs : Lfts 5) (a : _) (r : _) (s : _)
      → step_back.Learnt κs a r s
      ↔ (◌≡◌ {A = SisaBackLeft}
      (record {
        reply = r;
        P = s.1.0.now;
        D = s.1.1.0.now;
        I = s.1.1.1.0.now;
        O = s.1.1.1.1.0.now;
        journal = s.1.1.1.1.1.0.now;
      })
      (sisa_back_left (back_given_by a)))
  -- sisa_feed(sheet, run_refusal, usage)
  pub feed_asks : (κs : Lfts 0) (a : _) → feed.Asked κs a
  pub feed : (κs : Lfts 0) (a : _) (r : _) (s : _) → feed.Learnt κs a r s ↔ (r ≡ sisa_feed a.0 a.1.0 a.1.1.0)
  -- sisa_read(word)
  pub read_asks : (κs : Lfts 0) (a : _) → read.Asked κs a
  pub read : (κs : Lfts 0) (a : _) (r : _) (s : _) → read.Learnt κs a r s ↔ (r ≡ sisa_instruction (decoding_of a.0))
  -- sisa_write(kind, a, b, d, n)
  pub write_asks : (κs : Lfts 0) (a : _) → write.Asked κs a
  pub write :
      (κs : Lfts 0) (a : _) (r : _) (s : _)
      → write.Learnt κs a r s ↔ (r ≡ sisa_write a.0 a.1.0 a.1.1.0 a.1.1.1.0 a.1.1.1.1.0)
  -- sisa_window(state, program, memory, of_data, start, count)
  pub window_asks : (κs : Lfts 1) (a : _) → window.Asked κs a
  pub window :
      (κs : Lfts 1) (a : _) (r : _) (s : _)
      → window.Learnt κs a r s
      ↔ ((r
      ≡ sisa_window (is_hidden a.0 a.1.1.1.0 a.1.1.1.1.0 a.1.1.1.1.1.0) (chosen a.1.1.1.0 a.1.0.now a.1.1.0.now)
      a.1.1.1.1.0 a.1.1.1.1.1.0)
      × (bytes_of r (chosen a.1.1.1.0 a.1.0.now a.1.1.0.now)
      ≡ window_of a.0 a.1.0.now a.1.1.0.now (not (eqb a.1.1.1.0 0)) a.1.1.1.1.0 a.1.1.1.1.1.0))
