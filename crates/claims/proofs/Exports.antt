-- Each function's contract, as the check reads it, is the relation that stands in specs/Exports.antt, word for word.
-- Assumes nothing.
use Rattle.claims.specs.Exports.{Exports}

pub exports : Exports
exports =
    record {
      load_asks = λ κs a. tt;
      load = λ κs a r s. (λ h. h, λ h. h);
      save_asks = λ κs a. tt;
      save = λ κs a r s. (λ h. h, λ h. h);
      assemble_asks = λ κs a. tt;
      assemble = λ κs a r s. (λ h. h, λ h. h);
      set_input_asks = λ κs a. tt;
      set_input = λ κs a r s. (λ h. h, λ h. h);
      raise_asks = λ κs a. tt;
      raise = λ κs a r s. (λ h. h, λ h. h);
      run_by_rules_asks = λ κs a. tt;
      run_by_rules = λ κs a r s. (λ h. h, λ h. h);
      run_by_table_asks = λ κs a. tt;
      run_by_table = λ κs a r s. (λ h. h, λ h. h);
      run_by_rules_with_journal_asks = λ κs a. tt;
      run_by_rules_with_journal = λ κs a r s. (λ h. h, λ h. h);
      run_by_table_with_journal_asks = λ κs a. tt;
      run_by_table_with_journal = λ κs a r s. (λ h. h, λ h. h);
      host_step_asks = λ κs a. tt;
      host_step = λ κs a r s. (λ h. h, λ h. h);
      page_by_rules_asks = λ κs a. tt;
      page_by_rules = λ κs a r s. (λ h. h, λ h. h);
      page_by_table_asks = λ κs a. tt;
      page_by_table = λ κs a r s. (λ h. h, λ h. h);
      step_back_asks = λ κs a. tt;
      step_back = λ κs a r s. (λ h. h, λ h. h);
      feed_asks = λ κs a. tt;
      feed = λ κs a r s. (λ h. h, λ h. h);
      read_asks = λ κs a. tt;
      read = λ κs a r s. (λ h. h, λ h. h);
      write_asks = λ κs a. tt;
      write = λ κs a r s. (λ h. h, λ h. h);
      window_asks = λ κs a. tt;
      window = λ κs a r s. (λ h. h, λ h. h);
    }
