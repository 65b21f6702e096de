use Rattle.wm_runs.proofs.sequence.one_run.Goals as goal

pub returns : goal.returns
returns g c =
    let said = c.run.ensures in
    record {
      history = said.history;
      callers = said.callers;
      served = said.served;
      kept = said.kept;
      reported = said.reported;
      not_begun = said.not_begun;
      unread = said.unread;
      opened = said.opened;
      causes = record {
        statuses = said.statuses;
        wrong = said.words;
        right = said.run;
        read_fault = said.read_fault;
        write_fault = said.write_fault;
        keeper_fault = said.keeper_fault;
        log_full = said.log_full;
        wait_fault = said.wait_fault;
        bad_row = said.bad_row;
        out_faults = said.out_faults;
        store_faults = said.store_faults;
      };
    }
