use Rattle.std.proofs.Common.{map, string_bytes}
use Rattle.wm_run.specs.Words.{settings_of}
use Rattle.wm_runs.proofs.Chains.{make_chain, start_once}
use Rattle.wm_runs.proofs.PartCounts.{out_never_falls, store_never_falls}
use Rattle.wm_runs.proofs.sequence.runs.Goals as goal

pub returns-clause-chain : goal.returns-clause-chain
returns-clause-chain g c = make_chain c.runs_make_chains.ensures c.run_each.ensures

pub returns-clause-once : goal.returns-clause-once
returns-clause-once g c =
    let tables = g.S.Store.tables in
    start_once c.no_job_starts_twice.ensures (settings_of (map string_bytes c.args.words.now)).offset (tables c.args.store.now) (tables c.run_each.new.store) c.run_each.new.rans.items (make_chain c.runs_make_chains.ensures c.run_each.ensures)

pub returns-clause-out_faults : goal.returns-clause-out_faults
returns-clause-out_faults g c = out_never_falls _ _ c.run_each.ensures

pub returns-clause-store_faults : goal.returns-clause-store_faults
returns-clause-store_faults g c = store_never_falls _ _ c.run_each.ensures
