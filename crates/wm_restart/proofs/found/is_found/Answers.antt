use Rattle.wm_restart.proofs.Lookup.{found_at, found_nowhere}
use Rattle.wm_restart.proofs.found.is_found.Goals as goal

pub returns-in-Ok : goal.returns-in-Ok
returns-in-Ok c = found_at c.args.found.now c.requires c.args.row.now c.in-Ok.at c.in-Ok.ensures c.index-found-at.result c.index-found-at.is c.is_same.result c.is_same.ensures

pub returns-in-Err : goal.returns-in-Err
returns-in-Err c = found_nowhere c.args.found.now c.requires c.args.row.now c.in-Err.field-0 c.in-Err.ensures
