use Rattle.std.proofs.Common.{Err}
use Rattle.wm_clwords.proofs.CallMeaning.{value_from, none_from}
use Rattle.wm_clwords.proofs.CallResults.{tree_ok, tree_call, fault_call}
use Rattle.wm_clwords.proofs.called.read_call.Goals as goal

pub returns-in-Ok-clause-value : goal.returns-in-Ok-clause-value
returns-in-Ok-clause-value c =
    value_from c.args.bytes.now c.call_of_tree.result (tree_ok c.args.bytes.now c.in-Ok.tree c.call_of_tree.result c.in-Ok.ensures.ok c.call_of_tree.ensures.ok)

pub returns-in-Ok-clause-none : goal.returns-in-Ok-clause-none
returns-in-Ok-clause-none c =
    none_from c.args.bytes.now c.call_of_tree.result (tree_call c.args.bytes.now c.in-Ok.tree c.call_of_tree.result c.in-Ok.ensures.command c.call_of_tree.ensures.call)

pub returns-in-Err-clause-none : goal.returns-in-Err-clause-none
returns-in-Err-clause-none c =
    none_from c.args.bytes.now (Err c.call_fault.result) (fault_call c.args.bytes.now c.in-Err.fault c.call_fault.result c.in-Err.ensures.command c.call_fault.ensures)
