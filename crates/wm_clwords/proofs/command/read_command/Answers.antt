use Rattle.wm_clwords.proofs.CommandLaw.{ok_command, err_stands, command_read, fault_read}
use Rattle.wm_clwords.proofs.command.read_command.Goals as goal

pub returns : goal.returns
returns c =
    let bytes = c.args.bytes.now in
    let r = c.read_tree.result in
    let h = c.read_tree.ensures in
    record {
      ok = ok_command bytes r h.ok;
      err = err_stands bytes r h.err;
      command = command_read bytes r h.ok h.err;
      fault = fault_read bytes r h.ok h.err;
    }
