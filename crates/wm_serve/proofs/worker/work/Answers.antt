use Rattle.std.proofs.Common.{◌∙◌}
use Rattle.wm_serve.proofs.Commands.{commands_then}
use Rattle.wm_serve.proofs.Looking.{same_then}
use Rattle.wm_serve.proofs.Nexts.{here_not_dry}
use Rattle.wm_serve.proofs.Connected.{DeskServes-stays, DeskServes-then}
use Rattle.wm_serve.proofs.worker.work.Goals as goal

pub connections-preserved : goal.connections-preserved
connections-preserved g c =
    let so_far = c.connections.invariant in
    let next = c.in-Ok-Here.ensures in
    let one = c.serve_connection.ensures in
    let had = g.L.D.Desk.had in
    let o = c.args.floor.now.opening in
    record {
      next = tt;
      finite = tt;
      own = one.own;
      same = same_then c.args.pass.now c.connections.pass c.serve_connection.new.pass so_far.same one.same;
      free = one.free;
      served =
          DeskServes-then o (had c.args.desk.now) (had c.next-in-connections.new.desk) (had c.serve_connection.new.desk) c.args.pass.now c.connections.pass c.serve_connection.new.pass
          (DeskServes-then o (had c.args.desk.now) (had c.connections.desk) (had c.next-in-connections.new.desk) c.args.pass.now c.connections.pass c.connections.pass so_far.served (DeskServes-stays o (had c.connections.desk) (had c.next-in-connections.new.desk) c.connections.pass next.had))
          one.served;
      commands = commands_then c.args.pass.now c.connections.pass c.serve_connection.new.pass so_far.commands one.commands;
      dries = one.dries ∙ (here_not_dry c.next-in-connections.result c.in-Ok-Here.field-0 c.in-Ok-Here.input c.in-Ok-Here.output _ _ c.in-Ok-Here.is c.in-Ok-Here.field-0-is c.next-in-connections.ensures.dries ∙ so_far.dries);
      faults = one.faults ∙ (next.cause.left ∙ so_far.faults);
    }
