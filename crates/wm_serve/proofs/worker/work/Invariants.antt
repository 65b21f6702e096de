use Rattle.std.proofs.Common.{◌≡◌, None}
use Rattle.wm_floor.specs.Floor.{IsPassOf, IsSame}
use Rattle.wm_serve.specs.Connections.{DeskServes, MakesCommands}
use Rattle.wm_serve.proofs.worker.work.Given as goal

-- the connections that the desk tells since the loop began were served, and none is in hand
abbrev pub invariant-connections : goal.invariant-connections
invariant-connections g l =
    let desk = g.L.D.Desk in
    record {
      next : (goal.iterator-connections g).can_next l.iterator';
      finite : (goal.iterator-connections g).is_finite l.iterator';
      own : IsPassOf l.floor l.pass;
      same : IsSame l.fn.pass l.pass;
      free : desk.hand l.desk ≡ None;
      served : DeskServes l.floor.opening (desk.had l.fn.desk) (desk.had l.desk) l.fn.pass l.pass;
      commands : MakesCommands l.fn.pass l.pass;
      dries : desk.dries l.desk ≡ desk.dries l.fn.desk;
      faults : desk.faults l.desk ≡ desk.faults l.fn.desk;
    }
