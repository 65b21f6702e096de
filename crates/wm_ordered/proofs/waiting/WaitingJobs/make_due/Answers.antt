use Rattle.std.proofs.Common.{arith}
use Rattle.wm_ordered.specs.Keys.{waiters_of}
use Rattle.wm_ordered.proofs.Agreement.{agrees-due}
use Rattle.wm_ordered.proofs.Brought.{underway-begins}
use Rattle.wm_ordered.proofs.Orders.{above_from_le}
use Rattle.wm_ordered.proofs.waiting.WaitingJobs.make_due.Goals as goal

pub bring_due-requires : goal.bring_due-requires
bring_due-requires c =
    let later = above_from_le c.args.now c.self.inside.clock c.if-le.ensures in
    record {
      keyed = c.self.invariant.keyed;
      places = c.self.invariant.places;
      underway = underway-begins c.args.now (waiters_of c.self.inside.all.items) c.self.inside.turns.items c.self.inside.early.items c.self.inside.clock (omega (arith, later)) c.self.invariant.turns c.self.invariant.early;
      room = omega (arith, c.self.invariant.room_in_turns);
    }

pub invariant_of-self : goal.invariant_of-self
invariant_of-self c =
    agrees-due c.self.inside.all c.self.inside.turns c.self.inside.early c.self.inside.lines c.self.inside.clock c.self.inside.room c.self.invariant c.args.now c.bring_due.new.turns c.bring_due.new.early
    c.bring_due.ensures.turns c.bring_due.ensures.early c.bring_due.ensures.capacity_turns c.bring_due.ensures.capacity_early
