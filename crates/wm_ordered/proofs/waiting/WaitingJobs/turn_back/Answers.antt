use Rattle.std.proofs.Common.{◌∙◌, arith}
use Rattle.wm_ordered.proofs.Agreement.{agrees-due}
use Rattle.wm_ordered.proofs.waiting.WaitingJobs.turn_back.Goals as goal

pub list_all-requires : goal.list_all-requires
list_all-requires c =
    record {
      keyed = c.self.invariant.keyed;
      places = c.self.invariant.places;
      turns = c.take_all.ensures.items;
      early = c.take_all-2.ensures.items;
      room_in_turns = omega (arith, c.take_all.ensures.capacity, c.self.invariant.room_in_turns);
      room_in_early = omega (arith, c.take_all-2.ensures.capacity, c.self.invariant.room_in_early);
    }

pub invariant_of-self : goal.invariant_of-self
invariant_of-self c =
    agrees-due c.self.inside.all c.self.inside.turns c.self.inside.early c.self.inside.lines c.self.inside.clock c.self.inside.room c.self.invariant c.args.moment c.list_all.new.turns c.list_all.new.early
    c.list_all.ensures.turns c.list_all.ensures.early (c.list_all.ensures.capacity_turns ∙ c.take_all.ensures.capacity) (c.list_all.ensures.capacity_early ∙ c.take_all-2.ensures.capacity)
