use Rattle.std.proofs.Common.{arith}
use Rattle.wm_floor.proofs.Places.{found_full}
use Rattle.wm_floor.proofs.shared_list.SharedList.get.Goals as goal

pub returns-in-Some : goal.returns-in-Some
returns-in-Some g c =
    let found_at = c.in-Some.ensures.lookup in
    let found = found_full (λ part. part.items) c.self.inside.full.items c.self.inside.last.items c.args.at c.in-Some.part.now c.self.invariant.each (omega arith) (cc) in
    rw (← c.self.view_is, found) (cc)
