use Rattle.std.proofs.Common.{refl, sym, ◌∙◌}
use Rattle.wm_ordered.specs.Ordered.{key_of}
use Rattle.wm_jobs.specs.Indexed.{order_of}
use Rattle.wm_jobs.specs.Marked.{standing_as}
use Rattle.wm_jobs.proofs.Followed.{stays, joins, leaves, lacks}
use Rattle.wm_jobs.proofs.JobParts.{order-keyed, order-none, order-some}
use Rattle.wm_jobs.proofs.following.follow_order.Goals as goal

pub insert-requires-clause-new : goal.insert-requires-clause-new
insert-requires-clause-new c =
    let x = c.args.job.now in
    lacks order_of key_of order-keyed x x refl c.args.starting.now.items c.args.starting.now.items (order-none x (sym c.in-false-true.ensures)) c.requires.among

pub returns-in-true-true-clause-items : goal.returns-in-true-true-clause-items
returns-in-true-true-clause-items c =
    let x = c.args.job.now in
    let y = standing_as c.args.standing.now x in
    stays order_of key_of order-keyed x y refl c.args.starting.now.items c.args.starting.now.items (order-some x x.serial refl (sym c.in-true-true.ensures) ∙ sym (order-some y x.serial refl (sym c.in-true-true.ensures'))) refl

pub returns-in-true-false-clause-items : goal.returns-in-true-false-clause-items
returns-in-true-false-clause-items c =
    let x = c.args.job.now in
    let y = standing_as c.args.standing.now x in
    leaves order_of key_of order-keyed x y refl c.args.starting.now.items c.take_serial.new.serials.items (order-none y (sym c.in-true-false.ensures')) c.take_serial.ensures.items

pub returns-in-false-true-clause-items : goal.returns-in-false-true-clause-items
returns-in-false-true-clause-items c =
    let x = c.args.job.now in
    let y = standing_as c.args.standing.now x in
    joins order_of key_of order-keyed x y refl c.args.starting.now.items c.insert.new.self.items (x.serial, tt) (order-none x (sym c.in-false-true.ensures)) (order-some y x.serial refl (sym c.in-false-true.ensures')) c.insert.ensures.items

pub returns-in-false-false-clause-items : goal.returns-in-false-false-clause-items
returns-in-false-false-clause-items c =
    let x = c.args.job.now in
    let y = standing_as c.args.standing.now x in
    stays order_of key_of order-keyed x y refl c.args.starting.now.items c.args.starting.now.items (order-none x (sym c.in-false-false.ensures) ∙ sym (order-none y (sym c.in-false-false.ensures'))) refl
