use Rattle.std.proofs.Common.{Some, List, ℕ, refl, ap, sym, ◌∙◌, nat_eq}
use Rattle.std.specs.Ordering.{nat_cmp}
use Rattle.wm_indexes.specs.declared.acting.Acting.{Acting}
use Rattle.wm_desc.specs.Sorted.{added}
use Rattle.wm_ordered.specs.Ordered.{key_of, with_value}
use Rattle.wm_jobs.specs.Indexed.{acting_of, active_of}
use Rattle.wm_jobs.specs.Marked.{standing_as}
use Rattle.wm_jobs.specs.Table.{serial_of}
use Rattle.wm_jobs.proofs.Followed.{stays, joins, leaves, lacks}
use Rattle.wm_jobs.proofs.JobParts.{active-keyed, active-none, active-some}
use Rattle.wm_jobs.proofs.Resifted.{picked-set}
use Rattle.wm_jobs.proofs.following.follow_active.Goals as goal

pub insert-requires-clause-new : goal.insert-requires-clause-new
insert-requires-clause-new c =
    let x = c.args.job.now in
    lacks active_of key_of active-keyed x x refl c.args.active.now.items c.args.active.now.items (active-none x (sym c.in-false-true.ensures)) c.requires.among

pub returns-in-true-true-clause-items : goal.returns-in-true-true-clause-items
returns-in-true-true-clause-items c = λ l r around was.
    let x = c.args.job.now in
    let y = standing_as c.args.standing.now x in
    let acting = acting_of y.phase y.wish in
    c.set.ensures.items
    ∙ (ap (λ (a : Acting). with_value nat_eq x.serial a c.args.active.now.items) c.acting_of-acting.ensures
    ∙ (ap (λ (es : List (ℕ × Acting)). with_value nat_eq x.serial acting es) was
    ∙ picked-set serial_of active_of active-keyed x.serial l r around.lower around.higher x y acting refl (Some (x.serial, acting_of x.phase x.wish)) (active-some x x.serial refl (sym c.in-true-true.ensures)) (active-some y x.serial refl (sym c.in-true-true.ensures'))))

pub returns-in-true-false-clause-items : goal.returns-in-true-false-clause-items
returns-in-true-false-clause-items c =
    let x = c.args.job.now in
    let y = standing_as c.args.standing.now x in
    leaves active_of key_of active-keyed x y refl c.args.active.now.items c.remove.new.self.items (active-none y (sym c.in-true-false.ensures')) c.remove.ensures.items

pub returns-in-false-true-clause-items : goal.returns-in-false-true-clause-items
returns-in-false-true-clause-items c =
    let x = c.args.job.now in
    let y = standing_as c.args.standing.now x in
    joins active_of key_of active-keyed x y refl c.args.active.now.items c.insert.new.self.items (x.serial, acting_of y.phase y.wish) (active-none x (sym c.in-false-true.ensures)) (active-some y x.serial refl (sym c.in-false-true.ensures'))
    (c.insert.ensures.items ∙ ap (λ (a : Acting). added key_of nat_cmp (x.serial, a) c.args.active.now.items) c.acting_of-acting.ensures)

pub returns-in-false-false-clause-items : goal.returns-in-false-false-clause-items
returns-in-false-false-clause-items c =
    let x = c.args.job.now in
    let y = standing_as c.args.standing.now x in
    stays active_of key_of active-keyed x y refl c.args.active.now.items c.args.active.now.items (active-none x (sym c.in-false-false.ensures) ∙ sym (active-none y (sym c.in-false-false.ensures'))) refl
