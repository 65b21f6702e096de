use Rattle.std.proofs.Common.{Some, List, ℕ, refl, ap, sym, ◌∙◌, arith, nat_eq}
use Rattle.wm_ordered.specs.Ordered.{key_of, with_value}
use Rattle.wm_indexes.specs.declared.prestart_job.PrestartJob.{PrestartJob}
use Rattle.wm_indexes.specs.OfJobs.{row_of}
use Rattle.wm_jobs.specs.Marked.{standing_as}
use Rattle.wm_jobs.specs.Table.{serial_of}
use Rattle.wm_jobs.proofs.Followed.{stays, joins, leaves, lacks}
use Rattle.wm_jobs.proofs.PrestartParts.{row-keyed, row-comes}
use Rattle.wm_jobs.proofs.Resifted.{picked-set}
use Rattle.wm_jobs.proofs.following.follow_prestart.Goals as goal

pub insert-requires-clause-spare : goal.insert-requires-clause-spare
insert-requires-clause-spare c =
    let x = c.args.job.now in
    let y = standing_as c.args.standing.now x in
    let one = row-comes x y (x.serial, c.in-None-Some.comer) c.requires.how (sym c.in-None-Some.ensures) (sym c.in-None-Some.ensures') in
    omega (arith, one, c.requires.spare)

pub insert-requires-clause-new : goal.insert-requires-clause-new
insert-requires-clause-new c =
    let x = c.args.job.now in
    lacks row_of key_of row-keyed x x refl c.args.prestart.now.items c.args.prestart.now.items (sym c.in-None-Some.ensures) c.requires.among

pub returns-in-None-None-clause-items : goal.returns-in-None-None-clause-items
returns-in-None-None-clause-items c =
    let x = c.args.job.now in
    stays row_of key_of row-keyed x (standing_as c.args.standing.now x) refl c.args.prestart.now.items c.args.prestart.now.items (sym c.in-None-None.ensures ∙ c.in-None-None.ensures') refl

pub returns-in-None-Some-clause-items : goal.returns-in-None-Some-clause-items
returns-in-None-Some-clause-items c =
    let x = c.args.job.now in
    joins row_of key_of row-keyed x (standing_as c.args.standing.now x) refl c.args.prestart.now.items c.insert.new.self.items (x.serial, c.in-None-Some.comer) (sym c.in-None-Some.ensures) (sym c.in-None-Some.ensures') c.insert.ensures.items

pub returns-in-None-Some-clause-spare : goal.returns-in-None-Some-clause-spare
returns-in-None-Some-clause-spare c =
    let x = c.args.job.now in
    let y = standing_as c.args.standing.now x in
    let one = row-comes x y (x.serial, c.in-None-Some.comer) c.requires.how (sym c.in-None-Some.ensures) (sym c.in-None-Some.ensures') in
    omega (arith, one, c.insert.ensures.spare)

pub returns-in-Some-None-clause-items : goal.returns-in-Some-None-clause-items
returns-in-Some-None-clause-items c =
    let x = c.args.job.now in
    leaves row_of key_of row-keyed x (standing_as c.args.standing.now x) refl c.args.prestart.now.items c.remove.new.self.items (sym c.in-Some-None.ensures') c.remove.ensures.items

pub returns-in-Some-Some-clause-items : goal.returns-in-Some-Some-clause-items
returns-in-Some-Some-clause-items c = λ l r around was.
    let x = c.args.job.now in
    let y = standing_as c.args.standing.now x in
    let same = c.in-Some-Some.same in
    c.set.ensures.items
    ∙ (ap (λ (rs : List (ℕ × PrestartJob)). with_value nat_eq x.serial same rs) was
    ∙ picked-set serial_of row_of row-keyed x.serial l r around.lower around.higher x y same refl (Some (x.serial, c.in-Some-Some.field-0-0)) (sym c.in-Some-Some.ensures) (sym c.in-Some-Some.ensures'))
