use Rattle.std.proofs.Common.{◌≡◌, ◌∙◌, ◌==◌, true, List, map, refl, sym, ap, subst}
use Rattle.std.specs.List.{find}
use Rattle.std.specs.Option.{IfSome}
use Rattle.wm_law.specs.declared.job.Job.{Job}
use Rattle.wm_law.specs.Counts.{is_active}
use Rattle.wm_subsystems.specs.Telling.{ended_at, told_at, wished_at}
use Rattle.wm_subsystems.proofs.Walks.{each_comes}
use Rattle.wm_subsystems.proofs.Wished.{found_active}
use Rattle.wm_subsystems.proofs.walk.tell.Goals as goal

pub end_by-requires-clause-active : goal.end_by-requires-clause-active
end_by-requires-clause-active c =
    let serial = c.args.serial in
    subst (λ (js : List Job). IfSome (find (λ (j : Job). j.serial == serial) js) (λ (j : Job). is_active j.phase ≡ true)) (sym c.give_wish.ensures.jobs)
    (found_active serial c.args.told.now.wish c.args.table.now.jobs c.requires.active)

-- the two changes of each job come to one
pub returns-clause-jobs : goal.returns-clause-jobs
returns-clause-jobs c =
    let serial = c.args.serial in
    let told = c.args.told.now in
    c.end_by.ensures.jobs
    ∙ (ap (λ (js : List Job). map (ended_at serial told.cause) js) c.give_wish.ensures.jobs
    ∙ each_comes (wished_at serial told.wish) (ended_at serial told.cause) (told_at serial told) c.args.table.now.jobs (λ j i. refl))
