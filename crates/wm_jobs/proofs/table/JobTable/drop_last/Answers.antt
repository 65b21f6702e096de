use Rattle.std.proofs.Common.{refl, ap, ◌∙◌}
use Rattle.wm_base.specs.declared.job.EndCause.TheVariants.{Restarted}
use Rattle.wm_law.specs.declared.job.Phase.TheVariants.{Ended}
use Rattle.wm_jobs.specs.declared.touched.Standing.{Standing}
use Rattle.wm_jobs.specs.Table.{Table}
use Rattle.wm_jobs.proofs.Undoes.{drop-follows, drop-last, dropped-inside, dropped-marked, marked-there}
use Rattle.wm_jobs.proofs.table.JobTable.drop_last.Goals as goal

pub follow-requires : goal.follow-requires
follow-requires c =
    drop-follows c.self.inside c.self.invariant c.pop.new.self.items c.in-Some.job c.in-Some.ensures.items _ (ap (λ (s : Standing). record s { phase = Ended Restarted }) c.standing_of-ended.ensures)

pub forget-requires : goal.forget-requires
forget-requires c =
    drop-last c.self.inside c.self.invariant c.pop.new.self.items c.in-Some.job c.in-Some.ensures.items _ (ap (λ (s : Standing). record s { phase = Ended Restarted }) c.standing_of-ended.ensures) c.follow.new.names c.follow.ensures.names

pub invariant_of-self : goal.invariant_of-self
invariant_of-self c =
    let t = c.self.inside in
    let js = c.pop.new.self.items in
    let x = c.in-Some.job in
    let whole = c.in-Some.ensures.items in
    let ended = ap (λ (s : Standing). record s { phase = Ended Restarted }) c.standing_of-ended.ensures in
    dropped-inside t c.self.invariant js x whole _ ended _ c.follow.new.names c.follow.ensures c.recount-self-inside.ensures refl (marked-there t c.self.invariant js x whole _ ended c.args.self.now c.self.view_is c.requires) c.forget.ensures.names c.forget.ensures.spare refl refl refl refl refl refl refl c.in-Some.ensures.capacity

pub returns-clause-marked : goal.returns-clause-marked
returns-clause-marked c =
    let t = c.self.inside in
    let js = c.pop.new.self.items in
    let x = c.in-Some.job in
    let whole = c.in-Some.ensures.items in
    let ended = ap (λ (s : Standing). record s { phase = Ended Restarted }) c.standing_of-ended.ensures in
    dropped-marked t c.self.invariant js x whole _ ended (marked-there t c.self.invariant js x whole _ ended c.args.self.now c.self.view_is c.requires) js refl ∙ ap (λ (v : Table). v.marked) c.self.view_is
