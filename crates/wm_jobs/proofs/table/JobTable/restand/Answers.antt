use Rattle.std.proofs.Common.{◌-◌, refl, ap, ◌∙◌, arith}
use Rattle.wm_jobs.specs.Table.{Table}
use Rattle.wm_jobs.specs.declared.table.JobTable.TheInside.{Inside}
use Rattle.wm_jobs.proofs.Restood.{finds-room, spends, spent-same, follows, less-left, notes-more, restood-inside, restood-marked}
use Rattle.wm_jobs.proofs.Stood.{ready-goes}
use Rattle.wm_jobs.proofs.table.JobTable.restand.Goals as goal

pub note-requires : goal.note-requires
note-requires c = finds-room c.self.inside c.self.invariant c.args.self.now c.self.view_is c.args.serial c.args.found.now c.args.standing.now c.requires.found c.requires.may c.index-job.result.now c.index-job.ensures

pub overflow_sub-self : goal.overflow_sub-self
overflow_sub-self c =
    rw (c.spent.ensures) (spends c.self.inside c.self.invariant c.args.self.now c.self.view_is c.args.serial c.args.found.now c.args.standing.now c.requires.found c.requires.may c.index-job.result.now c.index-job.ensures)

pub follow-requires : goal.follow-requires
follow-requires c = follows c.self.inside c.self.invariant c.args.self.now c.self.view_is c.args.serial c.args.found.now c.args.standing.now c.requires.found c.requires.may c.index-job.result.now c.index-job.ensures

pub invariant_of-self : goal.invariant_of-self
invariant_of-self c =
    let t = c.self.inside in
    let x = c.index-job.result.now in
    let fits = spends t c.self.invariant c.args.self.now c.self.view_is c.args.serial c.args.found.now c.args.standing.now c.requires.found c.requires.may x c.index-job.ensures in
    restood-inside t c.self.invariant c.args.self.now c.self.view_is c.args.serial c.args.found.now c.args.standing.now c.requires.found c.requires.may x c.index-job.ensures
    _ c.stand_at.ensures.jobs c.follow.ensures c.recount-self-inside.ensures c.note.ensures.items (omega (arith, c.spent.ensures, fits)) refl refl refl refl refl c.stand_at.ensures.capacity c.note.ensures.capacity c.len.ensures.places

pub returns-clause-changes : goal.returns-clause-changes
returns-clause-changes c =
    let t = c.self.inside in
    let fits = spends t c.self.invariant c.args.self.now c.self.view_is c.args.serial c.args.found.now c.args.standing.now c.requires.found c.requires.may c.index-job.result.now c.index-job.ensures in
    let same = spent-same t c.self.invariant c.args.self.now c.self.view_is c.args.serial c.args.found.now c.args.standing.now c.requires.found c.requires.may c.index-job.result.now c.index-job.ensures in
    let had = ap (λ (v : Table). v.changes) c.self.view_is in
    omega (arith, c.spent.ensures, fits, same, had)

pub returns-clause-ready : goal.returns-clause-ready
returns-clause-ready c ready =
    let t = c.self.inside in
    let new : Inside = record t { jobs = c.stand_at.new.jobs; waiting = c.follow.new.waiting; tally = c.follow.new.tally; starting = c.follow.new.starting; active = c.follow.new.active; prestart = c.follow.new.prestart; names = c.follow.new.names; busy = c.recount-self-inside.result; touched = c.note.new.touched; changes = t.changes - c.spent.result } in
    let x = c.index-job.result.now in
    let fits = spends t c.self.invariant c.args.self.now c.self.view_is c.args.serial c.args.found.now c.args.standing.now c.requires.found c.requires.may x c.index-job.ensures in
    let left = less-left t c.self.invariant c.args.self.now c.self.view_is c.args.serial c.args.found.now c.args.standing.now c.requires.found c.requires.may x c.index-job.ensures new c.stand_at.ensures.jobs c.follow.ensures c.recount-self-inside.ensures c.note.ensures.items (omega (arith, c.spent.ensures, fits)) in
    let more = notes-more t c.self.invariant c.args.self.now c.self.view_is c.args.serial c.args.found.now c.args.standing.now c.requires.found c.requires.may x c.index-job.ensures new c.stand_at.ensures.jobs c.follow.ensures c.recount-self-inside.ensures c.note.ensures.items (omega (arith, c.spent.ensures, fits)) in
    ready-goes t c.args.self.now c.self.view_is _ _ _ _ _ (omega (arith, left, more)) refl ready

pub returns-clause-marked : goal.returns-clause-marked
returns-clause-marked c =
    let t = c.self.inside in
    let new : Inside = record t { jobs = c.stand_at.new.jobs; waiting = c.follow.new.waiting; tally = c.follow.new.tally; starting = c.follow.new.starting; active = c.follow.new.active; prestart = c.follow.new.prestart; names = c.follow.new.names; busy = c.recount-self-inside.result; touched = c.note.new.touched; changes = t.changes - c.spent.result } in
    let x = c.index-job.result.now in
    let fits = spends t c.self.invariant c.args.self.now c.self.view_is c.args.serial c.args.found.now c.args.standing.now c.requires.found c.requires.may x c.index-job.ensures in
    restood-marked t c.self.invariant c.args.self.now c.self.view_is c.args.serial c.args.found.now c.args.standing.now c.requires.found c.requires.may x c.index-job.ensures new c.stand_at.ensures.jobs c.follow.ensures c.recount-self-inside.ensures c.note.ensures.items (omega (arith, c.spent.ensures, fits)) ∙ ap (λ (v : Table). v.marked) c.self.view_is
