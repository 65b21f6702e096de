use Rattle.std.proofs.Common.{◌≡◌, ◌+◌, ◌∷◌, [], length, refl, ap, ◌∙◌, arith}
use Rattle.std.proofs.lemmas.List.{length-append}
use Rattle.wm_jobs.specs.Marked.{standing_as}
use Rattle.wm_jobs.specs.Table.{Table, serial_of}
use Rattle.wm_jobs.specs.declared.table.JobTable.TheInside.{Inside}
use Rattle.wm_jobs.proofs.Splits.{gap-unchanged}
use Rattle.wm_jobs.proofs.Undoes.{all-marked, before-undoable, before-marked, spends, undo-follows, undo-few-names, undone-inside}
use Rattle.wm_jobs.proofs.table.JobTable.undo_last.Goals as goal

-- where no job has the serial, none is changed
pub invariant_of-self : goal.invariant_of-self
invariant_of-self c =
    let t = c.self.inside in
    let h = c.self.invariant in
    let ts = c.pop.new.self.items in
    let u = c.in-Some.touched in
    let popped = c.in-Some.ensures.items in
    let all = all-marked t h c.args.self.now c.self.view_is c.requires.all in
    let less : length t.touched.items ≡ length ts + 1 = ap length popped ∙ length-append ts (u ∷ []) in
    let same = gap-unchanged serial_of u.serial (standing_as u.was) t.jobs.items c.deref.result.now c.in_default-place.field-0 c.deref.ensures.value c.in_default-place.ensures in
    let kept = h.kept in
    let undos = h.undos in
    record {
      kept = record { listed = kept.listed; indexed = kept.indexed; room = kept.room; named = kept.named };
      undos = record { to_wait = omega (arith, less, undos.to_wait); to_count = undos.to_count; to_list = undos.to_list; to_seat = undos.to_seat; to_name = undos.to_name };
      undoable = before-undoable t h ts u popped all t.jobs.items same;
      marked = record { there = h.marked.there; to_touch = omega (arith, less, c.in-Some.ensures.capacity, h.marked.to_touch) };
    }

pub returns-in_default-place-clause-marked : goal.returns-in_default-place-clause-marked
returns-in_default-place-clause-marked c =
    let t = c.self.inside in
    let h = c.self.invariant in
    let u = c.in-Some.touched in
    let all = all-marked t h c.args.self.now c.self.view_is c.requires.all in
    let same = gap-unchanged serial_of u.serial (standing_as u.was) t.jobs.items c.deref.result.now c.in_default-place.field-0 c.deref.ensures.value c.in_default-place.ensures in
    before-marked t h c.pop.new.self.items u c.in-Some.ensures.items all t.jobs.items same ∙ ap (λ (v : Table). v.marked) c.self.view_is

pub follow-requires : goal.follow-requires
follow-requires c =
    let t = c.self.inside in
    let ts = c.pop.new.self.items in
    let u = c.in-Some.touched in
    let popped = c.in-Some.ensures.items in
    let x = c.index-job.result.now in
    undo-follows t c.self.invariant ts u popped c.args.self.now c.self.view_is c.requires.some c.requires.room c.requires.all c.in-Ok.at x c.deref.result.now c.deref.ensures.value c.in-Ok.ensures c.index-job.ensures

pub rejoin-requires-clause-few : goal.rejoin-requires-clause-few
rejoin-requires-clause-few c =
    let t = c.self.inside in
    let ts = c.pop.new.self.items in
    let u = c.in-Some.touched in
    let popped = c.in-Some.ensures.items in
    let x = c.index-job.result.now in
    let new : Inside = record t { jobs = c.stand_at.new.jobs; waiting = c.follow.new.waiting; tally = c.follow.new.tally; starting = c.follow.new.starting; active = c.follow.new.active; prestart = c.follow.new.prestart; busy = c.recount-self-inside.result } in
    undo-few-names t c.self.invariant ts u popped c.args.self.now c.self.view_is c.requires.some c.requires.room c.requires.all c.in-Ok.at x c.deref.result.now c.deref.ensures.value c.in-Ok.ensures c.index-job.ensures new c.follow.new.names c.follow.ensures c.recount-self-inside.ensures c.stand_at.ensures.jobs

pub invariant_of-self-2 : goal.invariant_of-self-2
invariant_of-self-2 c =
    let t = c.self.inside in
    let ts = c.pop.new.self.items in
    let u = c.in-Some.touched in
    let popped = c.in-Some.ensures.items in
    let x = c.index-job.result.now in
    let spend = spends t c.args.self.now c.self.view_is c.requires.some c.requires.room in
    undone-inside t c.self.invariant ts u popped c.args.self.now c.self.view_is c.requires.some c.requires.room c.requires.all c.in-Ok.at x c.deref.result.now c.deref.ensures.value c.in-Ok.ensures c.index-job.ensures _ c.follow.new.names c.follow.ensures c.recount-self-inside.ensures c.stand_at.ensures.jobs c.index.result.now c.index.ensures c.is_ended-had_ended.result c.is_ended-had_ended.ensures c.rejoin.ensures.names c.rejoin.ensures.spare refl spend refl refl refl refl refl c.stand_at.ensures.capacity c.in-Some.ensures.capacity

pub returns-clause-marked : goal.returns-clause-marked
returns-clause-marked c =
    let t = c.self.inside in
    let h = c.self.invariant in
    let all = all-marked t h c.args.self.now c.self.view_is c.requires.all in
    before-marked t h c.pop.new.self.items c.in-Some.touched c.in-Some.ensures.items all c.stand_at.new.jobs.items c.stand_at.ensures.jobs ∙ ap (λ (v : Table). v.marked) c.self.view_is
