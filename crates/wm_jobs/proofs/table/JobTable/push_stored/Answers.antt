use Rattle.std.proofs.Common.{◌≡◌, ◌+◌, ◌-◌, ◌<◌, ◌≤◌, length, vec_capacity, refl, ap, sym, ◌∙◌, subst, List, All, arith}
use Rattle.wm_law.specs.declared.job.Job.{Job}
use Rattle.wm_law.specs.Kept.{waiting_places}
use Rattle.wm_law.specs.Laws.{IsIn}
use Rattle.wm_jobs.specs.Table.{Table}
use Rattle.wm_jobs.specs.TableInside.{pending_of}
use Rattle.wm_pick.specs.Parts.{waiter_of}
use Rattle.wm_jobs.proofs.AtStored.{joined-most, stored-other, stored-inside}
use Rattle.wm_jobs.proofs.NameParts.{few-names}
use Rattle.wm_jobs.proofs.Undone.{marked-came, marked-pushed}
use Rattle.wm_jobs.proofs.Stood.{agrees, first-pushed, undoable-same}
use Rattle.wm_jobs.proofs.table.JobTable.push_stored.Goals as goal

pub put_waiter-requires-clause-other : goal.put_waiter-requires-clause-other
put_waiter-requires-clause-other c =
    let j = c.args.job in
    let jobs : c.args.self.now.jobs ≡ c.self.inside.jobs.items = ap (λ (v : Table). v.jobs) (sym c.self.view_is) in
    stored-other c.self.inside c.self.invariant.kept j (subst (λ (js : List Job). All (λ (k : Job). k.serial < j.serial) js) jobs c.requires.behind)
    (λ waits i. c.requires.free waits (subst (λ (js : List Job). IsIn j.place (waiting_places js)) (sym jobs) i))

pub add-requires-clause-spare : goal.add-requires-clause-spare
add-requires-clause-spare c =
    let spare : c.self.inside.room ≡ c.args.self.now.spare = ap (λ (v : Table). v.spare) c.self.view_is in
    omega (arith, spare, c.requires.spare, c.self.invariant.kept.named.to_name)

pub add-requires-clause-few : goal.add-requires-clause-few
add-requires-clause-few c = few-names c.self.inside.jobs.items c.self.inside.names c.self.inside.room c.self.invariant.kept.named c.self.invariant.kept.room.few

pub invariant_of-self : goal.invariant_of-self
invariant_of-self c =
    let t = c.self.inside in
    let j = c.args.job in
    let jobs : c.args.self.now.jobs ≡ t.jobs.items = ap (λ (v : Table). v.jobs) (sym c.self.view_is) in
    let spare : t.room ≡ c.args.self.now.spare = ap (λ (v : Table). v.spare) c.self.view_is in
    let left : t.room - 1 + 1 ≡ t.room = omega (arith, c.requires.spare) in
    let serial : j.serial < t.next_serial = subst (λ (v : Table). j.serial < v.next_serial) (sym c.self.view_is) c.requires.serial in
    let place : j.place < t.next_place = subst (λ (v : Table). j.place < v.next_place) (sym c.self.view_is) c.requires.place in
    let most : length c.put_waiter.new.waiting.items ≤ length t.waiting.items + 1 = subst (λ ws. length ws ≤ length t.waiting.items + 1) (sym c.put_waiter.ensures.items) (joined-most (waiter_of j) t.waiting.items) in
    agrees _
    (stored-inside t c.self.invariant.kept j (subst (λ (js : List Job). All (λ (k : Job). k.serial < j.serial) js) jobs c.requires.behind) c.requires.inactive c.requires.queue serial place _ c.push_reserved.ensures.items c.push_reserved.ensures.capacity c.put_waiter.ensures.items c.put_waiter.ensures.spare refl refl refl refl refl refl refl left c.add.ensures.names c.add.ensures.spare)
    (let had = c.self.invariant.undos in let wait = had.to_wait in let count = had.to_count in let list = had.to_list in let seat = had.to_seat in let name = had.to_name in record { to_wait = omega (arith, left, c.put_waiter.ensures.spare); to_count = omega (arith, left, most); to_list = omega (arith, left, most); to_seat = omega (arith, left, most); to_name = omega (arith, left, c.add.ensures.spare) })
    (λ kept. undoable-same t.mark t.touched.items t.touched.items t.jobs.items c.push_reserved.new.self.items t.next_serial t.next_place (pending_of t.starting t.room) t.waiting.clock _ _ _ _ c.self.invariant.undoable refl (first-pushed t.mark.jobs t.jobs.items c.push_reserved.new.self.items j c.self.invariant.marked.there c.push_reserved.ensures.items) (omega arith) (omega arith) (omega (arith, left)) (omega (arith, c.put_waiter.ensures.clock)))
    (marked-came t.jobs.items c.push_reserved.new.self.items j t.mark.jobs (length t.touched.items) (vec_capacity t.touched) (length t.waiting.items) (length c.put_waiter.new.waiting.items) t.room (t.room - 1) t.changes c.self.invariant.marked c.push_reserved.ensures.items (omega (arith, left, most)))

pub returns-clause-marked : goal.returns-clause-marked
returns-clause-marked c =
    let t = c.self.inside in
    marked-pushed t.mark t.touched.items t.jobs.items c.push_reserved.new.self.items c.args.job c.self.invariant.marked.there c.push_reserved.ensures.items ∙ ap (λ (v : Table). v.marked) c.self.view_is
