use Rattle.std.proofs.Common.{◌≡◌, ◌+◌, ◌-◌, not, ◌&&◌, cond, length, vec_capacity, refl, ap, ◌∙◌, arith}
use Rattle.wm_law.specs.Counts.{is_prestart}
use Rattle.wm_jobs.specs.Table.{Table}
use Rattle.wm_jobs.specs.TableInside.{pending_of}
use Rattle.wm_jobs.proofs.AtLaunch.{launched-finds, launched-unlisted, launched-unseated, launched-pushed}
use Rattle.wm_jobs.proofs.Changes.{few-hows}
use Rattle.wm_jobs.proofs.NameParts.{few-names}
use Rattle.wm_jobs.proofs.Undone.{marked-came, marked-pushed}
use Rattle.wm_jobs.proofs.Stood.{agrees, first-pushed, undoable-same, ready-goes}
use Rattle.wm_jobs.proofs.table.JobTable.push_launched.Goals as goal

pub count_start-requires-clause-few : goal.count_start-requires-clause-few
count_start-requires-clause-few c = few-hows _ _ _ _ _ _ _ _ _ c.self.invariant.kept.indexed c.self.invariant.kept.room

pub put_order-requires-clause-new : goal.put_order-requires-clause-new
put_order-requires-clause-new c = launched-finds c.self.inside c.self.invariant.kept c.args.self.now c.self.view_is c.args.job c.requires.serial c.requires.place c.requires.launched

pub put_active-requires-clause-spare : goal.put_active-requires-clause-spare
put_active-requires-clause-spare c =
    let spare : c.self.inside.room ≡ c.args.self.now.spare = ap (λ (v : Table). v.spare) c.self.view_is in
    omega (arith, spare, c.requires.spare, c.self.invariant.undos.to_list)

pub put_active-requires-clause-new : goal.put_active-requires-clause-new
put_active-requires-clause-new c = launched-unlisted c.self.inside c.self.invariant.kept c.args.self.now c.self.view_is c.args.job c.requires.serial c.requires.place c.requires.launched

pub put_prestart-requires-clause-spare : goal.put_prestart-requires-clause-spare
put_prestart-requires-clause-spare c =
    let spare : c.self.inside.room ≡ c.args.self.now.spare = ap (λ (v : Table). v.spare) c.self.view_is in
    omega (arith, spare, c.requires.spare, c.self.invariant.undos.to_seat)

pub put_prestart-requires-clause-new : goal.put_prestart-requires-clause-new
put_prestart-requires-clause-new c = launched-unseated c.self.inside c.self.invariant.kept c.args.self.now c.self.view_is c.args.job c.requires.serial c.requires.place c.requires.launched

pub add-requires-clause-spare : goal.add-requires-clause-spare
add-requires-clause-spare c =
    let spare : c.self.inside.room ≡ c.args.self.now.spare = ap (λ (v : Table). v.spare) c.self.view_is in
    omega (arith, spare, c.requires.spare, c.self.invariant.kept.named.to_name)

pub add-requires-clause-few : goal.add-requires-clause-few
add-requires-clause-few c = few-names c.self.inside.jobs.items c.self.inside.names c.self.inside.room c.self.invariant.kept.named c.self.invariant.kept.room.few

pub invariant_of-self : goal.invariant_of-self
invariant_of-self c =
    let t = c.self.inside in
    let j = c.args.job in
    let spare : t.room ≡ c.args.self.now.spare = ap (λ (v : Table). v.spare) c.self.view_is in
    let left : t.room - 1 + 1 ≡ t.room = omega (arith, c.requires.spare) in
    let busy = c.more-self-inside.ensures ∙ ap (λ b. t.busy + cond b 1 0) (c.counts_as_busy-busy.ensures ∙ ap (λ b. b && not (is_prestart j.kind)) c.is_active-starts.ensures) in
    agrees _
    (launched-pushed t c.self.invariant.kept c.args.self.now c.self.view_is j c.requires.serial c.requires.place c.requires.launched _ c.push_reserved.ensures.items c.push_reserved.ensures.capacity refl c.count_start.ensures.hows c.count_start.ensures.spare c.put_order.ensures.items c.put_order.ensures.spare c.put_active.ensures.items c.put_prestart.ensures.items busy refl refl left c.add.ensures.names c.add.ensures.spare)
    (let had = c.self.invariant.undos in let wait = had.to_wait in let count = had.to_count in let list = had.to_list in let seat = had.to_seat in let name = had.to_name in record { to_wait = omega (arith, left); to_count = omega (arith, left, c.count_start.ensures.spare); to_list = omega (arith, left, c.put_active.ensures.spare); to_seat = omega (arith, left, c.put_prestart.ensures.spare); to_name = omega (arith, left, c.add.ensures.spare) })
    (λ kept. undoable-same t.mark t.touched.items t.touched.items t.jobs.items c.push_reserved.new.self.items t.next_serial t.next_place (pending_of t.starting t.room) t.waiting.clock _ _ _ _ c.self.invariant.undoable refl (first-pushed t.mark.jobs t.jobs.items c.push_reserved.new.self.items j c.self.invariant.marked.there c.push_reserved.ensures.items) (omega arith) (omega arith) (omega (arith, left, c.put_order.ensures.nodes)) (omega arith))
    (marked-came t.jobs.items c.push_reserved.new.self.items j t.mark.jobs (length t.touched.items) (vec_capacity t.touched) (length t.waiting.items) (length t.waiting.items) t.room (t.room - 1) t.changes c.self.invariant.marked c.push_reserved.ensures.items (omega (arith, left)))

pub returns-clause-marked : goal.returns-clause-marked
returns-clause-marked c =
    let t = c.self.inside in
    marked-pushed t.mark t.touched.items t.jobs.items c.push_reserved.new.self.items c.args.job c.self.invariant.marked.there c.push_reserved.ensures.items ∙ ap (λ (v : Table). v.marked) c.self.view_is

pub returns-clause-ready : goal.returns-clause-ready
returns-clause-ready c ready =
    let t = c.self.inside in
    let spare : t.room ≡ c.args.self.now.spare = ap (λ (v : Table). v.spare) c.self.view_is in
    ready-goes t c.args.self.now c.self.view_is _ _ _ _ _ (omega (arith, spare, c.requires.spare)) refl ready
