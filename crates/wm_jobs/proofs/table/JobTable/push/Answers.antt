use Rattle.std.proofs.Common.{◌≡◌, ◌+◌, ◌-◌, length, vec_capacity, refl, ap, sym, ◌∙◌, arith}
use Rattle.std.specs.Ordering.{nat_cmp}
use Rattle.wm_ordered.proofs.Keyed.{length-added}
use Rattle.wm_ordered.specs.Waiting.{serial_of as waiting_serial}
use Rattle.wm_jobs.specs.Table.{Table}
use Rattle.wm_jobs.specs.TableInside.{pending_of}
use Rattle.wm_jobs.proofs.AtEnd.{push-finds, pushed-inside}
use Rattle.wm_jobs.proofs.NameParts.{few-names}
use Rattle.wm_jobs.proofs.Undone.{marked-came, marked-pushed}
use Rattle.wm_jobs.proofs.Stood.{agrees, first-pushed, undoable-same, ready-goes}
use Rattle.wm_jobs.proofs.table.JobTable.push.Goals as goal

pub insert-requires-clause-serial : goal.insert-requires-clause-serial
insert-requires-clause-serial c =
    (push-finds c.self.inside c.self.invariant.kept c.args.self.now c.self.view_is c.args.job c.in-Some.waiter (sym c.waiter_of.ensures ∙ c.in-Some.is) c.requires.serial c.requires.place).0

pub insert-requires-clause-place : goal.insert-requires-clause-place
insert-requires-clause-place c =
    (push-finds c.self.inside c.self.invariant.kept c.args.self.now c.self.view_is c.args.job c.in-Some.waiter (sym c.waiter_of.ensures ∙ c.in-Some.is) c.requires.serial c.requires.place).1

pub add-requires-clause-spare : goal.add-requires-clause-spare
add-requires-clause-spare c =
    let spare : c.self.inside.room ≡ c.args.self.now.spare = ap (λ (v : Table). v.spare) c.self.view_is in
    omega (arith, spare, c.requires.spare, c.self.invariant.kept.named.to_name)

pub add-requires-clause-few : goal.add-requires-clause-few
add-requires-clause-few c = few-names c.self.inside.jobs.items c.self.inside.names c.self.inside.room c.self.invariant.kept.named c.self.invariant.kept.room.few

pub invariant_of-self : goal.invariant_of-self
invariant_of-self c =
    let spare : c.self.inside.room ≡ c.args.self.now.spare = ap (λ (v : Table). v.spare) c.self.view_is in
    let left : c.self.inside.room - 1 + 1 ≡ c.self.inside.room = omega (arith, c.requires.spare) in
    let t = c.self.inside in
    let more : length c.insert.new.self.items ≡ length t.waiting.items + 1 = ap length c.insert.ensures.items ∙ length-added waiting_serial nat_cmp c.in-Some.waiter t.waiting.items in
    agrees _
    (pushed-inside c.self.inside c.self.invariant.kept c.args.self.now c.self.view_is c.args.job c.in-Some.waiter (sym c.waiter_of.ensures ∙ c.in-Some.is) c.requires.serial c.requires.place c.requires.waits c.requires.queue _ c.push_reserved.ensures.items c.push_reserved.ensures.capacity c.insert.ensures.items c.insert.ensures.spare refl refl refl refl refl refl refl left c.add.ensures.names c.add.ensures.spare)
    (let had = c.self.invariant.undos in let wait = had.to_wait in let count = had.to_count in let list = had.to_list in let seat = had.to_seat in let name = had.to_name in record { to_wait = omega (arith, left, c.insert.ensures.spare); to_count = omega (arith, left, more); to_list = omega (arith, left, more); to_seat = omega (arith, left, more); to_name = omega (arith, left, c.add.ensures.spare) })
    (λ kept. undoable-same t.mark t.touched.items t.touched.items t.jobs.items c.push_reserved.new.self.items t.next_serial t.next_place (pending_of t.starting t.room) t.waiting.clock _ _ _ _ c.self.invariant.undoable refl (first-pushed t.mark.jobs t.jobs.items c.push_reserved.new.self.items c.args.job c.self.invariant.marked.there c.push_reserved.ensures.items) (omega arith) (omega arith) (omega (arith, left)) (omega (arith, c.insert.ensures.clock)))
    (marked-came t.jobs.items c.push_reserved.new.self.items c.args.job t.mark.jobs (length t.touched.items) (vec_capacity t.touched) (length t.waiting.items) (length c.insert.new.self.items) t.room (t.room - 1) t.changes c.self.invariant.marked c.push_reserved.ensures.items (omega (arith, more, left)))

pub returns-clause-marked : goal.returns-clause-marked
returns-clause-marked c =
    let t = c.self.inside in
    marked-pushed t.mark t.touched.items t.jobs.items c.push_reserved.new.self.items c.args.job c.self.invariant.marked.there c.push_reserved.ensures.items ∙ ap (λ (v : Table). v.marked) c.self.view_is

pub returns-clause-ready : goal.returns-clause-ready
returns-clause-ready c ready =
    let t = c.self.inside in
    let spare : t.room ≡ c.args.self.now.spare = ap (λ (v : Table). v.spare) c.self.view_is in
    let more : length c.insert.new.self.items ≡ length t.waiting.items + 1 = ap length c.insert.ensures.items ∙ length-added waiting_serial nat_cmp c.in-Some.waiter t.waiting.items in
    ready-goes t c.args.self.now c.self.view_is _ _ _ _ _ (omega (arith, more, spare, c.requires.spare)) refl ready
