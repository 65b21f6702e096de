use Rattle.std.proofs.Common.{◌≡◌, ap, arith, length, refl}
use Rattle.wm_jobs.specs.TableInside.{pending_of}
use Rattle.wm_jobs.proofs.AtEnd.{reserved-inside}
use Rattle.wm_jobs.proofs.Stood.{undoable-same, ready-goes}
use Rattle.wm_jobs.proofs.table.JobTable.make_due.Goals as goal

pub invariant_of-self : goal.invariant_of-self
invariant_of-self c =
    let o = c.self.invariant.kept.room in
    let waits : length c.make_due.new.self.items ≡ length c.self.inside.waiting.items = ap length c.make_due.ensures.items in
    let spare = c.make_due.ensures.spare in
    let wait = o.to_wait in
    let count = o.to_count in
    let start = o.to_start in
    let fits = c.self.invariant.marked.to_touch in
    let t = c.self.inside in
    record {
      kept = reserved-inside t c.self.invariant.kept _ refl c.make_due.ensures.items refl refl refl refl refl refl refl (record { to_stand = o.to_stand; few = o.few; to_wait = omega arith; to_count = omega arith; to_start = omega arith }) (λ are. are) c.self.invariant.kept.named.to_name;
      undos = let had = c.self.invariant.undos in let wait = had.to_wait in let count = had.to_count in let list = had.to_list in let seat = had.to_seat in record { to_wait = omega arith; to_count = omega arith; to_list = omega arith; to_seat = omega arith; to_name = had.to_name };
      undoable = undoable-same t.mark t.touched.items t.touched.items t.jobs.items t.jobs.items t.next_serial t.next_place (pending_of t.starting t.room) t.waiting.clock t.next_serial t.next_place _ c.make_due.new.self.clock c.self.invariant.undoable refl refl (omega arith) (omega arith) (omega arith) (omega (arith, c.make_due.ensures.clock));
      marked = record { there = c.self.invariant.marked.there; to_touch = omega arith };
    }

pub returns-clause-ready : goal.returns-clause-ready
returns-clause-ready c ready =
    let t = c.self.inside in
    let waits : length c.make_due.new.self.items ≡ length t.waiting.items = ap length c.make_due.ensures.items in
    ready-goes t c.args.self.now c.self.view_is _ _ _ _ _ (omega (arith, waits)) refl ready
