use Rattle.std.proofs.Common.{◌≡◌, ◌+◌, true, Option, Some, None, is_some, ap, sym, ◌∙◌, refl, subst, arith}
use Rattle.std.specs.Option.{option_or, unwrap_or}
use Rattle.wm_base.specs.declared.qname.QName.{QName}
use Rattle.wm_law.specs.Changing.{moved_to}
use Rattle.wm_jobs.specs.Marked.{standing_as}
use Rattle.wm_jobs.specs.Table.{Table}
use Rattle.wm_jobs.specs.TableInside.{table_of, pending_of}
use Rattle.wm_jobs.specs.declared.touched.Standing.{Standing}
use Rattle.wm_jobs.proofs.Restood.{spent-one, waiting-alike, places-below}
use Rattle.wm_jobs.proofs.Stood.{undoable-same, listed-later}
use Rattle.wm_jobs.proofs.table.JobTable.move_to.Goals as goal

-- the next place alone is another
pub invariant_of-self : goal.invariant_of-self
invariant_of-self c =
    let t = c.self.inside in
    let kept = c.self.invariant.kept in
    let undos = c.self.invariant.undos in
    record {
      kept = record { listed = listed-later t.next_serial t.next_place t.next_serial (t.next_place + 1) t.jobs.items (omega arith) (omega arith) kept.listed; indexed = kept.indexed; room = kept.room; named = kept.named };
      undos = record { to_wait = undos.to_wait; to_count = undos.to_count; to_list = undos.to_list; to_seat = undos.to_seat; to_name = undos.to_name };
      undoable = undoable-same t.mark t.touched.items t.touched.items t.jobs.items t.jobs.items t.next_serial t.next_place (pending_of t.starting t.room) t.waiting.clock t.next_serial (t.next_place + 1) (pending_of t.starting t.room) t.waiting.clock c.self.invariant.undoable refl refl (omega arith) (omega arith) (omega arith) (omega arith);
      marked = c.self.invariant.marked;
    }

or-some : (a b : Option QName) → is_some b ≡ true → is_some (option_or a b) ≡ true
or-some None b has = has
or-some (Some q) b has = refl

-- no job has the place yet
pub restand-requires-clause-may : goal.restand-requires-clause-may
restand-requires-clause-may c =
    let t = c.self.inside in
    let was = c.in-Some.found.was in
    let one = spent-one was.phase was.phase in
    let some : t.changes ≡ c.args.self.now.changes = ap (λ (v : Table). v.changes) c.self.view_is in
    record {
      forward = omega arith;
      how = λ _ _. refl;
      queue = λ has. subst (λ (q : Option QName). is_some q ≡ true) (sym c.or-standing.ensures) (or-some c.args.command.now.jobq was.jobq has);
      place = omega arith;
      own = λ _ w there same. absurd (let below = places-below t c.self.invariant.kept w there in omega (arith, below, same));
      changes = omega (arith, one, some, c.requires.changes);
    }

pub returns-clause-jobs : goal.returns-clause-jobs
returns-clause-jobs c =
    let t = c.self.inside in
    let was = c.in-Some.found.was in
    let found = c.in-Some.ensures.0 in
    let command = c.args.command.now in
    let same : standing_as (record was { jobq = c.or-standing.result; pty = c.unwrap_or-standing.result; place = t.next_place; due = c.args.due }) found.job ≡ moved_to command t.next_place c.args.due found.job =
    rw (c.or-standing.ensures, c.unwrap_or-standing.ensures) (ap (λ (s : Standing). standing_as (record s { jobq = option_or command.jobq s.jobq; pty = unwrap_or command.jobpty s.pty; place = t.next_place; due = c.args.due }) found.job) found.was) in
    rw (← c.self.view_is) (c.restand.ensures.jobs ∙ waiting-alike (table_of (record t { next_place = t.next_place + 1 })) c.args.serial c.in-Some.found found (standing_as (record was { jobq = c.or-standing.result; pty = c.unwrap_or-standing.result; place = t.next_place; due = c.args.due })) (moved_to command t.next_place c.args.due) c.in-Some.ensures.1 same)
