use Rattle.std.proofs.Common.{◌≡◌, ◌+◌, nat_eq, List, sym, ap, subst, ◌∙◌, arith}
use Rattle.wm_desc.specs.Sorted.{removed}
use Rattle.wm_ordered.specs.Ordered.{key_of}
use Rattle.wm_tables.specs.Noted.{old_job, PutsTouched}
use Rattle.wm_tables.proofs.Leaving.{IsLeft, never_none, next_left, none_left}
use Rattle.wm_tables.proofs.NotedPairs.{Pair}
use Rattle.wm_tables.proofs.jobs.put_noted.Goals.{in-Some+in_ok-put_touched, in_default}
use Rattle.wm_tables.proofs.jobs.put_noted.Goals as goal

pub loop-init : goal.loop-init
loop-init c = let all = c.len-end.ensures.len in record { sorted = c.len-end.ensures.sorted; makes = λ new h. h; count = omega arith }

pub loop-preserved : goal.loop-preserved
loop-preserved c = elim c.match-first.branch [
  | in-Some+in_ok-put_touched w ↦
      let t = c.args.jobs.now in
      let first = c.args.changes.now.items in
      let put : PutsTouched w.in-Some.first.1 (old_job t w.in-Some.first.0) c.loop.changes.items c.match-first.changes.items = subst (λ (v : _). PutsTouched w.in-Some.first.1 (old_job t w.in-Some.first.0) c.loop.changes.items v.items) (sym w.changes-is) w.in_ok-put_touched.ensures in
      let next = next_left t first c.loop.changes.items c.args.noted.items c.loop.counter c.len-end.result c.loop.noted.items w.in-Some.first.0 w.in-Some.first.1 c.match-first.changes.items c.loop.invariant (sym w.in-Some.is ∙ c.first.ensures) put in
      let items : c.match-first.noted.items ≡ removed key_of nat_eq w.in-Some.first.0 c.loop.noted.items = ap (λ (p : _). p.items) w.noted-is ∙ w.take_out.ensures in
      subst (λ (ps : List Pair). IsLeft t first c.match-first.changes.items c.args.noted.items ps (c.loop.counter + 1) c.len-end.result) (sym items) next
  | in_default w ↦ absurd (never_none c.args.jobs.now c.args.changes.now.items c.loop.changes.items c.args.noted.items c.loop.counter c.len-end.result c.loop.noted.items c.loop.invariant (sym w.in_default.is ∙ c.first.ensures) c.loop-test.true)
]

pub returns : goal.returns
returns c = none_left c.args.jobs.now c.args.changes.now.items c.loop.changes.items c.args.noted.items c.loop.counter c.len-end.result c.loop.noted.items c.loop.invariant c.loop-test.false
