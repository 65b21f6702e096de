use Rattle.std.proofs.Common.{◌≡◌, ℕ, ◌≤◌, length, refl, ap, ◌∙◌, arith}
use Rattle.wm_jobs.specs.Table.{present}
use Rattle.wm_jobs.proofs.Undone.{marked-here}
use Rattle.wm_jobs.proofs.Stood.{agrees, undoable-here, ready-goes}
use Rattle.wm_jobs.proofs.table.JobTable.mark.Goals as goal

pub invariant_of-self : goal.invariant_of-self
invariant_of-self c =
    let kept = c.self.invariant.kept in
    let fits = c.self.invariant.marked.to_touch in
    let none : length c.clear.new.self.items ≡ 0 = ap length c.clear.ensures.items in
    let undos = c.self.invariant.undos in
    let every : c.len-2.result ≡ length c.self.inside.jobs.items = omega (arith, c.len-2.ensures) in
    let clock : c.clock.result ≤ c.self.inside.waiting.clock = omega (arith, c.clock.ensures) in
    agrees _
    (record { listed = kept.listed; indexed = kept.indexed; room = kept.room; named = kept.named })
    (record { to_wait = omega (arith, undos.to_wait, none); to_count = undos.to_count; to_list = undos.to_list; to_seat = undos.to_seat; to_name = undos.to_name })
    (λ now. undoable-here (record { jobs = c.len-2.result; clock = c.clock.result; next_serial = c.self.inside.next_serial; next_place = c.self.inside.next_place }) c.clear.new.self.items _ now c.len.ensures.places c.clear.ensures.items every refl refl clock)
    (record { there = omega (arith, c.len-2.ensures); to_touch = omega arith })

pub returns-clause-marked : goal.returns-clause-marked
returns-clause-marked c =
    let t = c.self.inside in
    marked-here _ c.clear.new.self.items t.jobs.items c.clear.ensures.items (omega (arith, c.len-2.ensures)) ∙ (ap (λ (n : ℕ). record { jobs = t.jobs.items; clock = n; next_serial = t.next_serial; next_place = t.next_place }) c.clock.ensures ∙ ap present c.self.view_is)

pub returns-clause-ready : goal.returns-clause-ready
returns-clause-ready c ready =
    let t = c.self.inside in
    let none : length c.clear.new.self.items ≡ 0 = ap length c.clear.ensures.items in
    ready-goes t c.args.self.now c.self.view_is _ _ _ _ _ (omega (arith, none)) refl ready
