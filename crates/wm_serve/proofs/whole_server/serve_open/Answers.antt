use Rattle.std.proofs.Common.{◌≡◌, ◌∙◌, All, List, None, ap, subst, sym}
use Rattle.std.specs.List.{AllZip}
use Rattle.wm_turn.proofs.Histories.{starts_again}
use Rattle.wm_serve.specs.Ending.{IsCloserAt}
use Rattle.wm_serve.specs.Over.{AreServerCalls, DryRose, KeepsNone, WereDry}
use Rattle.wm_serve.specs.Seating.{HasPassOf}
use Rattle.wm_serve.specs.Seats.{Sits, pass_of, tellers}
use Rattle.wm_serve.proofs.Closers.{closer_seated}
use Rattle.wm_serve.proofs.Ended.{ended_cause, ended_joined, ended_made, ended_number}
use Rattle.wm_serve.proofs.Seatings.{all_emptied, have_passes, mine_kept, number_then, sit_seated}
use Rattle.wm_serve.proofs.Done.{ended_served}
use Rattle.wm_serve.proofs.Overs.{all_keep_none, finished, mine_all, were_dry, where_ok}
use Rattle.wm_serve.proofs.whole_server.serve_open.Goals as goal

pub serve_floor-end-requires-clause-closer : goal.serve_floor-end-requires-clause-closer
serve_floor-end-requires-clause-closer g c κs within =
    subst (λ (seats : List _). IsCloserAt c.args.plan.now.workers seats) (sym c.enter_all.ensures.seats) (closer_seated c.args.zero.now c.args.plan.now.workers c.args.seats.now c.requires.closer)

pub serve_floor-end-requires-clause-sit : goal.serve_floor-end-requires-clause-sit
serve_floor-end-requires-clause-sit g c κs within =
    let d = g.L.D.Desk in
    let p = g.P.Spawner in
    let t = tellers d.hand d.had d.dries d.faults p.asked p.told p.misses p.faults in
    let f = c.args.floor.now in
    let its = subst (λ (seats : List _). All (HasPassOf f) seats) c.enter_all.ensures.seats c.enter_all.ensures.its in
    subst (λ (seats : List _). All (Sits t f) seats) (sym c.enter_all.ensures.seats) (sit_seated t f c.args.zero.now c.args.seats.now c.requires.fresh its)

pub serve_floor-end-requires-clause-number : goal.serve_floor-end-requires-clause-number
serve_floor-end-requires-clause-number g c κs within = ap (λ (p : _). p.number) c.enter_all.ensures.zero ∙ number_then c.args.zero.now c.args.seats.now ∙ ap (λ (p : _). p.number) c.requires.pass

pub serve_floor-end-requires-clause-none : goal.serve_floor-end-requires-clause-none
serve_floor-end-requires-clause-none g c κs within = ap (λ (p : _). p.mine) c.enter_all.ensures.zero ∙ mine_kept c.args.zero.now c.args.seats.now ∙ ap (λ (p : _). p.mine) c.requires.pass

pub leave_all-requires-clause-zero : goal.leave_all-requires-clause-zero
leave_all-requires-clause-zero g c =
    c.serve_floor-end.ensures.same.number ∙ ap (λ (p : _). p.number) c.enter_all.ensures.zero ∙ number_then c.args.zero.now c.args.seats.now ∙ ap (λ (p : _). p.number) c.requires.pass

pub leave_all-requires-clause-its : goal.leave_all-requires-clause-its
leave_all-requires-clause-its g c =
    let d = g.L.D.Desk in
    let p = g.P.Spawner in
    let t = tellers d.hand d.had d.dries d.faults p.asked p.told p.misses p.faults in
    have_passes t c.args.floor.now c.serve_floor-end.new.seats c.serve_floor-end.ensures.sit

pub returns-clause-zero : goal.returns-clause-zero
returns-clause-zero g c =
    ended_number c.args.zero.now c.enter_all.new.zero c.serve_floor-end.new.zero c.leave_all.new.zero c.await_idle.new.zero c.args.seats.now c.enter_all.new.seats c.serve_floor-end.new.seats
    (ap (λ (p : _). p.number) c.requires.pass) c.enter_all.ensures.zero c.serve_floor-end.ensures.same c.leave_all.ensures.zero c.await_idle.ensures.same

pub returns-clause-made : goal.returns-clause-made
returns-clause-made g c =
    ended_made c.args.zero.now c.enter_all.new.zero c.serve_floor-end.new.zero c.leave_all.new.zero c.await_idle.new.zero c.args.seats.now c.enter_all.new.seats c.serve_floor-end.new.seats
    (ap (λ (p : _). p.made) c.requires.pass) c.enter_all.ensures.zero c.serve_floor-end.ensures.same c.leave_all.ensures.zero c.await_idle.ensures.same

pub returns-clause-joined : goal.returns-clause-joined
returns-clause-joined g c =
    let d = g.L.D.Desk in
    let p = g.P.Spawner in
    let t = tellers d.hand d.had d.dries d.faults p.asked p.told p.misses p.faults in
    let ran = c.serve_floor-end.ensures in
    ended_joined c.args.zero.now c.enter_all.new.zero c.serve_floor-end.new.zero c.leave_all.new.zero c.await_idle.new.zero c.args.seats.now c.enter_all.new.seats c.serve_floor-end.new.seats t c.args.floor.now
    (ap (λ (p : _). p.joined) c.requires.pass) c.enter_all.ensures.zero c.enter_all.ensures.seats ran.same ran.run ran.sit c.leave_all.ensures.zero c.await_idle.ensures.same

pub returns-clause-vacant : goal.returns-clause-vacant
returns-clause-vacant g c = subst (λ (seats : List _). All (λ seat. pass_of seat ≡ None) seats) (sym c.leave_all.ensures.seats) (all_emptied c.serve_floor-end.new.seats)

pub returns-clause-cause : goal.returns-clause-cause
returns-clause-cause g c =
    let d = g.L.D.Desk in
    let p = g.P.Spawner in
    let t = tellers d.hand d.had d.dries d.faults p.asked p.told p.misses p.faults in
    let ran = c.serve_floor-end.ensures in
    let faults = g.O.Sink.faults in
    let f = c.args.floor.now in
    ended_cause t f f.opening.limit (faults c.args.out.now) (faults c.serve_floor-end.new.out) c.args.zero.now c.enter_all.new.zero c.serve_floor-end.new.zero c.leave_all.new.zero c.await_idle.new.zero c.args.seats.now c.enter_all.new.seats c.serve_floor-end.new.seats c.leave_all.new.seats
    c.serve_floor-end.result c.requires.limit c.requires.fresh c.enter_all.ensures.seats ran.run ran.cause c.leave_all.ensures.zero c.leave_all.ensures.seats c.await_idle.ensures.looked

pub returns-clause-served : goal.returns-clause-served
returns-clause-served g c =
    let d = g.L.D.Desk in
    let p = g.P.Spawner in
    let t = tellers d.hand d.had d.dries d.faults p.asked p.told p.misses p.faults in
    let left = c.leave_all.ensures in
    let last = c.await_idle.ensures in
    λ whole.
    ended_served t c.args.floor.now c.args.zero.now c.serve_floor-end.new.zero c.leave_all.new.zero c.await_idle.new.zero c.args.seats.now c.enter_all.new.seats c.serve_floor-end.new.seats c.leave_all.new.seats
    (ap (λ (p : _). p.seen) c.requires.pass) (ap (λ (p : _). p.made) c.requires.pass) c.requires.fresh c.serve_floor-end.ensures.sit c.enter_all.ensures.seats c.serve_floor-end.ensures.run left.zero left.told left.seats last.same last.looked whole

pub returns-clause-calls : goal.returns-clause-calls
returns-clause-calls g c =
    let same = c.await_idle.ensures.looked.mine ∙ (ap (λ (p : _). p.mine) c.leave_all.ensures.zero ∙ mine_all c.serve_floor-end.new.zero c.serve_floor-end.new.seats) in
    subst (AreServerCalls c.args.plan.now.ctl) (sym same) c.serve_floor-end.ensures.calls

pub returns-clause-finishes : goal.returns-clause-finishes
returns-clause-finishes g c =
    let d = g.L.D.Desk in
    let p = g.P.Spawner in
    let t = tellers d.hand d.had d.dries d.faults p.asked p.told p.misses p.faults in
    let f = c.args.floor.now in
    let ran = c.serve_floor-end in
    let same = c.await_idle.ensures.looked.mine ∙ (ap (λ (p : _). p.mine) c.leave_all.ensures.zero ∙ mine_all ran.new.zero ran.new.seats) in
    let longer = starts_again c.await_idle.new.zero.seen c.leave_all.new.zero.seen ran.new.zero.seen c.await_idle.ensures.looked.seen c.leave_all.ensures.seen in
    let ctl = c.args.plan.now.ctl in
    let xs = c.args.seats.now in
    let ends = c.leave_all.new.seats in
    where_ok ran.result _ _ ran.ensures.finishes
    (λ h. finished (WereDry t f c.enter_all.new.seats ran.new.seats) (AllZip (DryRose t) xs ends) f.opening.state ctl ran.new.seats ends ran.new.zero c.await_idle.new.zero same longer
    (were_dry t f c.args.zero.now xs c.enter_all.new.seats ran.new.seats ends c.requires.fresh c.enter_all.ensures.seats c.leave_all.ensures.seats)
    (subst (λ (seats : List _). All KeepsNone seats) (sym c.leave_all.ensures.seats) (all_keep_none ran.new.seats h.told))
    h)
