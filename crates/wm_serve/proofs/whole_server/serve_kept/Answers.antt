use Rattle.std.proofs.Common.{◌≡◌, ◌∙◌, ◌≤◌, ◌<◌, ℕ, IfSome, List, [], Option, ap, arith, count_by, length, refl, subst, sym}
use Rattle.std.specs.List.{AllZip}
use Rattle.wm_traits.specs.Cause.{raised}
use Rattle.wm_law.specs.Pending.{active}
use Rattle.wm_law.specs.declared.call.Entry.{Entry}
use Rattle.wm_law.specs.declared.state.State.{State}
use Rattle.wm_floor.specs.History.{reached}
use Rattle.wm_floor.specs.Keeping.{telling}
use Rattle.wm_floor.specs.Trail.{HasTrail}
use Rattle.wm_floor.specs.Ledger.{behind, caller_of}
use Rattle.wm_turn.specs.Passed.{own}
use Rattle.wm_run.proofs.Openings.{has_opened}
use Rattle.wm_serve.specs.Seats.{takes_pass, tellers}
use Rattle.wm_serve.specs.Done.{AreServed}
use Rattle.wm_serve.specs.Over.{AreServerCalls, DryRose, Finishes, IsOver}
use Rattle.wm_serve.specs.Server.{HasLog, IsEndHalt}
use Rattle.wm_serve.specs.declared.halt.Halt.TheVariants.{WriteFault, KeeperFault, LogFull, WaitFault, ListenFault}
use Rattle.wm_serve.proofs.Accepted.{is_over}
use Rattle.wm_serve.proofs.Closers.{fit_closer}
use Rattle.wm_serve.proofs.Powers.{restart_is_on}
use Rattle.wm_serve.proofs.Ended.{ended_begun, ended_by, ended_listed, ended_read, ended_well, ended_written}
use Rattle.wm_serve.proofs.Histories.{open_begun, unopened_server, written_none}
use Rattle.wm_serve.proofs.whole_server.serve_kept.Goals as goal

pub returns-in-Err-clause-log : goal.returns-in-Err-clause-log
returns-in-Err-clause-log g c =
    let k = g.K.Keeper in
    let law = g.met.K.Keeper g.world.𝓛 g.world.𝓜 g.world.𝓡 ((λ s x. x), (λ x. x), (λ x. x), λ x. x) in
    let T = telling k.tables k.trail in
    let d = g.L.D.Desk in
    let p = g.P.Spawner in
    let t = tellers d.hand d.had d.dries d.faults p.asked p.told p.misses p.faults in
    let offset = c.args.plan.now.offset in
    let status = c.not_begun.result.status in
    let back = c.in-Err.keeper in
    let none = unopened_server offset c.in-Err.fault status (T c.args.keeper) (T back) (c.not_begun.ensures.status ∙ c.open_status.ensures) c.in-Err.ensures.err (law.trail_with_tables c.args.keeper) (law.trail_with_tables back) in
    let Done = λ (opened : State) (es : List Entry). AreServed t c.args.plan.now status opened es c.args.seats.now c.args.seats.now in
    subst (λ (log : Option (List Entry)). HasLog offset status log (T c.args.keeper) (T back) Done) (sym c.not_begun.ensures.log) none

pub serve_open-end-requires-clause-closer : goal.serve_open-end-requires-clause-closer
serve_open-end-requires-clause-closer g c κs within = fit_closer c.args.plan.now.workers c.args.plan.now.monitors c.args.seats.now c.requires.fit

pub returns-in-Err-clause-written : goal.returns-in-Err-clause-written
returns-in-Err-clause-written g c =
    let status = c.not_begun.result.status in
    let high = open_begun c.in-Err.fault status (c.not_begun.ensures.status ∙ c.open_status.ensures) in
    written_none status (g.O.Sink.written c.args.out.now) (λ none. absurd (omega (arith, none, high)))

pub returns-clause-log : goal.returns-clause-log
returns-clause-log g c =
    let k = g.K.Keeper in
    let law = g.met.K.Keeper g.world.𝓛 g.world.𝓜 g.world.𝓡 ((λ s x. x), (λ x. x), (λ x. x), λ x. x) in
    let T = telling k.tables k.trail in
    let offset = c.args.plan.now.offset in
    let o = c.in-Ok.opened.0.opening in
    let closed = c.close_floor.ensures in
    let served = c.close_floor.result.0 in
    let keeper = c.close_floor.result.1 in
    let seen = c.serve_open-end.new.zero.seen in
    let idle : served.status ≡ 0 → active (reached (behind o seen)) ≡ 0 = λ none. ended_well (active (reached (behind o seen)) ≡ 0) c.serve_open-end.result served.status c.serve_open-end.ensures.idle (closed.status ∙ c.ended_status.ensures) none in
    let trail = subst (λ (found : _). HasTrail (behind o seen) (T found) (T keeper)) c.in-Ok.ensures.found closed.trail in
    let d = g.L.D.Desk in
    let p = g.P.Spawner in
    let t = tellers d.hand d.had d.dries d.faults p.asked p.told p.misses p.faults in
    let plan = c.args.plan.now in
    let old = c.args.seats.now in
    let new = c.serve_open-end.new.seats in
    let ran = c.serve_open-end.ensures in
    let its = ran.served closed.joined in
    let on = restart_is_on offset c.in-Ok.ensures.ok.found o.state c.in-Ok.ensures.ok.restart in
    let none : (n : ℕ) → count_by takes_pass old < n → own caller_of n seen ≡ [] = λ n lt. closed.callers n (omega (arith, lt, ran.made)) in
    let over : served.status ≡ 0 → IsOver t plan.workers o.state seen old new = λ zero_.
    is_over t c.in-Ok.opened.0 plan.ctl plan.workers plan.monitors old new c.serve_open-end.new.zero (ran.own.mine ∙ ap (λ (n : ℕ). own caller_of n seen) ran.zero) on closed.legal c.requires.fit its none
    (ended_well (Finishes (AllZip (DryRose t) old new) o.state plan.ctl new c.serve_open-end.new.zero) c.serve_open-end.result served.status ran.finishes (closed.status ∙ c.ended_status.ensures) zero_) in
    let mine = ran.own.mine ∙ ap (λ (n : ℕ). own caller_of n seen) ran.zero in
    let all : AreServed t plan served.status o.state seen old new = record { floor = c.in-Ok.opened.0; opening = refl; seats = its; calls = subst (AreServerCalls plan.ctl) mine ran.calls; over = over } in
    let Done = λ (opened : State) (es : List Entry). AreServed t plan served.status opened es old new in
    let whole = has_opened offset seen o (T c.args.keeper) (T o.keeper) (T keeper) c.in-Ok.ensures.ok closed.legal closed.tables trail closed.untold (law.trail_with_tables c.args.keeper) (law.trail_with_tables keeper) (record { idle = idle; done = all }) in
    subst (λ (log : Option (List Entry)). HasLog offset served.status log (T c.args.keeper) (T keeper) Done) (sym closed.log) whole

pub returns-clause-written : goal.returns-clause-written
returns-clause-written g c =
    let is = c.close_floor.ensures.status ∙ c.ended_status.ensures in
    ended_written c.serve_open-end.result c.close_floor.result.0.status (g.O.Sink.written c.args.out.now) (g.O.Sink.written c.serve_open-end.new.out) is c.serve_open-end.ensures.written

pub returns-clause-write_fault : goal.returns-clause-write_fault
returns-clause-write_fault g c =
    let d = g.L.D.Desk in
    let p = g.P.Spawner in
    let t = tellers d.hand d.had d.dries d.faults p.asked p.told p.misses p.faults in
    let faults = g.O.Sink.faults in
    let ran = c.serve_open-end in
    let Q = IsEndHalt t c.in-Ok.opened.0.opening.limit (faults c.args.out.now) (faults ran.new.out) c.args.seats.now ran.new.seats ran.new.zero in
    let is = c.close_floor.ensures.status ∙ c.ended_status.ensures in
    λ at. (ended_by Q ran.result c.close_floor.result.0.status WriteFault ran.ensures.cause is at).write refl

pub returns-clause-keeper_fault : goal.returns-clause-keeper_fault
returns-clause-keeper_fault g c =
    let d = g.L.D.Desk in
    let p = g.P.Spawner in
    let t = tellers d.hand d.had d.dries d.faults p.asked p.told p.misses p.faults in
    let faults = g.O.Sink.faults in
    let ran = c.serve_open-end in
    let Q = IsEndHalt t c.in-Ok.opened.0.opening.limit (faults c.args.out.now) (faults ran.new.out) c.args.seats.now ran.new.seats ran.new.zero in
    let is = c.close_floor.ensures.status ∙ c.ended_status.ensures in
    let misses = g.K.Keeper.faults in
    λ at.
    (let rose : 1 ≤ ran.new.zero.mark = (ended_by Q ran.result c.close_floor.result.0.status KeeperFault ran.ensures.cause is at).keeper refl in
    subst (λ (found : _). raised (misses found) ≤ misses c.close_floor.result.1) c.in-Ok.ensures.found (c.close_floor.ensures.risen (λ none. absurd (omega (arith, rose, none)))))

pub returns-clause-log_full : goal.returns-clause-log_full
returns-clause-log_full g c =
    let d = g.L.D.Desk in
    let p = g.P.Spawner in
    let t = tellers d.hand d.had d.dries d.faults p.asked p.told p.misses p.faults in
    let faults = g.O.Sink.faults in
    let ran = c.serve_open-end in
    let Q = IsEndHalt t c.in-Ok.opened.0.opening.limit (faults c.args.out.now) (faults ran.new.out) c.args.seats.now ran.new.seats ran.new.zero in
    let is = c.close_floor.ensures.status ∙ c.ended_status.ensures in
    λ at.
    (let long : c.in-Ok.opened.0.opening.limit ≤ length ran.new.zero.seen = (ended_by Q ran.result c.close_floor.result.0.status LogFull ran.ensures.cause is at).full refl in
    let enough : c.args.plan.now.log_limit ≤ length ran.new.zero.seen = omega (arith, long, c.in-Ok.ensures.limit) in
    subst (λ (log : Option (List Entry)). IfSome log (λ (es : List Entry). c.args.plan.now.log_limit ≤ length es)) (sym c.close_floor.ensures.log) enough)

pub returns-clause-wait_fault : goal.returns-clause-wait_fault
returns-clause-wait_fault g c =
    let d = g.L.D.Desk in
    let p = g.P.Spawner in
    let t = tellers d.hand d.had d.dries d.faults p.asked p.told p.misses p.faults in
    let faults = g.O.Sink.faults in
    let ran = c.serve_open-end in
    let Q = IsEndHalt t c.in-Ok.opened.0.opening.limit (faults c.args.out.now) (faults ran.new.out) c.args.seats.now ran.new.seats ran.new.zero in
    let is = c.close_floor.ensures.status ∙ c.ended_status.ensures in
    λ at. (ended_by Q ran.result c.close_floor.result.0.status WaitFault ran.ensures.cause is at).wait refl

pub returns-clause-bad_row : goal.returns-clause-bad_row
returns-clause-bad_row g c =
    let is = c.close_floor.ensures.status ∙ c.ended_status.ensures in
    λ nine. absurd (ended_read c.serve_open-end.result c.close_floor.result.0.status is nine)

pub returns-clause-listen_fault : goal.returns-clause-listen_fault
returns-clause-listen_fault g c =
    let d = g.L.D.Desk in
    let p = g.P.Spawner in
    let t = tellers d.hand d.had d.dries d.faults p.asked p.told p.misses p.faults in
    let faults = g.O.Sink.faults in
    let ran = c.serve_open-end in
    let Q = IsEndHalt t c.in-Ok.opened.0.opening.limit (faults c.args.out.now) (faults ran.new.out) c.args.seats.now ran.new.seats ran.new.zero in
    let is = c.close_floor.ensures.status ∙ c.ended_status.ensures in
    λ at. (ended_by Q ran.result c.close_floor.result.0.status ListenFault ran.ensures.cause is at).listen refl

pub returns-clause-begun : goal.returns-clause-begun
returns-clause-begun g c =
    let is = c.close_floor.ensures.status ∙ c.ended_status.ensures in
    λ two. ended_begun c.serve_open-end.result c.close_floor.result.0.status is two

pub returns-clause-statuses : goal.returns-clause-statuses
returns-clause-statuses g c =
    let is = c.close_floor.ensures.status ∙ c.ended_status.ensures in
    ended_listed c.serve_open-end.result c.close_floor.result.0.status is

pub returns-clause-callers : goal.returns-clause-callers
returns-clause-callers g c =
    let none : (n : ℕ) → count_by takes_pass c.args.seats.now < n → own caller_of n c.serve_open-end.new.zero.seen ≡ [] = λ n lt. c.close_floor.ensures.callers n (omega (arith, lt, c.serve_open-end.ensures.made)) in
    subst (λ (log : Option (List Entry)). IfSome log (λ (es : List Entry). (n : ℕ) → count_by takes_pass c.args.seats.now < n → own caller_of n es ≡ [])) (sym c.close_floor.ensures.log) none
