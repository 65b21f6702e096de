use Rattle.std.proofs.Common.{◌≡◌, ◌∙◌, ◌≤◌, ℕ, Err, IfSome, List, Option, Some, ap, arith, inl, length, map, refl, string_bytes, subst, sym}
use Rattle.wm_traits.specs.Cause.{raised}
use Rattle.wm_law.specs.declared.call.Entry.{Entry}
use Rattle.wm_floor.specs.Keeping.{telling}
use Rattle.wm_floor.proofs.Staying.{Stays-same}
use Rattle.wm_plan.specs.declared.plan.ServePlan.{ServePlan}
use Rattle.wm_run.specs.Kept.{HasBadRow, store_status}
use Rattle.wm_run.proofs.Openings.{Grows-stays}
use Rattle.wm_serve.specs.Done.{AreServedBy}
use Rattle.wm_serve.specs.Seats.{tellers}
use Rattle.wm_serve.specs.Server.{HasLog, are_fit, limit_of, offset_of, serve_plan}
use Rattle.wm_serve.proofs.Histories.{written_none}
use Rattle.wm_serve.proofs.Seatings.{vacant_all}
use Rattle.wm_serve.proofs.Stores.{any_seats, bad_row_of_store, fault_of_store, fit_seats, log_left, log_of_store, opened_early, opened_once, opened_unfit, store_failed, store_listed, store_range, store_unopened, words_begun, words_either, words_listed, words_unopened}
use Rattle.wm_serve.proofs.whole_server.serve.Goals as goal

pub returns-in-Err-clause-vacant : goal.returns-in-Err-clause-vacant
returns-in-Err-clause-vacant g c =
    let d = g.L.D.Desk in
    let p = g.P.Spawner in
    let t = tellers d.hand d.had d.dries d.faults p.asked p.told p.misses p.faults in
    vacant_all t c.args.seats.now c.requires.fresh

pub returns-in-Err-clause-words : goal.returns-in-Err-clause-words
returns-in-Err-clause-words g c =
    λ none. words_either c.not_begun.result.status c.in-Err.status c.not_begun.ensures.status c.in-Err.ensures.statuses

pub returns-in-Err-clause-log : goal.returns-in-Err-clause-log
returns-in-Err-clause-log g c =
    let s = g.S.Store in
    let T = telling s.tables s.trail in
    let offset = offset_of (serve_plan (map string_bytes c.args.words.now)) in
    let d = g.L.D.Desk in
    let p = g.P.Spawner in
    let t = tellers d.hand d.had d.dries d.faults p.asked p.told p.misses p.faults in
    log_left offset c.not_begun.result.status c.not_begun.result.log (T c.args.store.now) (T c.args.store.now) (AreServedBy t (serve_plan (map string_bytes c.args.words.now)) c.not_begun.result.status c.args.seats.now c.args.seats.now) c.not_begun.ensures.log (words_unopened c.not_begun.result.status c.in-Err.status c.not_begun.ensures.status c.in-Err.ensures.statuses) (Stays-same _) (Stays-same _)

pub returns-in-Err-clause-written : goal.returns-in-Err-clause-written
returns-in-Err-clause-written g c =
    written_none c.not_begun.result.status (g.O.Sink.written c.args.out.now) (words_begun c.not_begun.result.status c.in-Err.status c.not_begun.ensures.status c.in-Err.ensures.statuses)

pub returns-in-Err-clause-statuses : goal.returns-in-Err-clause-statuses
returns-in-Err-clause-statuses g c =
    words_listed c.not_begun.result.status c.in-Err.status c.not_begun.ensures.status c.in-Err.ensures.statuses

pub returns-then-not-are_fit-clause-vacant : goal.returns-then-not-are_fit-clause-vacant
returns-then-not-are_fit-clause-vacant g c =
    let d = g.L.D.Desk in
    let p = g.P.Spawner in
    let t = tellers d.hand d.had d.dries d.faults p.asked p.told p.misses p.faults in
    vacant_all t c.args.seats.now c.requires.fresh

pub returns-then-not-are_fit-clause-log : goal.returns-then-not-are_fit-clause-log
returns-then-not-are_fit-clause-log g c =
    let s = g.S.Store in
    let T = telling s.tables s.trail in
    let offset = offset_of (serve_plan (map string_bytes c.args.words.now)) in
    let d = g.L.D.Desk in
    let p = g.P.Spawner in
    let t = tellers d.hand d.had d.dries d.faults p.asked p.told p.misses p.faults in
    log_left offset c.not_begun-then-not-are_fit.result.status c.not_begun-then-not-are_fit.result.log (T c.args.store.now) (T c.args.store.now) (AreServedBy t (serve_plan (map string_bytes c.args.words.now)) c.not_begun-then-not-are_fit.result.status c.args.seats.now c.args.seats.now) c.not_begun-then-not-are_fit.ensures.log (words_unopened c.not_begun-then-not-are_fit.result.status 2 c.not_begun-then-not-are_fit.ensures.status (inl refl)) (Stays-same _) (Stays-same _)

pub returns-then-not-are_fit-clause-written : goal.returns-then-not-are_fit-clause-written
returns-then-not-are_fit-clause-written g c =
    written_none c.not_begun-then-not-are_fit.result.status (g.O.Sink.written c.args.out.now) (words_begun c.not_begun-then-not-are_fit.result.status 2 c.not_begun-then-not-are_fit.ensures.status (inl refl))

pub serve_kept-served-requires-clause-fit : goal.serve_kept-served-requires-clause-fit
serve_kept-served-requires-clause-fit g c κs within = sym c.are_fit.ensures ∙ c.if-not-are_fit.false

pub returns-in-Ok-open-clause-log : goal.returns-in-Ok-open-clause-log
returns-in-Ok-open-clause-log g c =
    let s = g.S.Store in
    let k = g.S.K.Keeper in
    let T = telling s.tables s.trail in
    let U = telling k.tables k.trail in
    let served = c.serve_kept-served.result.0 in
    let old = T c.args.store.now in
    let new = T c.close.new.self in
    let d = g.L.D.Desk in
    let p = g.P.Spawner in
    let t = tellers d.hand d.had d.dries d.faults p.asked p.told p.misses p.faults in
    let seats = c.serve_kept-served.new.seats in
    let Done = λ (plan : Option ServePlan). AreServedBy t plan served.status c.args.seats.now seats in
    let whole = log_of_store c.in-Ok.plan.offset served.status served.log old (U c.in-Ok-open.keeper) (U c.serve_kept-served.result.1) new (Done (Some c.in-Ok.plan)) c.in-Ok-open.ensures.tables c.in-Ok-open.ensures.trail c.close.ensures.tables c.close.ensures.trail (g.met.S.Store.trail_with_tables c.close.new.self) c.serve_kept-served.ensures.log in
    subst (λ (plan : Option ServePlan). HasLog (offset_of plan) served.status served.log old new (Done plan)) (sym c.in-Ok.ensures.ok) whole

pub returns-in-Ok-open-clause-keeper_fault : goal.returns-in-Ok-open-clause-keeper_fault
returns-in-Ok-open-clause-keeper_fault g c =
    let faults = g.S.Store.faults in
    let misses = g.S.K.Keeper.faults in
    λ five.
    subst (λ (n : ℕ). raised n ≤ faults c.close.new.self) c.in-Ok-open.ensures.cause.left
    (fault_of_store (misses c.in-Ok-open.keeper) (misses c.serve_kept-served.result.1) (faults c.open.new.self) (faults c.close.new.self) c.in-Ok-open.ensures.fresh (c.serve_kept-served.ensures.keeper_fault five) c.close.ensures.faults)

pub returns-in-Ok-open-clause-log_full : goal.returns-in-Ok-open-clause-log_full
returns-in-Ok-open-clause-log_full g c =
    let log = c.serve_kept-served.result.0.log in
    λ seven. subst (λ (plan : Option ServePlan). IfSome log (λ (es : List Entry). limit_of plan ≤ length es)) (sym c.in-Ok.ensures.ok) (c.serve_kept-served.ensures.log_full seven)

pub returns-in-Ok-open-clause-bad_row : goal.returns-in-Ok-open-clause-bad_row
returns-in-Ok-open-clause-bad_row g c =
    let s = g.S.Store in
    let k = g.S.K.Keeper in
    let old = s.tables c.args.store.now in
    let new = s.tables c.close.new.self in
    λ nine.
    subst (λ (plan : Option ServePlan). HasBadRow (offset_of plan) old new) (sym c.in-Ok.ensures.ok)
    (bad_row_of_store c.in-Ok.plan.offset old (k.tables c.in-Ok-open.keeper) (k.tables c.serve_kept-served.result.1) new c.in-Ok-open.ensures.tables c.close.ensures.tables (c.serve_kept-served.ensures.bad_row nine))

pub returns-clause-vacant : goal.returns-clause-vacant
returns-clause-vacant g c =
    let d = g.L.D.Desk in
    let p = g.P.Spawner in
    let t = tellers d.hand d.had d.dries d.faults p.asked p.told p.misses p.faults in
    vacant_all t c.args.seats.now c.requires.fresh

pub returns-clause-wrong : goal.returns-clause-wrong
returns-clause-wrong g c =
    let fault = c.in-Err-open.fault in
    let status = c.not_begun-in-Err-open.result.status in
    let is : status ≡ store_status fault = c.not_begun-in-Err-open.ensures.status ∙ c.store_status.ensures in
    λ two. absurd (omega (arith, two, (store_range fault status is).0))

pub returns-clause-log : goal.returns-clause-log
returns-clause-log g c =
    let fault = c.in-Err-open.fault in
    let status = c.not_begun-in-Err-open.result.status in
    let is : status ≡ store_status fault = c.not_begun-in-Err-open.ensures.status ∙ c.store_status.ensures in
    let s = g.S.Store in
    let T = telling s.tables s.trail in
    let offset = offset_of (serve_plan (map string_bytes c.args.words.now)) in
    let d = g.L.D.Desk in
    let p = g.P.Spawner in
    let t = tellers d.hand d.had d.dries d.faults p.asked p.told p.misses p.faults in
    log_left offset status c.not_begun-in-Err-open.result.log (T c.args.store.now) (T c.open.new.self) (AreServedBy t (serve_plan (map string_bytes c.args.words.now)) status c.args.seats.now c.args.seats.now) c.not_begun-in-Err-open.ensures.log (store_unopened fault status is) c.in-Err-open.ensures.err_tables c.in-Err-open.ensures.err_trail

pub returns-clause-written : goal.returns-clause-written
returns-clause-written g c =
    let fault = c.in-Err-open.fault in
    let status = c.not_begun-in-Err-open.result.status in
    let is : status ≡ store_status fault = c.not_begun-in-Err-open.ensures.status ∙ c.store_status.ensures in
    written_none status (g.O.Sink.written c.args.out.now) (λ none. absurd (omega (arith, none, (store_range fault status is).0)))

pub returns-clause-write_fault : goal.returns-clause-write_fault
returns-clause-write_fault g c =
    let fault = c.in-Err-open.fault in
    let status = c.not_begun-in-Err-open.result.status in
    let is : status ≡ store_status fault = c.not_begun-in-Err-open.ensures.status ∙ c.store_status.ensures in
    λ four. absurd (omega (arith, four, (store_range fault status is).0))

pub returns-clause-keeper_fault : goal.returns-clause-keeper_fault
returns-clause-keeper_fault g c =
    let fault = c.in-Err-open.fault in
    let status = c.not_begun-in-Err-open.result.status in
    let is : status ≡ store_status fault = c.not_begun-in-Err-open.ensures.status ∙ c.store_status.ensures in
    λ five. c.in-Err-open.ensures.cause.failed (ap Err (store_failed fault status is five))

pub returns-clause-bad_row : goal.returns-clause-bad_row
returns-clause-bad_row g c =
    let fault = c.in-Err-open.fault in
    let status = c.not_begun-in-Err-open.result.status in
    let is : status ≡ store_status fault = c.not_begun-in-Err-open.ensures.status ∙ c.store_status.ensures in
    λ nine. absurd (omega (arith, nine, (store_range fault status is).1))

pub returns-clause-statuses : goal.returns-clause-statuses
returns-clause-statuses g c =
    let fault = c.in-Err-open.fault in
    let status = c.not_begun-in-Err-open.result.status in
    let is : status ≡ store_status fault = c.not_begun-in-Err-open.ensures.status ∙ c.store_status.ensures in
    store_listed fault status is

pub returns-in-Err-clause-opened : goal.returns-in-Err-clause-opened
returns-in-Err-clause-opened g c =
    opened_early (serve_plan (map string_bytes c.args.words.now)) c.not_begun.result.status c.in-Err.status (g.S.Store.opened c.args.store.now) c.not_begun.ensures.status c.in-Err.ensures.statuses (λ two. c.in-Err.ensures.wrong (ap Err two))

pub returns-then-not-are_fit-clause-opened : goal.returns-then-not-are_fit-clause-opened
returns-then-not-are_fit-clause-opened g c =
    opened_unfit (serve_plan (map string_bytes c.args.words.now)) c.not_begun-then-not-are_fit.result.status (g.S.Store.opened c.args.store.now) c.not_begun-then-not-are_fit.ensures.status

pub returns-clause-opened : goal.returns-clause-opened
returns-clause-opened g c =
    let fault = c.in-Err-open.fault in
    let status = c.not_begun-in-Err-open.result.status in
    let is : status ≡ store_status fault = c.not_begun-in-Err-open.ensures.status ∙ c.store_status.ensures in
    opened_once (serve_plan (map string_bytes c.args.words.now)) c.in-Ok.plan c.as_str.result.now status (g.S.Store.opened c.args.store.now) (g.S.Store.opened c.open.new.self) c.in-Ok.ensures.ok c.as_str.ensures (λ two. absurd (omega (arith, two, (store_range fault status is).0))) c.open.ensures.opened

pub returns-in-Ok-open-clause-opened : goal.returns-in-Ok-open-clause-opened
returns-in-Ok-open-clause-opened g c =
    let opened = g.S.Store.opened in
    opened_once (serve_plan (map string_bytes c.args.words.now)) c.in-Ok.plan c.as_str.result.now c.serve_kept-served.result.0.status (opened c.args.store.now) (opened c.close.new.self) c.in-Ok.ensures.ok c.as_str.ensures c.serve_kept-served.ensures.begun
    (Grows-stays (opened c.args.store.now) (opened c.open.new.self) (opened c.close.new.self) _ c.open.ensures.opened c.close.ensures.opened)

pub returns-in-Err-clause-seats : goal.returns-in-Err-clause-seats
returns-in-Err-clause-seats g c =
    any_seats (serve_plan (map string_bytes c.args.words.now)) (λ (plan : ServePlan). are_fit plan.workers plan.monitors c.args.seats.now) _ (words_either c.not_begun.result.status c.in-Err.status c.not_begun.ensures.status c.in-Err.ensures.statuses)

pub returns-then-not-are_fit-clause-seats : goal.returns-then-not-are_fit-clause-seats
returns-then-not-are_fit-clause-seats g c = any_seats (serve_plan (map string_bytes c.args.words.now)) (λ (plan : ServePlan). are_fit plan.workers plan.monitors c.args.seats.now) _ (inl c.not_begun-then-not-are_fit.ensures.status)

pub returns-clause-seats : goal.returns-clause-seats
returns-clause-seats g c = fit_seats (serve_plan (map string_bytes c.args.words.now)) c.in-Ok.plan (λ (plan : ServePlan). are_fit plan.workers plan.monitors c.args.seats.now) _ c.in-Ok.ensures.ok (sym c.are_fit.ensures ∙ c.if-not-are_fit.false)

pub returns-in-Ok-open-clause-seats : goal.returns-in-Ok-open-clause-seats
returns-in-Ok-open-clause-seats g c = fit_seats (serve_plan (map string_bytes c.args.words.now)) c.in-Ok.plan (λ (plan : ServePlan). are_fit plan.workers plan.monitors c.args.seats.now) _ c.in-Ok.ensures.ok (sym c.are_fit.ensures ∙ c.if-not-are_fit.false)
