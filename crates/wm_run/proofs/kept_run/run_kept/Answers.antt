use Rattle.std.proofs.Common.{◌≡◌, ◌<◌, ◌≤◌, ℕ, Option, None, option_to_list, refl, sym, ap, subst, ◌∙◌, inl, arith}
use Rattle.wm_floor.specs.History.{reached}
use Rattle.wm_floor.specs.Keeping.{telling}
use Rattle.wm_floor.specs.Stored.{HasTables}
use Rattle.wm_floor.specs.Trail.{HasTrail}
use Rattle.wm_law.specs.Pending.{active}
use Rattle.wm_law.specs.History.{IsLegal}
use Rattle.wm_floor.specs.Floor.{Floored}
use Rattle.wm_floor.specs.Ledger.{behind}
use Rattle.wm_floor.specs.declared.opened.Opened.{Opened}
use Rattle.wm_floor.specs.declared.report.Report.{Report}
use Rattle.wm_run.specs.Grown.{session_of}
use Rattle.wm_run.specs.Kept.{IsUnopened}
use Rattle.wm_run.specs.Run.{IsServed}
use Rattle.wm_run.proofs.Callers.{callers, no_idle, served}
use Rattle.wm_run.proofs.Openings.{floor_not_opened, open_early, open_high, open_low, open_unread, has_opened}
use Rattle.wm_run.proofs.Outcomes.{came_not, came_run}
use Rattle.wm_run.proofs.Runs.{ended_if}
use Rattle.wm_run.proofs.kept_run.run_kept.Goals as goal

pub returns-in-Err-clause-history : goal.returns-in-Err-clause-history
returns-in-Err-clause-history g c =
    let k = g.K.Keeper in
    let T = telling k.tables k.trail in
    let fault = c.in-Err.fault in
    let status = c.not_begun.result.status in
    let is = c.not_begun.ensures.status ∙ c.open_status.ensures in
    let high : 1 < status = omega (arith, is, open_high fault) in
    let came = came_not c.args.settings.now status c.not_begun.result.log (g.I.Source.left c.args.input.now) (g.O.Sink.written c.args.out.now) high (omega (arith, is, open_low fault)) (λ three. open_unread fault (sym is ∙ three)) c.not_begun.ensures.log in
    let left = c.in-Err.ensures.err in
    floor_not_opened c.args.settings.now.offset status c.not_begun.result.log (T c.args.keeper) (T c.in-Err.keeper) fault (subst IsUnopened (sym is) (open_early fault)) high c.not_begun.ensures.log left (g.met.K.Keeper.trail_with_tables c.args.keeper) (g.met.K.Keeper.trail_with_tables c.in-Err.keeper) came

pub returns-in-Ok-clause-history : goal.returns-in-Ok-clause-history
returns-in-Ok-clause-history g c =
    let k = g.K.Keeper in
    let T = telling k.tables k.trail in
    let settings = c.args.settings.now in
    let a = c.in-Ok.run' in
    let b = c.serve-end.new.self in
    let o = a.floor.opening in
    let ran = c.close.result.0 in
    let log = ran.log in
    let closed = c.close.ensures in
    let serves = c.serve-end.ensures.serves in
    let fresh = c.in-Ok.ensures.fresh in
    let same : b.floor.opening ≡ o = ap (λ (f : Floored _). f.opening) serves.floor in
    let idle : ran.status ≤ 1 → active (reached (behind o log)) ≡ 0 = λ low.
    subst (λ (x : Opened _). active (reached (behind x log)) ≡ 0) same (ended_if (λ _. active (reached (behind b.floor.opening log)) ≡ 0) c.serve-end.result closed.idle (subst (λ (n : ℕ). n ≤ 1) closed.status low)) in
    let came = came_run settings c.serve-end.result ran.status (session_of a) (behind o log) log _ _ _ _ closed.status fresh.unseen refl (c.serve-end.ensures.input log closed.whole) in
    let legal = subst (λ (x : Opened _). IsLegal x.state log) same closed.legal in
    let tables = subst (λ (x : Opened _). HasTables (reached (behind x log)) (k.tables c.close.result.1)) same closed.tables in
    let trail = subst (λ (found : _). HasTrail (behind o log) (T found) (T c.close.result.1)) c.in-Ok.ensures.found (subst (λ (x : Opened _). HasTrail (behind x log) (T x.found) (T c.close.result.1)) same closed.trail) in
    let untold = subst (λ (x : Opened _). k.trail x.keeper ≡ None → k.trail c.close.result.1 ≡ None) same closed.untold in
    let quiet = no_idle a b log _ _ fresh c.in-Ok.ensures.ready c.serve-end.ensures.ready serves closed.whole in
    inl (has_opened settings.offset log o (T c.args.keeper) (T o.keeper) (T c.close.result.1) c.in-Ok.ensures.ok legal tables trail untold (g.met.K.Keeper.trail_with_tables c.args.keeper) (g.met.K.Keeper.trail_with_tables c.close.result.1) (record { no_idle = quiet; idle = idle; input = came }))

pub returns-in-Ok-clause-callers : goal.returns-in-Ok-clause-callers
returns-in-Ok-clause-callers g c = callers c.in-Ok.run' c.serve-end.new.self c.close.result.0.log _ _ c.in-Ok.ensures.fresh c.in-Ok.ensures.ready c.serve-end.ensures.ready c.serve-end.ensures.serves c.close.ensures.whole

pub returns-in-Ok-clause-served : goal.returns-in-Ok-clause-served
returns-in-Ok-clause-served g c =
    let s = g.P.Spawner in
    let p = c.args.spawner.now in
    let q = c.serve-end.new.spawner in
    let log = c.close.result.0.log in
    let all = served c.in-Ok.run' c.serve-end.new.self log _ _ c.in-Ok.ensures.fresh c.in-Ok.ensures.ready c.serve-end.ensures.ready c.serve-end.ensures.serves c.close.ensures.whole (s.told p) (s.told q) refl refl c.in-Ok.ensures.clear in
    subst (λ (k : Option Report). IsServed log (option_to_list k) (s.asked p) (s.asked q) (s.told p) (s.told q) (s.misses p) (s.misses q)) (sym c.close.ensures.kept) all
