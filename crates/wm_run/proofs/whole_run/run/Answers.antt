use Rattle.std.proofs.Common.{◌≡◌, Err, ◌<◌, ◌∙◌, map, string_bytes, ap, subst, sym, arith}
use Rattle.wm_floor.specs.Keeping.{telling}
use Rattle.wm_floor.proofs.Staying.{Stays-same}
use Rattle.wm_run.specs.Kept.{HasHistory, IsUnopened}
use Rattle.wm_run.specs.Outcome.{RunTakes}
use Rattle.wm_run.specs.Words.{run_plan, settings_in, settings_of}
use Rattle.wm_run.specs.declared.settings.Settings.{Settings}
use Rattle.wm_run.proofs.Openings.{Grows-stays, history_of_store, not_opened, opened_once, store_early, store_high, store_low, store_unread, unopened, words_early, words_high, words_low, words_unread}
use Rattle.wm_run.proofs.Outcomes.{came_not}
use Rattle.wm_run.proofs.whole_run.run.Goals as goal

pub returns-in-Err-clause-history : goal.returns-in-Err-clause-history
returns-in-Err-clause-history g c =
    let settings = settings_of (map string_bytes c.args.words.now) in
    let status = c.not_begun.result.status in
    let is = c.not_begun.ensures.status in
    let why = c.in-Err.ensures.statuses in
    let high : 1 < status = words_high status c.in-Err.status is why in
    let came = came_not settings status c.not_begun.result.log (g.I.Source.left c.args.input.now) (g.O.Sink.written c.args.out.now) high (words_low status c.in-Err.status is why) (words_unread status c.in-Err.status is why) c.not_begun.ensures.log in
    not_opened settings.offset status c.not_begun.result.log _ _ (words_early status c.in-Err.status is why) c.not_begun.ensures.log (Stays-same _) (Stays-same _) came

pub returns-clause-history : goal.returns-clause-history
returns-clause-history g c =
    let settings = settings_of (map string_bytes c.args.words.now) in
    let fault = c.in-Err-open.fault in
    let is = c.not_begun-in-Err-open.ensures.status ∙ c.store_status.ensures in
    let status = c.not_begun-in-Err-open.result.status in
    let high : 1 < status = omega (arith, is, store_high fault) in
    let came = came_not settings status c.not_begun-in-Err-open.result.log (g.I.Source.left c.args.input.now) (g.O.Sink.written c.args.out.now) high (omega (arith, is, store_low fault)) (λ three. store_unread fault (sym is ∙ three)) c.not_begun-in-Err-open.ensures.log in
    not_opened settings.offset status c.not_begun-in-Err-open.result.log _ _ (subst IsUnopened (sym is) (store_early fault)) c.not_begun-in-Err-open.ensures.log c.in-Err-open.ensures.err_tables c.in-Err-open.ensures.err_trail came

pub returns-in-Ok-open-clause-history : goal.returns-in-Ok-open-clause-history
returns-in-Ok-open-clause-history g c =
    let store = g.S.Store in
    let input = g.I.Source.left in
    let out = g.O.Sink.written in
    let ran = c.run_kept-ran.result.0 in
    let old = telling store.tables store.trail c.args.store.now in
    let new = telling store.tables store.trail c.close.new.self in
    let same : c.settings.result ≡ settings_of (map string_bytes c.args.words.now) = c.settings.ensures ∙ sym (ap settings_in c.in-Ok.ensures.ok) in
    let whole = history_of_store c.settings.result.offset ran.status ran.log _ _ _ _ c.in-Ok-open.ensures.tables c.in-Ok-open.ensures.trail c.close.ensures.tables c.close.ensures.trail (g.met.S.Store.trail_with_tables c.close.new.self) c.run_kept-ran.ensures.history in
    subst (λ (s : Settings). HasHistory s.offset ran.status ran.log old new (RunTakes s (input c.args.input.now) (input c.run_kept-ran.new.input) ran.status ran.log (out c.args.out.now) (out c.run_kept-ran.new.out))) same whole

pub returns-in-Err-clause-opened : goal.returns-in-Err-clause-opened
returns-in-Err-clause-opened g c =
    unopened (run_plan (map string_bytes c.args.words.now)) c.not_begun.result.status c.in-Err.status (g.S.Store.opened c.args.store.now) c.not_begun.ensures.status c.in-Err.ensures.statuses (λ two. c.in-Err.ensures.wrong (ap Err two))

pub returns-clause-opened : goal.returns-clause-opened
returns-clause-opened g c =
    opened_once (run_plan (map string_bytes c.args.words.now)) c.in-Ok.plan c.as_str.result.now c.not_begun-in-Err-open.result.status (g.S.Store.opened c.args.store.now) (g.S.Store.opened c.open.new.self) c.in-Ok.ensures.ok c.as_str.ensures c.open.ensures.opened

pub returns-in-Ok-open-clause-opened : goal.returns-in-Ok-open-clause-opened
returns-in-Ok-open-clause-opened g c =
    let opened = g.S.Store.opened in
    opened_once (run_plan (map string_bytes c.args.words.now)) c.in-Ok.plan c.as_str.result.now c.run_kept-ran.result.0.status (opened c.args.store.now) (opened c.close.new.self) c.in-Ok.ensures.ok c.as_str.ensures
    (Grows-stays (opened c.args.store.now) (opened c.open.new.self) (opened c.close.new.self) _ c.open.ensures.opened c.close.ensures.opened)
