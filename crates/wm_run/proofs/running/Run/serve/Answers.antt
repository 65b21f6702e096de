use Rattle.std.proofs.Common.{Bool, subst, ◌∙◌}
use Rattle.std.proofs.lemmas.Result.{err_from_is_err_and}
use Rattle.wm_floor.specs.Lists.{since}
use Rattle.wm_turn.proofs.Histories.{starts_again}
use Rattle.wm_floor.specs.Ledger.{behind}
use Rattle.wm_run.specs.Grown.{session_of}
use Rattle.wm_run.specs.Session.{Closes}
use Rattle.wm_run.specs.Stopped.{MayClose}
use Rattle.wm_run.proofs.Growing.{to_whole}
use Rattle.wm_run.proofs.Outcomes.{came_begin, came_lines, came_behind, came_session}
use Rattle.wm_run.proofs.Servings.{continues, serves_then}
use Rattle.wm_run.proofs.Wholes.{unbegun_since, uncalled_rest}
use Rattle.wm_run.proofs.running.Run.serve.Goals as goal

pub returns-in_err-answered-clause-serves : goal.returns-in_err-answered-clause-serves
returns-in_err-answered-clause-serves g c = serves_then _ _ _ c.begin.ensures.serves c.take_all.ensures.serves

pub returns-in_err-finish-clause-serves : goal.returns-in_err-finish-clause-serves
returns-in_err-finish-clause-serves g c = serves_then _ _ _ c.begin.ensures.serves (serves_then _ _ _ c.take_all.ensures.serves c.finish.ensures.serves)

pub returns-clause-serves : goal.returns-clause-serves
returns-clause-serves g c = serves_then _ _ _ c.begin.ensures.serves (serves_then _ _ _ c.take_all.ensures.serves c.finish.ensures.serves)

pub returns-in_err-begin-clause-input : goal.returns-in_err-begin-clause-input
returns-in_err-begin-clause-input g c log h =
    let a = c.args.self.now in
    let b = c.begin.new.self in
    let begun = c.begin.ensures.serves in
    let p = err_from_is_err_and c.from_residual.result c.from_residual.ensures.1 in
    let was = c.in_err-begin.was in
    let is = p.1 in
    let same = p.2 in
    came_begin c.args.settings.now c.from_residual.result p.0 (session_of a) (session_of b) (behind a.floor.opening log) (g.I.Source.left c.args.input.now) (g.O.Sink.written c.args.out.now) p.1 (λ f. c.begin.ensures.causes.no_read_fault (cc)) (λ f. c.begin.ensures.causes.not_full (cc))
    (continues _ _ begun) (to_whole a b log begun.floor h.history.session) (uncalled_rest b log c.begin.ensures.ready h.history) (λ none. unbegun_since a b log c.requires.fresh begun.session.seen c.begin.ensures.ready h (c.in_err-begin.ensures.unmonitored none) none) c.in_err-begin.ensures.not_begun

pub returns-in_err-answered-clause-input : goal.returns-in_err-answered-clause-input
returns-in_err-answered-clause-input g c log h =
    let a = c.args.self.now in
    let b = c.begin.new.self in
    let d = c.take_all.new.self in
    let begun = c.begin.ensures.serves in
    let taken = c.take_all.ensures.serves in
    let p = err_from_is_err_and c.from_residual-in_err-answered.result c.from_residual-in_err-answered.ensures.1 in
    came_lines c.args.settings.now c.from_residual-in_err-answered.result c.take_all.result _ p.0 (session_of a) (session_of b) (session_of d) (behind a.floor.opening log) _ _ _ _ c.in_err-answered.was p.1 p.2
    (continues _ _ begun) (continues _ _ taken) (to_whole a d log (taken.floor ∙ begun.floor) h.history.session) (uncalled_rest d log c.take_all.ensures.ready h.history) c.in_ok-begin.ensures.begun c.take_all.ensures.input

pub returns-in_err-finish-clause-input : goal.returns-in_err-finish-clause-input
returns-in_err-finish-clause-input g c log h =
    let a = c.args.self.now in
    let b = c.begin.new.self in
    let d = c.take_all.new.self in
    let e = c.finish.new.self in
    let begun = c.begin.ensures.serves in
    let taken = c.take_all.ensures.serves in
    let ended = c.finish.ensures.serves in
    let p = err_from_is_err_and c.from_residual-in_err-finish.result c.from_residual-in_err-finish.ensures.1 in
    let was = c.in_err-finish.was in
    let is = p.1 in
    let same = p.2 in
    let front = starts_again log e.session.seen d.session.seen h.history.session (since d.session.seen e.session.seen, ended.session.seen) in
    came_behind c.args.settings.now c.from_residual-in_err-finish.result c.take_all.result p.0 c.in_ok-answered.answered (session_of a) (session_of b) (session_of d) (behind a.floor.opening log) _ _ _ _ c.in_ok-answered.was p.1 (λ f. c.finish.ensures.causes.no_read_fault (cc)) (λ f. c.finish.ensures.causes.not_full (cc))
    (continues _ _ begun) (continues _ _ taken) (to_whole a d log (taken.floor ∙ begun.floor) front) c.in_ok-begin.ensures.begun c.take_all.ensures.input
    (subst (λ (t : Bool). MayClose t (session_of d) (since d.session.seen log)) c.in_ok-answered.ensures.down (c.in_err-finish.ensures.not_ended log h.history)) (λ up. c.in_ok-answered.ensures.end (c.in_ok-answered.ensures.down ∙ up))

pub returns-clause-input : goal.returns-clause-input
returns-clause-input g c log h =
    let a = c.args.self.now in
    let b = c.begin.new.self in
    let d = c.take_all.new.self in
    let e = c.finish.new.self in
    let begun = c.begin.ensures.serves in
    let taken = c.take_all.ensures.serves in
    let ended = c.finish.ensures.serves in
    let front = starts_again log e.session.seen d.session.seen h.history.session (since d.session.seen e.session.seen, ended.session.seen) in
    came_session c.args.settings.now c.take_all.result c.in_ok-answered.answered (session_of a) (session_of b) (session_of d) (behind a.floor.opening log) _ _ _ _ c.in_ok-answered.was
    (continues _ _ begun) (continues _ _ taken) (to_whole a d log (taken.floor ∙ begun.floor) front) c.in_ok-begin.ensures.begun c.take_all.ensures.input
    (subst (λ (t : Bool). Closes t (session_of d) (since d.session.seen log)) c.in_ok-answered.ensures.down (c.in_ok-finish.ensures.ended log h.history)) (λ up. c.in_ok-answered.ensures.end (c.in_ok-answered.ensures.down ∙ up))
