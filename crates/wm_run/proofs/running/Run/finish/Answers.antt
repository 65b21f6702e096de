use Rattle.std.proofs.Common.{List, inl, inr}
use Rattle.wm_law.specs.declared.call.Entry.{Entry}
use Rattle.wm_floor.specs.Lists.{since}
use Rattle.wm_run.specs.Grown.{session_of}
use Rattle.wm_run.specs.Serving.{IsHistory}
use Rattle.wm_run.specs.Stopped.{MayClose}
use Rattle.wm_base.proofs.Lists.{on_err}
use Rattle.wm_run.proofs.Servings.{serves_then}
use Rattle.wm_run.proofs.Wholes.{history_before, uncalled_then}
use Rattle.wm_run.proofs.running.Run.finish.Goals as goal

pub returns-in_err-wait_for-clause-serves : goal.returns-in_err-wait_for-clause-serves
returns-in_err-wait_for-clause-serves g c = serves_then _ _ _ c.close_input.ensures.serves c.wait_for.ensures.serves

pub returns-clause-serves : goal.returns-clause-serves
returns-clause-serves g c = serves_then _ _ _ c.close_input.ensures.serves c.wait_for.ensures.serves

pub returns-in_err-close_input-clause-not_ended : goal.returns-in_err-close_input-clause-not_ended
returns-in_err-close_input-clause-not_ended g c =
    let a = c.args.self.now in
    let b = c.close_input.new.self in
    let closes : (log : List Entry) → IsHistory b log → MayClose c.args.down (session_of a) (since a.session.seen log) = λ log h. inl (uncalled_then a b log c.close_input.ensures.serves.session.seen c.close_input.ensures.ready h c.in_err-close_input.ensures.not_ended) in
    on_err _ closes

pub returns-in_err-wait_for-clause-not_ended : goal.returns-in_err-wait_for-clause-not_ended
returns-in_err-wait_for-clause-not_ended g c =
    let a = c.args.self.now in
    let b = c.wait_for.new.self in
    let closes : (log : List Entry) → IsHistory b log → MayClose c.args.down (session_of a) (since a.session.seen log) = λ log h. inr (c.in_ok-close_input.ensures.ended log (history_before c.close_input.new.self b log c.wait_for.ensures.session c.wait_for.ensures.serves.part.part.pass.seen h)) in
    on_err _ closes

pub returns-clause-ended : goal.returns-clause-ended
returns-clause-ended g c log h =
    c.in_ok-close_input.ensures.ended log (history_before c.close_input.new.self c.wait_for.new.self log c.wait_for.ensures.session c.wait_for.ensures.serves.part.part.pass.seen h)
