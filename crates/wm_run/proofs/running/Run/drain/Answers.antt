use Rattle.std.proofs.Common.{◌≡◌, sym, ◌∙◌, refl, arith}
use Rattle.std.proofs.lemmas.Bool.Decides.{nat_tests}
use Rattle.wm_run.proofs.IdleCalls.{left_no_order}
use Rattle.wm_run.proofs.Readies.{grown_longer}
use Rattle.std.proofs.lemmas.Result.{err_from_is_err_and}
use Rattle.wm_run.proofs.Causes.{HasCauses-pass}
use Rattle.wm_run.proofs.Servings.{serves_none, serves_then}
use Rattle.wm_run.proofs.running.Run.drain.Goals as goal

pub turns-init : goal.turns-init
turns-init g c = record { ready = c.requires.ready; floor = refl; session = refl; serves = serves_none c.args.self.now _ c.requires.ready; looked = omega arith }

pub turns-preserved : goal.turns-preserved
turns-preserved g c =
    let i = c.turns.invariant in
    let l = c.waiting-waiting.ensures in
    let k = c.turn.ensures in
    record {
      ready = k.ready;
      floor = k.floor ∙ (l.floor ∙ i.floor);
      session = k.session ∙ (l.session ∙ i.session);
      serves = serves_then _ _ _ i.serves (serves_then _ _ _ (l.serves _) k.serves);
      looked = let a = i.looked in let b = k.causes.looked in omega arith;
    }

pub returns-in_err-turned-clause-serves : goal.returns-in_err-turned-clause-serves
returns-in_err-turned-clause-serves g c = serves_then _ _ _ c.turns.invariant.serves (serves_then _ _ _ (c.waiting-waiting.ensures.serves _) c.turn.ensures.serves)

pub returns-in_err-turned-clause-causes : goal.returns-in_err-turned-clause-causes
returns-in_err-turned-clause-causes g c =
    let p = err_from_is_err_and c.from_residual.result c.from_residual.ensures.1 in
    HasCauses-pass c.turn.result c.from_residual.result _ p.0 0 0 0 _ _ _ c.in_err-turned.was p.1 p.2 (omega arith) c.turns.invariant.looked c.turn.ensures.causes

pub returns-then-turned-eq0-clause-serves : goal.returns-then-turned-eq0-clause-serves
returns-then-turned-eq0-clause-serves g c = serves_then _ _ _ c.turns.invariant.serves (serves_then _ _ _ (c.waiting-waiting.ensures.serves _) c.turn.ensures.serves)

pub returns-then-turned-eq0-clause-orders : goal.returns-then-turned-eq0-clause-orders
returns-then-turned-eq0-clause-orders g c =
    let i = c.turns.invariant in
    let t = c.if-turned-eq0.true in
    let zero : c.in_ok-turned.turned.sent ≡ 0 = grind (arith, nat_tests) in
    let l = c.waiting-waiting.ensures in
    let both = serves_then _ _ _ i.serves (l.serves _) in
    left_no_order _ _ _ _ _ _ (c.turn.ensures.floor) l.ready.one (grown_longer _ _ both.part.part.pass.seen) (sym c.in_ok-turned.ensures.sent ∙ zero) c.in_ok-turned.ensures.waited c.in_ok-turned.ensures.handed
