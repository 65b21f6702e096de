use Rattle.std.proofs.Common.{◌≡◌, ap, refl, sym, ◌∙◌, arith}
use Rattle.std.proofs.lemmas.Bool.Decides.{nat_tests}
use Rattle.wm_run.specs.Awaited.{jobs_left}
use Rattle.wm_run.proofs.Servings.{serves_none, serves_then}
use Rattle.wm_run.proofs.running.Run.wait_for.Goals as goal

pub waits-init : goal.waits-init
waits-init g c = record { ready = c.requires.ready; floor = refl; session = refl; serves = serves_none c.args.self.now _ c.requires.ready; looked = omega arith }

pub waits-preserved : goal.waits-preserved
waits-preserved g c =
    let i = c.waits.invariant in
    let d = c.drain.ensures in
    let l = c.waiting-waiting.ensures in
    let w = c.wait.ensures in
    record {
      ready = w.ready;
      floor = w.floor ∙ (l.floor ∙ (d.floor ∙ i.floor));
      session = w.session ∙ (l.session ∙ (d.session ∙ i.session));
      serves = serves_then _ _ _ i.serves (serves_then _ _ _ d.serves (serves_then _ _ _ (l.serves _) w.serves));
      looked = let x = i.looked in let y = d.causes.looked in let z = w.causes.looked in omega arith;
    }

pub returns-in_err-drain-clause-serves : goal.returns-in_err-drain-clause-serves
returns-in_err-drain-clause-serves g c = serves_then _ _ _ c.waits.invariant.serves c.drain.ensures.serves

pub returns-in_err-wait-clause-serves : goal.returns-in_err-wait-clause-serves
returns-in_err-wait-clause-serves g c = serves_then _ _ _ c.waits.invariant.serves (serves_then _ _ _ c.drain.ensures.serves (serves_then _ _ _ (c.waiting-waiting.ensures.serves _) c.wait.ensures.serves))

pub returns-then-left-eq0-clause-serves : goal.returns-then-left-eq0-clause-serves
returns-then-left-eq0-clause-serves g c = serves_then _ _ _ c.waits.invariant.serves (serves_then _ _ _ c.drain.ensures.serves (c.waiting-waiting.ensures.serves _))

pub returns-then-left-eq0-clause-none : goal.returns-then-left-eq0-clause-none
returns-then-left-eq0-clause-none g c =
    let t = c.if-left-eq0.true in
    let none : c.left.result ≡ 0 = grind (arith, nat_tests) in
    ap (jobs_left c.args.jobs) (sym c.waiting-waiting.ensures.pending) ∙ (sym c.left.ensures ∙ none)
