use Rattle.std.proofs.Common.{refl}
use Rattle.wm_run.proofs.Commands.{uncalled_since}
use Rattle.wm_run.proofs.Readies.{running_looked}
use Rattle.wm_run.proofs.Servings.{pass_looked, serves_alone}
use Rattle.wm_run.proofs.running.Run.catch_up.Goals as goal

pub returns-clause-ready : goal.returns-clause-ready
returns-clause-ready g c = running_looked c.args.self.now _ c.requires.ready refl c.see.ensures.own c.see.ensures.same c.see.ensures.looked refl

pub returns-clause-serves : goal.returns-clause-serves
returns-clause-serves g c s = serves_alone c.args.self.now _ s c.requires.ready refl (pass_looked _ _ c.see.ensures.same c.see.ensures.looked) refl refl

pub returns-clause-uncalled : goal.returns-clause-uncalled
returns-clause-uncalled g c = uncalled_since c.args.self.now.floor _ _ c.requires.ready.session c.see.ensures.own c.requires.ready.zero c.see.ensures.same c.see.ensures.looked
