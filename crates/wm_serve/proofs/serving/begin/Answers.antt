use Rattle.std.proofs.Common.{subst}
use Rattle.wm_serve.specs.Over.{MakesOne}
use Rattle.wm_serve.proofs.Overs.{makes_one}
use Rattle.wm_serve.proofs.serving.begin.Goals as goal

pub returns-clause-made : goal.returns-clause-made
returns-clause-made g c =
    subst (λ (call : _). MakesOne call c.args.zero.now c.call_once.new.zero) c.in_ok-start.ensures.call (makes_one c.in_ok-start.start c.args.zero.now c.call_once.new.zero _ c.in_ok-call_once.ensures.made)
