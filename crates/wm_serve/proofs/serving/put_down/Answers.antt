use Rattle.std.proofs.Common.{subst}
use Rattle.wm_turn.proofs.Histories.{starts_itself}
use Rattle.wm_serve.specs.Over.{MakesAt}
use Rattle.wm_serve.proofs.serving.put_down.Goals as goal

pub returns-in_err-end-clause-seen : goal.returns-in_err-end-clause-seen
returns-in_err-end-clause-seen g c = starts_itself c.args.zero.now.seen

pub returns-clause-made : goal.returns-clause-made
returns-clause-made g c = subst (λ (call : _). MakesAt call c.args.zero.now c.call_once.new.zero c.in_ok-place.place) c.in_ok-end.ensures.call c.in_ok-place.ensures.made
