use Rattle.std.proofs.Common.{List, subst}
use Rattle.wm_law.specs.declared.call.Entry.{Entry}
use Rattle.wm_turn.specs.Passed.{HasAll, HasOwn}
use Rattle.wm_floor.specs.Ledger.{caller_of}
use Rattle.wm_floor.proofs.floor.Floor.close.Goals as goal

pub returns-in-Ok-clause-joined : goal.returns-in-Ok-clause-joined
returns-in-Ok-clause-joined g c = subst (λ (es : List Entry). HasOwn caller_of es c.args.pass.joined) c.in-Ok.ensures.whole c.in-Ok.ensures.joined

pub returns-in-Ok-clause-all : goal.returns-in-Ok-clause-all
returns-in-Ok-clause-all g c = subst (λ (es : List Entry). HasAll caller_of es c.args.pass.made c.args.pass.joined) c.in-Ok.ensures.whole c.in-Ok.ensures.all
