use Rattle.wm_serve.proofs.Overs.{called_err, called_ok, called_seen}
use Rattle.wm_serve.proofs.Floors.{call_halt}
use Rattle.wm_serve.proofs.serving.call_once.Goals as goal

pub returns-in-Err-clause-seen : goal.returns-in-Err-clause-seen
returns-in-Err-clause-seen g c = called_seen c.args.floor.now.opening c.args.call c.args.now c.args.zero.now c.call.new.pass c.call.result c.call.ensures.called

pub returns-in-Err-clause-unmade : goal.returns-in-Err-clause-unmade
returns-in-Err-clause-unmade g c = called_err c.args.floor.now.opening c.args.call c.args.now c.args.zero.now c.call.new.pass c.call.result c.in-Err.fault c.in-Err.is c.call.ensures.called

pub returns-in-Err-clause-cause : goal.returns-in-Err-clause-cause
returns-in-Err-clause-cause g c = call_halt c.args.floor.now.opening c.args.call c.args.now c.args.zero.now c.call.new.pass c.call.result c.in-Err.fault c.from.result c.from.ensures c.requires.command c.in-Err.is c.call.ensures.called c.call.ensures.cause

pub returns-in-Ok-clause-seen : goal.returns-in-Ok-clause-seen
returns-in-Ok-clause-seen g c = called_seen c.args.floor.now.opening c.args.call c.args.now c.args.zero.now c.call.new.pass c.call.result c.call.ensures.called

pub returns-in-Ok-clause-made : goal.returns-in-Ok-clause-made
returns-in-Ok-clause-made g c = called_ok c.args.floor.now.opening c.args.call c.args.now c.args.zero.now c.call.new.pass c.call.result c.in-Ok.answered c.in-Ok.is c.call.ensures.called
