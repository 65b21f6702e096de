-- proofs/viewing/view/Answers.antt
use Rattle.wm_floor.proofs.viewing.view.Goals as goal

pub returns : goal.returns
returns c = c.view.ensures c.args.core.now.state c.parts.ensures
