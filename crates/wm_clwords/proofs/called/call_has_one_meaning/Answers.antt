use Rattle.wm_clwords.proofs.CallMeaning.{called_spelled, spelled_called, called_good}
use Rattle.wm_clwords.proofs.called.call_has_one_meaning.Goals as goal

pub returns : goal.returns
returns c = record { spelled = called_spelled; each = spelled_called; good = called_good }
